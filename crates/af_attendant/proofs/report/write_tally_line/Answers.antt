use Rattle.std.proofs.Common.{◌≡◌, ◌++◌, List, ℕ, codes, decimal, take, ap, ◌∙◌, rules}
use Rattle.af_attendant.specs.Ran.{tally_text}
use Rattle.af_attendant.proofs.report.write_tally_line.Goals as goal

pub returns-clause-bytes : goal.returns-clause-bytes
unfolding tally_text
returns-clause-bytes c =
    let answered : c.from.result ≡ c.args.tally.answered = search rules in
    let recorded : c.from-2.result ≡ c.args.tally.recorded = search rules in
    let failed : c.from-3.result ≡ c.args.tally.failed = search rules in
    c.put.ensures.bytes
    ∙ ap (λ (l : List ℕ). l ++ codes "\n") (c.put_number-at-3.ensures.bytes ∙ ap (λ (n : ℕ). take c.put-at-3.result c.put-at-3.new.out ++ decimal n) failed
    ∙ ap (λ (l : List ℕ). l ++ decimal c.args.tally.failed) (c.put-at-3.ensures.bytes
    ∙ ap (λ (l : List ℕ). l ++ codes " failed ") (c.put_number-at-2.ensures.bytes ∙ ap (λ (n : ℕ). take c.put-at-2.result c.put-at-2.new.out ++ decimal n) recorded
    ∙ ap (λ (l : List ℕ). l ++ decimal c.args.tally.recorded) (c.put-at-2.ensures.bytes
    ∙ ap (λ (l : List ℕ). l ++ codes " recorded ") (c.put_number-at.ensures.bytes ∙ ap (λ (n : ℕ). take c.put-at.result c.put-at.new.out ++ decimal n) answered
    ∙ ap (λ (l : List ℕ). l ++ decimal c.args.tally.answered) c.put-at.ensures.bytes)))))
