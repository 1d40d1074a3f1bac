use Rattle.std.proofs.Common.{◌≡◌, ◌++◌, List, ℕ, codes, decimal, take, ap, ◌∙◌, rules}
use Rattle.af_tools.specs.Play.{played_text}
use Rattle.af_tools.proofs.report.write_line.Goals as goal

pub returns-clause-bytes : goal.returns-clause-bytes
unfolding played_text
returns-clause-bytes c =
    c.put.ensures.bytes
    ∙ ap (λ (l : List ℕ). l ++ codes "\n") (c.put_number-at-2.ensures.bytes ∙ ap (λ (n : ℕ). take c.put-at-2.result c.put-at-2.new.out ++ decimal n) (let same : c.from.result ≡ c.args.start.0 = search rules in same)
    ∙ ap (λ (l : List ℕ). l ++ decimal c.args.start.0) (c.put-at-2.ensures.bytes
    ∙ ap (λ (l : List ℕ). l ++ codes " at ") (c.put_number-at.ensures.bytes
    ∙ ap (λ (l : List ℕ). l ++ decimal c.args.frames) c.put-at.ensures.bytes)))
