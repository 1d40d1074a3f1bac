use Rattle.std.proofs.Common.{rules, ◌≡◌, ◌++◌, ◌∙◌, List, ℕ, codes, decimal, take, ap}
use Rattle.af_meter.proofs.LineLemmas.{joined_four}
use Rattle.af_meter.proofs.line.put_level.Goals as goal

pub returns-clause-bytes : goal.returns-clause-bytes
returns-clause-bytes c =
    let level = c.args.level in
    let peak : c.from.result ≡ level.peak = search rules in
    let mean : c.from-2.result ≡ level.mean = search rules in
    c.put_number.ensures.bytes
    ∙ ap (λ (n : ℕ). take c.put-at-2.result c.put-at-2.new.out ++ decimal n) mean
    ∙ ap (λ (l : List ℕ). l ++ decimal level.mean) (c.put-at-2.ensures.bytes
    ∙ ap (λ (l : List ℕ). l ++ codes " mean ") (c.put_number-at.ensures.bytes ∙ ap (λ (n : ℕ). take c.put-at.result c.put-at.new.out ++ decimal n) peak
    ∙ ap (λ (l : List ℕ). l ++ decimal level.peak) c.put-at.ensures.bytes))
    ∙ joined_four (take c.args.at c.args.out.now) (codes " peak ") (decimal level.peak) (codes " mean ") (decimal level.mean)
