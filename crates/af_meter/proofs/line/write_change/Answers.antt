use Rattle.std.proofs.Common.{rules, ◌≡◌, ◌++◌, ◌∙◌, List, ℕ, decimal, ap}
use Rattle.af_meter.proofs.line.write_change.Goals as goal

pub returns-clause-bytes : goal.returns-clause-bytes
returns-clause-bytes c =
    let timed : c.from.result ≡ c.args.time.0 = search rules in
    c.put.ensures.bytes ∙ ap (λ (l : List ℕ). l ++ c.args.change.now) (c.put_number-at.ensures.bytes ∙ ap (λ (n : ℕ). decimal n) timed)
