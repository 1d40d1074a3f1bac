use Rattle.std.proofs.Common.{◌≡◌, ◌∙◌, ap, map, pos, sym, arith, ℤ}
use Rattle.std.proofs.lemmas.Int.{ints}
use Rattle.af_sample.specs.Gains.{gained}
use Rattle.af_sample.proofs.VectorLemmas.{unity_run}
use Rattle.af_sample.proofs.runs.gain_run.Goals as goal

pub returns-then-db-eq0 : goal.returns-then-db-eq0
returns-then-db-eq0 c =
    let none : c.args.gain ≡ pos 0 = grind (arith, ints) in
    unity_run c.args.samples.now c.know_range.ensures ∙ ap (λ (g : ℤ). map (λ x. gained x g) c.args.samples.now) (sym none)
