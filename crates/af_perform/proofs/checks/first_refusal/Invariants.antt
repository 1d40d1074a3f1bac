use Rattle.std.proofs.Common.{◌≡◌, drop}
use Rattle.af_model.specs.Checks.{first_refusal}
use Rattle.af_perform.proofs.checks.first_refusal.Given as goal

abbrev pub invariant-loop-check : goal.invariant-loop-check
invariant-loop-check l = first_refusal l.checks ≡ first_refusal (drop l.check-index l.checks)
