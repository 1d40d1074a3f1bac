use Rattle.std.proofs.Common.{◌<◌, ℕ, pos, get_or, FitsSigned}
use Rattle.std.specs.Int.{w16}
use Rattle.af_sample.proofs.runs.know_range.Given as goal

abbrev pub invariant-loop-i : goal.invariant-loop-i
invariant-loop-i l = (k : ℕ) → k < l.i → FitsSigned w16 (get_or l.samples k (pos 0))
