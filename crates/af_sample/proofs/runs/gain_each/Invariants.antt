use Rattle.std.proofs.Common.{◌≡◌, ℕ, ◌<◌, ◌≤◌, get_or, pos}
use Rattle.af_sample.specs.Gains.{gained}
use Rattle.af_sample.proofs.runs.gain_each.Given as goal

abbrev pub invariant-loop-x : goal.invariant-loop-x
invariant-loop-x l =
    ((k : ℕ) → k < l.x-index → get_or l.samples k (pos 0) ≡ gained (get_or l.initial.samples k (pos 0)) l.gain)
    × ((k : ℕ) → l.x-index ≤ k → get_or l.samples k (pos 0) ≡ get_or l.initial.samples k (pos 0))
