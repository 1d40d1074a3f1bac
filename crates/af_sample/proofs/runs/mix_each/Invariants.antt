use Rattle.std.proofs.Common.{◌≡◌, ℕ, ◌<◌, ◌≤◌, get_or, pos}
use Rattle.af_sample.specs.Mixing.{mixed}
use Rattle.af_sample.proofs.runs.mix_each.Given as goal

abbrev pub invariant-loop-i : goal.invariant-loop-i
invariant-loop-i l =
    ((k : ℕ) → k < l.i → get_or l.onto k (pos 0) ≡ mixed (get_or l.initial.onto k (pos 0)) (get_or l.from k (pos 0)))
    × ((k : ℕ) → l.i ≤ k → get_or l.onto k (pos 0) ≡ get_or l.initial.onto k (pos 0))
