use Rattle.std.proofs.Common.{◌≡◌, ◌≤◌, ◌<◌, ℕ, false, max}
use Rattle.af_core.specs.Stands.{wants_at}
use Rattle.af_core.proofs.slot.first_wanting.Given as goal

abbrev pub invariant-loop-number : goal.invariant-loop-number
invariant-loop-number l = record {
  from : l.from ≤ l.number;
  to : l.number ≤ max l.from l.below;
  none : (k : ℕ) → l.from ≤ k → k < l.number → wants_at l.waits l.slots k ≡ false;
}
