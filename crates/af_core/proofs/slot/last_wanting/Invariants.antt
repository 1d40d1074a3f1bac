use Rattle.std.proofs.Common.{◌≡◌, ◌≤◌, ◌<◌, ℕ, false}
use Rattle.af_core.specs.Stands.{wants_at}
use Rattle.af_core.proofs.slot.last_wanting.Given as goal

abbrev pub invariant-loop-end : goal.invariant-loop-end
invariant-loop-end l = record {
  some : l.from < l.end;
  few : l.end ≤ l.below;
  none : (k : ℕ) → l.end ≤ k → k < l.below → wants_at l.waits l.slots k ≡ false;
}

abbrev pub decreases-loop-end : goal.decreases-loop-end
decreases-loop-end l = l.end
