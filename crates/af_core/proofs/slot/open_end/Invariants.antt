use Rattle.std.proofs.Common.{◌≤◌}
use Rattle.af_core.specs.Stands.{NoneOpenFrom}
use Rattle.af_core.proofs.slot.open_end.Given as goal

abbrev pub invariant-loop-end : goal.invariant-loop-end
invariant-loop-end l = record {
  bound : l.end ≤ l.below;
  none_open : NoneOpenFrom l.end l.slots;
}

abbrev pub decreases-loop-end : goal.decreases-loop-end
decreases-loop-end l = l.end
