use Rattle.std.proofs.Common.{◌≤◌, ◌-◌, length, take}
use Rattle.af_io.specs.Observed.{Consumed}
use Rattle.af_tools.proofs.fill.fill_block.Given as goal

abbrev pub invariant-loop-filled : goal.invariant-loop-filled
invariant-loop-filled g l = record {
  within : l.filled ≤ length l.block;
  permitted : l.filled ≤ l.allowed;
  consumed : Consumed (g.S.Source.left l.initial.source) (take l.filled l.block) (g.S.Source.left l.source);
  count : g.S.Source.faults l.initial.source ≤ g.S.Source.faults l.source;
}

abbrev pub decreases-loop-filled : goal.decreases-loop-filled
decreases-loop-filled g l = length l.block - l.filled
