use Rattle.std.proofs.Common.{◌≡◌, ◌≤◌, ◌+◌, ◌-◌, length}
use Rattle.af_io.specs.Observed.{Consumed}
use Rattle.af_io.proofs.text.read_text.Given as goal

abbrev pub invariant-loop-n : goal.invariant-loop-n
invariant-loop-n g l = record {
  consumed : Consumed (g.S.Source.left l.initial.source) l.text.items (g.S.Source.left l.source);
  within : length l.text.items ≤ l.most;
  count : g.S.Source.faults l.initial.source ≤ g.S.Source.faults l.source;
  room : length l.piece ≡ 4096;
}

abbrev pub decreases-loop-n : goal.decreases-loop-n
decreases-loop-n g l = (l.most + 1) - length l.text.items
