use Rattle.std.proofs.Common.{◌≡◌, ◌≤◌, max, length}
use Rattle.af_limits.specs.Limits.{most_devices}
use Rattle.af_lines.specs.HeldLines.{LinesAsked}
use Rattle.af_lines.proofs.lines.first_change.Given as goal

abbrev pub invariant-loop-device : goal.invariant-loop-device
invariant-loop-device g l = record {
  from : l.from ≤ l.device;
  to : l.device ≤ max l.from l.to;
  count : length l.held ≡ most_devices;
  asked : LinesAsked l.at l.from l.device l.initial.held l.held;
}
