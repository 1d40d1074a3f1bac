use Rattle.std.proofs.Common.{◌≡◌, drop}
use Rattle.af_events.specs.Spans.{first_line}
use Rattle.af_events.proofs.span.first_line.Given as goal

abbrev pub invariant-loop-device : goal.invariant-loop-device
invariant-loop-device l = record {
  number : l.number ≡ l.device-index;
  first : first_line l.device-index (drop l.device-index l.devices) ≡ first_line 0 l.devices;
}
