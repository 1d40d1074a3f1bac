use Rattle.std.proofs.Common.{◌≡◌, drop}
use Rattle.af_events.specs.Trace.{has_line}
use Rattle.af_events.proofs.teller.has_line.Given as goal

abbrev pub invariant-loop-device : goal.invariant-loop-device
invariant-loop-device l = has_line (drop l.device-index l.devices) ≡ has_line l.devices
