use Rattle.std.proofs.Common.{◌≡◌, ◌≤◌, max, length}
use Rattle.af_limits.specs.Limits.{most_devices}
use Rattle.af_backend.specs.Rounds.{NoneDue, SourcesRead}
use Rattle.af_backend.specs.Asked.{DevicesAsked}
use Rattle.af_backend.proofs.round.first_due.Given as goal

abbrev pub invariant-loop-device : goal.invariant-loop-device
invariant-loop-device g l = record {
  from : l.from ≤ l.device;
  to : l.device ≤ max l.from l.to;
  source_count : length l.sources ≡ most_devices;
  device_count : length l.attached ≡ most_devices;
  none : NoneDue l.nanos l.from l.device l.initial.sources;
  read : SourcesRead l.nanos l.from l.device l.initial.sources l.sources;
  asked : DevicesAsked l.nanos l.from l.device l.initial.sources l.initial.attached l.attached;
}
