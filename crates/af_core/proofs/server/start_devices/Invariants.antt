use Rattle.std.proofs.Common.{◌≡◌, map, take, length}
use Rattle.af_model.specs.State.{opening_device}
use Rattle.af_state.specs.Kept.{StandForDevices}
use Rattle.af_core.proofs.server.start_devices.Given as goal

abbrev pub invariant-loop-spec : goal.invariant-loop-spec
invariant-loop-spec l = record {
  count : length l.devices.items ≡ l.spec-index;
  stands : StandForDevices l.devices.items (map opening_device (take l.spec-index l.config));
}
