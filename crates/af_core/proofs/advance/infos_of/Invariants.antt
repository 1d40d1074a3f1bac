use Rattle.std.proofs.Common.{◌≡◌, take, map}
use Rattle.af_state.specs.Kept.{kept_info}
use Rattle.af_core.proofs.advance.infos_of.Given as goal

abbrev pub invariant-loop-device : goal.invariant-loop-device
invariant-loop-device l = record {
  infos : l.infos.items ≡ map kept_info (take l.device-index l.devices);
}
