use Rattle.std.proofs.Common.{refl, slice_get}
use Rattle.af_world.specs.Outside.{ScriptedDevice}
use Rattle.af_outside.specs.Tape.{capture_stated_by}
use Rattle.af_outside.proofs.ScriptedDeviceLemmas.{outside_of-changed}
use Rattle.af_outside.proofs.scripted_device.tick.Goals as goal

pub returns : goal.returns
returns c = λ links steps.
    outside_of-changed links steps c.args.devices.now _ c.args.device c.scripted_at-scripted.result _ (λ (s : ScriptedDevice). record s { states = capture_stated_by (slice_get steps c.args.number) }) c.put_scripted.ensures refl (c.scripted_at-scripted.ensures steps)
