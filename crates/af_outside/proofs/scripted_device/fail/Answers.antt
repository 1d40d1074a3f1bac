use Rattle.std.proofs.Common.{true}
use Rattle.af_outside.specs.Tape.{with_failing}
use Rattle.af_outside.proofs.ScriptedDeviceLemmas.{outside_of-changed}
use Rattle.af_outside.proofs.scripted_device.fail.Goals as goal

pub returns : goal.returns
returns c = λ links steps.
    outside_of-changed links steps c.args.devices.now _ c.args.device c.scripted_at.result _ (with_failing c.args.call true) c.put_scripted.ensures (c.with_failing-scripted.ensures steps) (c.scripted_at.ensures steps)
