use Rattle.af_outside.specs.Tape.{outside_of, kept_at, devices_of}
use Rattle.af_outside.proofs.ScriptedDeviceLemmas.{capture_failed, capture_done}
use Rattle.af_outside.proofs.scripted_device.capture.Goals as goal

pub returns-in-Failed : goal.returns-in-Failed
returns-in-Failed c = λ links. capture_failed _ _ c.args.device (c.in-Failed.ensures links c.args.steps.now)

pub returns-in-Done : goal.returns-in-Done
returns-in-Done c = λ links.
    capture_done (outside_of links (devices_of c.args.steps.now c.args.devices.now)) _ c.args.device _ _ (kept_at c.args.steps.now c.scripted_at-scripted.result)
    (c.scripted_at-scripted.ensures c.args.steps.now) (c.in-Done.ensures links c.args.steps.now) c.fill.ensures c.fill.auto.into
