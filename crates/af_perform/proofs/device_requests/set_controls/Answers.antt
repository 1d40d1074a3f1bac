use Rattle.std.proofs.Common.{◌<◌, ◌∙◌, ap, refl, sym, length}
use Rattle.af_request.specs.Answer.{plain}
use Rattle.af_request.specs.Opcodes as opcodes
use Rattle.af_model.specs.Reply.{reply_with}
use Rattle.af_model.specs.DeviceRequests.{with_device_controls, controls_refusal, set_device_controls}
use Rattle.af_model.specs.Play.{in_devices}
use Rattle.af_perform.proofs.LinkRequestLemmas.{any_device, device_missing, at_refused, with_error}
use Rattle.af_perform.proofs.device_requests.set_controls.Goals as goal

pub returns-then-is_missing-clause-step : goal.returns-then-is_missing-clause-step
returns-then-is_missing-clause-step c = λ k ks.
    let e = c.args.asked in
    device_missing c.args.devices.now ks c.args.link.now _ opcodes.set_controls e.device e.device (set_device_controls k e.device e.mask e.input_on e.output_on e.input_gain e.output_gain) (c.if-is_missing.ensures.missing refl) refl (c.refuse.ensures ∙ ap (λ q. with_error opcodes.set_controls q c.args.link.now) c.no_device.ensures)

pub returns-in-Some-clause-step : goal.returns-in-Some-clause-step
returns-in-Some-clause-step c = λ k ks.
    let e = c.args.asked in
    let there : e.device < length c.args.devices.now = c.if-is_missing.ensures.there refl in
    any_device c.args.devices.now c.args.devices.now ks ks c.args.link.now _ opcodes.set_controls e.device (set_device_controls k e.device e.mask e.input_on e.output_on e.input_gain e.output_gain) there
    (λ a s h here. at_refused c.args.devices.now ks c.args.link.now _ opcodes.set_controls (controls_refusal e.mask e.input_on e.output_on e.input_gain e.output_gain) c.in-Some.refusal
    (λ q. reply_with opcodes.set_controls plain (in_devices e.device (with_device_controls k e.mask e.input_on e.output_on e.input_gain e.output_gain) q)) a (sym c.controls_refusal.ensures ∙ c.in-Some.is) c.refuse-in-Some.ensures h)

pub returns-in-None-clause-step : goal.returns-in-None-clause-step
returns-in-None-clause-step c = λ k ks.
    let e = c.args.asked in
    let there : e.device < length c.args.devices.now = c.if-is_missing.ensures.there refl in
    any_device c.args.devices.now _ ks ks c.args.link.now _ opcodes.set_controls e.device (set_device_controls k e.device e.mask e.input_on e.output_on e.input_gain e.output_gain) there (c.control.ensures.step k ks)
