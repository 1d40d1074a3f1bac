use Rattle.std.proofs.Common.{◌∙◌, ap, refl, rules}
use Rattle.af_request.specs.Answer.{plain}
use Rattle.af_request.specs.Opcodes as opcodes
use Rattle.af_model.specs.Reply.{reply_with}
use Rattle.af_model.specs.DeviceRequests.{with_device_controls, controls_refusal, with_named}
use Rattle.af_model.specs.Play.{in_devices}
use Rattle.af_state.proofs.DeviceLemmas.{device_at}
use Rattle.af_perform.proofs.LinkRequestLemmas.{at_passed, stands_here}
use Rattle.af_perform.proofs.DeviceRequestLemmas.{changed_replied, controlled}
use Rattle.af_perform.proofs.device_requests.control.Goals as goal

pub returns-clause-step : goal.returns-clause-step
returns-clause-step c = λ k ks a s h there.
    let e = c.args.asked in
    let change = with_device_controls k e.mask e.input_on e.output_on e.input_gain e.output_gain in
    let stands = stands_here c.args.devices.now ks a e.device _ s h (device_at c.args.devices.now _ _ _ c.from.ensures (search rules)) there in
    at_passed _ ks c.args.link.now _ opcodes.set_controls (controls_refusal e.mask e.input_on e.output_on e.input_gain e.output_gain) (λ q. reply_with opcodes.set_controls plain (in_devices e.device change q)) a c.requires.passes
    (changed_replied c.args.devices.now ks _ _ c.args.link.now _ opcodes.set_controls e.device plain change a s c.from.ensures h there
    (controlled k _ _ _ s e.mask e.input_on e.output_on e.input_gain e.output_gain stands (c.with_named-controls.ensures ∙ ap (with_named e.mask e.input_on e.output_on e.input_gain e.output_gain) c.controls.ensures) c.set_controls.ensures) (refl, refl, refl) c.reply.ensures)
