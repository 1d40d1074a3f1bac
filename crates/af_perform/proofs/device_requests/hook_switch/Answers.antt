use Rattle.std.proofs.Common.{◌==◌, ◌∙◌, sym}
use Rattle.af_request.specs.Answer.{plain}
use Rattle.af_request.specs.Opcodes as opcodes
use Rattle.af_model.specs.Reply.{reply_with}
use Rattle.af_model.specs.DeviceRequests.{switch_hook, switch_refusal, with_device_hook}
use Rattle.af_model.specs.Play.{in_devices}
use Rattle.af_perform.proofs.DeviceRequestLemmas.{line_found, line_missing, line_there}
use Rattle.af_perform.proofs.LinkRequestLemmas.{at_passed, at_refused}
use Rattle.af_perform.proofs.device_requests.hook_switch.Goals as goal

pub want_hook-requires-clause-there : goal.want_hook-requires-clause-there
want_hook-requires-clause-there c = line_there c.args.devices.now c.args.device c.in-Ok.line (sym c.line_at.ensures ∙ c.in-Ok.is)

pub returns-in-None-clause-step : goal.returns-in-None-clause-step
returns-in-None-clause-step c = λ k ks.
    line_found c.args.devices.now _ ks ks c.args.link.now _ opcodes.hook_switch c.args.device c.in-Ok.line (switch_hook k c.args.device c.args.off) (sym c.line_at.ensures ∙ c.in-Ok.is)
    (λ a s h there.
    at_passed _ ks c.args.link.now _ opcodes.hook_switch (switch_refusal c.args.device c.args.off c.in-Ok.line) (λ q. reply_with opcodes.hook_switch plain (in_devices c.args.device (with_device_hook k (c.args.off == 1)) q)) a (sym c.switch_refusal.ensures ∙ c.in-None.is) (c.want_hook.ensures.step k ks a s h there))

pub returns-in-Some-clause-step : goal.returns-in-Some-clause-step
returns-in-Some-clause-step c = λ k ks.
    line_found c.args.devices.now c.args.devices.now ks ks c.args.link.now _ opcodes.hook_switch c.args.device c.in-Ok.line (switch_hook k c.args.device c.args.off) (sym c.line_at.ensures ∙ c.in-Ok.is)
    (λ a s h there.
    at_refused c.args.devices.now ks c.args.link.now _ opcodes.hook_switch (switch_refusal c.args.device c.args.off c.in-Ok.line) c.in-Some.refusal (λ q. reply_with opcodes.hook_switch plain (in_devices c.args.device (with_device_hook k (c.args.off == 1)) q)) a (sym c.switch_refusal.ensures ∙ c.in-Some.is) c.refuse.ensures h)

pub returns-in-Err-clause-step : goal.returns-in-Err-clause-step
returns-in-Err-clause-step c = λ k ks.
    line_missing c.args.devices.now ks c.args.link.now _ opcodes.hook_switch c.args.device c.in-Err.refusal (switch_hook k c.args.device c.args.off) (sym c.line_at.ensures ∙ c.in-Err.is) c.refuse-in-Err.ensures
