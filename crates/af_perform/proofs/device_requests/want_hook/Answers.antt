use Rattle.std.proofs.Common.{◌∙◌, ap, option_map, refl, rules}
use Rattle.af_request.specs.Answer.{plain}
use Rattle.af_request.specs.Opcodes as opcodes
use Rattle.af_phone.specs.Lines.{with_wanted_hook}
use Rattle.af_model.specs.DeviceRequests.{with_device_hook}
use Rattle.af_state.proofs.DeviceLemmas.{device_at}
use Rattle.af_perform.proofs.LinkRequestLemmas.{stands_here}
use Rattle.af_perform.proofs.DeviceRequestLemmas.{changed_replied, hook_wanted}
use Rattle.af_perform.proofs.device_requests.want_hook.Goals as goal

pub returns-clause-step : goal.returns-clause-step
returns-clause-step c = λ k ks a s h there.
    let stands = stands_here c.args.devices.now ks a c.args.device _ s h (device_at c.args.devices.now _ _ _ c.from.ensures (search rules)) there in
    changed_replied c.args.devices.now ks _ _ c.args.link.now _ opcodes.hook_switch c.args.device plain (with_device_hook k c.args.off) a s c.from.ensures h there (hook_wanted k c.args.off _ _ _ s stands (c.wanting.ensures ∙ ap (option_map (with_wanted_hook c.args.off)) c.line.ensures) c.set_line.ensures) (refl, refl, refl) c.reply.ensures
