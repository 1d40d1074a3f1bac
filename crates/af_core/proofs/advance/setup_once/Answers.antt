use Rattle.std.proofs.Common.{◌≡◌, ◌++◌, ◌∙◌, List, ap, map, rules, subst}
use Rattle.af_request.specs.declared.reply.DeviceInfo.{DeviceInfo}
use Rattle.af_request.specs.Answer.{setup}
use Rattle.af_request.specs.Opcodes as opcodes
use Rattle.af_model.specs.Reply.{reply_message}
use Rattle.af_state.specs.Kept.{KeptDevice, kept_info}
use Rattle.af_state.specs.SharedState.{KeptSharedState}
use Rattle.af_core.proofs.AdvanceStepLemmas.{setup_replied}
use Rattle.af_core.proofs.advance.setup_once.Goals as goal

pub returns-in-Setup-clause-step : goal.returns-in-Setup-clause-step
returns-in-Setup-clause-step c =
    let devices_are = c.deref.ensures.value ∙ ap (λ (e : KeptSharedState). e.devices) c.shared.view_is in
    let ready = c.set_up.new.self in
    setup_replied c.args.shared.now c.in-Setup.order c.args.link.now ready _ (search rules) c.set_up.ensures
    (subst (λ (ds : List KeptDevice). c.reply_setup.new.link ≡ record ready { pending = ready.pending ++ reply_message ready.order opcodes.setup (setup (map {A = KeptDevice} {B = DeviceInfo} kept_info ds)) 0 }) devices_are c.reply_setup.ensures)
