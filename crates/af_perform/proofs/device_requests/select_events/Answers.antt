use Rattle.std.proofs.Common.{◌∙◌, sym}
use Rattle.af_request.specs.Opcodes as opcodes
use Rattle.af_model.specs.DeviceRequests.{select}
use Rattle.af_perform.proofs.LinkRequestLemmas.{leads_at}
use Rattle.af_perform.proofs.DeviceRequestLemmas.{line_found, line_missing}
use Rattle.af_perform.proofs.device_requests.select_events.Goals as goal

pub returns-in-Ok-clause-step : goal.returns-in-Ok-clause-step
returns-in-Ok-clause-step c = λ k ks.
    line_found c.args.devices.now c.args.devices.now ks ks c.args.link.now _ opcodes.select_events c.args.device _ (λ line. select c.args.device c.args.mask) (sym c.line_at.ensures ∙ c.in-Ok.is) (λ a s h here. leads_at c.args.devices.now ks c.args.link.now _ (select c.args.device c.args.mask) a (c.select.ensures.step a) h)

pub returns-in-Err-clause-step : goal.returns-in-Err-clause-step
returns-in-Err-clause-step c = λ k ks.
    line_missing c.args.devices.now ks c.args.link.now _ opcodes.select_events c.args.device c.in-Err.refusal (λ line. select c.args.device c.args.mask) (sym c.line_at.ensures ∙ c.in-Err.is) c.refuse.ensures
