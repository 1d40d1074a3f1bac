use Rattle.std.proofs.Common.{◌∙◌, sym}
use Rattle.af_request.specs.Opcodes as opcodes
use Rattle.af_model.specs.DeviceRequests.{tell_phone}
use Rattle.af_perform.proofs.DeviceRequestLemmas.{line_found, line_missing}
use Rattle.af_perform.proofs.device_requests.query_phone.Goals as goal

pub returns-in-Ok-clause-step : goal.returns-in-Ok-clause-step
returns-in-Ok-clause-step c = λ k ks.
    line_found c.args.devices.now c.args.devices.now ks ks c.args.link.now _ opcodes.query_phone c.args.device _ tell_phone (sym c.line_at.ensures ∙ c.in-Ok.is) (λ a s h here. (h, sym c.reply.ensures))

pub returns-in-Err-clause-step : goal.returns-in-Err-clause-step
returns-in-Err-clause-step c = λ k ks.
    line_missing c.args.devices.now ks c.args.link.now _ opcodes.query_phone c.args.device c.in-Err.refusal tell_phone (sym c.line_at.ensures ∙ c.in-Err.is) c.refuse.ensures
