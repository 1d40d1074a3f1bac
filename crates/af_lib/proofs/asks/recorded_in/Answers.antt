use Rattle.std.proofs.Common.{ap, length, ◌∙◌, None, Some, Err}
use Rattle.af_request.specs.Answer.{reply_meaning}
use Rattle.af_lib.specs.Answers.{value_or_bad}
use Rattle.af_lib.specs.Calls.{as_recorded, recorded_as, recorded_in}
use Rattle.af_lib.proofs.ExchangeLemmas.{seen_or_bad, value_read}
use Rattle.af_lib.proofs.asks.recorded_in.Goals as goal

pub returns-in-Some-clause-value : goal.returns-in-Some-clause-value
returns-in-Some-clause-value c =
    ap (λ r. recorded_in r c.recorded_of.new.into) c.or_bad.ensures.value ∙ seen_or_bad (recorded_as c.recorded_of.new.into) c.args.bytes.now c.recorded_of.result ∙ ap (value_or_bad c.args.bytes.now) c.recorded_of.ensures.value
    ∙ value_read c.args.order (as_recorded c.args.blocking (length c.args.into.now)) c.args.opcode c.args.bytes.now (Some (reply_meaning c.in-Some.reply)) c.in-Some.ensures

pub returns-in-None-clause-value : goal.returns-in-None-clause-value
returns-in-None-clause-value c = ap (λ f. Err f) c.bad_reply.ensures ∙ value_read c.args.order (as_recorded c.args.blocking (length c.args.into.now)) c.args.opcode c.args.bytes.now None c.in-None.ensures
