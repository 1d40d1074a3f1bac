use Rattle.std.proofs.Common.{ap, ◌∙◌, None, Some, Err}
use Rattle.af_request.specs.Answer.{reply_meaning}
use Rattle.af_lib.specs.Answers.{value_or_bad}
use Rattle.af_lib.proofs.ExchangeLemmas.{value_read}
use Rattle.af_lib.proofs.asks.value_in.Goals as goal

pub returns-in-Some-clause-value : goal.returns-in-Some-clause-value
returns-in-Some-clause-value g c =
    c.or_bad.ensures.value ∙ ap (value_or_bad c.args.bytes.now) c.stated_in.ensures
    ∙ value_read c.args.order g.T.FromReply.value_of c.args.opcode c.args.bytes.now (Some (reply_meaning c.in-Some.reply)) c.in-Some.ensures

pub returns-in-None-clause-value : goal.returns-in-None-clause-value
returns-in-None-clause-value g c = ap (λ f. Err f) c.bad_reply.ensures ∙ value_read c.args.order g.T.FromReply.value_of c.args.opcode c.args.bytes.now None c.in-None.ensures
