use Rattle.std.proofs.Common.{ap, ◌∙◌, Some}
use Rattle.af_request.specs.Answer.{items_of, reply_meaning}
use Rattle.af_request.specs.Opcodes as opcodes
use Rattle.af_lib.specs.Answers.{value_or_bad}
use Rattle.af_lib.specs.Calls.{as_devices, device_list}
use Rattle.af_lib.proofs.ExchangeLemmas.{listed_stated, seen_or_bad, value_read}
use Rattle.af_lib.proofs.asks.devices_in.Goals as goal

pub returns-in-Some-clause-value : goal.returns-in-Some-clause-value
returns-in-Some-clause-value c =
    ap device_list c.or_bad.ensures.value ∙ seen_or_bad items_of c.args.bytes.now c.devices_of.result ∙ ap (value_or_bad c.args.bytes.now) c.devices_of.ensures
    ∙ value_read c.args.order as_devices opcodes.setup c.args.bytes.now (Some (reply_meaning c.in-Some.reply)) c.in-Some.ensures

pub returns-in-Some-clause-stated : goal.returns-in-Some-clause-stated
returns-in-Some-clause-stated c = listed_stated c.args.order c.args.bytes.now c.or_bad.result (returns-in-Some-clause-value c)
