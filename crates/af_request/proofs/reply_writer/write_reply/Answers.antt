use Rattle.std.proofs.Common.{◌≡◌, take, rules}
use Rattle.af_request.specs.Answer.{reply_meaning}
use Rattle.af_request.specs.Replies.{reply_bytes}
use Rattle.af_request.proofs.ReplyMessageLemmas.{reply_one}
use Rattle.af_request.proofs.ReplyRoundTrips.{spelled_again}
use Rattle.af_request.proofs.reply_writer.write_reply.Goals as goal

pub returns-clause-again : goal.returns-clause-again
returns-clause-again c =
    let answer = reply_meaning c.args.reply.now in
    let bytes : take c.put_body.result c.put_body.new.out ≡ reply_bytes c.args.order c.args.opcode answer c.args.sequence = search rules in
    spelled_again c.args.order c.args.opcode c.args.sequence answer _ bytes

pub returns-clause-one : goal.returns-clause-one
returns-clause-one c =
    let answer = reply_meaning c.args.reply.now in
    let bytes : take c.put_body.result c.put_body.new.out ≡ reply_bytes c.args.order c.args.opcode answer c.args.sequence = search rules in
    reply_one c.args.order c.args.opcode c.args.sequence answer _ bytes c.ranges.sequence.fits
