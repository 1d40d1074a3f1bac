use Rattle.std.proofs.Common.{arith}
use Rattle.af_lib.proofs.AwaitedMessageLemmas.{taken_none, taken_whole}
use Rattle.af_lib.proofs.receive.take_message.Goals as goal

pub returns-in-Ok-clause-takes : goal.returns-in-Ok-clause-takes
returns-in-Ok-clause-takes g c =
    taken_whole c.args.order (g.L.Link.left c.args.link.now) (g.L.Link.left c.frame.new.link) c.message_in.result c.frame.new.input c.in-Ok.length
    (omega (arith, c.in-Ok.ensures.within.1)) c.in-Ok.ensures.frames c.message_in.ensures.value c.message_in.ensures.within

pub returns-in-Err-clause-takes : goal.returns-in-Err-clause-takes
returns-in-Err-clause-takes g c = taken_none c.args.order (g.L.Link.left c.args.link.now) (g.L.Link.left c.frame.new.link) c.in-Err.fault c.in-Err.ensures.frames
