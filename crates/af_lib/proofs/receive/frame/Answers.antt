use Rattle.std.proofs.Common.{rules, ◌++◌, drop, ◌-◌}
use borrow.Rule.Slice.PartMut.{post_of}
use Rattle.af_lib.proofs.FrameLemmas.{no_head, bad_head, head_alone, head_and_body, head_and_cut}
use Rattle.af_lib.proofs.receive.frame.Goals as goal

pub returns-in-Err-clause-frames : goal.returns-in-Err-clause-frames
returns-in-Err-clause-frames g c =
    no_head c.args.order (g.L.Link.left c.args.link.now) (g.L.Link.left c.fill.new.link) c.fill.new.into c.in-Err.fault (search rules) c.in-Err.ensures.fills

pub returns-in-BadMessage-clause-frames : goal.returns-in-BadMessage-clause-frames
returns-in-BadMessage-clause-frames g c _ =
    bad_head c.args.order (g.L.Link.left c.args.link.now) (g.L.Link.left c.fill.new.link) c.fill.new.into (drop 8 c.args.input.now) c.bad_reply.result (search rules)
    c.in-Ok.ensures.fills c.in-BadMessage.ensures.value c.bad_reply.ensures

pub returns-in-Message-clause-frames : goal.returns-in-Message-clause-frames
returns-in-Message-clause-frames g c _ =
    head_alone c.args.order (g.L.Link.left c.args.link.now) (g.L.Link.left c.fill.new.link) c.fill.new.into (drop 8 c.args.input.now) _ _ _ _ (search rules)
    c.in-Message.ensures.within.0 c.in-Message.ensures.within.1 c.in-Ok.ensures.fills c.in-Message.ensures.value (search rules)

pub returns-in-Ok-fill-clause-frames : goal.returns-in-Ok-fill-clause-frames
returns-in-Ok-fill-clause-frames g c _ =
    let n = c.in-NeedMore.length in
    let input = c.fill.new.into ++ drop 8 c.args.input.now in
    head_and_body c.args.order (g.L.Link.left c.args.link.now) (g.L.Link.left c.fill.new.link) (g.L.Link.left c.fill-in-NeedMore.new.link)
    c.fill.new.into (drop 8 c.args.input.now) c.fill-in-NeedMore.new.into (post_of 8 (n - 8) input) n (search rules)
    c.in-NeedMore.ensures.within.1 (search rules) c.in-Ok.ensures.fills c.in-Ok-fill.ensures.fills c.in-NeedMore.ensures.value (search rules)

pub returns-in-Err-fill-clause-frames : goal.returns-in-Err-fill-clause-frames
returns-in-Err-fill-clause-frames g c =
    head_and_cut c.args.order (g.L.Link.left c.args.link.now) (g.L.Link.left c.fill.new.link) (g.L.Link.left c.fill-in-NeedMore.new.link)
    c.fill.new.into (drop 8 c.args.input.now) c.fill-in-NeedMore.new.into c.in-NeedMore.length c.in-Err-fill.fault (search rules)
    c.in-NeedMore.ensures.within.1 (search rules) c.in-Ok.ensures.fills c.in-Err-fill.ensures.fills c.in-NeedMore.ensures.value
