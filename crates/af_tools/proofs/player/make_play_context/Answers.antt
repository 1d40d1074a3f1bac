use Rattle.af_tools.proofs.DeviceChoiceLemmas.{context_asked}
use Rattle.af_tools.proofs.UnreadLemmas.{context_made}
use Rattle.af_tools.proofs.player.make_play_context.Goals as goal

pub returns-clause-goes : goal.returns-clause-goes
returns-clause-goes g c held =
    rw (context_asked c.args.conn.now.devices c.context_of.result c.context_of.ensures.device c.requires.channels (c.context_of.ensures.asked c.args.sound.channels)) at (c.make_context.ensures.goes held)

pub returns-clause-made : goal.returns-clause-made
returns-clause-made g c =
    let same = context_asked c.args.conn.now.devices c.context_of.result c.context_of.ensures.device c.requires.channels (c.context_of.ensures.asked c.args.sound.channels) in
    context_made g.L.Link.left g.L.Link.sent c.args.conn.now c.make_context.new.conn same c.make_context.result c.make_context.ensures.goes
