use Rattle.af_core.proofs.TickSizeLemmas.{bytes_within}
use Rattle.af_core.proofs.tick.tick_device.Goals as goal

pub tick_live-requires-clause-some : goal.tick_live-requires-clause-some
tick_live-requires-clause-some g c =
    bytes_within c.args.input.now c.ty.result c.args.tick.frames c.channels.result c.frame_bytes.result c.requires.tick.0 c.requires.tick.1 c.channels.ensures.count c.requires.size c.frame_bytes.ensures
