use Rattle.std.proofs.Common.{rules}
use Rattle.af_core.proofs.TurnLemmas.{capture_failed, emit_failed, emit_done}
use Rattle.af_core.proofs.tick.tick_live.Goals as goal

pub returns-then-not-came-clause-ticks : goal.returns-then-not-came-clause-ticks
returns-then-not-came-clause-ticks g c = capture_failed _ _ c.args.tick.device c.args.tick.frames c.args.device.now _ _ _ c.capture-came.new.bytes _ (search rules) c.pass.ensures.passes c.capture-came.ensures.log c.set_dead.ensures

pub returns-then-not-emit-clause-ticks : goal.returns-then-not-emit-clause-ticks
returns-then-not-emit-clause-ticks g c =
    emit_failed _ _ _ c.args.tick.device c.args.tick.frames c.args.device.now _ _ _ _ c.capture-came.new.bytes _ (search rules) (search rules) (search rules) c.pass.ensures.passes c.capture-came.ensures.log c.emit.ensures.log c.set_dead-then-not-emit.ensures

pub returns-else-not-emit-clause-ticks : goal.returns-else-not-emit-clause-ticks
returns-else-not-emit-clause-ticks g c =
    emit_done _ _ _ c.args.tick.device c.args.tick.frames c.args.device.now _ _ _ c.capture-came.new.bytes _ (search rules) (search rules) c.requires.alive (search rules) c.pass.ensures.passes c.capture-came.ensures.log c.emit.ensures.log
