use Rattle.std.proofs.Common.{◌≡◌, ◌<◌, ◌-◌, ◌^◌, true, Ok, Option, List, ℕ, length}
use Rattle.af_toolkit.specs.Ends.{KeepsConnection}
use Rattle.af_toolkit.specs.ToolParts.{link_sight, tool_sight}
use Rattle.af_logger.specs.Keeping.{LeavesLogger}
use Rattle.af_logger.specs.Story.{Records}
use Rattle.af_logger.specs.Trace.{block_lengths, takes_blocks}
use Rattle.af_logger.proofs.LoopLemmas.{IsLeft}
use Rattle.af_logger.proofs.PumpLemmas.{IsTaking}
use Rattle.af_logger.proofs.RecordLemmas.{IsCounted}
use Rattle.af_logger.proofs.pump.log_piece.Given as goal

abbrev pub invariant-loop-left : goal.invariant-loop-left
invariant-loop-left g l = record {
  holds : KeepsConnection {X = Unit {0}} g.L.Link.left g.L.Link.faults l.initial.conn l.conn (Ok tt);
  leaves : LeavesLogger {X = Unit {0}} g.C.Commands.desk g.K.Sink.faults l.initial.logger l.logger l.commands l.initial.sink l.sink (Ok tt);
  left : IsLeft l.plan l.initial.logger.at.0 l.logger l.left;
  counted : IsCounted l.plan l.initial.logger.begun l.logger l.left;
  records : Records (l.initial.logger.begun < 2 ^ 64 - 1) (true ≡ true) l.fn.task.job.now l.initial.logger l.logger (link_sight g.L.Link.left g.L.Link.sent l.initial.conn) (link_sight g.L.Link.left g.L.Link.sent l.conn)
      (g.C.Commands.desk l.initial.commands) (g.C.Commands.desk l.commands) (g.K.Sink.held l.initial.sink) (g.K.Sink.held l.sink);
  room : length l.room ≡ length l.initial.room;
  taking : (held : Option (List ℕ)) → IsTaking (takes_blocks l.plan l.initial.logger.at.0 (block_lengths l.plan.block l.plan.frames)) l.plan l.logger.at.0 l.left
      (tool_sight g.L.Link.left g.L.Link.sent l.initial.conn held) (tool_sight g.L.Link.left g.L.Link.sent l.conn held);
}

abbrev pub decreases-loop-left : goal.decreases-loop-left
decreases-loop-left g l = l.left
