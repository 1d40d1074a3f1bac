use Rattle.std.proofs.Common.{◌≡◌, ◌<◌, ◌+◌, ◌^◌, true, Ok, Option, List, ℕ, length}
use Rattle.af_toolkit.specs.Ends.{KeepsConnection}
use Rattle.af_toolkit.specs.ToolParts.{link_sight, tool_sight}
use Rattle.af_logger.specs.Keeping.{IsWhole, LeavesLogger}
use Rattle.af_logger.specs.Plans.{count_of}
use Rattle.af_logger.specs.Story.{Records}
use Rattle.af_logger.specs.Trace.{takes_pieces}
use Rattle.af_logger.proofs.PumpLemmas.{IsLogging}
use Rattle.af_logger.proofs.pump.log_pieces.Given as goal

abbrev pub invariant-loop-left : goal.invariant-loop-left
invariant-loop-left g l = record {
  holds : KeepsConnection {X = Unit {0}} g.L.Link.left g.L.Link.faults l.initial.conn l.conn (Ok tt);
  leaves : LeavesLogger {X = Unit {0}} g.C.Commands.desk g.K.Sink.faults l.initial.logger l.logger l.commands l.initial.sink l.sink (Ok tt);
  whole : IsWhole l.logger.plan l.logger.last;
  counted : l.initial.logger.begun ≡ 0 → l.logger.begun + l.left ≡ count_of l.fn.task.job.now;
  few : count_of l.fn.task.job.now < 2 ^ 64;
  records : Records (l.initial.logger.begun ≡ 0) (true ≡ true) l.fn.task.job.now l.initial.logger l.logger (link_sight g.L.Link.left g.L.Link.sent l.initial.conn) (link_sight g.L.Link.left g.L.Link.sent l.conn)
      (g.C.Commands.desk l.initial.commands) (g.C.Commands.desk l.commands) (g.K.Sink.held l.initial.sink) (g.K.Sink.held l.sink);
  room : length l.room ≡ length l.initial.room;
  logging : (held : Option (List ℕ)) → IsLogging (takes_pieces (count_of l.fn.task.job.now) l.initial.logger.plan l.initial.logger.at.0) l.initial.logger.plan l.logger.at.0 l.left
      (tool_sight g.L.Link.left g.L.Link.sent l.initial.conn held) (tool_sight g.L.Link.left g.L.Link.sent l.conn held);
}

abbrev pub decreases-loop-left : goal.decreases-loop-left
decreases-loop-left g l = l.left
