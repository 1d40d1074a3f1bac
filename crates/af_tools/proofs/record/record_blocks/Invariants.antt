use Rattle.std.proofs.Common.{Ok, ◌≤◌, ◌<◌}
use Rattle.af_toolkit.specs.Ends.{KeepsConnection}
use Rattle.af_toolkit.specs.ToolParts.{tool_sight}
use Rattle.af_tools.specs.Record.{records_all}
use Rattle.af_tools.proofs.RecordBlockLemmas.{IsRecording}
use Rattle.af_tools.proofs.WriteStepLemmas.{IsTaken}
use Rattle.af_tools.proofs.record.record_blocks.Given as goal

abbrev pub invariant-loop-left : goal.invariant-loop-left
invariant-loop-left g l = record {
  holds : KeepsConnection {X = Unit {0}} g.L.Link.left g.L.Link.faults l.initial.conn l.conn (Ok tt);
  count : g.K.Sink.faults l.initial.sink ≤ g.K.Sink.faults l.sink;
  some : 1 ≤ l.block;
  going : l.row < l.job.stop_blocks;
  left : l.left ≤ l.job.frames;
  recording : IsRecording (records_all l.job l.sound l.fn.start.0) l.job l.sound l.block l.at.0 l.left l.row l.lost
      (tool_sight g.L.Link.left g.L.Link.sent l.initial.conn (g.K.Sink.held l.initial.sink)) (tool_sight g.L.Link.left g.L.Link.sent l.conn (g.K.Sink.held l.sink));
  taken : IsTaken l.job l.sound l.fn.start.0 l.block l.at.0 l.left l.row
      (tool_sight g.L.Link.left g.L.Link.sent l.initial.conn (g.K.Sink.held l.initial.sink)) (tool_sight g.L.Link.left g.L.Link.sent l.conn (g.K.Sink.held l.sink));
}

abbrev pub decreases-loop-left : goal.decreases-loop-left
decreases-loop-left g l = l.left
