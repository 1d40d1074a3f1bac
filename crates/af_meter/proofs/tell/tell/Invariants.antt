use Rattle.std.proofs.Common.{◌≡◌, ◌<◌, ◌≤◌, [], length, Ok}
use Rattle.af_toolkit.specs.Ends.{KeepsConnection}
use Rattle.af_toolkit.specs.ToolParts.{tool_sight}
use Rattle.af_meter.specs.Trace.{meters, most_intervals}
use Rattle.af_meter.proofs.TellLemmas.{IsMetering}
use Rattle.af_meter.proofs.tell.tell.Given as goal

abbrev pub invariant-loop-allowed : goal.invariant-loop-allowed
invariant-loop-allowed g l = record {
  holds : KeepsConnection {X = Unit {0}} g.L.Link.left g.L.Link.faults l.initial.conn l.conn (Ok tt);
  count : g.K.Sink.faults l.initial.sink ≤ g.K.Sink.faults l.sink;
  some : 0 < l.left;
  low : l.row.frames ≤ 172800000;
  room : length l.room ≡ length l.initial.room;
  metering : IsMetering (meters most_intervals l.plan l.fn.start.0 [] l.count) l.plan l.allowed l.at.0 l.row l.left
      (tool_sight g.L.Link.left g.L.Link.sent l.initial.conn (g.K.Sink.held l.initial.sink)) (tool_sight g.L.Link.left g.L.Link.sent l.conn (g.K.Sink.held l.sink));
}

abbrev pub decreases-loop-allowed : goal.decreases-loop-allowed
decreases-loop-allowed g l = l.allowed
