use Rattle.std.proofs.Common.{◌<◌, ◌≤◌, Ok, length}
use Rattle.af_toolkit.proofs.PartLemmas.{Reached}
use Rattle.af_toolkit.specs.Ends.{KeepsConnection}
use Rattle.af_toolkit.specs.Trace.{refused}
use Rattle.af_toolkit.specs.ToolParts.{tool_sight, tooling}
use Rattle.af_events.specs.Trace.{tells_oldest}
use Rattle.af_events.proofs.during.tell_kept.Given as goal

abbrev pub invariant-loop-event : goal.invariant-loop-event
invariant-loop-event g l = record {
  holds : KeepsConnection {X = Unit {0}} g.L.Link.left g.L.Link.faults l.initial.conn l.conn (Ok tt);
  count : g.K.Sink.faults l.initial.sink ≤ g.K.Sink.faults l.sink;
  some : 0 < l.left;
  telling : Reached (tooling refused) (tells_oldest (length l.initial.conn.ring.events) l.job l.count) (tells_oldest (length l.conn.ring.events) l.job l.left)
      (tool_sight g.L.Link.left g.L.Link.sent l.initial.conn (g.K.Sink.held l.initial.sink)) (tool_sight g.L.Link.left g.L.Link.sent l.conn (g.K.Sink.held l.sink));
}

abbrev pub decreases-loop-event : goal.decreases-loop-event
decreases-loop-event g l = length l.conn.ring.events
