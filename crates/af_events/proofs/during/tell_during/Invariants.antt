use Rattle.std.proofs.Common.{◌<◌, ◌≤◌, ◌+◌, ◌-◌, Ok}
use Rattle.af_toolkit.proofs.PartLemmas.{Reached}
use Rattle.af_toolkit.specs.Ends.{KeepsConnection}
use Rattle.af_toolkit.specs.Trace.{refused}
use Rattle.af_toolkit.specs.ToolParts.{tool_sight, tooling}
use Rattle.af_events.specs.Trace.{tells_during, tells_until}
use Rattle.af_events.proofs.during.tell_during.Given as goal

abbrev pub invariant-loop-waited : goal.invariant-loop-waited
invariant-loop-waited g l = record {
  holds : KeepsConnection {X = Unit {0}} g.L.Link.left g.L.Link.faults l.initial.conn l.conn (Ok tt);
  count : g.K.Sink.faults l.initial.sink ≤ g.K.Sink.faults l.sink;
  some : 0 < l.left;
  within : l.waited ≤ l.frames;
  telling : Reached (tooling refused) (tells_during l.span l.start.0 l.job) (tells_until (l.frames - l.waited) l.span l.start.0 l.job (l.waited + 1) l.told.0 l.left)
      (tool_sight g.L.Link.left g.L.Link.sent l.initial.conn (g.K.Sink.held l.initial.sink)) (tool_sight g.L.Link.left g.L.Link.sent l.conn (g.K.Sink.held l.sink));
}

abbrev pub decreases-loop-waited : goal.decreases-loop-waited
decreases-loop-waited g l = l.frames - l.waited
