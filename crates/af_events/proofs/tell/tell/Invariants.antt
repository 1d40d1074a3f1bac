use Rattle.std.proofs.Common.{◌<◌, ◌≤◌}
use Rattle.af_toolkit.proofs.PartLemmas.{Reached}
use Rattle.af_toolkit.specs.Trace.{refused}
use Rattle.af_toolkit.specs.ToolParts.{tool_sight, tooling}
use Rattle.af_events.specs.Trace.{most_waits, tells}
use Rattle.af_events.proofs.StepLemmas.{StaysUsable}
use Rattle.af_events.proofs.tell.tell.Given as goal

abbrev pub invariant-loop-allowed : goal.invariant-loop-allowed
invariant-loop-allowed g l = record {
  stays : StaysUsable g.L.Link.left g.L.Link.faults l.initial.conn l.conn;
  count : g.K.Sink.faults l.initial.sink ≤ g.K.Sink.faults l.sink;
  some : 0 < l.left;
  telling : Reached (tooling refused) (tells most_waits l.job l.count) (tells l.allowed l.job l.left)
      (tool_sight g.L.Link.left g.L.Link.sent l.initial.conn (g.K.Sink.held l.initial.sink)) (tool_sight g.L.Link.left g.L.Link.sent l.conn (g.K.Sink.held l.sink));
}

abbrev pub decreases-loop-allowed : goal.decreases-loop-allowed
decreases-loop-allowed g l = l.allowed
