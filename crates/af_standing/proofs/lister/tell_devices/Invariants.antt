use Rattle.std.proofs.Common.{◌≤◌, drop, Ok}
use Rattle.af_toolkit.proofs.PartLemmas.{Reached}
use Rattle.af_toolkit.specs.Ends.{KeepsConnection}
use Rattle.af_toolkit.specs.Trace.{refused}
use Rattle.af_toolkit.specs.ToolParts.{tool_sight, tooling}
use Rattle.af_standing.specs.List.{tells_from}
use Rattle.af_standing.proofs.StepLemmas.{IsTold}
use Rattle.af_standing.proofs.lister.tell_devices.Given as goal

abbrev pub invariant-loop-number : goal.invariant-loop-number
invariant-loop-number g l = record {
  holds : KeepsConnection {X = Unit {0}} g.L.Link.left g.L.Link.faults l.initial.conn l.conn (Ok tt);
  count : g.K.Sink.faults l.initial.sink ≤ g.K.Sink.faults l.sink;
  telling : Reached (tooling refused) (tells_from 0 l.initial.conn.devices) (tells_from l.number (drop l.number l.initial.conn.devices))
      (tool_sight g.L.Link.left g.L.Link.sent l.initial.conn (g.K.Sink.held l.initial.sink)) (tool_sight g.L.Link.left g.L.Link.sent l.conn (g.K.Sink.held l.sink));
  told : IsTold l.initial.conn.devices l.number
      (tool_sight g.L.Link.left g.L.Link.sent l.initial.conn (g.K.Sink.held l.initial.sink)) (tool_sight g.L.Link.left g.L.Link.sent l.conn (g.K.Sink.held l.sink));
}
