use Rattle.std.proofs.Common.{drop, List, ℕ, Ok, Option}
use Rattle.af_toolkit.proofs.PartLemmas.{Reached}
use Rattle.af_toolkit.specs.Ends.{KeepsConnection}
use Rattle.af_toolkit.specs.Trace.{refused}
use Rattle.af_toolkit.specs.ToolParts.{tool_sight, tooling}
use Rattle.af_events.specs.Trace.{selects_from}
use Rattle.af_events.proofs.select.select_lines.Given as goal

abbrev pub invariant-loop-number : goal.invariant-loop-number
invariant-loop-number g l = record {
  holds : KeepsConnection {X = Unit {0}} g.L.Link.left g.L.Link.faults l.initial.conn l.conn (Ok tt);
  selecting : (held : Option (List ℕ)) → Reached (tooling refused) (selects_from l.kinds 0 l.initial.conn.devices) (selects_from l.kinds l.number (drop l.number l.initial.conn.devices))
      (tool_sight g.L.Link.left g.L.Link.sent l.initial.conn held) (tool_sight g.L.Link.left g.L.Link.sent l.conn held);
}
