use Rattle.std.proofs.Common.{◌≡◌, ◌≤◌, Ok, Option, List, ℕ, length}
use Rattle.af_toolkit.specs.Ends.{KeepsConnection}
use Rattle.af_toolkit.specs.ToolParts.{tool_sight}
use Rattle.af_meter.specs.Trace.{measures}
use Rattle.af_meter.proofs.IntervalLemmas.{IsHearing}
use Rattle.af_meter.proofs.interval.measure.Given as goal

abbrev pub invariant-loop-left : goal.invariant-loop-left
invariant-loop-left g l = record {
  holds : KeepsConnection {X = Unit {0}} g.L.Link.left g.L.Link.faults l.initial.conn l.conn (Ok tt);
  some : 1 ≤ l.most;
  left : l.left ≤ l.plan.frames;
  room : length l.room ≡ length l.initial.room;
  hearing : (held : Option (List ℕ)) → IsHearing (measures l.plan l.fn.start.0) l.plan l.most l.at.0 l.left l.tallies
      (tool_sight g.L.Link.left g.L.Link.sent l.initial.conn held) (tool_sight g.L.Link.left g.L.Link.sent l.conn held);
}

abbrev pub decreases-loop-left : goal.decreases-loop-left
decreases-loop-left g l = l.left
