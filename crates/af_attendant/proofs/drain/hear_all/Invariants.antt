use Rattle.std.proofs.Common.{◌≡◌, List, ℕ, Option, length}
use Rattle.af_command.specs.Acts.{Told}
use Rattle.af_attendant.specs.AttendantTrace.{hears_all, hears_these}
use Rattle.af_attendant.specs.AttendantParts.{KeepsLink, sight}
use Rattle.af_attendant.proofs.AttendantPartLemmas.{GotTo}
use Rattle.af_attendant.proofs.drain.hear_all.Given as goal

abbrev pub invariant-loop-event : goal.invariant-loop-event
invariant-loop-event g l = record {
  keeps : KeepsLink l.fn.conn l.conn;
  runs : g.S.HeldCommands.runs l.commands ≡ g.S.HeldCommands.runs l.fn.commands;
  hearing : (held : Option (List ℕ)) → GotTo (hears_all l.job l.runs) (hears_these l.job l.runs l.asked l.conn.ring.events)
      (sight g.L.Link.left g.L.Link.sent l.fn.conn (g.S.HeldCommands.acts l.fn.commands) held l.fn.line) (sight g.L.Link.left g.L.Link.sent l.conn (g.S.HeldCommands.acts l.commands) held l.line);
}

abbrev pub decreases-loop-event : goal.decreases-loop-event
decreases-loop-event g l = length l.conn.ring.events
