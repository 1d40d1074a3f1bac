use Rattle.std.proofs.Common.{◌≡◌, List, ℕ, Option, true}
use Rattle.af_answer.proofs.AnswerPartLemmas.{StaysUsable}
use Rattle.af_attendant.specs.AttendantTrace.{most_looks, watches}
use Rattle.af_attendant.specs.AttendantParts.{sight}
use Rattle.af_attendant.specs.HeldOff.{IsHeldOff}
use Rattle.af_attendant.proofs.AttendantPartLemmas.{GotTo}
use Rattle.af_attendant.proofs.watch.watch.Given as goal

abbrev pub invariant-loop-looks : goal.invariant-loop-looks
invariant-loop-looks g l = record {
  stays : StaysUsable g.L.Link.left g.L.Link.faults l.fn.conn l.conn;
  off_hook : IsHeldOff g.L.Link.sent l.job.answer.device l.conn;
  runs : g.S.HeldCommands.runs l.commands ≡ true;
  watching : (held : Option (List ℕ)) → GotTo (watches most_looks l.job) (watches l.looks l.job)
      (sight g.L.Link.left g.L.Link.sent l.fn.conn (g.S.HeldCommands.acts l.fn.commands) held l.fn.line) (sight g.L.Link.left g.L.Link.sent l.conn (g.S.HeldCommands.acts l.commands) held l.line);
}

abbrev pub decreases-loop-looks : goal.decreases-loop-looks
decreases-loop-looks g l = l.looks
