use Rattle.std.proofs.Common.{◌≡◌, ◌≤◌, ◌+◌, List, ℕ, Option, false}
use Rattle.af_answer.proofs.AnswerPartLemmas.{StaysUsable}
use Rattle.af_attendant.specs.Line.{fresh_line}
use Rattle.af_attendant.specs.AttendantTrace.{attends, attends_all}
use Rattle.af_attendant.specs.AttendantParts.{sight}
use Rattle.af_attendant.proofs.AttendantPartLemmas.{GotTo}
use Rattle.af_attendant.proofs.attend.attend.Given as goal

abbrev pub invariant-loop-left : goal.invariant-loop-left
invariant-loop-left g l = record {
  stays : StaysUsable g.L.Link.left g.L.Link.faults l.fn.conn l.conn;
  idle : g.S.HeldCommands.runs l.commands ≡ false;
  few : l.tally.answered + l.left ≤ l.job.answer.calls;
  counted : (l.tally.recorded ≤ l.tally.answered) × (l.tally.failed ≤ l.tally.answered);
  written : g.K.Sink.faults l.fn.sink ≤ g.K.Sink.faults l.sink;
  going : GotTo (attends_all l.job) (attends l.left l.job l.tally)
      (sight g.L.Link.left g.L.Link.sent l.fn.conn (g.S.HeldCommands.acts l.fn.commands) (g.K.Sink.held l.fn.sink) fresh_line) (sight g.L.Link.left g.L.Link.sent l.conn (g.S.HeldCommands.acts l.commands) (g.K.Sink.held l.sink) l.line);
}

abbrev pub decreases-loop-left : goal.decreases-loop-left
decreases-loop-left g l = l.left
