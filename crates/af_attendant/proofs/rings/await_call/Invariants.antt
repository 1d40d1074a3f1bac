use Rattle.std.proofs.Common.{List, ℕ, Option}
use Rattle.af_command.specs.Acts.{Told}
use Rattle.af_answer.proofs.AnswerPartLemmas.{StaysUsable}
use Rattle.af_attendant.specs.AttendantTrace.{awaits_call, most_for_a_call}
use Rattle.af_attendant.specs.AttendantParts.{sight}
use Rattle.af_attendant.proofs.AttendantPartLemmas.{GotTo}
use Rattle.af_attendant.proofs.rings.await_call.Given as goal

abbrev pub invariant-loop-allowed : goal.invariant-loop-allowed
invariant-loop-allowed g l = record {
  stays : StaysUsable g.L.Link.left g.L.Link.faults l.initial.conn l.conn;
  waiting : (acts : Option (List Told)) (held : Option (List ℕ)) → GotTo (awaits_call most_for_a_call l.job) (awaits_call l.allowed l.job)
      (sight g.L.Link.left g.L.Link.sent l.initial.conn acts held l.initial.line) (sight g.L.Link.left g.L.Link.sent l.conn acts held l.line);
}

abbrev pub decreases-loop-allowed : goal.decreases-loop-allowed
decreases-loop-allowed g l = l.allowed
