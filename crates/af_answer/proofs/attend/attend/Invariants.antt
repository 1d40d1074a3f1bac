use Rattle.std.proofs.Common.{◌≤◌, ◌+◌, ℕ, List, Option}
use Rattle.af_answer.specs.AnswerTrace.{attends, attends_all}
use Rattle.af_toolkit.specs.ToolParts.{link_sight}
use Rattle.af_answer.specs.AnswerParts.{seen_as}
use Rattle.af_answer.proofs.AnswerPartLemmas.{GotTo, StaysUsable}
use Rattle.af_answer.proofs.attend.attend.Given as goal

abbrev pub invariant-loop-left : goal.invariant-loop-left
invariant-loop-left g l = record {
  stays : StaysUsable g.L.Link.left g.L.Link.faults l.fn.conn l.conn;
  children : g.S.Commands.faults l.fn.spawner ≤ g.S.Commands.faults l.spawner;
  few : l.tally.answered + l.left ≤ l.job.calls;
  counted : l.tally.recorded + l.tally.failed ≤ l.tally.answered;
  going : (held : Option (List ℕ)) → GotTo (attends_all l.job) (attends l.left l.job l.tally)
      (seen_as (link_sight g.L.Link.left g.L.Link.sent l.fn.conn) (g.S.Commands.acts l.fn.spawner) held) (seen_as (link_sight g.L.Link.left g.L.Link.sent l.conn) (g.S.Commands.acts l.spawner) held);
}

abbrev pub decreases-loop-left : goal.decreases-loop-left
decreases-loop-left g l = l.left
