use Rattle.std.proofs.Common.{◌<◌, ◌^◌, ◌+◌, ℕ, List, Option}
use Rattle.af_process.specs.Acts.{Told}
use Rattle.af_answer.specs.AnswerTrace.{awaits_call, most_for_a_call}
use Rattle.af_toolkit.specs.ToolParts.{link_sight}
use Rattle.af_answer.specs.AnswerParts.{seen_as}
use Rattle.af_answer.proofs.AnswerPartLemmas.{GotTo, StaysUsable}
use Rattle.af_answer.proofs.rings.await_call.Given as goal

abbrev pub invariant-loop-allowed : goal.invariant-loop-allowed
invariant-loop-allowed g l = record {
  stays : StaysUsable g.L.Link.left g.L.Link.faults l.initial.conn l.conn;
  few : l.rings + l.allowed < 2 ^ 32;
  waiting : (acts : Option (List Told)) (held : Option (List ℕ)) → GotTo (awaits_call most_for_a_call l.job 0) (awaits_call l.allowed l.job l.rings)
      (seen_as (link_sight g.L.Link.left g.L.Link.sent l.initial.conn) acts held) (seen_as (link_sight g.L.Link.left g.L.Link.sent l.conn) acts held);
}

abbrev pub decreases-loop-allowed : goal.decreases-loop-allowed
decreases-loop-allowed g l = l.allowed
