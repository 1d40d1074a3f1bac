use Rattle.std.proofs.Common.{length}
use Rattle.af_exchange.specs.Dialogue.{PassesOver}
use Rattle.af_exchange.proofs.dialogue.pass_comments.Given as goal

abbrev pub invariant-loop-count : goal.invariant-loop-count
invariant-loop-count l = PassesOver l.initial.queue l.queue

abbrev pub decreases-loop-count : goal.decreases-loop-count
decreases-loop-count l = length l.queue
