use Rattle.std.proofs.Common.{subst, []}
use Rattle.af_exchange.specs.Fronts.{SaysMore}
use Rattle.af_exchange.proofs.RunLemmas.{passes-on}
use Rattle.af_exchange.proofs.dialogue.pass_comments.Goals as goal

pub loop-count-preserved : goal.loop-count-preserved
loop-count-preserved c =
    passes-on c.args.queue.now c.loop-count.queue c.drop_front.new.self c.in-Comment.count c.loop-count.invariant
    (subst (λ xs. SaysMore [] c.in-Comment.count xs) c.as_slice.ensures.bytes c.in-Comment.ensures) c.drop_front.ensures
