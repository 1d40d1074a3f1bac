use Rattle.af_context.proofs.ContextLemmas.{AreContexts-nil}
use Rattle.af_context.proofs.list.Contexts.new.Goals as goal

pub invariant_of-result : goal.invariant_of-result
invariant_of-result c = AreContexts-nil _ c.new.ensures
