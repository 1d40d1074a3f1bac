use Rattle.af_context.proofs.ContextLemmas.{AreContexts-nil}
use Rattle.af_context.proofs.list.Contexts.clear.Goals as goal

pub invariant_of-self : goal.invariant_of-self
invariant_of-self c = AreContexts-nil _ c.clear.ensures
