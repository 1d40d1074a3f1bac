use Rattle.af_context.proofs.ContextLemmas.{without_context-one}
use Rattle.af_context.proofs.laws.one_is_freed.Goals as goal

pub returns : goal.returns
returns c = λ before after x h. without_context-one before after x h.distinct
