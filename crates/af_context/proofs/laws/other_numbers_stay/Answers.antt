use Rattle.std.proofs.Common.{refl}
use Rattle.af_context.specs.Contexts.{with_settings}
use Rattle.af_context.proofs.ContextLemmas.{context_of-changed, context_of-created, context_of-freed}
use Rattle.af_context.proofs.laws.other_numbers_stay.Goals as goal

pub returns : goal.returns
returns c = record {
  created = context_of-created;
  changed = λ contexts ac n play record_to preempt. context_of-changed contexts ac n (with_settings play record_to preempt) (λ _. refl);
  freed = context_of-freed;
}
