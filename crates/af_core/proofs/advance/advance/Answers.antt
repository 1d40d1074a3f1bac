use Rattle.std.proofs.Common.{refl, inl, rules}
use Rattle.af_model.specs.State.{open_link}
use Rattle.af_core.proofs.AdvanceStepLemmas.{nothing_there}
use Rattle.af_core.proofs.advance.advance.Goals as goal

pub returns-else-has_input : goal.returns-else-has_input
returns-else-has_input c = record {
  step = λ a h. (let e = nothing_there c.args.number (open_link a c.args.link.now) (search rules) in rw e (h, refl));
  settled = search rules;
  answered = inl refl;
  only_queues = search rules;
}
