use Rattle.std.proofs.Common.{◌∙◌, ap, subst, sym, List, Ok}
use Rattle.af_context.specs.declared.Context.{Context}
use Rattle.af_context.specs.Contexts.{without_context, AreContexts, IsPlaceOf}
use Rattle.af_context.proofs.ContextLemmas.{found-number, remove-place, AreContexts-remove}
use Rattle.af_context.proofs.list.Contexts.free.Goals as goal

place : (c : goal.After-remove) → IsPlaceOf c.self.inside.contexts.items c.args.ac (Ok c.in_ok-at.at)
place c = subst (λ (xs : List Context). IsPlaceOf xs c.args.ac (Ok c.in_ok-at.at)) c.deref.ensures.0 c.in_ok-at.ensures

contexts : (c : goal.After-remove) → AreContexts c.remove.new.self.items
contexts c = subst AreContexts (sym c.remove.ensures.items) (AreContexts-remove _ _ c.self.invariant (place c).0)

pub invariant_of-self : goal.invariant_of-self
invariant_of-self c = contexts c

pub returns-clause-freed : goal.returns-clause-freed
returns-clause-freed c =
    c.remove.ensures.items
    ∙ remove-place _ _ c.remove.result c.self.invariant.distinct (place c).0
    ∙ ap (without_context c.self.inside.contexts.items) (found-number _ _ _ c.remove.result (place c))
    ∙ ap (λ (xs : List Context). without_context xs c.args.ac) c.self.view_is

pub returns-clause-list : goal.returns-clause-list
returns-clause-list c = contexts c
