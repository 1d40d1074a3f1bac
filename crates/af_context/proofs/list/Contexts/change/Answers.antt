use Rattle.std.proofs.Common.{◌≡◌, ◌∙◌, ap, subst, sym, List, Ok, refl, length, set, get_or}
use Rattle.std.specs.List.{refill}
use Rattle.af_context.specs.declared.Context.{Context}
use Rattle.af_context.specs.Contexts.{with_changed, with_settings, AreContexts, IsPlaceOf}
use Rattle.af_context.proofs.ContextLemmas.{found-number, refill-set, set-place, AreContexts-set}
use Rattle.af_context.proofs.list.Contexts.change.Goals as goal

place : (c : goal.After-self-1) → IsPlaceOf c.self.inside.contexts.items c.args.ac (Ok c.in_ok-at.at)
place c = subst (λ (xs : List Context). IsPlaceOf xs c.args.ac (Ok c.in_ok-at.at)) c.deref.ensures.0 c.in_ok-at.ensures

-- the list with the context at its place changed
changed_list : (c : goal.After-self-1) →
    refill (length c.self.inside.contexts.items) c.self.inside.contexts.items (set c.deref_mut.result.now c.in_ok-at.at c.change_settings.new.context)
    ≡ set c.self.inside.contexts.items c.in_ok-at.at (with_settings c.args.play c.args.record_to c.args.preempt (get_or c.self.inside.contexts.items c.in_ok-at.at c.index-deref_mut-at.result))
changed_list c =
    let items = c.self.inside.contexts.items in
    let at = c.in_ok-at.at in
    ap (λ (xs : List Context). refill (length items) items (set xs at c.change_settings.new.context)) c.deref_mut.ensures.value
    ∙ refill-set items at c.change_settings.new.context
    ∙ ap (set items at) (c.change_settings.ensures
    ∙ ap (λ (xs : List Context). with_settings c.args.play c.args.record_to c.args.preempt (get_or xs at c.index-deref_mut-at.result)) c.deref_mut.ensures.value)

contexts : (c : goal.After-self-1) → AreContexts (refill (length c.self.inside.contexts.items) c.self.inside.contexts.items (set c.deref_mut.result.now c.in_ok-at.at c.change_settings.new.context))
contexts c = subst AreContexts (sym (changed_list c)) (AreContexts-set _ _ _ c.index-deref_mut-at.result c.self.invariant (place c).0 refl)

pub invariant_of-self : goal.invariant_of-self
invariant_of-self c = contexts c

pub returns-clause-changed : goal.returns-clause-changed
returns-clause-changed c =
    let change = with_settings c.args.play c.args.record_to c.args.preempt in
    changed_list c
    ∙ set-place _ _ c.index-deref_mut-at.result change c.self.invariant.distinct (place c).0
    ∙ ap (λ ac. with_changed c.self.inside.contexts.items ac change) (found-number _ _ _ c.index-deref_mut-at.result (place c))
    ∙ ap (λ (xs : List Context). with_changed xs c.args.ac change) c.self.view_is

pub returns-clause-list : goal.returns-clause-list
returns-clause-list c = contexts c
