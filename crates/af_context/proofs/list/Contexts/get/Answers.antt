use Rattle.std.proofs.Common.{◌∙◌, ap, subst, sym, List, get_or, Ok}
use Rattle.af_context.specs.declared.Context.{Context}
use Rattle.af_context.specs.Contexts.{IsPlaceOf}
use Rattle.af_context.proofs.ContextLemmas.{found-number}
use Rattle.af_context.proofs.list.Contexts.get.Goals as goal

pub returns-in-Ok-clause-number : goal.returns-in-Ok-clause-number
returns-in-Ok-clause-number c =
    let at = c.in-Ok.at in
    let place = subst (λ (xs : List Context). IsPlaceOf xs c.args.ac (Ok at)) (c.deref.ensures.0 ∙ c.self.view_is) c.in-Ok.ensures in
    let is = ap (λ (xs : List Context). get_or xs at c.index-deref-at.result) (sym (c.deref-in-Ok.ensures.0 ∙ c.self.view_is)) ∙ sym c.index-deref-at.is in
    (ap (λ (x : Context). x.ac) (sym is) ∙ found-number _ _ _ c.index-deref-at.result place, (at, place.0, is))
