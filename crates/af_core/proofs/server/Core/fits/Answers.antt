use Rattle.std.proofs.Common.{◌∙◌, ap, sym, subst}
use Rattle.af_model.specs.State.{outline_with}
use Rattle.af_model.specs.Turn.{fits}
use Rattle.af_core.specs.declared.server.Core.TheInside.{Inside}
use Rattle.af_core.specs.Stands.{Kept, Stands, kept_lines, kept_of, outline_of}
use Rattle.af_core.proofs.TurnLemmas.{same_outline}
use Rattle.af_core.proofs.server.Core.fits.Goals as goal

pub returns-clause-shows : goal.returns-clause-shows
returns-clause-shows c = λ s st.
    let stands = subst (λ (k : Kept). Stands k s) (sym c.self.view_is) st in
    let wake = c.args.wake.now in
    c.fits_now.ensures ∙ ap (λ ds. fits (outline_with (kept_lines ds) c.deref-2.result.now) wake) c.deref.ensures.value ∙ ap (λ links. fits (outline_with (kept_lines c.self-inside.inside.0.0.devices.items) links) wake) c.deref-2.ensures.value
    ∙ ap (λ (x : Inside). fits (outline_of (kept_of x.shared x.slots.items)) wake) c.self-inside.view_is ∙ ap (λ o. fits o wake) (sym (same_outline _ s stands.kept))
