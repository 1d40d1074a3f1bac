use Rattle.std.proofs.Common.{◌≡◌, ◌⊎◌, length, refl, sym, subst}
use Rattle.std.specs.declared.option.Option.TheVariants.{None}
use Rattle.af_world.specs.declared.card_kind.CardKind.TheVariants as kind
use Rattle.af_card.specs.contracts.between.Between.{the_view}
use Rattle.af_card.specs.Between.{BetweenState, Accounts, CanEmit}
use Rattle.af_card.proofs.BetweenLemmas.{Accounts-nobody}
use Rattle.af_card.proofs.between.Between.lose.Goals as goal

pub returns-clause-fits : goal.returns-clause-fits
returns-clause-fits g c =
    let can = subst (λ b. CanEmit b (length c.args.sound.now)) (sym c.self.view_is) c.requires.can in
    Accounts-nobody (the_view c.self.inside) c.self.inside.running c.args.sound.now _ _ refl can.0
    (subst (λ (b : BetweenState). (b.running ≡ None) ⊎ (b.shape.kind ≡ kind.Microphone)) (sym c.self.view_is) c.requires.kind) c.note_emitted.ensures.acts
    (subst (λ b. Accounts b (g.P.Program.acts c.args.program.now)) (sym c.self.view_is) c.requires.fits)
