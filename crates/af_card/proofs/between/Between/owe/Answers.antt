use Rattle.std.proofs.Common.{◌≡◌, ◌≢◌, length, refl, sym, subst}
use Rattle.std.specs.declared.option.Option.TheVariants.{None}
use Rattle.af_world.specs.declared.card_kind.CardKind.TheVariants as kind
use Rattle.af_card.specs.contracts.between.Between.{the_view}
use Rattle.af_card.specs.Between.{BetweenState, Accounts, CanEmit}
use Rattle.af_card.proofs.BetweenLemmas.{Accounts-owed-running}
use Rattle.af_card.proofs.between.Between.owe.Goals as goal

pub returns-clause-fits : goal.returns-clause-fits
returns-clause-fits g c =
    let can = subst (λ b. CanEmit b (length c.args.sound.now)) (sym c.self.view_is) c.requires.can in
    subst (λ x. Accounts (record (the_view c.self.inside) { owed = x; tick = None }) (g.P.Program.acts c.note_emitted.new.self)) (sym c.append.ensures)
    (Accounts-owed-running (the_view c.self.inside) c.self.inside.running c.args.sound.now _ _ refl
    (subst (λ (b : BetweenState). b.running ≢ None) (sym c.self.view_is) c.requires.runs) can.0
    (subst (λ (b : BetweenState). b.shape.kind ≡ kind.Speaker) (sym c.self.view_is) c.requires.kind) can.2 c.note_emitted.ensures.acts
    (subst (λ b. Accounts b (g.P.Program.acts c.args.program.now)) (sym c.self.view_is) c.requires.fits))
