use Rattle.std.proofs.Common.{◌≡◌, ◌⊎◌, false, length, refl, sym, subst}
use Rattle.std.specs.declared.option.Option.TheVariants.{None}
use Rattle.af_card.specs.contracts.between.Between.{the_view}
use Rattle.af_card.specs.Between.{BetweenState, Accounts, CanCapture, CapturesOf, gives_sound}
use Rattle.af_card.proofs.BetweenLemmas.{Accounts-silence}
use Rattle.af_card.proofs.between.Between.capture_silence.Goals as goal

pub returns-clause-fits : goal.returns-clause-fits
returns-clause-fits g c =
    let can = subst (λ b. CanCapture b (length c.args.into.now)) (sym c.self.view_is) c.requires.can in
    Accounts-silence (the_view c.self.inside) c.self.inside.running c.silence.new.into _ _ refl can.0
    (subst (λ (b : BetweenState). (b.running ≡ None) ⊎ (gives_sound b.shape.kind ≡ false)) (sym c.self.view_is) c.requires.none)
    (subst (λ n. CapturesOf c.self.inside.running c.self.inside.shape c.self.inside.input n) (sym c.silence.ensures.len) can.1) c.silence.ensures.silent
    c.note_captured.ensures.acts (subst (λ b. Accounts b (g.P.Program.acts c.args.program.now)) (sym c.self.view_is) c.requires.fits)
