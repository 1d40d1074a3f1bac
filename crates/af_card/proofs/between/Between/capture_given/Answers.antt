use Rattle.std.proofs.Common.{◌≡◌, ◌≢◌, true, length, take, drop, refl, sym, ap, subst, ◌∙◌}
use Rattle.std.specs.declared.option.Option.TheVariants.{None}
use Rattle.af_card.specs.contracts.between.Between.{the_view}
use Rattle.af_card.specs.Between.{BetweenState, Accounts, CanCapture, gives_sound}
use Rattle.af_card.proofs.BetweenLemmas.{Accounts-given-sound}
use Rattle.af_card.proofs.between.Between.capture_given.Goals as goal

pub returns-clause-fits : goal.returns-clause-fits
returns-clause-fits g c =
    let can = subst (λ b. CanCapture b (length c.args.into.now)) (sym c.self.view_is) c.requires.can in
    Accounts-given-sound (the_view c.self.inside) c.self.inside.running (length c.args.into.now) c.copy_from_slice.new.self c.drop_front.new.self _ _ refl
    (subst (λ (b : BetweenState). b.running ≢ None) (sym c.self.view_is) c.requires.runs) can.0
    (subst (λ (b : BetweenState). gives_sound b.shape.kind ≡ true) (sym c.self.view_is) c.requires.gives) can.1
    (c.copy_from_slice.ensures.after ∙ ap (take (length c.args.into.now)) c.as_slice.ensures.bytes)
    (c.drop_front.ensures ∙ ap (λ n. drop n c.self.inside.input) c.copy_from_slice.ensures.len) c.note_captured.ensures.acts (subst (λ b. Accounts b (g.P.Program.acts c.args.program.now)) (sym c.self.view_is) c.requires.fits)
