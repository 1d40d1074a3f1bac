use Rattle.std.proofs.Common.{◌≡◌, ℕ, true, List, length, ap, sym, subst, ◌∙◌}
use Rattle.std.specs.declared.option.Option.TheVariants.{None, Some}
use Rattle.af_card.specs.contracts.between.Between.{the_view}
use Rattle.af_card.specs.Between.{BetweenState, Accounts, CanEmit, hands_frames}
use Rattle.af_card.specs.Lost.{lost_after, without_room}
use Rattle.af_card.proofs.BetweenLemmas.{Accounts-idles, Accounts-no-room, Accounts-passed, empty-where}
use Rattle.af_card.specs.Passing.{PassesSound}
use Rattle.af_card.proofs.PassingLemmas.{passes-sound}
use Rattle.af_card.proofs.between.Between.pass.Goals as goal

pub returns-clause-fits : goal.returns-clause-fits
returns-clause-fits g c =
    let can = subst (λ b. CanEmit b (length c.args.sound.now)) (sym c.self.view_is) c.requires.can in
    let bytes = c.without_room-bytes.ensures ∙
    ap (λ (owed : List ℕ). without_room c.pass_on-took.result (length c.args.sound.now) (length owed)) c.as_slice-2.ensures.bytes in
    let counted = c.lost_after-self-inside-2.ensures ∙ ap (λ n. lost_after c.self.inside.lost n c.self.inside.shape.frame_bytes) bytes in
    subst (λ n. Accounts (record (the_view c.self.inside) { running = Some c.after_give.result; owed = c.pass_on-took.new.owed; tick = None; lost = n })
    (g.P.Program.acts c.pass_on-took.new.program)) (sym counted)
    (Accounts-passed (the_view c.self.inside) c.in-Some.running c.after_give.result c.args.sound.now c.pass_on-took.result c.pass_on-took.new.owed _ _ _ c.in-Some.is
    c.after_give.ensures.began can.0 (subst (λ (b : BetweenState). hands_frames b.shape.kind ≡ true) (sym c.self.view_is) c.requires.kind)
    (empty-where c.self.inside.owed c.as_slice.result.now c.as_slice.ensures.bytes (sym c.is_empty.ensures ∙ c.if-not-is_empty.false)) c.note_emitted.ensures.acts c.pass_on-took.ensures
    (subst (λ b. Accounts b (g.P.Program.acts c.args.program.now)) (sym c.self.view_is) c.requires.fits))

pub returns-then-running-clause-fits : goal.returns-then-running-clause-fits
returns-then-running-clause-fits g c =
    let can = subst (λ b. CanEmit b (length c.args.sound.now)) (sym c.self.view_is) c.requires.can in
    subst (λ n. Accounts (record (the_view c.self.inside) { tick = None; lost = n }) (g.P.Program.acts c.note_emitted.new.self)) (sym c.lost_after-self-inside.ensures)
    (Accounts-no-room (the_view c.self.inside) c.in-Some.running c.args.sound.now _ _ c.in-Some.is can.0
    (subst (λ (b : BetweenState). hands_frames b.shape.kind ≡ true) (sym c.self.view_is) c.requires.kind) c.note_emitted.ensures.acts
    (subst (λ b. Accounts b (g.P.Program.acts c.args.program.now)) (sym c.self.view_is) c.requires.fits))

pub returns-in_default-clause-fits : goal.returns-in_default-clause-fits
returns-in_default-clause-fits g c =
    Accounts-idles (the_view c.self.inside) c.args.sound.now _ _ c.in_default.is c.note_emitted.ensures.acts
    (subst (λ b. Accounts b (g.P.Program.acts c.args.program.now)) (sym c.self.view_is) c.requires.fits)

pub returns-clause-passes : goal.returns-clause-passes
returns-clause-passes g c = λ runs.
    let bytes = c.without_room-bytes.ensures ∙
    ap (λ (owed : List ℕ). without_room c.pass_on-took.result (length c.args.sound.now) (length owed)) c.as_slice-2.ensures.bytes in
    let counted = c.lost_after-self-inside-2.ensures ∙ ap (λ n. lost_after c.self.inside.lost n c.self.inside.shape.frame_bytes) bytes in
    let after : ℕ → BetweenState = λ n. record (the_view c.self.inside) { running = Some c.after_give.result; owed = c.pass_on-took.new.owed; tick = None; lost = n } in
    subst (λ b. PassesSound c.args.at c.args.sound.now b (after c.lost_after-self-inside-2.result) (g.P.Program.acts c.args.program.now) (g.P.Program.acts c.pass_on-took.new.program)) c.self.view_is
    (subst (λ n. PassesSound c.args.at c.args.sound.now (the_view c.self.inside) (after n) (g.P.Program.acts c.args.program.now) (g.P.Program.acts c.pass_on-took.new.program)) (sym counted)
    (passes-sound (the_view c.self.inside) c.in-Some.running c.after_give.result c.args.sound.now c.pass_on-took.result c.pass_on-took.new.owed c.args.at _ _ _ c.in-Some.is
    c.after_give.ensures.after c.if-running.false
    (empty-where c.self.inside.owed c.as_slice.result.now c.as_slice.ensures.bytes (sym c.is_empty.ensures ∙ c.if-not-is_empty.false)) c.note_emitted.ensures.acts c.pass_on-took.ensures))
