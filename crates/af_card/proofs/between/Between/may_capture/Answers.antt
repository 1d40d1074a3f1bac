use Rattle.std.proofs.Common.{◌≤◌, length, sym, subst, ◌∙◌}
use Rattle.af_card.specs.contracts.between.Between.{the_view}
use Rattle.af_card.specs.Between.{CanCapture}
use Rattle.af_card.proofs.BetweenLemmas.{can-capture, can-capture-silence, none-where}
use Rattle.af_card.proofs.between.Between.may_capture.Goals as goal

pub returns-then-bytes-as_slice-clause-can : goal.returns-then-bytes-as_slice-clause-can
returns-then-bytes-as_slice-clause-can c = λ whole.
    subst (λ b. CanCapture b c.args.bytes) c.self.view_is
    (can-capture (the_view c.self.inside) c.args.bytes (none-where c.self.inside.tick (sym c.is_some.ensures ∙ c.if-is_some.false))
    (subst (λ xs. c.args.bytes ≤ length xs) c.as_slice.ensures.bytes c.if-bytes-as_slice.true) whole)

pub returns-in-Some-2-clause-can : goal.returns-in-Some-2-clause-can
returns-in-Some-2-clause-can c = λ whole.
    subst (λ b. CanCapture b c.args.bytes) c.self.view_is
    (can-capture-silence (the_view c.self.inside) c.args.bytes (none-where c.self.inside.tick (sym c.is_some.ensures ∙ c.if-is_some.false)) (sym c.gives_sound.ensures ∙ c.if-gives_sound.false) whole)
