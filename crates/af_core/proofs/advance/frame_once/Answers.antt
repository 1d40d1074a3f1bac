use Rattle.std.proofs.Common.{◌≡◌, ◌∙◌, ap, sym, subst, length, take, rules, true, length-take-le}
use Rattle.af_wire.specs.declared.front.Front.TheVariants.{Frame}
use Rattle.af_wire.specs.Front.{frame_front}
use Rattle.af_model.specs.State.{open_link}
use Rattle.af_model.specs.Advance.{after_frame}
use Rattle.af_core.specs.Stands.{AdvancesTo}
use Rattle.af_core.proofs.advance.frame_once.Goals as goal

pub returns-in-Frame-clause-step : goal.returns-in-Frame-clause-step
returns-in-Frame-clause-step c = λ a h.
    let front : frame_front c.args.link.now.order c.args.link.now.rest ≡ Frame c.in-Frame.n =
    ap (λ o. frame_front o c.args.link.now.rest) (sym c.order.ensures) ∙ ap (frame_front c.order.result) (sym c.rest.ensures.bytes) ∙ sym c.frame_at.ensures.value ∙ c.in-Frame.is in
    let size : length (take c.in-Frame.n c.args.input.now) ≡ c.in-Frame.n = length-take-le c.in-Frame.n c.args.input.now (search rules) in
    subst (λ f. AdvancesTo true (after_frame c.args.number f (open_link a c.args.link.now)) c.perform_front.new.shared c.perform_front.new.link) (sym front)
    (subst (λ m. AdvancesTo true (after_frame c.args.number (Frame m) (open_link a c.args.link.now)) c.perform_front.new.shared c.perform_front.new.link) size (c.perform_front.ensures.step a h))
