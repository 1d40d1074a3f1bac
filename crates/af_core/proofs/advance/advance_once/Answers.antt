use Rattle.std.proofs.Common.{◌≡◌, ◌∙◌, ap, sym, cond, rules}
use Rattle.af_wire.specs.Front.{frame_front, setup_front}
use Rattle.af_model.specs.State.{open_link}
use Rattle.af_model.specs.Advance.{after_frame, after_setup, takes_more}
use Rattle.af_state.specs.Deferrals.{has_waiting}
use Rattle.af_state.specs.SharedState.{KeptSharedState}
use Rattle.af_core.proofs.AdvanceStepLemmas.{takes_none, takes_front}
use Rattle.af_core.proofs.advance.advance_once.Goals.{After-takes_more}
use Rattle.af_core.proofs.advance.advance_once.Goals as goal

-- whether the link takes more, as it was asked
takes_is : (c : After-takes_more) → takes_more (has_waiting c.args.shared.now.waits c.args.number) c.args.link.now ≡ c.takes_more.result
takes_is c = ap (λ b. takes_more b c.args.link.now) (sym (ap (λ (e : KeptSharedState). has_waiting e.waits c.args.number) c.shared.view_is) ∙ sym c.is_waiting.ensures) ∙ sym c.takes_more.ensures.takes

pub returns-then-not-takes_more-clause-step : goal.returns-then-not-takes_more-clause-step
returns-then-not-takes_more-clause-step c = λ a h. takes_none c.args.shared.now c.args.number a c.args.link.now (takes_is (goal.at.returns-then-not-takes_more-clause-step c).After-takes_more ∙ c.if-not-takes_more.true) h

pub returns-then-is_set_up-clause-step : goal.returns-then-is_set_up-clause-step
returns-then-is_set_up-clause-step c = λ a h.
    let p = open_link a c.args.link.now in
    takes_front c.args.shared.now _ c.args.number a c.args.link.now _ _ _ (takes_is (goal.at.returns-then-is_set_up-clause-step c).After-takes_more ∙ c.if-not-takes_more.false)
    (ap (λ b. cond b (after_frame c.args.number (frame_front c.args.link.now.order c.args.link.now.rest) p) (after_setup (setup_front c.args.link.now.rest) p)) (sym c.is_set_up.ensures ∙ c.if-is_set_up.true)) h (c.frame_once.ensures.step a h)

pub returns-else-is_set_up-clause-step : goal.returns-else-is_set_up-clause-step
returns-else-is_set_up-clause-step c = λ a h.
    let p = open_link a c.args.link.now in
    takes_front c.args.shared.now _ c.args.number a c.args.link.now _ _ _ (takes_is (goal.at.returns-else-is_set_up-clause-step c).After-takes_more ∙ c.if-not-takes_more.false)
    (ap (λ b. cond b (after_frame c.args.number (frame_front c.args.link.now.order c.args.link.now.rest) p) (after_setup (setup_front c.args.link.now.rest) p)) (sym c.is_set_up.ensures ∙ c.if-is_set_up.false)) h (c.setup_once.ensures.step a h)

pub frame_once-requires-clause-asks : goal.frame_once-requires-clause-asks
frame_once-requires-clause-asks c = record { number = c.requires.number; free = search rules; room = search rules }
