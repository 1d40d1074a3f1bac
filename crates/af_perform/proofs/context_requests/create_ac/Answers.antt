use Rattle.std.proofs.Common.{◌∙◌, ap, sym, subst}
use Rattle.af_request.specs.Opcodes as opcodes
use Rattle.af_context.specs.declared.Context.{Context}
use Rattle.af_model.specs.ContextRequests.{create, creation_refusal, requested_context}
use Rattle.af_state.specs.SharedState.{ChangesLink}
use Rattle.af_perform.proofs.LinkRequestLemmas.{matches_refused, matches_passed}
use Rattle.af_perform.proofs.context_requests.create_ac.Goals as goal

pub returns-in-Some-clause-step : goal.returns-in-Some-clause-step
returns-in-Some-clause-step c = λ k ks.
    matches_refused c.args.devices.now ks c.args.link.now _ opcodes.create_ac c.args.asked.device
    (λ own. creation_refusal own c.args.asked.device c.args.asked.ty c.args.asked.channels c.args.asked.preempt c.args.asked.play_gain c.args.asked.record_gain)
    c.in-Some.refusal (create (requested_context c.args.asked.device c.args.asked.ac c.args.asked.ty c.args.asked.preempt c.args.asked.play_gain c.args.asked.record_gain))
    (ap (λ own. creation_refusal own c.args.asked.device c.args.asked.ty c.args.asked.channels c.args.asked.preempt c.args.asked.play_gain c.args.asked.record_gain) (sym c.channels_at.ensures) ∙ sym c.creation_refusal.ensures ∙ c.in-Some.is) c.refuse.ensures

pub returns-in-None-clause-step : goal.returns-in-None-clause-step
returns-in-None-clause-step c = λ k ks.
    matches_passed c.args.devices.now ks c.args.link.now _ opcodes.create_ac c.args.asked.device
    (λ own. creation_refusal own c.args.asked.device c.args.asked.ty c.args.asked.channels c.args.asked.preempt c.args.asked.play_gain c.args.asked.record_gain)
    (create (requested_context c.args.asked.device c.args.asked.ac c.args.asked.ty c.args.asked.preempt c.args.asked.play_gain c.args.asked.record_gain))
    (ap (λ own. creation_refusal own c.args.asked.device c.args.asked.ty c.args.asked.channels c.args.asked.preempt c.args.asked.play_gain c.args.asked.record_gain) (sym c.channels_at.ensures) ∙ sym c.creation_refusal.ensures ∙ c.in-None.is)
    (subst (λ (x : Context). ChangesLink (create x) c.args.link.now c.create.new.link) c.described.ensures c.create.ensures.step)
