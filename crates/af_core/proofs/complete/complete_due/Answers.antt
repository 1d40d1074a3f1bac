use Rattle.std.proofs.Common.{◌∙◌, refl, sym, subst, List}
use Rattle.std.specs.declared.option.Option.{Option}
use Rattle.af_model.specs.State.{LinkState}
use Rattle.af_model.specs.Tick.{complete_due}
use Rattle.af_state.specs.SharedState.{KeptSharedState}
use Rattle.af_state.proofs.DeferralLemmas.{all_later}
use Rattle.af_core.specs.Stands.{AreOrderly, IsBetweenPhases, StandsFor, kept_of}
use Rattle.af_core.proofs.CompletionLemmas.{completes_begin, completes_end, completes_more, completes_false}
use Rattle.af_core.proofs.complete.complete_due.Goals as goal

pub loop-completed-init : goal.loop-completed-init
loop-completed-init c = record {
  kept = c.requires.kept;
  same = λ _. (refl, refl);
  step = λ s h. completes_begin (kept_of c.args.shared.now c.args.slots.now) c.args.device s h;
}

pub loop-completed-preserved : goal.loop-completed-preserved
loop-completed-preserved c = record {
  kept = c.complete_first.ensures.kept;
  same = λ e. absurd cc;
  step = λ t h. completes_more (kept_of c.loop-completed.shared c.loop-completed.slots) _ c.args.device t (c.loop-completed.invariant.step t h) (c.loop-completed-test.ensures.fewer refl) c.loop-completed-test.ensures.step;
}

pub returns-clause-step : goal.returns-clause-step
returns-clause-step c = λ s h.
    let same = c.loop-completed-test.ensures.same refl in
    let end = completes_end (kept_of c.loop-completed.shared c.loop-completed.slots) c.args.device s (c.loop-completed.invariant.step s h) (λ t st. completes_false _ _ _ (c.loop-completed-test.ensures.step t st)) in
    subst (λ (e : KeptSharedState). StandsFor (kept_of e c.complete_first.new.slots) (complete_due c.args.device s)) (sym same.0)
    (subst (λ (links : List (Option LinkState)). StandsFor (kept_of c.loop-completed.shared links) (complete_due c.args.device s)) (sym same.1) end)

pub returns-clause-same : goal.returns-clause-same
returns-clause-same c = λ e.
    let same = c.loop-completed-test.ensures.same refl in
    let begun = c.loop-completed.invariant.same e in
    (same.0 ∙ begun.0, same.1 ∙ begun.1)

pub returns-clause-kept : goal.returns-clause-kept
returns-clause-kept c =
    let same = c.loop-completed-test.ensures.same refl in
    let kept = c.loop-completed.invariant.kept in
    let orderly : AreOrderly c.loop-completed.shared.waits c.loop-completed.slots = record { links = kept.links; settled = kept.settled; later = all_later c.args.device c.loop-completed.shared.waits (c.loop-completed-test.ensures.none refl) kept.later } in
    subst (λ (e : KeptSharedState). IsBetweenPhases (kept_of e c.complete_first.new.slots)) (sym same.0)
    (subst (λ (links : List (Option LinkState)). IsBetweenPhases (kept_of c.loop-completed.shared links)) (sym same.1) (record { orderly = orderly; stands = kept.stands }))
