use Rattle.std.proofs.Common.{◌≡◌, ◌∙◌, ℕ, [], ap, sym, true, length-set, find, get_or, option_map, slice_set, refl, subst, rules}
use Rattle.std.specs.declared.option.Option.{Option}
use Rattle.std.specs.declared.option.Option.TheVariants.{Some}
use Rattle.af_wait.specs.Waits.{without_first}
use Rattle.af_state.specs.Deferrals.{KeptDeferral, has_waiting, kept_due, OnlyQueues}
use Rattle.af_state.specs.SharedState.{KeptSharedState}
use Rattle.af_state.proofs.DeferralLemmas.{only_queues_but, later_but}
use Rattle.af_model.specs.State.{State}
use Rattle.af_model.specs.Tick.{complete_step}
use Rattle.af_core.specs.Stands.{CompletesTo, IsSettled, StandsFor, kept_of}
use Rattle.af_core.proofs.CompletionLemmas.{completes_first, completes_none, completes_state, none_link, others_stay, one_less}
use Rattle.af_core.proofs.LinkPhaseLemmas.{link_here, settled_here, settled_set}
use Rattle.af_core.proofs.complete.complete_first.Goals.{After-complete}
use Rattle.af_core.proofs.complete.complete_first.Goals as goal

-- what is due, by the waits that are kept
due_is : (env : KeptSharedState) (d : ℕ) (inside : KeptSharedState) {o : Option ℕ} → o ≡ option_map (λ (k : KeptDeferral). k.wait.link) (find (kept_due d) inside.waits) → inside ≡ env → o ≡ option_map (λ (k : KeptDeferral). k.wait.link) (find (kept_due d) env.waits)
due_is env d inside e is = e ∙ ap (λ (x : KeptSharedState). option_map (λ (k : KeptDeferral). k.wait.link) (find (kept_due d) x.waits)) is

pub complete-requires-clause-stands : goal.complete-requires-clause-stands
complete-requires-clause-stands c =
    let s = c.requires.kept.stands in (record { devices = s.0.devices; waiting = s.0.waiting; said = [] }, (s.1.devices, s.1.waiting))

pub complete-requires-clause-settled : goal.complete-requires-clause-settled
complete-requires-clause-settled c =
    settled_here c.args.shared.now.waits c.args.slots.now c.from.result c.in-Some.number _ _ c.requires.kept.settled (sym c.from.ensures) refl (search rules)

-- the link whose request is due, as the place of its slot
due_link : (c : After-complete) → option_map (λ (k : KeptDeferral). k.wait.link) (find (kept_due c.args.device) c.args.shared.now.waits) ≡ Some c.from.result
due_link c = sym (due_is _ c.args.device _ c.first_due.ensures.earliest c.shared.view_is) ∙ c.in-Some.is ∙ ap (λ i. Some i) (sym c.from.ensures)

pub complete-requires-clause-due : goal.complete-requires-clause-due
complete-requires-clause-due c = sym (due_is _ c.args.device _ c.first_due.ensures.earliest c.shared.view_is) ∙ c.in-Some.is

grown : (c : After-complete) → OnlyQueues c.from.result (without_first (kept_due c.args.device) c.args.shared.now.waits) c.complete.new.shared.waits
grown c = subst (λ i. OnlyQueues i (without_first (kept_due c.args.device) c.args.shared.now.waits) c.complete.new.shared.waits) (sym c.from.ensures) c.complete.ensures.only_queues

step : (c : After-complete) → (s : State) → StandsFor (kept_of c.args.shared.now c.args.slots.now) s → CompletesTo true (complete_step c.args.device s) (kept_of c.complete.new.shared (slice_set c.args.slots.now c.from.result c.complete.new.self))
step c =
    completes_first c.args.shared.now _ c.args.slots.now (get_or c.args.slots.now c.from.result c.index-slots-from.result) _ c.args.device c.from.result (due_link c)
    (link_here c.args.slots.now c.from.result _ (search rules)) c.complete.ensures.step

pub returns-in-Some-clause-step : goal.returns-in-Some-clause-step
returns-in-Some-clause-step c = step (goal.at.returns-in-Some-clause-step c).After-complete

pub returns-in-Some-clause-kept : goal.returns-in-Some-clause-kept
returns-in-Some-clause-kept c =
    let kept = c.requires.kept in
    let at = (goal.at.returns-in-Some-clause-kept c).After-complete in
    let size = length-set c.args.slots.now c.from.result c.complete.new.self in
    record {
      links = size ∙ kept.links;
      settled = settled_set c.args.shared.now.waits _ c.args.slots.now c.from.result _ kept.settled (λ j apart. others_stay c.args.device j c.from.result c.args.shared.now.waits _ (due_link at) (grown at) apart)
          (λ l e. subst (λ i. IsSettled (has_waiting c.complete.new.shared.waits i) l) (sym c.from.ensures) (c.complete.ensures.settled l e));
      later = only_queues_but c.from.result c.args.device _ _ (grown at) (later_but c.args.device c.args.shared.now.waits kept.later);
      stands = completes_state _ _ (step at kept.stands.0 kept.stands.1);
    }

pub returns-in-Some-clause-fewer : goal.returns-in-Some-clause-fewer
returns-in-Some-clause-fewer c = let at = (goal.at.returns-in-Some-clause-fewer c).After-complete in λ t. one_less c.args.device c.from.result c.args.shared.now.waits _ (due_link at) (grown at)

pub returns-in-None-clause-step : goal.returns-in-None-clause-step
returns-in-None-clause-step c =
    completes_none (kept_of c.args.shared.now c.args.slots.now) c.args.device
    (none_link c.args.device (find (kept_due c.args.device) c.args.shared.now.waits) (sym (due_is _ c.args.device _ c.first_due.ensures.earliest c.shared.view_is) ∙ c.in-None.is))

pub returns-in-None-clause-none : goal.returns-in-None-clause-none
returns-in-None-clause-none c = λ f. none_link c.args.device (find (kept_due c.args.device) c.args.shared.now.waits) (sym (due_is _ c.args.device _ c.first_due.ensures.earliest c.shared.view_is) ∙ c.in-None.is)
