use Rattle.std.proofs.Common.{◌+◌, ◌-◌, ◌∙◌, ap, arith, length, length-set, refl, slice_set, subst, sym}
use Rattle.std.proofs.lemmas.Option.{slice_get-get_or}
use Rattle.af_model.specs.More.{open_wants}
use Rattle.af_state.specs.Deferrals.{has_waiting}
use Rattle.af_state.specs.SharedState.{KeptSharedState}
use Rattle.af_core.specs.declared.wanting_span.WantingSpan.{WantingSpan}
use Rattle.af_core.specs.Stands.{NoneOpenFrom}
use Rattle.af_core.proofs.FoundLemmas.{FoundBelow, found_bounds, found_idle, found_none, found_one, served_wants}
use Rattle.af_core.proofs.LinkPhaseLemmas.{settled_here, settled_set, next_served, link_here}
use Rattle.af_core.proofs.OpenBelowLemmas.{none_open_set}
use Rattle.af_core.proofs.TurnLemmas.{simulates_keep}
use Rattle.af_core.proofs.WantsWithinLemmas.{before_quiet, rest_quiet, within_set}
use Rattle.af_core.proofs.slot.serve_slots.Goals as goal
use Rattle.af_core.proofs.slot.serve_slots.Goals.{then-wants_turn, else-wants_turn}

pub loop-number-init : goal.loop-number-init
loop-number-init g c =
    let count = c.requires.kept.orderly.links in
    let low = c.requires.bounds.from in
    let is = c.with_none_wanting.ensures in
    record {
      kept = c.requires.kept.orderly;
      same = ap (λ (b : WantingSpan). b.open_below) is;
      none_open = c.requires.bounds.none_open;
      from = omega arith;
      wants = c.requires.bounds.wants;
      found = subst (λ (b : WantingSpan). FoundBelow c.args.bounds.now.wants_from b c.args.shared.now.waits c.args.slots.now) (sym is)
          (found_none c.args.bounds.now.wants_from c.args.bounds.now c.args.shared.now.waits c.args.slots.now c.requires.bounds.wants.before);
      leads = g.met.W.World.leads_to_itself _;
      simulates = before_quiet _ _ _ _ (omega (arith, count, low)) c.requires.bounds.wants.before;
    }

pub loop-number-preserved : goal.loop-number-preserved
loop-number-preserved g c =
    let h = c.loop-number.invariant in
    let k = c.loop-number.number in
    let from = h.from in
    let same = h.same in
    let most = c.requires.bounds.most in
    let within = c.requires.bounds.within in
    let waits = c.serve.new.shared.waits in
    let wants = served_wants waits c.loop-number.slots k _ c.serve.new.self (slice_get-get_or c.loop-number.slots k c.index-slots-number.result (omega arith))
    ∙ ap (λ (e : KeptSharedState). open_wants (has_waiting e.waits k) c.serve.new.self) (sym c.shared.view_is) ∙ sym c.wants_turn.ensures in
    record {
      leads = g.met.W.World.leads_on _ _ _ h.leads c.serve.ensures.leads;
      kept = record {
        links = length-set c.loop-number.slots k c.serve.new.self ∙ h.kept.links;
        settled = settled_set c.loop-number.shared.waits _ c.loop-number.slots k _ h.kept.settled c.serve.ensures.leaves_others.others c.serve.ensures.settled;
        later = c.serve.ensures.leaves_others.later h.kept.later;
      };
      from = omega (arith, from);
      same = elim c.if-wants_turn.branch [
        | then-wants_turn w ↦ ap (λ (b : WantingSpan). b.open_below) (w.bounds-is ∙ w.include.ensures) ∙ same
        | else-wants_turn w ↦ ap (λ (b : WantingSpan). b.open_below) w.bounds-is ∙ same
      ];
      none_open = none_open_set _ k c.loop-number.slots _ (omega (arith, within)) h.none_open;
      wants = within_set _ _ k c.loop-number.shared.waits _ c.loop-number.slots _ from (omega arith) c.serve.ensures.leaves_others.others h.wants;
      found = elim c.if-wants_turn.branch [
        | then-wants_turn w ↦
            subst (λ (b : WantingSpan). FoundBelow (k + 1) b waits (slice_set c.loop-number.slots k c.serve.new.self)) (sym (w.bounds-is ∙ w.include.ensures))
            (found_one k c.loop-number.bounds c.loop-number.shared.waits waits c.loop-number.slots c.serve.new.self (omega (arith, most, within)) (omega (arith, same, within)) c.serve.ensures.leaves_others.others (wants ∙ w.if-wants_turn.true) h.found)
        | else-wants_turn w ↦
            subst (λ (b : WantingSpan). FoundBelow (k + 1) b waits (slice_set c.loop-number.slots k c.serve.new.self)) (sym w.bounds-is)
            (found_idle k c.loop-number.bounds c.loop-number.shared.waits waits c.loop-number.slots c.serve.new.self c.serve.ensures.leaves_others.others (wants ∙ w.if-wants_turn.false) h.found)
      ];
      simulates = next_served _ _ _ _ _ k _ _ _ _ _ _ (omega arith) (link_here c.loop-number.slots k _ (omega arith)) h.simulates c.serve.ensures.simulates;
    }

pub returns-clause-simulates : goal.returns-clause-simulates
returns-clause-simulates g c =
    rest_quiet _ _ (length c.args.slots.now - c.loop-number.number) c.loop-number.number _ _ (λ k from. c.loop-number.invariant.wants.after k (omega (arith, from))) c.loop-number.invariant.simulates

pub returns-clause-kept : goal.returns-clause-kept
returns-clause-kept g c = simulates_keep _ _ (returns-clause-simulates g c) c.requires.kept c.loop-number.invariant.kept

pub returns-clause-bounds : goal.returns-clause-bounds
returns-clause-bounds g c =
    let h = c.loop-number.invariant in
    let most = c.requires.bounds.most in
    let same = h.same in
    found_bounds c.loop-number.number c.args.bounds.now.wants_from c.args.bounds.now.wants_below c.loop-number.bounds _ _ (omega arith) (omega (arith, most, same))
    (subst (λ n. NoneOpenFrom n c.loop-number.slots) (sym same) h.none_open) h.wants h.found

pub returns-clause-exact : goal.returns-clause-exact
returns-clause-exact g c = c.loop-number.invariant.found.exact

pub serve-requires-clause-settled : goal.serve-requires-clause-settled
serve-requires-clause-settled g c = settled_here c.loop-number.shared.waits c.loop-number.slots c.loop-number.number c.loop-number.number _ _ c.loop-number.invariant.kept.settled refl refl (omega arith)
