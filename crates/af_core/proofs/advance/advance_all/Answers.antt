use Rattle.std.proofs.Common.{sym, ◌∙◌, arith, refl, inr, ⊎_elim, rules}
use Rattle.af_core.proofs.AdvanceStepLemmas.{goes_on, ends, nothing_there}
use Rattle.af_state.proofs.DeferralLemmas.{only_queues_on}
use Rattle.af_model.specs.State.{open_link}
use Rattle.af_core.proofs.advance.advance_all.Goals as goal

pub loop-shared-preserved : goal.loop-shared-preserved
loop-shared-preserved c = record {
  number = omega arith;
  answered = let s = c.if-not-advance_once.ensures.shorter refl in inr (⊎_elim (λ e. rw (← e) s) (λ less. omega arith) c.loop-shared.invariant.answered);
  room = λ w. let few = c.if-not-advance_once.ensures.small_pending refl w in omega (arith, few);
  only_queues = only_queues_on _ _ _ _ c.loop-shared.invariant.only_queues c.advance_once.ensures.only_queues;
  on = λ a h.
      let before = c.loop-shared.invariant.on a h in
      let on = goes_on c.args.number (open_link before.0 c.loop-shared.link) _ _ (c.if-not-advance_once.ensures.step before.0 before.1) in
      (on.0, on.1, on.2 ∙ before.2);
}

pub returns-then-not-advance_once : goal.returns-then-not-advance_once
returns-then-not-advance_once c = record {
  step = λ a h.
      let before = c.loop-shared.invariant.on a h in
      let same = c.if-not-advance_once.ensures.same refl in
      let e = sym before.2 ∙ ends c.args.number (open_link before.0 c.loop-shared.link) _ _ (c.if-not-advance_once.ensures.step before.0 before.1) in
      rw e (rw same.0 before.1, sym same.1);
  settled = search rules;
  answered = search rules;
  only_queues = search rules;
}

pub returns : goal.returns
returns c = record {
  step = λ a h.
      let before = c.loop-shared.invariant.on a h in
      let e = sym before.2 ∙ nothing_there c.args.number (open_link before.0 c.loop-shared.link) (search rules) in
      rw e (before.1, refl);
  settled = search rules;
  answered = search rules;
  only_queues = search rules;
}
