use Rattle.std.proofs.Common.{rules, arith, ◌≡◌, ◌∙◌, refl, sym, Ok, Err}
use Rattle.std.proofs.lemmas.Bool.{eq-eqb, ne_eqb}
use Rattle.af_answer.specs.AnswerTrace.{awaits_call, rang_too_little}
use Rattle.af_answer.proofs.AnswerPartLemmas.{went_by, went_here, went_on, went_stop, went_stops, went_value}
use Rattle.af_answer.proofs.AnswerStepLemmas.{awaited_went, event_stays}
use Rattle.af_answer.proofs.CallLemmas.{awaits_next}
use Rattle.af_answer.proofs.rings.await_call.Goals as goal

pub loop-allowed-init : goal.loop-allowed-init
loop-allowed-init g c = record {
  stays = record { usable = c.requires.usable; devices = refl; tells = λ told. told; count = omega arith };
  few = omega arith;
  waiting = λ acts held. went_here;
}

pub returns-in_err-event-clause-goes : goal.returns-in_err-event-clause-goes
returns-in_err-event-clause-goes g c acts held =
    let i = c.loop-allowed.invariant in
    went_by (i.waiting acts held) (rw (awaits_next c.loop-allowed.allowed c.args.job.now c.loop-allowed.rings (omega arith))
    (went_stop _ (search rules) (awaited_went (Err c.in_err-event.field-0.0) c.in_err-event.ensures i.stays.usable)))

pub returns-then-rings-job-clause-goes : goal.returns-then-rings-job-clause-goes
returns-then-rings-job-clause-goes g c acts held =
    let i = c.loop-allowed.invariant in
    let heard = awaited_went (Ok c.in_ok-event.event) c.in_ok-event.ensures i.stays.usable in
    went_by (went_on _ (rw (awaits_next c.loop-allowed.allowed c.args.job.now c.loop-allowed.rings (omega arith)) at (i.waiting acts held)) heard)
    (rw (eq-eqb _ _ (sym c.rings_after-rings.ensures.rings ∙ c.if-rings-job.true)) (went_value tt))

pub returns-clause-goes : goal.returns-clause-goes
unfolding awaits_call
returns-clause-goes g c acts held =
    let none : c.loop-allowed.allowed ≡ 0 = omega arith in
    went_by (c.loop-allowed.invariant.waiting acts held) (rw none (went_stops rang_too_little (refl, λ e. cc e)))

pub loop-allowed-preserved : goal.loop-allowed-preserved
loop-allowed-preserved g c =
    let i = c.loop-allowed.invariant in
    let e = c.in_ok-event.ensures in
    let stays = event_stays e i.stays.usable in
    record {
      stays = record {
        usable = stays.0;
        devices = stays.1 ∙ i.stays.devices;
        tells = λ t. e.read.tells (i.stays.tells t);
        count = omega (arith, e.read.counts.0, i.stays.count);
      };
      few = omega (arith, c.rings_after-rings.ensures.few, i.few);
      waiting = λ acts held.
          rw (ne_eqb _ _ (λ same. c.if-rings-job.false (c.rings_after-rings.ensures.rings ∙ same)), sym c.rings_after-rings.ensures.rings) at
          (went_on _ (rw (awaits_next c.loop-allowed.allowed c.args.job.now c.loop-allowed.rings (omega arith)) at (i.waiting acts held)) (awaited_went (Ok c.in_ok-event.event) e i.stays.usable));
    }
