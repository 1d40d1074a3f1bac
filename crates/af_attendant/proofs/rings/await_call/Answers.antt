use Rattle.std.proofs.Common.{rules, arith, ◌≡◌, ◌∙◌, ◌-◌, refl, sym, true, false, Ok, Err}
use Rattle.af_attendant.specs.AttendantTrace.{awaits_call, rang_too_little}
use Rattle.af_attendant.specs.Line.{is_taken}
use Rattle.af_answer.proofs.AnswerStepLemmas.{event_stays}
use Rattle.af_attendant.proofs.AttendantPartLemmas.{went_by, went_here, went_on, went_stop, went_stops}
use Rattle.af_attendant.proofs.AttendantStepLemmas.{awaited_fault, awaited_went}
use Rattle.af_attendant.proofs.StandingLemmas.{awaits_next, not_taken_here, taken_here}
use Rattle.af_attendant.proofs.rings.await_call.Goals as goal

pub loop-allowed-init : goal.loop-allowed-init
loop-allowed-init g c = record {
  stays = record { usable = c.requires; devices = refl; tells = λ told. told; count = omega arith };
  waiting = λ acts held. went_here;
}

pub returns-in_err-event-clause-goes : goal.returns-in_err-event-clause-goes
returns-in_err-event-clause-goes g c acts held =
    let i = c.loop-allowed.invariant in
    went_by (i.waiting acts held) (rw (awaits_next c.loop-allowed.allowed c.args.job.now (omega arith))
    (went_stop _ (search rules) (awaited_fault c.args.job.now c.in_err-event.field-0.0 c.in_err-event.ensures i.stays.usable)))

pub returns-then-is_taken-clause-goes : goal.returns-then-is_taken-clause-goes
returns-then-is_taken-clause-goes g c acts held =
    let i = c.loop-allowed.invariant in
    let heard = awaited_went c.args.job.now c.in_ok-event.event c.in_ok-event.ensures i.stays.usable c.hear.ensures in
    let taken : is_taken c.args.job.now c.in_ok-event.event c.hear.new.self ≡ true = search rules in
    went_by (went_on _ (rw (awaits_next c.loop-allowed.allowed c.args.job.now (omega arith)) at (i.waiting acts held)) heard) (taken_here c.args.job.now (awaits_call (c.loop-allowed.allowed - 1) c.args.job.now) c.in_ok-event.event taken)

pub returns-clause-goes : goal.returns-clause-goes
unfolding awaits_call
returns-clause-goes g c acts held =
    let none : c.loop-allowed.allowed ≡ 0 = omega arith in
    went_by (c.loop-allowed.invariant.waiting acts held) (rw none (went_stops rang_too_little refl))

pub loop-allowed-preserved : goal.loop-allowed-preserved
loop-allowed-preserved g c =
    let i = c.loop-allowed.invariant in
    let e = c.in_ok-event.ensures in
    let stays = event_stays e i.stays.usable in
    let other : is_taken c.args.job.now c.in_ok-event.event c.hear.new.self ≡ false = search rules in
    record {
      stays = record {
        usable = stays.0;
        devices = stays.1 ∙ i.stays.devices;
        tells = λ t. e.read.tells (i.stays.tells t);
        count = omega (arith, e.read.counts.0, i.stays.count);
      };
      waiting = λ acts held.
          not_taken_here c.args.job.now (awaits_call (c.loop-allowed.allowed - 1) c.args.job.now) c.in_ok-event.event other
          (went_on _ (rw (awaits_next c.loop-allowed.allowed c.args.job.now (omega arith)) at (i.waiting acts held)) (awaited_went c.args.job.now c.in_ok-event.event e i.stays.usable c.hear.ensures));
    }
