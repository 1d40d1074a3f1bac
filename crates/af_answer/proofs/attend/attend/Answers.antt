use Rattle.std.proofs.Common.{rules, arith, ◌≡◌, ◌≤◌, ◌+◌, ◌∙◌, true, false, refl, ap, sym, subst}
use Rattle.af_lib.specs.Calls.{ConnState}
use Rattle.af_answer.specs.declared.tally.Tally.{Tally}
use Rattle.af_answer.specs.AnswerTrace.{attends, attends_all, child_starved}
use Rattle.af_answer.specs.Children.{is_starved}
use Rattle.af_answer.proofs.AnswerPartLemmas.{went_by, went_here, went_on, went_stop, went_stops, went_through, went_value}
use Rattle.af_answer.proofs.AnswerStepLemmas.{requested_went}
use Rattle.af_answer.proofs.CallLemmas.{attends_next}
use Rattle.af_answer.proofs.attend.attend.Goals as goal

pub returns-in_err-select_events-clause-goes : goal.returns-in_err-select_events-clause-goes
unfolding attends_all
returns-in_err-select_events-clause-goes g c held = went_stop _ (search rules) (requested_went c.in_err-select_events.ensures c.requires.usable held)

pub loop-left-init : goal.loop-left-init
unfolding attends_all
loop-left-init g c =
    let job = c.args.job.now in
    let asked = c.in_ok-select_events.ensures in
    let kept = asked.keeps c.requires.usable in
    let none = c.new-tally.ensures in
    record {
      stays = record {
        usable = ap (λ (conn : ConnState _). conn.cause) kept;
        devices = ap (λ (conn : ConnState _). conn.devices) kept;
        tells = (asked.exchanged c.requires.usable).tells;
        count = (asked.exchanged c.requires.usable).count;
      };
      children = omega arith;
      few = subst (λ (t : Tally). t.answered + job.calls ≤ job.calls) (sym none) (omega arith);
      counted = subst (λ (t : Tally). t.recorded + t.failed ≤ t.answered) (sym none) (omega arith);
      going = λ held. rw none (went_on _ went_here (requested_went asked c.requires.usable held));
    }

pub returns-in_err-await_call-clause-goes : goal.returns-in_err-await_call-clause-goes
returns-in_err-await_call-clause-goes g c held =
    went_by (c.loop-left.invariant.going held) (rw (attends_next c.loop-left.left c.args.job.now c.loop-left.tally (omega arith))
    (went_stop _ (search rules) (c.in_err-await_call.ensures.goes _ held)))

pub returns-in_err-end-clause-goes : goal.returns-in_err-end-clause-goes
returns-in_err-end-clause-goes g c held =
    went_by (c.loop-left.invariant.going held) (rw (attends_next c.loop-left.left c.args.job.now c.loop-left.tally (omega arith))
    (went_through _ (c.in_ok-await_call.ensures.goes _ held) (went_stop _ (search rules) (c.in_err-end.ensures.goes held))))

pub returns-then-is_starved-clause-goes : goal.returns-then-is_starved-clause-goes
returns-then-is_starved-clause-goes g c held =
    let starved : is_starved c.in_ok-end.end ≡ true = search rules in
    went_by (c.loop-left.invariant.going held) (rw (attends_next c.loop-left.left c.args.job.now c.loop-left.tally (omega arith))
    (went_through _ (c.in_ok-await_call.ensures.goes _ held) (went_through _ (c.in_ok-end.ensures.goes held) (rw starved (went_stops child_starved (refl, λ e. refl))))))

pub returns-clause-goes : goal.returns-clause-goes
unfolding attends
returns-clause-goes g c held =
    let none : c.loop-left.left ≡ 0 = omega arith in
    went_by (c.loop-left.invariant.going held) (rw none (went_value _))

pub loop-left-preserved : goal.loop-left-preserved
loop-left-preserved g c =
    let i = c.loop-left.invariant in
    let rang = c.in_ok-await_call.ensures in
    let took = c.in_ok-end.ensures in
    let fed : is_starved c.in_ok-end.end ≡ false = search rules in
    record {
      stays = record {
        usable = took.holds.usable refl;
        devices = took.holds.devices ∙ rang.holds.devices ∙ i.stays.devices;
        tells = λ t. took.holds.tells (rang.holds.tells (i.stays.tells t));
        count = omega (arith, took.holds.count, rang.holds.count, i.stays.count);
      };
      children = omega (arith, took.count, i.children);
      few = omega (arith, c.count.ensures.one, i.few);
      counted = c.count.ensures.within;
      going = λ held.
          rw (fed, sym c.count.ensures.tally) at
          (went_on _ (went_on _ (rw (attends_next c.loop-left.left c.args.job.now c.loop-left.tally (omega arith)) at (i.going held)) (rang.goes _ held)) (took.goes held));
    }
