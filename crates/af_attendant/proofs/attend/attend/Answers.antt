use Rattle.std.proofs.Common.{rules, arith, ◌≡◌, ◌≤◌, ◌+◌, ◌∙◌, true, false, refl, ap, sym, subst}
use Rattle.af_lib.specs.Calls.{ConnState}
use Rattle.af_attendant.specs.declared.tally.Tally.{Tally}
use Rattle.af_attendant.specs.Line.{fresh_line}
use Rattle.af_attendant.specs.Ran.{is_starved}
use Rattle.af_attendant.specs.AttendantTrace.{attends, attends_all, command_starved, met_fault}
use Rattle.af_attendant.proofs.AttendantPartLemmas.{went_by, went_here, went_on, went_stop, went_stops, went_through, went_value}
use Rattle.af_attendant.proofs.AttendantStepLemmas.{no_mark, requested_went}
use Rattle.af_attendant.proofs.StandingLemmas.{attends_next}
use Rattle.af_attendant.proofs.attend.attend.Goals as goal

pub returns-in_err-select_events-clause-goes : goal.returns-in_err-select_events-clause-goes
unfolding attends_all
returns-in_err-select_events-clause-goes g c = (fresh_line, went_stop _ (search rules) (requested_went met_fault (λ f. refl) no_mark c.in_err-select_events.ensures c.requires.usable _))

pub loop-left-init : goal.loop-left-init
unfolding attends_all
loop-left-init g c =
    let job = c.args.job.now in
    let asked = c.in_ok-select_events.ensures in
    let kept = asked.keeps c.requires.usable in
    let none = c.new-tally.ensures in
    record {
      stays = record {
        usable = ap (λ (conn : ConnState _). conn.cause) kept;
        devices = ap (λ (conn : ConnState _). conn.devices) kept;
        tells = (asked.exchanged c.requires.usable).tells;
        count = (asked.exchanged c.requires.usable).count;
      };
      idle = c.requires.idle;
      few = subst (λ (t : Tally). t.answered + job.answer.calls ≤ job.answer.calls) (sym none) (omega arith);
      counted = subst (λ (t : Tally). (t.recorded ≤ t.answered) × (t.failed ≤ t.answered)) (sym none) (omega arith, omega arith);
      written = omega arith;
      going = rw (none, c.new-line.ensures) (went_on _ went_here (requested_went met_fault (λ f. refl) no_mark asked c.requires.usable _));
    }

pub returns-in_err-time-clause-goes : goal.returns-in_err-time-clause-goes
returns-in_err-time-clause-goes g c = (
  c.await_call.new.line,
  went_by c.loop-left.invariant.going (rw (attends_next c.loop-left.left c.args.job.now c.loop-left.tally (omega arith))
      (went_stop _ (search rules) (c.in_err-time.ensures.goes _ _))),
)

pub returns-in_err-runs-clause-goes : goal.returns-in_err-runs-clause-goes
returns-in_err-runs-clause-goes g c = (
  c.take_call.new.line,
  went_by c.loop-left.invariant.going (rw (attends_next c.loop-left.left c.args.job.now c.loop-left.tally (omega arith))
      (went_through _ (c.in_ok-time.ensures.goes _ _) (went_stop _ (search rules) c.in_err-runs.ensures.goes))),
)

pub returns-then-is_starved-clause-goes : goal.returns-then-is_starved-clause-goes
returns-then-is_starved-clause-goes g c =
    let starved : is_starved c.in_ok-runs.runs ≡ true = search rules in (
      c.take_call.new.line,
      went_by c.loop-left.invariant.going (rw (attends_next c.loop-left.left c.args.job.now c.loop-left.tally (omega arith))
          (went_through _ (c.in_ok-time.ensures.goes _ _) (went_through _ c.in_ok-runs.ensures.goes (rw starved (went_stops command_starved refl))))),
    )

pub returns-clause-goes : goal.returns-clause-goes
unfolding attends
returns-clause-goes g c =
    let none : c.loop-left.left ≡ 0 = omega arith in
    (c.loop-left.line, went_by c.loop-left.invariant.going (rw none (went_value _)))

pub loop-left-preserved : goal.loop-left-preserved
loop-left-preserved g c =
    let i = c.loop-left.invariant in
    let rang = c.in_ok-time.ensures in
    let took = c.in_ok-runs.ensures in
    let fed : is_starved c.in_ok-runs.runs ≡ false = search rules in
    record {
      stays = record {
        usable = took.holds.usable refl;
        devices = took.holds.devices ∙ rang.holds.devices ∙ i.stays.devices;
        tells = λ t. took.holds.tells (rang.holds.tells (i.stays.tells t));
        count = omega (arith, took.holds.count, rang.holds.count, i.stays.count);
      };
      idle = took.idle refl;
      few = omega (arith, c.count.ensures.one, i.few);
      counted = c.count.ensures.within;
      written = omega (arith, took.fault.0, i.written);
      going = rw (fed, sym c.count.ensures.tally) at (went_on _ (went_on _ (rw (attends_next c.loop-left.left c.args.job.now c.loop-left.tally (omega arith)) at i.going) (rang.goes _ _)) took.goes);
    }
