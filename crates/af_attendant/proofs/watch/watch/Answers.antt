use Rattle.std.proofs.Common.{rules, arith, ◌≡◌, ◌∙◌, ◌&&◌, not, refl, true, false, is_some}
use Rattle.af_attendant.specs.AttendantTrace.{watch_fault, watches}
use Rattle.af_attendant.proofs.AttendantPartLemmas.{went_by, went_here, went_on, went_stop, went_through}
use Rattle.af_attendant.proofs.AttendantStepLemmas.{looked_went, no_mark, requested_went}
use Rattle.af_attendant.proofs.HeldOffLemmas.{held_kept, held_on, stays_holds, watched_on}
use Rattle.af_attendant.proofs.StandingLemmas.{watches_next}
use Rattle.af_attendant.proofs.watch.watch.Goals.{then-not-runs-via-then-not-runs, then-not-runs-via-else-not-runs+then-is_some}
use Rattle.af_attendant.proofs.watch.watch.Goals as goal

pub loop-looks-init : goal.loop-looks-init
loop-looks-init g c = record {
  stays = record { usable = c.requires.off_hook.usable; devices = refl; tells = λ told. told; count = omega arith };
  off_hook = c.requires.off_hook;
  runs = c.requires.runs;
  watching = λ held. went_here;
}

pub returns-in_err-get_time-clause-goes : goal.returns-in_err-get_time-clause-goes
returns-in_err-get_time-clause-goes g c held =
    let i = c.loop-looks.invariant in
    went_by (i.watching held) (rw (watches_next c.loop-looks.looks c.args.job.now (omega arith))
    (went_through _ (looked_went c.look_at_command-runs.result c.look_at_command-runs.ensures.acts)
    (went_stop _ (search rules) (requested_went watch_fault (λ f. refl) no_mark c.in_err-get_time.ensures i.stays.usable held))))

pub hear_all-asked-requires-clause-runs : goal.hear_all-asked-requires-clause-runs
hear_all-asked-requires-clause-runs g c runs = (c.look_at_command-runs.ensures.runs, held_on c.in_ok-get_time.ensures c.loop-looks.invariant.off_hook)

pub finish-requires-clause-off_hook : goal.finish-requires-clause-off_hook
finish-requires-clause-off_hook g c = held_kept c.hear_all-asked.ensures.holds (held_on c.in_ok-get_time.ensures c.loop-looks.invariant.off_hook)

pub returns-then-not-runs-clause-goes : goal.returns-then-not-runs-clause-goes
returns-then-not-runs-clause-goes g c held =
    let i = c.loop-looks.invariant in
    let stop : (c.look_at_command-runs.result && not (is_some c.hear_all-asked.result)) ≡ false = elim c.then-not-runs.branch [
      | then-not-runs-via-then-not-runs w ↦ search rules
      | then-not-runs-via-else-not-runs+then-is_some w ↦ search rules
    ] in
    went_by (i.watching held) (rw (watches_next c.loop-looks.looks c.args.job.now (omega arith))
    (went_through _ (looked_went c.look_at_command-runs.result c.look_at_command-runs.ensures.acts)
    (went_through _ (requested_went watch_fault (λ f. refl) no_mark c.in_ok-get_time.ensures i.stays.usable held)
    (went_through _ (c.hear_all-asked.ensures.goes held) (rw stop (c.finish.ensures.goes held))))))

pub returns-then-not-runs-clause-holds : goal.returns-then-not-runs-clause-holds
returns-then-not-runs-clause-holds g c =
    let i = c.loop-looks.invariant in
    stays_holds (watched_on i.stays c.in_ok-get_time.ensures c.hear_all-asked.ensures.holds) (held_kept c.hear_all-asked.ensures.holds (held_on c.in_ok-get_time.ensures i.off_hook))

pub loop-looks-preserved : goal.loop-looks-preserved
loop-looks-preserved g c =
    let i = c.loop-looks.invariant in
    let go : (c.look_at_command-runs.result && not (is_some c.hear_all-asked.result)) ≡ true = search rules in
    record {
      stays = watched_on i.stays c.in_ok-get_time.ensures c.hear_all-asked.ensures.holds;
      off_hook = held_kept c.hear_all-asked.ensures.holds (held_on c.in_ok-get_time.ensures i.off_hook);
      runs = c.hear_all-asked.ensures.runs ∙ c.look_at_command-runs.ensures.runs;
      watching = λ held.
          rw go at
          (went_on _ (went_on _ (went_on _ (rw (watches_next c.loop-looks.looks c.args.job.now (omega arith)) at (i.watching held)) (looked_went c.look_at_command-runs.result c.look_at_command-runs.ensures.acts))
          (requested_went watch_fault (λ f. refl) no_mark c.in_ok-get_time.ensures i.stays.usable held)) (c.hear_all-asked.ensures.goes held));
    }

pub returns-clause-goes : goal.returns-clause-goes
unfolding watches
returns-clause-goes g c held =
    let none : c.loop-looks.looks ≡ 0 = omega arith in
    went_by (c.loop-looks.invariant.watching held) (rw none (c.finish-2.ensures.goes held))
