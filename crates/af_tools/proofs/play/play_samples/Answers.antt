use Rattle.std.proofs.Common.{refl, rules}
use Rattle.af_toolkit.proofs.ToolPartLemmas.{asks_go}
use Rattle.af_tools.proofs.PacingLemmas.{past_goes, past_stops}
use Rattle.af_tools.proofs.play.play_samples.Goals as goal

pub returns-in_err-wait_past-clause-goes : goal.returns-in_err-wait_past-clause-goes
returns-in_err-wait_past-clause-goes g c held =
    past_stops _ _ _ (search rules) (rw c.awaited.ensures at (c.in_err-wait_past.ensures.goes held))

pub returns-in_err-play_run-clause-goes : goal.returns-in_err-play_run-clause-goes
returns-in_err-play_run-clause-goes g c held =
    past_goes _ _ _ (rw c.awaited.ensures at (c.in_ok-wait_past.ensures.goes held)) (asks_go (rw c.next_time.ensures at c.in_err-play_run.ensures) (c.in_ok-wait_past.ensures.holds.usable refl) (search rules))

pub returns-clause-goes : goal.returns-clause-goes
returns-clause-goes g c held =
    past_goes _ _ _ (rw c.awaited.ensures at (c.in_ok-wait_past.ensures.goes held)) (asks_go (rw c.next_time.ensures at c.in_ok-play_run.ensures) (c.in_ok-wait_past.ensures.holds.usable refl) refl)
