use Rattle.std.proofs.Common.{rules}
use Rattle.af_tools.proofs.PacingLemmas.{past_goes, past_stops}
use Rattle.af_tools.proofs.leave.leave.Goals as goal

pub returns-in_err-wait_past-clause-goes : goal.returns-in_err-wait_past-clause-goes
returns-in_err-wait_past-clause-goes g c held = past_stops _ _ _ (search rules) (c.in_err-wait_past.ensures.goes held)

pub returns-clause-goes : goal.returns-clause-goes
returns-clause-goes g c held = past_goes _ _ _ (c.in_ok-wait_past.ensures.goes held) (c.finish.ensures.goes held)
