use Rattle.std.proofs.Common.{rules}
use Rattle.af_attendant.specs.AttendantTrace.{runs_commands}
use Rattle.af_attendant.proofs.AttendantPartLemmas.{went_stop, went_through}
use Rattle.af_attendant.proofs.call.run_commands.Goals as goal

pub returns-in_err-greeting-clause-goes : goal.returns-in_err-greeting-clause-goes
unfolding runs_commands
returns-in_err-greeting-clause-goes g c held = went_stop _ (search rules) (c.in_err-greeting.ensures.goes held)

pub returns-clause-goes : goal.returns-clause-goes
unfolding runs_commands
returns-clause-goes g c held = went_through _ (c.in_ok-greeting.ensures.goes held) (c.leave_message.ensures.goes held)
