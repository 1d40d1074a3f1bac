use Rattle.std.proofs.Common.{refl}
use Rattle.af_command.specs.Acts.{finished}
use Rattle.af_attendant.specs.AttendantTrace.{had_status, status_of, waits}
use Rattle.af_attendant.proofs.AttendantPartLemmas.{went_through, went_value}
use Rattle.af_attendant.proofs.AttendantStepLemmas.{command_went}
use Rattle.af_attendant.proofs.watch.finish.Goals as goal

pub returns-clause-goes : goal.returns-clause-goes
unfolding waits
returns-clause-goes g c held = rw c.of.ensures (went_through _ (command_went status_of finished (had_status c.finish_command-status.result) refl c.finish_command-status.ensures.acts) (went_value _))
