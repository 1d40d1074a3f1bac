use Rattle.std.proofs.Common.{rules}
use Rattle.af_outside.proofs.TapeLemmas.{faults_after-rises}
use Rattle.af_outside.proofs.lifecycle_log.LifecycleLog.listen_fails.Goals as goal

pub returns-clause-rises : goal.returns-clause-rises
returns-clause-rises c = rw (← c.self.view_is) (rw c.faults_after-self-inside.ensures (faults_after-rises c.self.inside.listen_faults _ (search rules)))
