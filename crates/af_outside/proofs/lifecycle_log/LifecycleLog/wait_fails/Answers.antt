use Rattle.std.proofs.Common.{rules}
use Rattle.af_outside.proofs.TapeLemmas.{faults_after-rises}
use Rattle.af_outside.proofs.lifecycle_log.LifecycleLog.wait_fails.Goals as goal

pub returns-clause-rises : goal.returns-clause-rises
returns-clause-rises c = rw (← c.self.view_is) (rw c.faults_after-self-inside-2.ensures (faults_after-rises c.self.inside.wait_faults _ (search rules)))
