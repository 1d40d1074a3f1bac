-- The laws of whole runs.
use Rattle.std.specs.Prelude.{List}
use Rattle.af_world.specs.declared.script.DeviceSpec.{DeviceSpec}
use Rattle.af_world.specs.Log.{Log}
use Rattle.af_model.specs.NoLoss.{RunLosesNone}
use Rattle.af_model.specs.Prefix.{TakesInOrder}
use Rattle.af_model.specs.Offers.{OffersWithin}
use Rattle.af_model.specs.Fold.{MixesAll}
use Rattle.af_model.specs.Causes.{ClosesForCauses}
use Rattle.af_model.specs.Dead.{IsDeadWhereFailed}
use Rattle.af_isolation.specs.Isolation.{IsolatesLinks}

-- These laws hold in the run that this log is. What each link took is a prefix of what was queued for it. No write offers more
-- than may wait to be sent. Each sound is the mix of all that was ever accepted. No deferred request lost a sample. Each link was
-- closed for the cause that the log shows. Devices and lines are dead exactly if a call for them failed. Each link that never
-- acted on a device changes nothing for all others.
pub record KeepsLaws (config : List DeviceSpec) (log : Log) : Type 0 where
  pub takes_in_order : TakesInOrder config log
  pub offers_within : OffersWithin config log
  pub mixes_all : MixesAll config log
  pub loses_none : RunLosesNone config log
  pub closes_for_causes : ClosesForCauses config log
  pub is_dead_where_failed : IsDeadWhereFailed config log
  pub isolates_links : IsolatesLinks config log
