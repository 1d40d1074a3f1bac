-- All laws of a run.
use Rattle.std.proofs.Common.{List}
use Rattle.af_world.specs.declared.script.DeviceSpec.{DeviceSpec}
use Rattle.af_world.specs.Log.{Log}
use Rattle.af_model.specs.NoLoss.{RunLosesNone}
use Rattle.af_model.proofs.CauseLawLemmas.{closes_for_causes}
use Rattle.af_model.proofs.DeadLawLemmas.{is_dead_where_failed}
use Rattle.af_model.proofs.FoldLawLemmas.{mixes_all}
use Rattle.af_model.proofs.OfferLawLemmas.{offers_within}
use Rattle.af_model.proofs.PrefixLawLemmas.{takes_in_order}
use Rattle.af_isolation.specs.Laws.{KeepsLaws}
use Rattle.af_isolation.proofs.RunWithoutLemmas.{isolates_links}

-- if no sample is known to be lost
pub keeps_laws : (config : List DeviceSpec) (log : Log) → RunLosesNone config log → KeepsLaws config log
keeps_laws config log loses_none = record {
  takes_in_order = takes_in_order config log;
  offers_within = offers_within config log;
  mixes_all = mixes_all config log;
  loses_none = loses_none;
  closes_for_causes = closes_for_causes config log;
  is_dead_where_failed = is_dead_where_failed config log;
  isolates_links = isolates_links config log;
}
