use Rattle.std.proofs.Common.{subst, sym}
use Rattle.af_time.specs.DeviceTime.{IsMeant}
use Rattle.af_time.proofs.WholeTimeLemmas.{unwrap_meant, meant_unwrap}
use Rattle.af_time.proofs.laws.one_whole_time.Goals as goal

pub returns : goal.returns
returns c = λ now w whole big word. (
  (λ meant. meant_unwrap now w whole big meant),
  (λ e. subst (λ t. IsMeant now w t) (sym e) (unwrap_meant now w big word)),
)
