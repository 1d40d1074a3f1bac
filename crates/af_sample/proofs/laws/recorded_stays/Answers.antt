use Rattle.af_sample.proofs.HeardLemmas.{recorded_sample-append}
use Rattle.af_sample.proofs.laws.recorded_stays.Goals as goal

pub returns : goal.returns
returns c = λ channels captured more begin now n horizon t channel all listed past near. recorded_sample-append channels captured more begin now n horizon t channel all listed past near
