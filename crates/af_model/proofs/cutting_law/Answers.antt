use Rattle.af_model.proofs.CuttingLawLemmas.{cutting}
use Rattle.af_model.proofs.cutting_law.Goals as goal

pub returns : goal.returns
returns c = cutting
