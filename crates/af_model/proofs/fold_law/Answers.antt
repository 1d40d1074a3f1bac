use Rattle.af_model.proofs.FoldLawLemmas.{mixes_all}
use Rattle.af_model.proofs.fold_law.Goals as goal

pub returns : goal.returns
returns c = mixes_all
