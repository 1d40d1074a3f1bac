use Rattle.af_model.proofs.NoLossLemmas.{no_loss}
use Rattle.af_model.proofs.no_loss_law.Goals as goal

pub returns : goal.returns
returns c = no_loss
