use Rattle.af_model.proofs.OneLogLemmas.{one_log}
use Rattle.af_model.proofs.one_log_law.Goals as goal

pub returns : goal.returns
returns c = one_log
