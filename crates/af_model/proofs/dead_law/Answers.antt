use Rattle.af_model.proofs.DeadLawLemmas.{is_dead_where_failed}
use Rattle.af_model.proofs.dead_law.Goals as goal

pub returns : goal.returns
returns c = is_dead_where_failed
