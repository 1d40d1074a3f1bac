use Rattle.af_model.proofs.PrefixLawLemmas.{takes_in_order}
use Rattle.af_model.proofs.prefix_law.Goals as goal

pub returns : goal.returns
returns c = takes_in_order
