use Rattle.af_tools.proofs.HeardAsIntendedLemmas.{heard_as_intended}
use Rattle.af_tools.proofs.laws.heard_as_intended_law.Goals as goal

pub returns : goal.returns
returns c = heard_as_intended
