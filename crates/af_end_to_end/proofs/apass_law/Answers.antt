use Rattle.af_end_to_end.proofs.ApassLawLemmas.{apass_is_heard}
use Rattle.af_end_to_end.proofs.apass_law.Goals as goal

pub returns : goal.returns
returns c = apass_is_heard
