use Rattle.af_end_to_end.proofs.AplayLawLemmas.{aplay_is_heard}
use Rattle.af_end_to_end.proofs.aplay_law.Goals as goal

pub returns : goal.returns
returns c = aplay_is_heard
