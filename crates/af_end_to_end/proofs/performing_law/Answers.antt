use Rattle.af_end_to_end.proofs.ProgressLemmas.{performs_in_turns}
use Rattle.af_end_to_end.proofs.performing_law.Goals as goal

pub returns : goal.returns
returns c = performs_in_turns
