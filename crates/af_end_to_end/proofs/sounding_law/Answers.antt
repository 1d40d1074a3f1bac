use Rattle.af_end_to_end.proofs.SoundingLemmas.{is_heard_in_run}
use Rattle.af_end_to_end.proofs.sounding_law.Goals as goal

pub returns : goal.returns
returns c = is_heard_in_run
