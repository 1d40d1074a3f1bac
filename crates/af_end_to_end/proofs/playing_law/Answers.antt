use Rattle.af_end_to_end.proofs.PlayingLemmas.{plays_in_run}
use Rattle.af_end_to_end.proofs.playing_law.Goals as goal

pub returns : goal.returns
returns c = plays_in_run
