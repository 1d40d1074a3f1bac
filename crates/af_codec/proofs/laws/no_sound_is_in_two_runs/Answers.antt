use Rattle.af_codec.proofs.RunLemmas.{fed_runs-parts}
use Rattle.af_codec.proofs.laws.no_sound_is_in_two_runs.Goals as goal

pub returns : goal.returns
returns c = fed_runs-parts
