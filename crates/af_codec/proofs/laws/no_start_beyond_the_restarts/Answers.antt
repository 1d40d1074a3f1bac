use Rattle.af_codec.proofs.StartLemmas.{HasStart-fed_after}
use Rattle.af_codec.proofs.laws.no_start_beyond_the_restarts.Goals as goal

pub returns : goal.returns
returns c = λ orders emits. (HasStart-fed_after orders emits).within
