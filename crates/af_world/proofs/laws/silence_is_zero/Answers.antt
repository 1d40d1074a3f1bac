use Rattle.af_world.proofs.SilenceLemmas.{silence-bytes_of}
use Rattle.af_world.proofs.laws.silence_is_zero.Goals as goal

pub returns : goal.returns
returns c = λ ty n. silence-bytes_of ty n
