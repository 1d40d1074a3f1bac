use Rattle.af_end_to_end.proofs.ArecordLawLemmas.{arecord_is_held}
use Rattle.af_end_to_end.proofs.arecord_law.Goals as goal

pub returns : goal.returns
returns c = arecord_is_held
