use Rattle.af_logger.proofs.LawLemmas.{pieces_on}
use Rattle.af_logger.proofs.laws.each_frame_once.Goals as goal

pub returns : goal.returns
returns c = pieces_on
