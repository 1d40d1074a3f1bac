use Rattle.af_end_to_end.proofs.ReadingLemmas.{reads_what_is_sent}
use Rattle.af_end_to_end.proofs.reading_law.Goals as goal

pub returns : goal.returns
returns c = reads_what_is_sent
