use Rattle.af_end_to_end.proofs.AnsweringLemmas.{is_answered_in_run}
use Rattle.af_end_to_end.proofs.answering_law.Goals as goal

pub returns : goal.returns
returns c = is_answered_in_run
