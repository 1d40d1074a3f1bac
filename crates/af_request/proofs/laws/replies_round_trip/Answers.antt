use Rattle.af_request.proofs.ReplyRoundTrips.{answer_again, length-body}
use Rattle.af_request.proofs.SetupReplyLemmas.{setup_stated}
use Rattle.af_request.proofs.laws.replies_round_trip.Goals as goal

pub returns-clause-again : goal.returns-clause-again
returns-clause-again c = answer_again

pub returns-clause-words : goal.returns-clause-words
returns-clause-words c = length-body

pub returns-clause-stated : goal.returns-clause-stated
returns-clause-stated c = setup_stated
