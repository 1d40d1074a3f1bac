use Rattle.af_request.proofs.RequestRoundTrips.{request_again, request_framed}
use Rattle.af_request.proofs.laws.requests_round_trip.Goals as goal

pub returns-clause-again : goal.returns-clause-again
returns-clause-again c = request_again

pub returns-clause-frame : goal.returns-clause-frame
returns-clause-frame c = request_framed
