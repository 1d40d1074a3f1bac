use Rattle.af_wire.proofs.MessageRoundTrips.{head_framed, event_framed, event_again}
use Rattle.af_wire.proofs.laws.messages_round_trip.Goals as goal

pub returns : goal.returns
returns c = record { heads = head_framed; events = event_framed; again = event_again }
