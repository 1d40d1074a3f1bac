use Rattle.std.proofs.Common.{◌≡◌, ◌++◌, rules}
use Rattle.af_wire.specs.Event.{event_bytes}
use Rattle.af_wire.proofs.MessageRoundTrips.{event_spelled}
use Rattle.af_wire.proofs.event.write_event.Goals as goal

pub returns-clause-again : goal.returns-clause-again
unfolding event_bytes
returns-clause-again c =
    let bytes : c.write_head.new.out ++ c.copy_from_slice.new.self ≡ event_bytes c.args.order c.args.event c.args.sequence = search rules in
    event_spelled c.args.order c.args.event c.args.sequence _ bytes
