use Rattle.std.proofs.Common.{◌≡◌}
use Rattle.std.specs.Slice.Iter.{iter_rest}
use Rattle.mio.specs.Events.{items}
use Rattle.af_live.specs.Polls.{all_noted}
use Rattle.af_live.proofs.sockets.note_events.Given as goal

abbrev pub invariant-loop-event : goal.invariant-loop-event
invariant-loop-event l = all_noted (iter_rest l.event-iterator) l.links ≡ all_noted (items l.events) l.initial.links
