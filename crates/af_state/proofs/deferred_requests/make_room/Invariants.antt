use Rattle.std.proofs.Common.{◌≡◌, length}
use Rattle.af_state.proofs.deferred_requests.make_room.Given as goal

abbrev pub invariant-loop-number : goal.invariant-loop-number
invariant-loop-number l = length l.room.items ≡ l._number
