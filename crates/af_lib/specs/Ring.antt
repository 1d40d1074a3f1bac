-- The ring of events that a client has not taken yet.
use Rattle.std.specs.Prelude.{ℕ, ◌+◌, ◌-◌, ◌^◌, min, nat_lt, if◌then◌else◌, List, [], ◌∷◌, ◌++◌, length}
use Rattle.af_limits.specs.Limits.{most_kept_events}
use Rattle.circular_buffer.specs.Buffer.{keep_last}
use Rattle.af_wire.specs.declared.event.Event.{Event}

-- the events, the oldest first, and how many were lost since the ring was full
pub record RingState : Type 0 where
  pub events : List Event
  pub lost : ℕ

-- a ring with one more event: a full one, of 64, loses its oldest, and counts it up to the end of the count's type
abbrev pub with_event : Event → RingState → RingState
with_event e r = record {
  events = keep_last most_kept_events (r.events ++ e ∷ []);
  lost = if nat_lt (length r.events) 64 then r.lost else min (r.lost + 1) (2 ^ 64 - 1);
}

-- a ring, and the same ring with any number of further events
pub data Gained (old : RingState) : RingState → Type 0 where
  nothing_more : Gained old old
  one_more : (r : RingState) (e : Event) → Gained old r → Gained old (with_event e r)
