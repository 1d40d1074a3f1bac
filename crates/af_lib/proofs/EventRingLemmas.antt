-- A ring that holds no event.
use Rattle.std.proofs.Common.{◌≡◌, List, [], ◌∷◌, drop, slice_get, refl, ap, None}
use Rattle.af_wire.specs.declared.event.Event.{Event}
use Rattle.af_lib.specs.Ring.{RingState}

none_left : (es : List Event) → slice_get es 0 ≡ None → drop 1 es ≡ es
none_left [] e = refl
none_left (x ∷ es) e = absurd cc

-- taking the oldest event from an empty ring changes nothing
pub none_taken : (r : RingState) → slice_get r.events 0 ≡ None → record r { events = drop 1 r.events } ≡ r
none_taken r e = ap (λ es. record r { events = es }) (none_left r.events e)
