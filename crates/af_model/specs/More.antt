-- Whether the server has more to do before anything else happens.
use Rattle.std.specs.Prelude.{ℕ, ◌+◌, Bool, false, ◌||◌, List, [], ◌∷◌, is_some}
use Rattle.std.specs.declared.option.Option.{Option}
use Rattle.std.specs.declared.option.Option.TheVariants.{None, Some}
use Rattle.af_model.specs.State.{LinkState, State, links_of}
use Rattle.af_model.specs.Waiting.{has_deferral}
use Rattle.af_model.specs.Turn.{close_due, wants_read, wants_write}

-- a link is to be read, or to be written, or to be closed
abbrev pub wants_turn : Bool → LinkState → Bool
wants_turn waits l = wants_read waits l || (wants_write l || is_some (close_due l))

-- the same for a slot, which may not be open
abbrev pub open_wants : Bool → Option LinkState → Bool
open_wants waits None = false
open_wants waits (Some l) = wants_turn waits l

-- one of these links does; the first has number k, and the second argument says which links have a deferred request
abbrev pub any_wants : ℕ → (ℕ → Bool) → List (Option LinkState) → Bool
any_wants k waits [] = false
any_wants k waits (link ∷ links) = open_wants (waits k) link || any_wants (k + 1) waits links

-- some open link would do something in a turn at Idle
abbrev pub has_more : State → Bool
has_more s = any_wants 0 (has_deferral s.waiting) (links_of s.slots)
