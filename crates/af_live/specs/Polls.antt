-- What a poll does to the links that are held, and what a wait does to them.
use Rattle.std.specs.Prelude.{◌≡◌, ◌⊎◌, ◌==◌, ◌<◌, ℕ, Bool, true, false, ◌||◌, List, [], ◌∷◌, slice_set, if◌then◌else◌}
use Rattle.std.specs.declared.option.Option.{Option}
use Rattle.std.specs.declared.option.Option.TheVariants.{None, Some}
use Rattle.std.specs.Duration.{as_nanos}
use Rattle.mio.specs.declared.event.event.Event.{Event}
use Rattle.mio.specs.Event.{event_token, is_readable, is_writable, is_error, is_read_closed, is_write_closed, is_priority}
use Rattle.mio.specs.Events.{items}
use Rattle.mio.specs.declared.net.stream.TcpStream.{TcpStream}
use Rattle.slab.specs.Slab.{Slab, get, Updates}
use Rattle.af_limits.specs.Limits.{most_links}
use Rattle.af_world.specs.declared.happening.Wake.{Wake}
use Rattle.af_world.specs.declared.happening.Wake.TheVariants as wake
use Rattle.af_live.specs.declared.link_table.LinkEntry.{LinkEntry}
use Rattle.af_live.specs.declared.link_table.Readiness.{Readiness}
use Rattle.af_live.specs.declared.sockets.Sockets.{Sockets}
use Rattle.af_live.specs.LinkTable.{is_free, link_at, new_link, with_readiness, IsLeastFree, GivesFirst}
use Rattle.af_live.specs.Shares.{all_renewed}

-- the latest poll: how many nanoseconds it was to wait at most, and the events that it reported
pub record LatestPoll : Type 0 where
  pub pause : ℕ
  pub events : List Event

-- no poll so far
abbrev pub no_poll : LatestPoll
no_poll = record { pause = 0; events = [] }

abbrev pub latest_poll : Option Sockets → LatestPoll
latest_poll None = no_poll
latest_poll (Some sockets) = record { pause = as_nanos sockets.pause; events = items sockets.events }

-- the event reports the end of its link or a fault, both of which come after the last bytes
abbrev pub tells_end : Event → Bool
tells_end e = is_read_closed e || is_error e

-- What an event says of its link. A read also stops at an urgent byte, and may hide what comes after it.
abbrev pub readiness_of : Event → Readiness
readiness_of e = record {
  may_read = is_readable e || tells_end e;
  may_write = is_writable e || is_write_closed e || is_error e;
  hides = tells_end e || is_priority e;
}

-- an event is noted for the link with this number, and nothing else changes
abbrev pub NotesAt : ℕ → Readiness → List (Option LinkEntry) → List (Option LinkEntry) → Type 0
NotesAt k told old new = new ≡ slice_set old k (with_readiness told (link_at old k))

-- An event is noted for its link. That of the listener says that connections wait, and is about no link.
abbrev pub noted : List (Option LinkEntry) → Event → List (Option LinkEntry)
noted links e = let k = (event_token e).0 in
    if k == most_links then links else slice_set links k (with_readiness (readiness_of e) (link_at links k))

-- each event is noted, in order
abbrev pub all_noted : List Event → List (Option LinkEntry) → List (Option LinkEntry)
all_noted [] links = links
all_noted (e ∷ events) links = all_noted events (noted links e)

module _ {S : Type 0} where
  -- A new stream is kept under a key that no other stream has. The link with that key is held, under the least number that is
  -- free. Or no stream is kept, and no link is new.
  abbrev pub TakesIn : Slab S → List (Option LinkEntry) → Slab S → List (Option LinkEntry) → Type 0
  TakesIn streams old streams' new =
      ((streams' ≡ streams) × (new ≡ old))
      ⊎ ((n : ℕ) × (key : ℕ) × (stream : S) × IsLeastFree old (Some n) × (get streams key ≡ None)
      × Updates streams streams' key (Some stream) × (new ≡ slice_set old n (Some (new_link key))))

  -- new streams are taken in, one after another
  pub data TakesAll (streams : Slab S) (old : List (Option LinkEntry)) : Slab S → List (Option LinkEntry) → Type 0 where
    takes_none : TakesAll streams old streams old
    takes_one : (streams' streams'' : Slab S) (links new : List (Option LinkEntry)) →
        TakesAll streams old streams' links → TakesIn streams' links streams'' new → TakesAll streams old streams'' new

  -- The links after a poll: each has a new share, each event that the poll reported was noted, and then new links were taken in.
  abbrev pub PollsTo : List Event → Slab S → List (Option LinkEntry) → Slab S → List (Option LinkEntry) → Type 0
  PollsTo events streams old streams' new = TakesAll streams (all_noted events (all_renewed old)) streams' new

-- what a poll found ready, by the wake that is given after it: nothing at Idle
abbrev pub ready_of : Wake → Option Wake
ready_of wake.Idle = None
ready_of w = Some w

-- A poll that reported these events changes the links, and then the first thing that is ready is given.
abbrev pub PolledGives : List Event → Wake → List (Option LinkEntry) → List (Option LinkEntry) → Type 0
PolledGives events w old new = (streams : Slab TcpStream) × (streams' : Slab TcpStream) × (polled : List (Option LinkEntry))
    × PollsTo events streams old streams' polled × GivesFirst polled (ready_of w) new

-- The links after a wait: what was kept ready first is given, or nothing was kept and a poll finds the wake. A tick, and the
-- change of a line, come only if nothing is kept ready, and change no link. A wait that failed changes none.
abbrev pub LeadsLinks : List Event → Option Wake → List (Option LinkEntry) → List (Option LinkEntry) → Type 0
LeadsLinks events None old new = new ≡ old
LeadsLinks events (Some (wake.Ticked d n)) old new = GivesFirst old None new
LeadsLinks events (Some (wake.Line d change)) old new = GivesFirst old None new
LeadsLinks events (Some w) old new = GivesFirst old (Some w) new ⊎ (GivesFirst old None old × PolledGives events w old new)

-- No link is let go, and a free number is taken only if no lower one is left free.
pub record TakesLeast (old new : List (Option LinkEntry)) : Type 0 where
  pub held : (k : ℕ) → is_free (link_at old k) ≡ false → is_free (link_at new k) ≡ false
  pub least : (n k : ℕ) →
      is_free (link_at old n) ≡ true → is_free (link_at new n) ≡ false → k < n → is_free (link_at new k) ≡ false
