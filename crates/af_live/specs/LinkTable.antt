-- Links that are held by number, what is ready of each, and which of that is given first.
use Rattle.std.specs.Prelude.{◌≡◌, ◌≢◌, ℕ, ◌≤◌, ◌<◌, Bool, true, false, ◌&&◌, ◌||◌, not, List, length, slice_index_or, slice_set, if◌then◌else◌}
use Rattle.std.specs.declared.option.Option.{Option}
use Rattle.std.specs.declared.option.Option.TheVariants.{None, Some}
use Rattle.af_limits.specs.Limits.{most_links}
use Rattle.af_world.specs.declared.happening.Wake.{Wake}
use Rattle.af_world.specs.declared.happening.Wake.TheVariants as wake
use Rattle.af_live.specs.declared.share.Share.{Share}
use Rattle.af_live.specs.declared.link_table.LinkEntry.{LinkEntry}
use Rattle.af_live.specs.declared.link_table.Readiness.{Readiness}

-- no link has the number
abbrev pub free_entry : Option LinkEntry
free_entry = None

abbrev pub is_free : Option LinkEntry → Bool
is_free None = true
is_free (Some link) = false

-- the link with a number
abbrev pub link_at : List (Option LinkEntry) → ℕ → Option LinkEntry
link_at links k = slice_index_or links k free_entry

-- a link that is held is open as soon as its opening was given
abbrev pub is_open : Option LinkEntry → Bool
is_open None = false
is_open (Some link) = not link.opened

-- something of the link is ready and was not given yet
abbrev pub something_ready : Option LinkEntry → Bool
something_ready None = false
something_ready (Some link) = link.opened || link.readable || link.writable

-- what is given first of a link: that it is new, then that it can be read, then that it can be written
abbrev pub entry_wake : LinkEntry → ℕ → Wake
entry_wake link k = if link.opened then wake.Opened k else if link.readable then wake.Readable k
    else if link.writable then wake.Writable k else wake.Idle

abbrev pub wake_at : Option LinkEntry → ℕ → Wake
wake_at None k = wake.Idle
wake_at (Some link) k = entry_wake link k

-- what is ready after that
abbrev pub rest_of : LinkEntry → LinkEntry
rest_of link = if link.opened then record link { opened = false } else if link.readable then record link { readable = false }
    else record link { writable = false }

abbrev pub without_first_ready : Option LinkEntry → Option LinkEntry
without_first_ready None = None
without_first_ready (Some link) = Some (rest_of link)

-- the least number of the table that no link has
abbrev pub IsLeastFree : List (Option LinkEntry) → Option ℕ → Type 0
IsLeastFree links None = (k : ℕ) → k < length links → is_free (link_at links k) ≡ false
IsLeastFree links (Some n) = (n < length links) × (is_free (link_at links n) ≡ true)
    × ((k : ℕ) → k < n → is_free (link_at links k) ≡ false)

-- the first link with something ready
abbrev pub IsFirstReady : List (Option LinkEntry) → Option ℕ → Type 0
IsFirstReady links None = (k : ℕ) → k < length links → something_ready (link_at links k) ≡ false
IsFirstReady links (Some n) = (n < length links) × (something_ready (link_at links n) ≡ true)
    × ((k : ℕ) → k < n → something_ready (link_at links k) ≡ false)

-- no link below this number has something ready
abbrev pub NothingReadyBelow : ℕ → List (Option LinkEntry) → Type 0
NothingReadyBelow n links = (k : ℕ) → k < n → something_ready (link_at links k) ≡ false

-- no link at this number or above it has something ready
abbrev pub NothingReadyFrom : ℕ → List (Option LinkEntry) → Type 0
NothingReadyFrom n links = (k : ℕ) → n ≤ k → k < length links → something_ready (link_at links k) ≡ false

-- the number of the link that a wake is about
abbrev pub link_of_wake : Wake → ℕ
link_of_wake (wake.Opened k) = k
link_of_wake (wake.Readable k) = k
link_of_wake (wake.Writable k) = k
link_of_wake (wake.Ticked d n) = 0
link_of_wake (wake.Line d change) = 0
link_of_wake wake.Idle = 0
link_of_wake wake.Stop = 0

-- The first link with something ready gives the first part of that, and nothing else changes.
abbrev pub GivesOf : List (Option LinkEntry) → ℕ → Wake → List (Option LinkEntry) → Type 0
GivesOf old n w new = IsFirstReady old (Some n) × (w ≡ wake_at (link_at old n) n)
    × (new ≡ slice_set old n (without_first_ready (link_at old n)))

abbrev pub GivesFirst : List (Option LinkEntry) → Option Wake → List (Option LinkEntry) → Type 0
GivesFirst old None new = IsFirstReady old None × (new ≡ old)
GivesFirst old (Some w) new = GivesOf old (link_of_wake w) w new

-- how many bytes are written to a link between two polls, at most
abbrev pub write_share : ℕ
write_share = 65536

-- what a link may be given from a poll on: one read, and so many bytes
abbrev pub whole_share : Share
whole_share = record { may_read = true; room = write_share; read_cut = false; write_cut = false }

-- a link that is new
abbrev pub new_link : ℕ → LinkEntry
new_link key = record {
  key = key;
  opened = true;
  readable = false;
  writable = false;
  drained = false;
  hides = false;
  share = whole_share;
}

-- What an event says of a link is noted: it may be read or written from now on, or may hide more. If it may be read, it is no
-- longer drained. Whether its opening was given stays.
abbrev pub with_readiness : Readiness → Option LinkEntry → Option LinkEntry
with_readiness told None = None
with_readiness told (Some link) = Some (record link {
  readable = link.readable || told.may_read;
  writable = link.writable || told.may_write;
  drained = link.drained && not told.may_read;
  hides = link.hides || told.hides;
})

-- a wake of a link opens one that is not open, or names one that is
abbrev pub LinkWakeFits : List (Option LinkEntry) → Wake → Type 0
LinkWakeFits links (wake.Opened k) = (k < most_links) × (is_open (link_at links k) ≡ false)
LinkWakeFits links (wake.Readable k) = (k < most_links) × (is_open (link_at links k) ≡ true)
LinkWakeFits links (wake.Writable k) = (k < most_links) × (is_open (link_at links k) ≡ true)
LinkWakeFits links wake.Idle = Unit {0}
LinkWakeFits links (wake.Ticked d n) = ⊥
LinkWakeFits links (wake.Line d change) = ⊥
LinkWakeFits links wake.Stop = ⊥

-- which links are open stays
abbrev pub KeepsOpen : List (Option LinkEntry) → List (Option LinkEntry) → Type 0
KeepsOpen old new = (k : ℕ) → is_open (link_at new k) ≡ is_open (link_at old k)

-- a link is open then, and no other link is opened or closed
abbrev pub OpensOne : ℕ → List (Option LinkEntry) → List (Option LinkEntry) → Type 0
OpensOne n old new = (is_open (link_at new n) ≡ true) × ((k : ℕ) → k ≢ n → is_open (link_at new k) ≡ is_open (link_at old k))

-- a wake that opens a link opens it, and no other wake opens or closes one
abbrev pub Opens : Wake → List (Option LinkEntry) → List (Option LinkEntry) → Type 0
Opens (wake.Opened n) old new = OpensOne n old new
Opens _ old new = KeepsOpen old new

-- no link has the number any longer, and nothing else changes
abbrev pub ClosesOne : ℕ → List (Option LinkEntry) → List (Option LinkEntry) → Type 0
ClosesOne k old new = new ≡ slice_set old k free_entry

-- all that had come by the link was read, and no event has reported more
abbrev pub is_drained : Option LinkEntry → Bool
is_drained None = false
is_drained (Some link) = link.drained

-- a read that gives little may leave more on the link unseen, such as its end
abbrev pub may_hide : Option LinkEntry → Bool
may_hide None = false
may_hide (Some link) = link.hides

-- all that had come by the link was read, if it is held
abbrev pub nothing_unread : Option LinkEntry → Bool
nothing_unread None = true
nothing_unread (Some link) = link.drained

-- all that had come by each link was read
abbrev pub AreDrained : List (Option LinkEntry) → Type 0
AreDrained links = (k : ℕ) → nothing_unread (link_at links k) ≡ true
