-- What the core keeps, and the states of the abstract server that it stands for.
use Rattle.std.specs.Prelude.{◌≡◌, ◌≢◌, ◌⊎◌, ℕ, ◌+◌, ◌<◌, ◌≤◌, Bool, true, false, IsTrue, List, [], ◌∷◌, find, length, map, is_some, slice_get, option_and_then, max, min, IsSomeAnd, if◌then◌else◌}
use Rattle.std.specs.declared.option.Option.{Option}
use Rattle.std.specs.declared.option.Option.TheVariants.{None, Some}
use Rattle.af_limits.specs.Limits.{most_links, longest_frame, event_limit}
use Rattle.af_wait.specs.declared.Wait.{Wait}
use Rattle.af_world.specs.declared.happening.Happening.TheVariants.{Woke}
use Rattle.af_world.specs.declared.happening.Wake.{Wake}
use Rattle.af_world.specs.declared.happening.Wake.TheVariants.{Opened, Readable, Writable, Ticked, Line, Idle, Stop}
use Rattle.af_io.specs.Observed.{Appended}
use Rattle.af_world.specs.Log.{Log}
use Rattle.af_wait.specs.Waits.{without_first}
use Rattle.af_model.specs.State.{State, EnvironmentState, DeviceState, LinkState, Deferral, OpenLink, open_link, SlotLink, Outline, links_of, outline_with}
use Rattle.af_model.specs.Reply.{horizon_of}
use Rattle.af_model.specs.Waiting.{due_time, falls_due, AreDueLater}
use Rattle.af_model.specs.Advance.{advance, takes_more}
use Rattle.af_model.specs.More.{open_wants}
use Rattle.af_model.specs.Turn.{IsTurn, is_open_at, wants_write}
use Rattle.af_model.specs.Run.{wakes}
use Rattle.af_model.specs.NoLoss.{StateLosesNone}
use Rattle.af_core.specs.declared.wanting_span.WantingSpan.{WantingSpan}
use Rattle.af_state.specs.Kept.{KeptDevice, StandForDevices, IsBounded}
use Rattle.af_state.specs.Deferrals.{KeptDeferral, has_waiting, kept_without, AreLater, AreLaterBut, StandForDeferrals, LeavesOthers, OnlyQueues}
use Rattle.af_state.specs.SharedState.{StandsForLink, StepsLink, KeptSharedState, StandsForSharedState}

-- a slot, open or not, with its environment
abbrev pub StandsForSlot : KeptSharedState → Option LinkState → SlotLink → Type 0
StandsForSlot e link d = StandsForSharedState e d.environment × (d.link ≡ link)

-- in each state that is stood for, this holds of the first deferred request that is due for a device, and of the environment
-- without it
abbrev pub OfFirstDue : ℕ → KeptSharedState → (Deferral → EnvironmentState → Type 0) → Type 0
OfFirstDue device e Holds =
    (a : EnvironmentState) (s : DeviceState) (w : Deferral) → StandsForSharedState e a → slice_get a.devices device ≡ Some s →
    find (falls_due device s) a.waiting ≡ Some w → Holds w (record a { waiting = without_first (falls_due device s) a.waiting })

-- if something was taken off, what is kept now is what that leads to; else there was nothing to take
abbrev pub AdvancesTo : Bool → Option OpenLink → KeptSharedState → LinkState → Type 0
AdvancesTo true (Some p) e l = StandsForLink e l p
AdvancesTo true None e l = ⊥
AdvancesTo false None e l = Unit {0}
AdvancesTo false (Some p) e l = ⊥

-- the same, in any environment, for a step from it
abbrev pub Advances : Bool → (OpenLink → Option OpenLink) → KeptSharedState → LinkState → KeptSharedState → LinkState → Type 0
Advances taken f e l e' l' = (a : EnvironmentState) → StandsForSharedState e a → AdvancesTo taken (f (open_link a l)) e' l'

-- Some of a link's input was taken off and answered, or none: in any environment, to advance the link leads where it did before.
abbrev pub AdvancesOn : ℕ → KeptSharedState → LinkState → KeptSharedState → LinkState → Type 0
AdvancesOn k e l e' l' =
    (a : EnvironmentState) → StandsForSharedState e a →
    (now : EnvironmentState) × StandsForSharedState e' now × (advance k (open_link now l') ≡ advance k (open_link a l))

-- A link is within its bounds. One that takes more has less than a whole frame unread. One with a deferred request has room for
-- its reply.
pub record IsSettled (waits : Bool) (l : LinkState) : Type 0 where
  pub bounds : IsBounded l
  pub short : IsTrue (takes_more waits l) → length l.rest < longest_frame
  pub room : IsTrue waits → length l.pending ≤ event_limit

-- the link that is open at a number is settled, if there is one
abbrev pub IsSettledSlot : Bool → Option LinkState → Type 0
IsSettledSlot waits link = (l : LinkState) → link ≡ Some l → IsSettled waits l

-- each open link is settled
abbrev pub AreSettled : List KeptDeferral → List (Option LinkState) → Type 0
AreSettled ks links = (k : ℕ) (l : LinkState) → slice_get links k ≡ Some (Some l) → IsSettled (has_waiting ks k) l

-- a bound on the writes to come
abbrev pub writes_left : LinkState → ℕ
writes_left l = length l.rest + (if wants_write l then 1 else 0)

-- only one link may have lost its deferred request
abbrev pub OnlyDrops : ℕ → KeptSharedState → KeptSharedState → Type 0
OnlyDrops link old new = (new ≡ old) ⊎ (new ≡ record old { waits = kept_without link old.waits })

-- A link is in its turn: it has a number, and is settled.
pub record IsInTurn (k : ℕ) (waits : List KeptDeferral) (l : LinkState) : Type 0 where
  pub number : k < most_links
  pub settled : IsSettled (has_waiting waits k) l

-- A link had some of its part of a turn: it is settled, and no other link's deferred request changed.
pub record LinkServed (k : ℕ) (old new : List KeptDeferral) (l : LinkState) : Type 0 where
  pub settled : IsSettled (has_waiting new k) l
  pub leaves_others : LeavesOthers k old new

-- A link was advanced: it is settled, and stays as it was or has less unread. Its own request may be deferred, and no other one.
pub record LinkAdvanced (k : ℕ) (old : KeptSharedState) (l : LinkState) (new : KeptSharedState) (l' : LinkState) : Type 0 where
  pub step : StepsLink (advance k) old l new l'
  pub settled : IsSettled (has_waiting new.waits k) l'
  pub answered : (l' ≡ l) ⊎ (length l'.rest < length l.rest)
  pub only_queues : OnlyQueues k old.waits new.waits

-- all that a core keeps
pub record Kept : Type 0 where
  pub devices : List KeptDevice
  pub waits : List KeptDeferral
  pub links : List (Option LinkState)

-- the link that is open at a number
abbrev pub link_kept : Kept → ℕ → Option LinkState
link_kept kept k = option_and_then (λ link. link) (slice_get kept.links k)

-- whether each device has a line
abbrev pub kept_lines : List KeptDevice → List Bool
kept_lines ds = map (λ d. is_some d.line) ds

abbrev pub outline_of : Kept → Outline
outline_of kept = outline_with (kept_lines kept.devices) kept.links

-- no link is open at this number or above it
abbrev pub NoneOpenFrom : ℕ → List (Option LinkState) → Type 0
NoneOpenFrom n links = (k : ℕ) → n ≤ k → is_open_at (slice_get (map is_some links) k) ≡ false

-- the number below which all open links are after a wake, which may open one
abbrev pub open_below_after : Wake → ℕ → ℕ
open_below_after (Opened k) n = max n (k + 1)
open_below_after (Readable k) n = n
open_below_after (Writable k) n = n
open_below_after (Ticked device frames) n = n
open_below_after (Line device change) n = n
open_below_after Idle n = n
open_below_after Stop n = n

-- whether a link is open at a number and is to be read, written or closed
abbrev pub wants_at : List KeptDeferral → List (Option LinkState) → ℕ → Bool
wants_at ks links k = open_wants (has_waiting ks k) (option_and_then (λ link. link) (slice_get links k))

-- each link that is to be read, written or closed has one of these numbers: from the first on, and below the second
pub record WantsWithin (from below : ℕ) (ks : List KeptDeferral) (links : List (Option LinkState)) : Type 0 where
  pub before : (k : ℕ) → k < from → wants_at ks links k ≡ false
  pub after : (k : ℕ) → below ≤ k → wants_at ks links k ≡ false

-- the bounds hold for these links
pub record AreBounds (b : WantingSpan) (ks : List KeptDeferral) (links : List (Option LinkState)) : Type 0 where
  pub most : b.open_below ≤ most_links
  pub none_open : NoneOpenFrom b.open_below links
  pub from : b.wants_from ≤ most_links
  pub within : b.wants_below ≤ b.open_below
  pub wants : WantsWithin b.wants_from b.wants_below ks links

-- and if there is a number between the bounds, the first is that of a link that is to be read, written or closed
abbrev pub AreExact : WantingSpan → List KeptDeferral → List (Option LinkState) → Type 0
AreExact b ks links = b.wants_from < b.wants_below → wants_at ks links b.wants_from ≡ true

-- one more link may want something
abbrev pub bounds_with : ℕ → WantingSpan → WantingSpan
bounds_with k b = record b { wants_from = min b.wants_from k; wants_below = max b.wants_below (k + 1) }

-- no link wants anything
abbrev pub bounds_of_none : WantingSpan → WantingSpan
bounds_of_none b = record b { wants_from = most_links; wants_below = 0 }

-- every open link may want something
abbrev pub bounds_of_all : WantingSpan → WantingSpan
bounds_of_all b = record b { wants_from = 0; wants_below = b.open_below }

-- what is known after a wake that concerns no link but the one that it is about
abbrev pub bounds_after : Wake → WantingSpan → WantingSpan
bounds_after (Opened k) b = bounds_with k (record b { open_below = max b.open_below (k + 1) })
bounds_after (Readable k) b = bounds_with k b
bounds_after (Writable k) b = bounds_with k b
bounds_after (Ticked device frames) b = b
bounds_after (Line device change) b = b
bounds_after Idle b = b
bounds_after Stop b = b

-- each link is to be read, written or closed if it was before
abbrev pub WantTheSame : List KeptDeferral → List (Option LinkState) → List KeptDeferral → List (Option LinkState) → Type 0
WantTheSame ks links ks' links' = (j : ℕ) → wants_at ks' links' j ≡ wants_at ks links j

-- A wake for one link does not change what other links want, and any other wake changes nothing of that.
abbrev pub WakesOnly : Wake → List KeptDeferral → List (Option LinkState) → List KeptDeferral → List (Option LinkState) → Type 0
WakesOnly (Opened k) ks links ks' links' = (j : ℕ) → j ≢ k → wants_at ks' links' j ≡ wants_at ks links j
WakesOnly (Readable k) ks links ks' links' = (j : ℕ) → j ≢ k → wants_at ks' links' j ≡ wants_at ks links j
WakesOnly (Writable k) ks links ks' links' = (j : ℕ) → j ≢ k → wants_at ks' links' j ≡ wants_at ks links j
WakesOnly (Ticked device frames) ks links ks' links' = WantTheSame ks links ks' links'
WakesOnly (Line device change) ks links ks' links' = WantTheSame ks links ks' links'
WakesOnly Idle ks links ks' links' = WantTheSame ks links ks' links'
WakesOnly Stop ks links ks' links' = WantTheSame ks links ks' links'

-- what all links share, and the links
abbrev pub kept_of : KeptSharedState → List (Option LinkState) → Kept
kept_of e links = record { devices = e.devices; waits = e.waits; links = links }

-- What a core keeps of its devices, its links and their deferred requests stands for each state that has them. It keeps no
-- history, so there are many such states.
pub record StandsFor (kept : Kept) (s : State) : Type 0 where
  pub devices : StandForDevices kept.devices s.devices
  pub waiting : StandForDeferrals s.devices kept.waits s.waiting
  pub links : links_of s.slots ≡ kept.links

-- a core stands for such a state between turns, when no deferred request is due yet
pub record Stands (core : Kept) (s : State) : Type 0 where
  pub kept : StandsFor core s
  pub later : AreDueLater s.devices s.waiting

-- from each state that it stands for, what is kept leads to where that state leads
abbrev pub StepsAll : (State → State) → Kept → Kept → Type 0
StepsAll f kept kept' = (s : State) → StandsFor kept s → StandsFor kept' (f s)

-- in each state that is stood for, this holds of a device
abbrev pub OfDevice : ℕ → Kept → (DeviceState → State → Type 0) → Type 0
OfDevice number kept Holds = (s : State) (device : DeviceState) → StandsFor kept s → slice_get s.devices number ≡ Some device →
    Holds device s

-- There is a slot for each link number. Each open link is settled, and each deferred request waits for at least one more frame.
pub record AreOrderly (ks : List KeptDeferral) (ls : List (Option LinkState)) : Type 0 where
  pub links : length ls ≡ most_links
  pub settled : AreSettled ks ls
  pub later : AreLater ks

-- What a core keeps between the phases of a turn: its links are in order, and there is a state that it stands for.
pub record IsBetweenPhases (kept : Kept) : Type 0 where
  pub orderly : AreOrderly kept.waits kept.links
  pub stands : (s : State) × StandsFor kept s

-- what it keeps while the requests that are due for a device complete: those for other devices wait for at least one more frame
pub record IsCompleting (device : ℕ) (kept : Kept) : Type 0 where
  pub links : length kept.links ≡ most_links
  pub settled : AreSettled kept.waits kept.links
  pub later : AreLaterBut device kept.waits
  pub stands : (s : State) × StandsFor kept s

-- what is kept of the deferred requests stands for them one by one: each has that link and that device, and the frames left are
-- those from now to its due time
abbrev pub StandForWaiting : List DeviceState → List Wait → List Deferral → Type 0
StandForWaiting devices [] [] = Unit {0}
StandForWaiting devices [] (w ∷ waiting) = ⊥
StandForWaiting devices (k ∷ shown) [] = ⊥
StandForWaiting devices (k ∷ shown) (w ∷ waiting) =
    (k.link ≡ w.link) × (k.device ≡ w.device)
    × IsSomeAnd (slice_get devices w.device) (λ s. s.now + k.left ≡ due_time s.channels (horizon_of s) w.deferred)
    × StandForWaiting devices shown waiting

-- from a state, the part is one turn, to a state that the core stands for then, and no request that was deferred has lost a
-- sample
pub record TurnsFrom (part : Log) (s : State) (kept : Kept) : Type 0 where
  pub next : State
  pub is_turn : IsTurn s part next
  pub stands : Stands kept next
  pub lossless : StateLosesNone next

-- if one more request was completed, what is kept now stands for what that leads to, and else none was due
abbrev pub CompletesTo : Bool → Option State → Kept → Type 0
CompletesTo true (Some s) kept = StandsFor kept s
CompletesTo true None kept = ⊥
CompletesTo false None kept = Unit {0}
CompletesTo false (Some s) kept = ⊥

-- What was added to the log, if it is observable, is one part that begins with this wake and has no other. From each state that
-- the core stood for, the part is one turn, to a state that the core stands for then. There are as many devices and slots as
-- before.
pub record Turns (before after : Option Log) (wake : Wake) (old new : Kept) : Type 0 where
  pub devices : length new.devices ≡ length old.devices
  pub links : length new.links ≡ length old.links
  pub part : Log
  pub told : Appended before part after
  pub rest : Log
  pub begins : part ≡ Woke wake ∷ rest
  pub only : wakes rest ≡ 0
  pub each : (s : State) → Stands old s → TurnsFrom part s new
