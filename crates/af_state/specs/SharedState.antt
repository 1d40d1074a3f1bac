-- A link and its environment, as the server keeps them.
use Rattle.std.specs.Prelude.{◌≡◌, ◌<◌, ◌≤◌, ℕ, false, IsTrue, List, length, slice_get}
use Rattle.std.specs.declared.option.Option.TheVariants.{Some}
use Rattle.af_limits.specs.Limits.{most_links, perform_limit}
use Rattle.af_model.specs.State.{EnvironmentState, DeviceState, LinkState, OpenLink, open_link}
use Rattle.af_state.specs.Kept.{KeptDevice, StandForDevices}
use Rattle.af_state.specs.Deferrals.{OnlyQueues, KeptDeferral, StandForDeferrals, has_waiting}

-- what all links share, as the server keeps it
pub record KeptSharedState : Type 0 where
  pub devices : List KeptDevice
  pub waits : List KeptDeferral

abbrev pub kept_shared_state : List KeptDevice → List KeptDeferral → KeptSharedState
kept_shared_state devices waits = record { devices = devices; waits = waits }

-- what is kept of a link's environment: the devices, and the deferred requests
abbrev pub StandsForSharedState : KeptSharedState → EnvironmentState → Type 0
StandsForSharedState e a = StandForDevices e.devices a.devices × StandForDeferrals a.devices e.waits a.waiting

-- a link with its environment
abbrev pub StandsForLink : KeptSharedState → LinkState → OpenLink → Type 0
StandsForLink e l p = StandsForSharedState e p.environment × (p.link ≡ l)

-- something takes a link with its kept environment to where it takes each open link that they stand for
abbrev pub StepsLink : (OpenLink → OpenLink) → KeptSharedState → LinkState → KeptSharedState → LinkState → Type 0
StepsLink f e l e' l' = (a : EnvironmentState) → StandsForSharedState e a → StandsForLink e' l' (f (open_link a l))

-- the same for what touches only devices, whatever waits for them
abbrev pub StepsDevices : (OpenLink → OpenLink) → List KeptDevice → LinkState → List KeptDevice → LinkState → Type 0
StepsDevices f ds l ds' l' = (waits : List KeptDeferral) →
    StepsLink f (kept_shared_state ds waits) l (kept_shared_state ds' waits) l'

-- the same for what is done with a device that exists, by the state that it stands for
abbrev pub StepsLinkFor : ℕ → (DeviceState → OpenLink → OpenLink) → KeptSharedState → LinkState → KeptSharedState → LinkState →
    Type 0
StepsLinkFor d f e l e' l' =
    (a : EnvironmentState) (s : DeviceState) → StandsForSharedState e a → slice_get a.devices d ≡ Some s →
    StandsForLink e' l' (f s (open_link a l))

-- something is done to a link in this environment, which changes only in what was queued for the link
abbrev pub ChangesLinkIn : EnvironmentState → (OpenLink → OpenLink) → LinkState → LinkState → Type 0
ChangesLinkIn a f l l' =
    ((f (open_link a l)).link ≡ l') × ((f (open_link a l)).environment.devices ≡ a.devices)
    × ((f (open_link a l)).environment.waiting ≡ a.waiting)

-- the same in any environment
abbrev pub ChangesLink : (OpenLink → OpenLink) → LinkState → LinkState → Type 0
ChangesLink f l l' = (a : EnvironmentState) → ChangesLinkIn a f l l'

-- A link may ask for something: its number is one that a link may have, it has no deferred request, and what it has to send
-- leaves room for a reply.
pub record MayAsk (k : ℕ) (e : KeptSharedState) (l : LinkState) : Type 0 where
  pub number : k < most_links
  pub free : has_waiting e.waits k ≡ false
  pub room : length l.pending ≤ perform_limit

-- What a request does to its link and to what is deferred: no input is taken, at most this link gets a deferred request, and then
-- what it has to send still leaves room for a reply.
pub record Leaves (k : ℕ) (e : KeptSharedState) (l : LinkState) (e' : KeptSharedState) (l' : LinkState) : Type 0 where
  pub rest : l'.rest ≡ l.rest
  pub only_queues : OnlyQueues k e.waits e'.waits
  pub small_pending : IsTrue (has_waiting e'.waits k) → length l'.pending ≤ perform_limit
