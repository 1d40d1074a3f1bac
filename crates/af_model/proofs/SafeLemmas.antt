-- What holds between turns so that nothing is lost: each deferred request is due later than its device's time, and has at most
-- the samples that it may have. While a device ticks, its requests may be overdue by as many frames as went by.
use Rattle.std.proofs.Common.{◌≡◌, ℕ, zero, suc, ◌+◌, ◌*◌, ◌==◌, ◌<◌, ◌≤◌, Bool, true, false, not, cond, List, [], ◌∷◌, length, slice_get, slice_set, refl, sym, ap, ◌∙◌, subst, arith}
use Rattle.std.specs.List.{All, AllZip}
use Rattle.std.proofs.Math.Nat.{div-le_self}
use Rattle.std.proofs.lemmas.List.Elements.{All-cons, All-filter, All-head, All-push, All-tail, All-weaker}
use Rattle.std.specs.declared.option.Option.TheVariants.{None, Some}
use Rattle.af_limits.specs.Limits.{longest_tick, longest_frame}
use Rattle.af_wait.specs.Waits.{without_first}
use Rattle.af_model.specs.State.{DeviceState, Deferral, Deferred, deferred_play, deferred_record, EnvironmentState, State, device_set, with_device}
use Rattle.af_model.specs.Reply.{horizon_of}
use Rattle.af_model.specs.Waiting.{due_time}
use Rattle.af_model.specs.Tick.{complete_deferred}
use Rattle.af_model.specs.Events.{without_waiter}
use Rattle.af_model.specs.NoLoss.{IsWholeAt, LosesNone}
use Rattle.af_model.proofs.BoolTestLemmas.{some_is}
use Rattle.af_model.proofs.DeviceHistoryLemmas.{zip_back, zip_with}
use Rattle.af_model.proofs.DueLemmas.{IsToWait, frames_deferred}
use Rattle.af_model.proofs.LinkInvariantLemmas.{Keeps, environment_keeps}

-- a device that keeps sound for long enough, and completed no request that lost a sample
pub record IsSafe (device : DeviceState) : Type 0 where
  pub rate : 8000 ≤ device.rate
  pub loses_none : LosesNone device

-- a request that is not due yet, or has been for less than so many frames
pub record IsAwaited (slack : ℕ) (device : DeviceState) (deferred : Deferred) : Type 0 where
  pub soon : device.now < due_time device.channels (horizon_of device) deferred + slack
  pub ever : 0 < due_time device.channels (horizon_of device) deferred
  pub short : frames_deferred deferred ≤ longest_frame

-- of the deferred requests, those for a device have slack
abbrev pub slack_for : ℕ → ℕ → Deferral → ℕ
slack_for slack d w = cond (w.device == d) slack 0

abbrev pub AwaitedIn : ℕ → ℕ → List DeviceState → Deferral → Type 0
AwaitedIn slack d devices w = (device : DeviceState) → slice_get devices w.device ≡ Some device → IsAwaited (slack_for slack d w) device w.deferred

pub record Safe (slack d : ℕ) (ds : List DeviceState) (ws : List Deferral) : Type 0 where
  pub devices : All (λ device. IsSafe device) ds
  pub waiting : All (λ w. AwaitedIn slack d ds w) ws

abbrev pub SafeIn : ℕ → ℕ → EnvironmentState → Type 0
SafeIn slack d environment = Safe slack d environment.devices environment.waiting

abbrev pub SafeState : ℕ → ℕ → State → Type 0
SafeState slack d s = Safe slack d s.devices s.waiting

-- Lists

module _ {X : Type 0} (P : X → Type 0) where
  pub all_at : (xs : List X) (i : ℕ) (x : X) → All P xs → slice_get xs i ≡ Some x → P x
  all_at [] i x h there = absurd cc
  all_at (y ∷ xs) zero x h there = subst P (some_is there) (All-head P y xs h)
  all_at (y ∷ xs) (suc i) x h there = all_at xs i x (All-tail P y xs h) there

  all_set : (xs : List X) (i : ℕ) (x : X) → All P xs → P x → All P (slice_set xs i x)
  all_set [] i x h p = h
  all_set (y ∷ xs) zero x h p = All-cons P x xs p (All-tail P y xs h)
  all_set (y ∷ xs) (suc i) x h p = All-cons P y (slice_set xs i x) (All-head P y xs h) (all_set xs i x (All-tail P y xs h) p)

  pub all_without_first : (passes : X → Bool) (xs : List X) → All P xs → All P (without_first passes xs)
  all_without_first passes [] h = h
  all_without_first passes (y ∷ xs) h =
      elim (passes y) as (λ t. All P (cond t xs (y ∷ without_first passes xs))) [
        | true ↦ All-tail P y xs h
        | false ↦ All-cons P y (without_first passes xs) (All-head P y xs h) (all_without_first passes xs (All-tail P y xs h))
      ]

-- Devices change

-- a device at the same time, with the same rate and channels
abbrev pub SameClock : DeviceState → DeviceState → Type 0
SameClock d e = (e.now ≡ d.now) × (e.rate ≡ d.rate) × (e.channels ≡ d.channels)

-- requests are due at the same time of it
pub due_alike : (a b : DeviceState) (deferred : Deferred) → b.rate ≡ a.rate → b.channels ≡ a.channels → due_time b.channels (horizon_of b) deferred ≡ due_time a.channels (horizon_of a) deferred
due_alike a b deferred rate channels = ap (λ r. due_time b.channels (r * 4) deferred) rate ∙ ap (λ c. due_time c (horizon_of a) deferred) channels

awaited_alike : (slack : ℕ) (a b : DeviceState) (deferred : Deferred) → SameClock a b → IsAwaited slack a deferred → IsAwaited slack b deferred
awaited_alike slack a b deferred same h =
    let at = due_alike a b deferred same.1 same.2 in
    record {
      soon = subst (λ n. n < due_time b.channels (horizon_of b) deferred + slack) (sym same.0) (subst (λ n. a.now < n + slack) (sym at) h.soon);
      ever = subst (λ n. 0 < n) (sym at) h.ever;
      short = h.short;
    }

awaited_still : (slack d : ℕ) (ds es : List DeviceState) (ws : List Deferral) → AllZip SameClock ds es → All (λ w. AwaitedIn slack d ds w) ws → All (λ w. AwaitedIn slack d es w) ws
awaited_still slack d ds es ws l h =
    All-weaker (λ w. AwaitedIn slack d ds w) (λ w. AwaitedIn slack d es w) (λ w one e there. let got = zip_back SameClock ds es w.device e l there in awaited_alike (slack_for slack d w) got.0 e w.deferred got.2 (one got.0 got.1)) ws h

pub safe_with : (d : ℕ) (f : DeviceState → DeviceState) (ds : List DeviceState) → ((device : DeviceState) → slice_get ds d ≡ Some device → IsSafe device → IsSafe (f device)) → All (λ x. IsSafe x) ds → All (λ x. IsSafe x) (with_device d f ds)
safe_with d f ds g h =
    elim (slice_get ds d) as (λ o. slice_get ds d ≡ o → All (λ x. IsSafe x) (device_set d f ds o)) [
      | None ↦ λ there. h
      | Some device ↦ λ there. all_set (λ x. IsSafe x) ds d (f device) h (g device there (all_at (λ x. IsSafe x) ds d device h there))
    ] refl

pub safe_becomes : (slack c d : ℕ) (f : DeviceState → DeviceState) (ds : List DeviceState) (ws : List Deferral) → ((device : DeviceState) → slice_get ds d ≡ Some device → SameClock device (f device)) →
    ((device : DeviceState) → slice_get ds d ≡ Some device → IsSafe device → IsSafe (f device)) → Safe slack c ds ws → Safe slack c (with_device d f ds) ws
safe_becomes slack c d f ds ws l g h = record { devices = safe_with d f ds g h.devices; waiting = awaited_still slack c ds (with_device d f ds) ws (zip_with SameClock (λ x. (refl, refl, refl)) d f ds l) h.waiting }

pub loses_alike : (d e : DeviceState) → e.rate ≡ d.rate → e.completed ≡ d.completed → IsSafe d → IsSafe e
loses_alike d e rate completed h = record {
  rate = subst (λ r. 8000 ≤ r) (sym rate) h.rate;
  loses_none = subst (λ r. All (λ c. IsWholeAt (r * 4) c.at c.deferred) e.completed) (sym rate) (subst (λ l. All (λ c. IsWholeAt (d.rate * 4) c.at c.deferred) l) (sym completed) h.loses_none);
}

pub safe_keeps : (k slack d : ℕ) → Keeps k (λ closing. Unit {0}) (λ p. SafeIn slack d p.environment)
safe_keeps k slack c =
    environment_keeps k (Safe slack c)
    (λ ds ws d device f there l h. safe_becomes slack c d f ds ws (λ x is. let r = (l x is).lives in (r.now, r.rate, r.channels)) (λ x is. loses_alike x (f x) (l x is).lives.rate (l x is).completed) h)
    (λ ds ws d deferred w h. record {
      devices = h.devices;
      waiting = All-push (λ v. AwaitedIn slack c ds v) ws (record { link = k; device = d; deferred = deferred }) h.waiting
          (λ x is. to_wait x deferred (slack_for slack c (record { link = k; device = d; deferred = deferred })) (w x is));
    })
  where
    to_wait : (device : DeviceState) (deferred : Deferred) (slack : ℕ) → IsToWait longest_frame device deferred → IsAwaited slack device deferred
    to_wait device deferred slack w = record { soon = omega (arith, w.later); ever = omega (arith, w.later); short = w.short }

-- A request completes

-- a request that has been due for at most 4096 frames loses nothing
whole_now : (device : DeviceState) (deferred : Deferred) (slack : ℕ) → slack ≤ longest_tick → 8000 ≤ device.rate → IsAwaited slack device deferred → IsWholeAt (horizon_of device) device.now deferred
whole_now device (deferred_play quiet start sound preempt) slack few rate h = omega (arith, few, rate, h.soon, h.ever, h.short, div-le_self (length sound) device.channels)
whole_now device (deferred_record c start frames) slack few rate h = omega (arith, few, rate, h.soon, h.ever, h.short)

pub safe_completing : (slack c : ℕ) (w : Deferral) (ds : List DeviceState) (ws : List Deferral) → slack ≤ longest_tick → AwaitedIn slack c ds w → Safe slack c ds ws →
    Safe slack c (with_device w.device (complete_deferred w.link w.deferred) ds) ws
safe_completing slack c w ds ws few one h =
    safe_becomes slack c w.device (complete_deferred w.link w.deferred) ds ws (λ device there. (refl, refl, refl)) (λ device there safe. record {
      rate = safe.rate;
      loses_none = All-push (λ x. IsWholeAt (horizon_of device) x.at x.deferred) device.completed (record { link = w.link; deferred = w.deferred; at = device.now }) safe.loses_none
          (whole_now device w.deferred (slack_for slack c w) (within (w.device == c)) safe.rate (one device there));
    }) h
  where
    within : (b : Bool) → cond b slack 0 ≤ longest_tick
    within true = few
    within false = omega arith

-- Fewer are deferred

pub safe_fewer : (slack d : ℕ) (ds : List DeviceState) (ws vs : List Deferral) → ((P : Deferral → Type 0) → All P ws → All P vs) → Safe slack d ds ws → Safe slack d ds vs
safe_fewer slack d ds ws vs less h = record { devices = h.devices; waiting = less (λ w. AwaitedIn slack d ds w) h.waiting }

-- a link is dropped
pub safe_dropped : (k : ℕ) (ds : List DeviceState) (ws : List Deferral) → Safe 0 0 ds ws → Safe 0 0 ds (without_waiter k ws)
safe_dropped k ds ws h = safe_fewer 0 0 ds ws (without_waiter k ws) (λ P all. All-filter (λ w. not (w.link == k)) P ws all) h
