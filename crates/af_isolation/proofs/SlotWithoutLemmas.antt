-- The slots of a state without link k, and events that are queued there.
use Rattle.std.proofs.Common.{◌≡◌, ◌≢◌, ℕ, zero, suc, ◌+◌, ◌==◌, true, false, List, [], ◌∷◌, length, map, slice_get, slice_set, option_map, refl, sym, ap, ◌∙◌, subst, eqb-true}
use Rattle.std.proofs.lemmas.Bool.{eqb-false}
use Rattle.std.specs.declared.option.Option.{Option}
use Rattle.std.specs.declared.option.Option.TheVariants.{None, Some}
use Rattle.af_request.specs.declared.reply.Phone.{Phone}
use Rattle.af_wire.specs.declared.event.Event.{Event}
use Rattle.af_wire.specs.declared.event.EventKind.{EventKind}
use Rattle.af_model.specs.State.{DeviceState, LinkState, SlotLink, link_in_slot, SlotState, State, closed_slot, open_link, slot_at, slot_link_at, some_slot, with_device, with_slot, with_slot_link}
use Rattle.af_model.specs.Events.{event_at, line_becomes, tell, tell_at, tell_from, tell_open, without_waiter}
use Rattle.af_model.proofs.ServeLemmas.{same_door, slot_other}
use Rattle.af_isolation.specs.Without.{device_without, state_without}
use Rattle.af_isolation.proofs.OtherLinkLemmas.{apart, environment_without, slot_without, tell_link_other, with_device_without}
use Rattle.af_isolation.proofs.OwnLinkLemmas.{Untouched, tell_own}

-- Lists of slots

closed_there : (k : ℕ) (slots : List SlotState) → some_slot (slice_get (slice_set slots k closed_slot) k) ≡ closed_slot
closed_there k [] = refl
closed_there zero (x ∷ slots) = refl
closed_there (suc k) (x ∷ slots) = closed_there k slots

set_again : {A : Type 0} (xs : List A) (k : ℕ) (x y : A) → slice_set (slice_set xs k x) k y ≡ slice_set xs k y
set_again [] k x y = refl
set_again (z ∷ xs) zero x y = refl
set_again (z ∷ xs) (suc k) x y = ap (λ l. z ∷ l) (set_again xs k x y)

set_swaps : {A : Type 0} (xs : List A) (j k : ℕ) (x y : A) → j ≢ k → slice_set (slice_set xs k y) j x ≡ slice_set (slice_set xs j x) k y
set_swaps [] j k x y apart = refl
set_swaps (z ∷ xs) zero zero x y apart = absurd (apart refl)
set_swaps (z ∷ xs) zero (suc k) x y apart = refl
set_swaps (z ∷ xs) (suc j) zero x y apart = refl
set_swaps (z ∷ xs) (suc j) (suc k) x y apart = ap (λ l. z ∷ l) (set_swaps xs j k x y (λ e. apart (ap suc e)))

pub length_set : {A : Type 0} (xs : List A) (k : ℕ) (x : A) → length (slice_set xs k x) ≡ length xs
length_set [] k x = refl
length_set (z ∷ xs) zero x = refl
length_set (z ∷ xs) (suc k) x = ap suc (length_set xs k x)

-- The slot of a link

-- that of link k is closed
pub own_slot : (k : ℕ) (s : State) → slot_at k (state_without k s) ≡ closed_slot
own_slot k s = closed_there k s.slots

-- that of another is as it was
pub other_slot : (k j : ℕ) (s : State) → (j == k) ≡ false → slot_at j (state_without k s) ≡ slot_at j s
other_slot k j s other = slot_other s.slots k j closed_slot (apart j k other)

pub other_link_at : (k j : ℕ) (s : State) → (j == k) ≡ false → slot_link_at j (state_without k s) ≡ slot_without k (slot_link_at j s)
other_link_at k j s other =
    ap (λ (x : SlotState). link_in_slot (record { devices = map (device_without k) s.devices; waiting = without_waiter k s.waiting; said = x.said }) x.link) (other_slot k j s other)

-- a change of link k: nothing, without it
pub own_put : (k : ℕ) (s : State) (d : SlotLink) → map (device_without k) d.environment.devices ≡ map (device_without k) s.devices → without_waiter k d.environment.waiting ≡ without_waiter k s.waiting →
    state_without k (with_slot_link k s d) ≡ state_without k s
own_put k s d devices waiting =
    ap (λ ds. record { devices = ds; slots = slice_set (slice_set s.slots k (record { link = d.link; said = d.environment.said })) k closed_slot; waiting = without_waiter k d.environment.waiting }) devices
    ∙ ap (λ slots. record { devices = map (device_without k) s.devices; slots = slots; waiting = without_waiter k d.environment.waiting }) (set_again s.slots k (record { link = d.link; said = d.environment.said }) closed_slot)
    ∙ ap (λ ws. record { devices = map (device_without k) s.devices; slots = slice_set s.slots k closed_slot; waiting = ws }) waiting

-- and of another link: the same
pub other_put : (k j : ℕ) (s : State) (d : SlotLink) → (j == k) ≡ false → with_slot_link j (state_without k s) (slot_without k d) ≡ state_without k (with_slot_link j s d)
other_put k j s d other =
    ap (λ slots. record { devices = map (device_without k) d.environment.devices; slots = slots; waiting = without_waiter k d.environment.waiting })
    (set_swaps s.slots j k (record { link = d.link; said = d.environment.said }) closed_slot (eqb-false j k other))

-- a slot becomes another
pub own_becomes : (k : ℕ) (slot : SlotState) (s : State) → state_without k (with_slot k slot s) ≡ state_without k s
own_becomes k slot s = ap (λ slots. record (state_without k s) { slots = slots }) (set_again s.slots k slot closed_slot)

pub other_becomes : (k j : ℕ) (slot : SlotState) (s : State) → (j == k) ≡ false → with_slot j slot (state_without k s) ≡ state_without k (with_slot j slot s)
other_becomes k j slot s other = ap (λ slots. record (state_without k s) { slots = slots }) (set_swaps s.slots j k slot closed_slot (eqb-false j k other))

-- Events

tell_open_other : (k j : ℕ) (e : Event) (d : SlotLink) → tell_open j e (environment_without k d.environment) d.link ≡ slot_without k (tell_open j e d.environment d.link)
tell_open_other k j e d = by_link d.link
  where
    by_link : (o : Option LinkState) → tell_open j e (environment_without k d.environment) o ≡ slot_without k (tell_open j e d.environment o)
    by_link None = refl
    by_link (Some l) = ap (λ q. link_in_slot q.environment (Some q.link)) (tell_link_other k j e (open_link d.environment l))

tell_at_other : (k j : ℕ) (e : Event) (s : State) → (j == k) ≡ false → tell_at j e (state_without k s) ≡ state_without k (tell_at j e s)
tell_at_other k j e s other =
    ap (λ d. with_slot_link j (state_without k s) (tell_open j e d.environment d.link)) (other_link_at k j s other)
    ∙ ap (with_slot_link j (state_without k s)) (tell_open_other k j e (slot_link_at j s))
    ∙ other_put k j s (tell_open j e (slot_link_at j s).environment (slot_link_at j s).link) other

tell_at_own : (k : ℕ) (e : Event) (s : State) → tell_at k e (state_without k s) ≡ state_without k (tell_at k e s)
tell_at_own k e s =
    let t = state_without k s in
    let a = (slot_link_at k s).environment in
    let told : Untouched k a (tell_open k e a (slot_link_at k s).link).environment = tell_own k e a (slot_link_at k s).link in
    ap (λ o. with_slot_link k t (tell_open k e (slot_link_at k t).environment o)) (ap (λ (x : SlotState). x.link) (own_slot k s))
    ∙ ap (λ o. with_slot_link k t (link_in_slot (slot_link_at k t).environment o)) (sym (ap (λ (x : SlotState). x.link) (own_slot k s)))
    ∙ same_door k t
    ∙ sym (own_put k s (tell_open k e a (slot_link_at k s).link) (ap (map (device_without k)) told.0) told.1)

tell_at_without : (k j : ℕ) (e : Event) (s : State) → tell_at j e (state_without k s) ≡ state_without k (tell_at j e s)
tell_at_without k j e s =
    elim (j == k) as (λ t. (j == k) ≡ t → tell_at j e (state_without k s) ≡ state_without k (tell_at j e s)) [
      | true ↦ λ same. subst (λ n. tell_at n e (state_without k s) ≡ state_without k (tell_at n e s)) (sym (eqb-true j k same)) (tell_at_own k e s)
      | false ↦ λ other. tell_at_other k j e s other
    ] refl

tell_from_without : (n k j : ℕ) (e : Event) (s : State) → tell_from n j e (state_without k s) ≡ state_without k (tell_from n j e s)
tell_from_without zero k j e s = refl
tell_from_without (suc n) k j e s = ap (tell_from n (j + 1) e) (tell_at_without k j e s) ∙ tell_from_without n k (j + 1) e (tell_at j e s)

pub tell_without : (k : ℕ) (e : Event) (s : State) → tell e (state_without k s) ≡ state_without k (tell e s)
unfolding tell
tell_without k e s = ap (λ n. tell_from n 0 e (state_without k s)) (length_set s.slots k closed_slot) ∙ tell_from_without (length s.slots) k 0 e s

-- a device becomes another, with link k as without it
pub device_changes_without : (k d : ℕ) (f : DeviceState → DeviceState) (s : State) → ((device : DeviceState) → f (device_without k device) ≡ device_without k (f device)) →
    record (state_without k s) { devices = with_device d f (state_without k s).devices } ≡ state_without k (record s { devices = with_device d f s.devices })
device_changes_without k d f s same = ap (λ ds. record (state_without k s) { devices = ds }) (with_device_without k d f f s.devices (λ device there. same device))

pub line_becomes_without : (k : ℕ) (f : Phone → Phone) (kind : EventKind) (value d : ℕ) (device : DeviceState) (s : State) → line_becomes f kind value d (device_without k device) (state_without k s) ≡ state_without k (line_becomes f kind value d device s)
line_becomes_without k f kind value d device s =
    let g : DeviceState → DeviceState = λ device. record device { line = option_map f device.line } in
    ap (tell (event_at kind d device value)) (device_changes_without k d g s (λ device. refl)) ∙ tell_without k (event_at kind d device value) (record s { devices = with_device d g s.devices })
