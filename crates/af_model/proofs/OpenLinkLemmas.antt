-- Which links are open, outside and inside, and what leaves them so.
use Rattle.std.proofs.Common.{◌≡◌, ℕ, ℤ, zero, suc, ◌+◌, Bool, true, List, [], ◌∷◌, length, map, find, option_map, option_and_then, slice_get, slice_set, is_some, refl, ap, ◌∙◌, IfSome}
use Rattle.std.proofs.lemmas.List.{map-set}
use Rattle.std.specs.declared.option.Option.{Option}
use Rattle.std.specs.declared.option.Option.TheVariants.{None, Some}
use Rattle.af_world.specs.declared.happening.Wake.{Wake}
use Rattle.af_world.specs.declared.happening.Wake.TheVariants.{Opened}
use Rattle.af_world.specs.Outside.{Outside, ScriptedClient, some_client, client_at, with_client}
use Rattle.af_model.specs.State.{State, SlotState, EnvironmentState, OpenLink, Deferral, SlotLink, with_device, LinkState, DeviceState, slot_link_at, slot_at, some_slot, links_of}
use Rattle.af_wait.specs.Waits.{without_first}
use Rattle.af_model.specs.Waiting.{falls_due}
use Rattle.af_model.specs.Advance.{or_else}
use Rattle.af_model.specs.Tick.{complete, complete_at, complete_by, complete_due, complete_first, complete_step, device_after, tick}
use Rattle.af_model.specs.Turn.{in_open, in_slot}
use Rattle.af_wire.specs.declared.event.Event.{Event}
use Rattle.af_wire.specs.declared.event.EventKind.{EventKind}
use Rattle.af_request.specs.declared.reply.Phone.{Phone}
use Rattle.af_model.specs.Events.{event_at, line_becomes, tell, tell_at, tell_from, tell_open}
use Rattle.af_model.proofs.SlotLemmas.{links_of-set}

-- the links that are open outside
abbrev pub opens : Outside → List Bool
opens o = map {A = Option ScriptedClient} {B = Bool} is_some o.clients

-- the links that are open inside
abbrev pub open_links : List SlotState → List Bool
open_links slots = map {A = Option LinkState} {B = Bool} is_some (links_of slots)

-- the same links are open outside and inside
abbrev pub Agree : State → Outside → Type 0
Agree s o = opens o ≡ open_links s.slots

-- the links that are open outside while an open link is served: that link, and all others as before
abbrev pub AtPlace : List Bool → ℕ → OpenLink → Outside → Type 0
AtPlace w k p o = opens o ≡ slice_set w k true

-- the same after that: the link may be closed
abbrev pub StandsForSlot : List Bool → ℕ → SlotLink → Outside → Type 0
StandsForSlot w k d o = opens o ≡ slice_set w k (is_some d.link)

pub opens-set : (o : Outside) (k : ℕ) (client : Option ScriptedClient) → opens (with_client o k client) ≡ slice_set (opens o) k (is_some client)
opens-set o k client = map-set is_some o.clients k client

pub set-set : (w : List Bool) (k : ℕ) (a b : Bool) → slice_set (slice_set w k a) k b ≡ slice_set w k b
set-set [] k a b = refl
set-set (x ∷ w) zero a b = refl
set-set (x ∷ w) (suc k) a b = ap (λ v. x ∷ v) (set-set w k a b)

clients_same : (clients : List (Option ScriptedClient)) (k : ℕ) → slice_set (map {A = Option ScriptedClient} {B = Bool} is_some clients) k (is_some (some_client (slice_get clients k))) ≡ map {A = Option ScriptedClient} {B = Bool} is_some clients
clients_same [] k = refl
clients_same (x ∷ clients) zero = refl
clients_same (x ∷ clients) (suc k) = ap (λ v. is_some x ∷ v) (clients_same clients k)

-- a link's client may change, if the link stays as open as it is
pub opens_stay : (o : Outside) (k : ℕ) (client : Option ScriptedClient) → is_some client ≡ is_some (client_at o k) → opens (with_client o k client) ≡ opens o
opens_stay o k client same = opens-set o k client ∙ ap (λ b. slice_set (opens o) k b) same ∙ clients_same o.clients k

pub open_links-set : (slots : List SlotState) (k : ℕ) (x : SlotState) → open_links (slice_set slots k x) ≡ slice_set (open_links slots) k (is_some x.link)
open_links-set slots k x = ap (λ l. map {A = Option LinkState} {B = Bool} is_some l) (links_of-set slots k x) ∙ map-set is_some (links_of slots) k x.link

pub open_links-same : (slots : List SlotState) (k : ℕ) → slice_set (open_links slots) k (is_some (some_slot (slice_get slots k)).link) ≡ open_links slots
open_links-same [] k = refl
open_links-same (x ∷ slots) zero = refl
open_links-same (x ∷ slots) (suc k) = ap (λ v. is_some x.link ∷ v) (open_links-same slots k)

-- Requests that complete leave the links as open as they are

complete_at-some : (w : Deferral) (a : EnvironmentState) (link : Option LinkState) → is_some (complete_at w a link).link ≡ is_some link
complete_at-some w a None = refl
complete_at-some w a (Some l) = refl

complete_opens : (w : Deferral) (s : State) → open_links (complete w s).slots ≡ open_links s.slots
complete_opens w s =
    let here = slot_link_at w.link s in
    let there = complete_at w here.environment here.link in
    open_links-set s.slots w.link (record { link = there.link; said = there.environment.said })
    ∙ ap (λ b. slice_set (open_links s.slots) w.link b) (complete_at-some w here.environment here.link) ∙ open_links-same s.slots w.link

abbrev OpensStay : State → Option State → Type 0
OpensStay s o = IfSome o (λ t. open_links t.slots ≡ open_links s.slots)

complete_first-opens : (d : ℕ) (s : State) (device : DeviceState) (o : Option Deferral) → OpensStay s (option_map (λ w. complete w (record s { waiting = without_first (falls_due d device) s.waiting })) o)
complete_first-opens d s device None = tt
complete_first-opens d s device (Some w) = complete_opens w (record s { waiting = without_first (falls_due d device) s.waiting })

complete_step-opens : (d : ℕ) (s : State) (o : Option DeviceState) → OpensStay s (option_and_then (complete_first d s) o)
complete_step-opens d s None = tt
complete_step-opens d s (Some device) = complete_first-opens d s device (find (falls_due d device) s.waiting)

complete_by-opens : (n d : ℕ) (s : State) → open_links (complete_by n d s).slots ≡ open_links s.slots
complete_by-opens zero d s = refl
complete_by-opens (suc n) d s =
    elim (complete_step d s) as (λ o. OpensStay s o → open_links (or_else s (complete_by n d) o).slots ≡ open_links s.slots) [
      | None ↦ λ h. refl
      | Some t ↦ λ h. complete_by-opens n d t ∙ h
    ] (complete_step-opens d s (slice_get s.devices d))

pub tick-opens : (d n : ℕ) (captured : List ℤ) (is_dead : Bool) (s : State) → open_links (tick d n captured is_dead s).slots ≡ open_links s.slots
unfolding complete_due
tick-opens d n captured is_dead s = complete_by-opens (length s.waiting) d (record s { devices = with_device d (device_after n captured is_dead) s.devices })

-- Events leave the links as open as they are

tell_open-some : (k : ℕ) (e : Event) (a : EnvironmentState) (link : Option LinkState) → is_some (tell_open k e a link).link ≡ is_some link
tell_open-some k e a None = refl
tell_open-some k e a (Some l) = refl

tell_at-opens : (k : ℕ) (e : Event) (s : State) → open_links (tell_at k e s).slots ≡ open_links s.slots
tell_at-opens k e s =
    let here = slot_link_at k s in
    let there = tell_open k e here.environment here.link in
    open_links-set s.slots k (record { link = there.link; said = there.environment.said })
    ∙ ap (λ b. slice_set (open_links s.slots) k b) (tell_open-some k e here.environment here.link) ∙ open_links-same s.slots k

tell_from-opens : (n k : ℕ) (e : Event) (s : State) → open_links (tell_from n k e s).slots ≡ open_links s.slots
tell_from-opens zero k e s = refl
tell_from-opens (suc n) k e s = tell_from-opens n (k + 1) e (tell_at k e s) ∙ tell_at-opens k e s

pub becomes-opens : (f : Phone → Phone) (kind : EventKind) (value d : ℕ) (device : DeviceState) (s : State) → open_links (line_becomes f kind value d device s).slots ≡ open_links s.slots
unfolding tell
becomes-opens f kind value d device s =
    let changed_line : State = record s { devices = with_device d (λ device. record device { line = option_map f device.line }) s.devices } in
    tell_from-opens (length s.slots) 0 (event_at kind d device value) changed_line

-- Wakes

-- which links are open after a wake
abbrev pub open_after : List Bool → Wake → List Bool
open_after w (Opened k) = slice_set w k true
open_after w _ = w

abbrev pub Woken : Wake → State → Outside → Type 0
Woken wake s o = opens o ≡ open_after (open_links s.slots) wake

in_open-some : (f : LinkState → LinkState) (link : Option LinkState) → is_some (in_open f link) ≡ is_some link
in_open-some f None = refl
in_open-some f (Some l) = refl

pub flagged : (f : LinkState → LinkState) (s : State) (k : ℕ) → open_links (slice_set s.slots k (in_slot f (slot_at k s))) ≡ open_links s.slots
flagged f s k = open_links-set s.slots k (in_slot f (slot_at k s)) ∙ ap (λ b. slice_set (open_links s.slots) k b) (in_open-some f (slot_at k s).link) ∙ open_links-same s.slots k
