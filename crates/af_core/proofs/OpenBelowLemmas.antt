-- The number below which all open links are. The slots from there on have no part in a turn.
use Rattle.std.proofs.Common.{◌≡◌, ◌≢◌, ◌==◌, eqb-true, get_or, replicate, ℕ, zero, suc, ◌≤◌, ◌<◌, ◌+◌, Bool, true, false, not, cond, List, [], ◌∷◌, ◌++◌, length, map, slice_get, slice_set, is_some, refl, sym, ap, ◌∙◌, subst, arith}
use Rattle.std.proofs.Math.Nat.{le-max_left, le-max_right, max-le}
use Rattle.std.proofs.lemmas.Bool.Decides.{nat_tests}
use Rattle.std.proofs.lemmas.List.{map-set}
use Rattle.std.specs.declared.option.Option.{Option}
use Rattle.std.specs.declared.option.Option.TheVariants.{None, Some}
use Rattle.af_limits.specs.Limits.{most_links}
use Rattle.af_phone.specs.declared.line.LineChange.{LineChange}
use Rattle.af_phone.specs.Lines.{line_after_change, event_kind_of, flag_value, line_after_hook, value_of}
use Rattle.af_wire.specs.declared.event.EventKind.TheVariants as kind
use Rattle.af_world.specs.declared.happening.Wake.{Wake}
use Rattle.af_world.specs.declared.happening.Wake.TheVariants.{Opened, Readable, Writable, Ticked, Line, Idle, Stop}
use Rattle.af_world.specs.Log.{Log}
use Rattle.af_model.specs.State.{State, DeviceState, LinkState, link_in_slot, new_link_state, slot_at, with_slot}
use Rattle.af_model.specs.Tick.{captured_samples, tick}
use Rattle.af_model.specs.Events.{after_hook, after_hook_failure, line_changes}
use Rattle.af_model.specs.Turn.{Parsed, accept, parse_then, parse_one, capture_by, after_capture, tick_phase, line_phase, wake_phase, hook_all, hook_at, hook_from, fits, is_closed_at, is_open_at, mark_readable, mark_writable, in_slot, serve_open, serve_slot_link}
use Rattle.af_model.proofs.BoolTestLemmas.{none_some}
use Rattle.af_model.proofs.ListLemmas.{get-set_other}
use Rattle.af_model.proofs.SlotLemmas.{some_link}
use Rattle.af_model.proofs.OpenLinkLemmas.{becomes-opens, flagged, open_after, open_links, open_links-set, tick-opens}
use Rattle.af_model.proofs.PhasePartLemmas.{Takes, hook_takes, live_takes, takes_chain, takes_nothing}
use Rattle.af_state.specs.SharedState.{KeptSharedState}
use Rattle.af_core.specs.Stands.{Kept, NoneOpenFrom, StandsFor, StandsForSlot, open_below_after, outline_of}
use Rattle.af_core.specs.Simulates.{Simulates}
use Rattle.af_core.proofs.SimulationLemmas.{simulates_nothing}

-- which links are open
abbrev opens : List (Option LinkState) → List Bool
opens links = map {A = Option LinkState} {B = Bool} is_some links

-- Which links are open after a wake, and after the hooks

abbrev OpensAs : (List Bool → List Bool) → State → Log → State → Type 0
OpensAs f s log t = open_links t.slots ≡ f (open_links s.slots)

ticked_opens : (d n : ℕ) (o : Option DeviceState) (s : State) → Takes (tick_phase d n o s) (OpensAs (λ w. w) s)
ticked_opens d n None s = λ log b e. absurd (none_some e)
ticked_opens d n (Some device) s =
    elim device.is_dead as (λ t. Takes (λ log. cond t (accept (tick d n (captured_samples device n None) true s) log) (parse_then (parse_one (capture_by d n device) log) (after_capture d n device s))) (OpensAs (λ w. w) s)) [
      | true ↦ takes_nothing (tick d n (captured_samples device n None) true s) (OpensAs (λ w. w) s) (tick-opens d n (captured_samples device n None) true s)
      | false ↦ live_takes d n device s (OpensAs (λ w. w) s) (tick-opens d n (captured_samples device n None) true s) (λ bytes done size. tick-opens d n (captured_samples device n (Some bytes)) (not done) s)
    ]

line_opens : (change : LineChange) (d : ℕ) (o : Option DeviceState) (s : State) → Takes (line_phase change d o s) (OpensAs (λ w. w) s)
line_opens change d None s = λ log b e. absurd (none_some e)
line_opens change d (Some device) s = takes_nothing (line_changes change d device s) (OpensAs (λ w. w) s) (becomes-opens (line_after_change change) (event_kind_of change) (value_of change) d device s)

pub wake_opens : (w : Wake) (s : State) → Takes (wake_phase w s) (OpensAs (λ links. open_after links w) s)
unfolding wake_phase
wake_opens (Opened k) s = takes_nothing (with_slot k (record { link = Some new_link_state; said = [] }) s) (OpensAs (λ links. open_after links (Opened k)) s) (open_links-set s.slots k (record { link = Some new_link_state; said = [] }))
wake_opens (Readable k) s = takes_nothing (with_slot k (in_slot mark_readable (slot_at k s)) s) (OpensAs (λ w. w) s) (flagged mark_readable s k)
wake_opens (Writable k) s = takes_nothing (with_slot k (in_slot mark_writable (slot_at k s)) s) (OpensAs (λ w. w) s) (flagged mark_writable s k)
wake_opens (Ticked d n) s = ticked_opens d n (slice_get s.devices d) s
wake_opens (Line d change) s = line_opens change d (slice_get s.devices d) s
wake_opens Idle s = takes_nothing s (OpensAs (λ w. w) s) refl
wake_opens Stop s = takes_nothing s (OpensAs (λ w. w) s) refl

given_opens : (d : ℕ) (off done : Bool) (device : DeviceState) (s : State) → open_links (cond done (after_hook off d device s) (after_hook_failure d s)).slots ≡ open_links s.slots
given_opens d off true device s = becomes-opens (line_after_hook true) kind.Hook (flag_value off) d device s
given_opens d off false device s = refl

hook_opens : (d : ℕ) (o : Option DeviceState) (s : State) → Takes (hook_at d o s) (OpensAs (λ w. w) s)
hook_opens d None s = takes_nothing s (OpensAs (λ w. w) s) refl
hook_opens d (Some device) s = hook_takes d device s (OpensAs (λ w. w) s) refl (λ wanted off done. given_opens d off done device s)

hooks_from : (n d : ℕ) (s : State) → Takes (hook_from n d s) (OpensAs (λ w. w) s)
unfolding hook_from
hooks_from zero d s = takes_nothing s (OpensAs (λ w. w) s) refl
hooks_from (suc n) d s =
    takes_chain (λ s log. hook_at d (slice_get s.devices d) s log) (hook_from n (d + 1)) (OpensAs (λ w. w)) (OpensAs (λ w. w)) (OpensAs (λ w. w)) (λ s p t q u a b. b ∙ a) (λ s. hook_opens d (slice_get s.devices d) s) (hooks_from n (d + 1)) s

pub hooks_open : (s : State) → Takes (hook_all s) (OpensAs (λ w. w) s)
hooks_open s = hooks_from (length s.devices) 0 s

-- what is kept says the same
pub kept_opens : {a b : Option Log} (kept kept' : Kept) (phase : State → Log → Option (Parsed State)) (f : List Bool → List Bool) → ((s : State) → Takes (phase s) (OpensAs f s)) → (s : State) × StandsFor kept s →
    Simulates a b (StandsFor kept) (StandsFor kept') phase accept → opens kept'.links ≡ f (opens kept.links)
kept_opens kept kept' phase f takes stood d =
    let s = stood.0 in
    let r = d.each s stood.1 in
    let taken = takes s (d.part ++ []) (record { state = r.state; log = [] }) (r.same []) in
    sym (ap opens r.stands.links) ∙ taken.holds ∙ ap (λ ls. f (opens ls)) stood.1.links

-- after a wake no link is open from the moved number on
pub none_open_woken : (wake : Wake) (n : ℕ) (old new : List (Option LinkState)) → opens new ≡ open_after (opens old) wake → NoneOpenFrom n old → NoneOpenFrom (open_below_after wake n) new
none_open_woken (Opened j) n old new e none k from =
    let left = le-max_left n (j + 1) in
    let right = le-max_right n (j + 1) in
    let apart : k ≢ j = λ same. absurd (omega (arith, from, same, right)) in
    subst (λ w. is_open_at (slice_get w k) ≡ false) (sym e) (subst (λ o. is_open_at o ≡ false) (sym (get-set_other (opens old) j k true apart)) (none k (omega (arith, from, left))))
none_open_woken _ n old new e none k from = subst (λ w. is_open_at (slice_get w k) ≡ false) (sym e) (none k from)

pub none_open_same : (n : ℕ) (old new : List (Option LinkState)) → opens new ≡ opens old → NoneOpenFrom n old → NoneOpenFrom n new
none_open_same n old new e none k from = subst (λ w. is_open_at (slice_get w k) ≡ false) (sym e) (none k from)

-- a link below that number changes
pub none_open_set : (n j : ℕ) (links : List (Option LinkState)) (link : Option LinkState) → j < n → NoneOpenFrom n links → NoneOpenFrom n (slice_set links j link)
none_open_set n j links link below none k from =
    let apart : k ≢ j = λ same. absurd (omega (arith, from, same, below)) in
    subst (λ w. is_open_at (slice_get w k) ≡ false) (sym (map-set {A = Option LinkState} {B = Bool} is_some links j link)) (subst (λ o. is_open_at o ≡ false) (sym (get-set_other (opens links) j k (is_some link) apart)) (none k from))

-- none is open at all
pub none_open_starts : (links : List (Option LinkState)) → links ≡ replicate most_links None → NoneOpenFrom 0 links
none_open_starts links e k from = subst (λ (ls : List (Option LinkState)). is_open_at (slice_get (opens ls) k) ≡ false) (sym e) (none_at most_links k)
  where
    none_at : (n k : ℕ) → is_open_at (slice_get (opens (replicate n None)) k) ≡ false
    none_at zero k = refl
    none_at (suc n) zero = refl
    none_at (suc n) (suc k) = none_at n k

-- the number falls if the link below it is not open
open_here : (links : List (Option LinkState)) (n : ℕ) (d : Option LinkState) → n < length links → is_open_at (slice_get (opens links) n) ≡ is_some (get_or links n d)
open_here [] n d there = absurd (omega (arith, there))
open_here (x ∷ links) zero d there = refl
open_here (x ∷ links) (suc n) d there = open_here links n d (omega (arith, there))

pub none_open_below : (n : ℕ) (links : List (Option LinkState)) (d : Option LinkState) → n < length links → is_some (get_or links n d) ≡ false → NoneOpenFrom (n + 1) links → NoneOpenFrom n links
none_open_below n links d there closed none k from =
    elim (k == n) as (λ b. (k == n) ≡ b → is_open_at (slice_get (opens links) k) ≡ false) [
      | true ↦ λ t. subst (λ j. is_open_at (slice_get (opens links) j) ≡ false) (sym (eqb-true k n t)) (open_here links n d there ∙ closed)
      | false ↦ λ t. none k (grind (arith, nat_tests))
    ] refl

-- Links that are not open have no part in a turn

pub closed_here : (links : List (Option LinkState)) (k : ℕ) → is_open_at (slice_get (opens links) k) ≡ false → some_link (slice_get links k) ≡ None
closed_here [] k e = refl
closed_here (None ∷ links) zero e = refl
closed_here (Some l ∷ links) zero e = absurd cc
closed_here (x ∷ links) (suc k) e = closed_here links k e

pub closed_serves : (t : Option Log) (k : ℕ) (env : KeptSharedState) → Simulates t t (StandsForSlot env None) (StandsForSlot env None) (serve_slot_link k) accept
closed_serves t k env =
    simulates_nothing t (StandsForSlot env None) (StandsForSlot env None) (serve_slot_link k) accept (λ d. d) (λ d h. h)
    (λ d h log. ap (λ o. serve_open k d.environment o log) h.1 ∙ ap (λ (o : Option LinkState). accept (link_in_slot d.environment o) log) (sym h.1))

-- a link that is opened has a number
below_woken : (wake : Wake) (n : ℕ) (kept : Kept) → fits (outline_of kept) wake ≡ true → n ≤ length kept.links → open_below_after wake n ≤ length kept.links
below_woken (Opened k) n kept fit bound = let low = here kept.links k fit in max-le bound (omega (arith, low))
  where
    here : (links : List (Option LinkState)) (k : ℕ) → is_closed_at (slice_get (opens links) k) ≡ true → k < length links
    here [] k e = absurd cc
    here (x ∷ links) zero e = omega arith
    here (x ∷ links) (suc k) e = let low = here links k e in omega (arith, low)
below_woken _ n kept fit bound = bound

pub woken_within : (wake : Wake) (n below : ℕ) (kept : Kept) (links : List (Option LinkState)) → below ≡ open_below_after wake n → fits (outline_of kept) wake ≡ true → n ≤ most_links → length kept.links ≡ most_links → length links ≡ most_links → below ≤ length links
woken_within wake n below kept links is fit bound before after =
    let low = below_woken wake n kept fit (subst (λ m. n ≤ m) (sym before) bound) in
    subst (λ m. m ≤ length links) (sym is) (subst (λ m. open_below_after wake n ≤ m) (before ∙ sym after) low)
