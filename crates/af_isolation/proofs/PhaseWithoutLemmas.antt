-- Hooks and wakes with link k and without it.
use Rattle.std.proofs.Common.{◌≡◌, ◌≢◌, ℕ, zero, suc, ◌+◌, ◌==◌, ◌&&◌, nat_le, nat_lt, Bool, true, false, not, cond, List, [], ◌∷◌, length, is_some, map, option_map, slice_get, slice_set, refl, sym, ap, ◌∙◌, subst, eqb-true}
use Rattle.std.proofs.lemmas.Bool.{eqb-false}
use Rattle.std.specs.declared.option.Option.{Option}
use Rattle.std.specs.declared.option.Option.TheVariants.{None, Some}
use Rattle.af_limits.specs.Limits.{longest_tick}
use Rattle.af_phone.specs.Lines.{line_after_change, event_kind_of, flag_value, line_after_hook, is_change, value_of}
use Rattle.af_phone.specs.declared.LineChange.{LineChange}
use Rattle.af_wire.specs.declared.event.EventKind.TheVariants as kind
use Rattle.af_world.specs.declared.happening.Happening.{Happening}
use Rattle.af_world.specs.declared.happening.Happening.TheVariants.{Captured, Emitted, Hooked}
use Rattle.af_world.specs.declared.happening.Wake.{Wake}
use Rattle.af_world.specs.declared.happening.Wake.TheVariants as wake
use Rattle.af_world.specs.Log.{Log}
use Rattle.af_world.specs.Outside.{same_bytes}
use Rattle.af_model.specs.State.{DeviceState, LinkState, Outline, SlotState, State, closed_slot, lines_of, links_of, new_link_state, outline, slot_at, with_slot}
use Rattle.af_model.specs.Tick.{captured_samples, sound, tick}
use Rattle.af_model.specs.Events.{after_hook, after_hook_failure}
use Rattle.af_model.specs.Turn.{Parsed, after_capture, capture_by, emit_by, fits, has_line_at, hook_all, hook_at, hook_by, hook_for, hook_from, wanted_hook, in_slot, is_closed_at, is_open_at, line_phase, parse_one, parse_then, accept, mark_readable, same_flag, and_then, tick_phase, wake_phase, mark_writable}
use Rattle.af_model.proofs.BoolTestLemmas.{cond-some, none_some, some_is}
use Rattle.af_model.proofs.PhasePartLemmas.{then_inv}
use Rattle.af_isolation.specs.Without.{acted_on, device_without, state_without, wake_without, without}
use Rattle.af_isolation.proofs.OtherLinkLemmas.{apart, device_at_without, devices_count}
use Rattle.af_isolation.proofs.OtherLinkPhaseLemmas.{Follows, follows_nothing, follows_one, follows_then}
use Rattle.af_isolation.proofs.SlotWithoutLemmas.{device_changes_without, line_becomes_without, other_becomes, other_slot, own_becomes}
use Rattle.af_isolation.proofs.TickWithoutLemmas.{tick_without}

-- Hooks

hook_by_without : (k d : ℕ) (off : Bool) (device : DeviceState) (s : State) (h : Happening) → hook_by d off (device_without k device) (state_without k s) h ≡ option_map (state_without k) (hook_by d off device s h)
hook_by_without k d off device s (Hooked e wanted done) =
    elim (e == d && same_flag wanted off) as (λ t. cond t (Some (cond done (after_hook off d (device_without k device) (state_without k s)) (after_hook_failure d (state_without k s)))) None
    ≡ option_map (state_without k) (cond t (Some (cond done (after_hook off d device s) (after_hook_failure d s))) None)) [
      | true ↦ ap (λ t. Some t) (either done)
      | false ↦ refl
    ]
  where
    either : (done : Bool) → cond done (after_hook off d (device_without k device) (state_without k s)) (after_hook_failure d (state_without k s)) ≡ state_without k (cond done (after_hook off d device s) (after_hook_failure d s))
    either true = line_becomes_without k (line_after_hook true) kind.Hook (flag_value off) d device s
    either false = device_changes_without k d (λ device. record device { line = option_map (line_after_hook false) device.line }) s (λ device. refl)
hook_by_without k d off device s other = refl

hook_kept : (k d : ℕ) (off : Bool) (device : DeviceState) (s : State) (h : Happening) (t : State) → hook_by d off device s h ≡ Some t → (log : Log) → without k (h ∷ log) ≡ h ∷ without k log
hook_kept k d off device s (Hooked e wanted done) t i log = refl
hook_kept k d off device s (Captured e n got) t i log = refl
hook_kept k d off device s (Emitted e sound done) t i log = refl
hook_kept k d off device s other t i log = absurd (none_some i)

hook_at_without : (k d : ℕ) (o : Option DeviceState) (s : State) → Follows k (state_without k) (hook_at d o s) (hook_at d (option_map (device_without k) o) (state_without k s))
hook_at_without k d None s = follows_nothing k (state_without k) s
hook_at_without k d (Some device) s =
    elim (wanted_hook device) as (λ o. Follows k (state_without k) (hook_for d device o s) (hook_for d (device_without k device) o (state_without k s))) [
      | None ↦ follows_nothing k (state_without k) s
      | Some off ↦ follows_one k (state_without k) (hook_by d off device s) (hook_by d off (device_without k device) (state_without k s)) (hook_by_without k d off device s) (hook_kept k d off device s)
    ]

hook_from_without : (n k d : ℕ) (s : State) → Follows k (state_without k) (hook_from n d s) (hook_from n d (state_without k s))
unfolding hook_from
hook_from_without zero k d s = follows_nothing k (state_without k) s
hook_from_without (suc n) k d s =
    follows_then k (state_without k) (state_without k) (λ log. hook_at d (slice_get s.devices d) s log) (λ log. hook_at d (slice_get (state_without k s).devices d) (state_without k s) log) (hook_from n (d + 1)) (hook_from n (d + 1))
    (λ log b e. ap (λ o. hook_at d o (state_without k s) (without k log)) (device_at_without k s.devices d) ∙ hook_at_without k d (slice_get s.devices d) s log b e)
    (λ t. hook_from_without n k (d + 1) t)

pub hook_all_without : (k : ℕ) (s : State) → Follows k (state_without k) (hook_all s) (hook_all (state_without k s))
hook_all_without k s log b e = ap (λ n. hook_from n 0 (state_without k s) (without k log)) (devices_count k s.devices) ∙ hook_from_without (length s.devices) k 0 s log b e

-- Ticks

capture_kept : (k d n : ℕ) (device : DeviceState) (h : Happening) (got : Option (List ℕ)) → capture_by d n device h ≡ Some got → (log : Log) → without k (h ∷ log) ≡ h ∷ without k log
capture_kept k d n device (Captured e m x) got i log = refl
capture_kept k d n device (Emitted e sound done) got i log = refl
capture_kept k d n device (Hooked e off done) got i log = refl
capture_kept k d n device other got i log = absurd (none_some i)

same_option : {A : Type 0} (o : Option A) → o ≡ option_map (λ x. x) o
same_option None = refl
same_option (Some x) = refl

-- the device with its frames, if link k has not acted on any device after them
module _ (k d n : ℕ) (device : DeviceState) (s : State) (there : slice_get s.devices d ≡ Some device) where
  ticked_without : (got : Option (List ℕ)) (is_dead : Bool) → acted_on k (tick d n (captured_samples device n got) is_dead s).devices ≡ false →
      tick d n (captured_samples device n got) is_dead (state_without k s) ≡ state_without k (tick d n (captured_samples device n got) is_dead s)
  ticked_without got is_dead silent = tick_without k d n (captured_samples device n got) is_dead s device there silent

  emit_without : (bytes : List ℕ) (h : Happening) (t : State) → emit_by d n device (captured_samples device n (Some bytes)) s h ≡ Some t → acted_on k t.devices ≡ false →
      (emit_by d n (device_without k device) (captured_samples device n (Some bytes)) (state_without k s) h ≡ Some (state_without k t)) × ((log : Log) → without k (h ∷ log) ≡ h ∷ without k log)
  emit_without bytes (Emitted j out done) t e silent =
      let next = tick d n (captured_samples device n (Some bytes)) (not done) s in
      let i = cond-some (j == d && same_bytes out (sound device n)) (Some next) t e in
      let is : next ≡ t = some_is i.1 in (
        ap (λ b. cond b (Some (tick d n (captured_samples device n (Some bytes)) (not done) (state_without k s))) None) i.0
            ∙ ap (λ u. Some u) (ticked_without (Some bytes) (not done) (ap (λ (u : State). acted_on k u.devices) is ∙ silent) ∙ ap (state_without k) is),
        λ log. refl,
      )
  emit_without bytes other t e silent = absurd (none_some e)

  emitted_without : (bytes : List ℕ) (log : Log) (b : Parsed State) → parse_one (emit_by d n device (captured_samples device n (Some bytes)) s) log ≡ Some b → acted_on k b.state.devices ≡ false →
      parse_one (emit_by d n (device_without k device) (captured_samples device n (Some bytes)) (state_without k s)) (without k log) ≡ accept (state_without k b.state) (without k b.log)
  emitted_without bytes [] b e silent = absurd (none_some e)
  emitted_without bytes (h ∷ log) b e silent =
      let f = emit_by d n device (captured_samples device n (Some bytes)) s in
      let g = emit_by d n (device_without k device) (captured_samples device n (Some bytes)) (state_without k s) in
      elim (f h) as (λ o. f h ≡ o → and_then o (λ t. accept t log) ≡ Some b → parse_one g (without k (h ∷ log)) ≡ accept (state_without k b.state) (without k b.log)) [
        | None ↦ λ i e. absurd (none_some e)
        | Some t ↦ λ i e.
            let is = some_is e in
            let one = emit_without bytes h t i (ap (λ (x : Parsed State). acted_on k x.state.devices) is ∙ silent) in
            ap (parse_one g) (one.1 log) ∙ ap (λ o. and_then o (λ t. accept t (without k log))) one.0 ∙ ap (λ (x : Parsed State). accept (state_without k x.state) (without k x.log)) is
      ] refl e

  captured_without : (got : Option (List ℕ)) (log : Log) (b : Parsed State) → after_capture d n device s got log ≡ Some b → acted_on k b.state.devices ≡ false →
      after_capture d n (device_without k device) (state_without k s) got (without k log) ≡ accept (state_without k b.state) (without k b.log)
  captured_without None log b e silent =
      let is = some_is e in
      ap (λ t. accept t (without k log)) (ticked_without None true (ap (λ (x : Parsed State). acted_on k x.state.devices) is ∙ silent)) ∙ ap (λ (x : Parsed State). accept (state_without k x.state) (without k x.log)) is
  captured_without (Some bytes) log b e silent = emitted_without bytes log b e silent

  live_without : (log : Log) (b : Parsed State) → parse_then (parse_one (capture_by d n device) log) (after_capture d n device s) ≡ Some b → acted_on k b.state.devices ≡ false →
      parse_then (parse_one (capture_by d n (device_without k device)) (without k log)) (after_capture d n (device_without k device) (state_without k s)) ≡ accept (state_without k b.state) (without k b.log)
  live_without log b e silent =
      let i = then_inv (parse_one (capture_by d n device) log) (after_capture d n device s) b e in
      let c = i.0 in
      ap (λ x. parse_then x (after_capture d n (device_without k device) (state_without k s))) (follows_one k (λ x. x) (capture_by d n device) (capture_by d n (device_without k device)) (λ h. same_option (capture_by d n device h)) (capture_kept k d n device) log c i.1)
      ∙ captured_without c.state c.log b i.2 silent

tick_phase_without : (k d n : ℕ) (o : Option DeviceState) (s : State) → slice_get s.devices d ≡ o → (log : Log) (b : Parsed State) → tick_phase d n o s log ≡ Some b → acted_on k b.state.devices ≡ false →
    tick_phase d n (option_map (device_without k) o) (state_without k s) (without k log) ≡ accept (state_without k b.state) (without k b.log)
tick_phase_without k d n None s there log b e silent = absurd (none_some e)
tick_phase_without k d n (Some device) s there log b e silent =
    elim device.is_dead as (λ t. cond t (accept (tick d n (captured_samples device n None) true s) log) (parse_then (parse_one (capture_by d n device) log) (after_capture d n device s)) ≡ Some b →
    cond t (accept (tick d n (captured_samples device n None) true (state_without k s)) (without k log)) (parse_then (parse_one (capture_by d n (device_without k device)) (without k log)) (after_capture d n (device_without k device) (state_without k s)))
    ≡ accept (state_without k b.state) (without k b.log)) [
      | true ↦ λ e. captured_without k d n device s there None log b e silent
      | false ↦ λ e. live_without k d n device s there log b e silent
    ] e

-- Lines

line_phase_without : (k : ℕ) (change : LineChange) (d : ℕ) (o : Option DeviceState) (s : State) → Follows k (state_without k) (line_phase change d o s) (line_phase change d (option_map (device_without k) o) (state_without k s))
line_phase_without k change d None s log b e = absurd (none_some e)
line_phase_without k change d (Some device) s log b e =
    ap (λ t. accept t (without k log)) (line_becomes_without k (line_after_change change) (event_kind_of change) (value_of change) d device s) ∙ ap (λ (x : Parsed State). accept (state_without k x.state) (without k x.log)) (some_is e)

-- Wakes

-- a slot becomes what its link is woken to
woken_slot : (k j : ℕ) (f : SlotState → SlotState) (w v : Wake) (s : State) → ((t : State) (log : Log) → wake_phase v t log ≡ accept (with_slot j (f (slot_at j t)) t) log) →
    Follows k (state_without k) (λ log. accept (with_slot j (f (slot_at j s)) s) log) (wake_phase (cond (j == k) wake.Idle v) (state_without k s))
unfolding wake_phase
woken_slot k j f w v s phase log b e =
    ap_case (j == k) refl ∙ ap (λ (x : Parsed State). accept (state_without k x.state) (without k x.log)) (some_is e)
  where
    ap_case : (t : Bool) → (j == k) ≡ t → wake_phase (cond t wake.Idle v) (state_without k s) (without k log) ≡ accept (state_without k (with_slot j (f (slot_at j s)) s)) (without k log)
    ap_case true same = ap (λ u. accept u (without k log)) (sym (subst (λ n. state_without k (with_slot n (f (slot_at j s)) s) ≡ state_without k s) (sym (eqb-true j k same)) (own_becomes k (f (slot_at j s)) s)))
    ap_case false other =
        phase (state_without k s) (without k log)
        ∙ ap (λ x. accept (with_slot j (f x) (state_without k s)) (without k log)) (other_slot k j s other)
        ∙ ap (λ u. accept u (without k log)) (other_becomes k j (f (slot_at j s)) s other)

pub wake_phase_without : (k : ℕ) (w : Wake) (s : State) (log : Log) (b : Parsed State) → wake_phase w s log ≡ Some b → acted_on k b.state.devices ≡ false →
    wake_phase (wake_without k w) (state_without k s) (without k log) ≡ accept (state_without k b.state) (without k b.log)
unfolding wake_phase
wake_phase_without k (wake.Opened j) s log b e silent = woken_slot k j (λ slot. record { link = Some new_link_state; said = [] }) (wake.Opened j) (wake.Opened j) s (λ t log. refl) log b e
wake_phase_without k (wake.Readable j) s log b e silent = woken_slot k j (in_slot mark_readable) (wake.Readable j) (wake.Readable j) s (λ t log. refl) log b e
wake_phase_without k (wake.Writable j) s log b e silent = woken_slot k j (in_slot mark_writable) (wake.Writable j) (wake.Writable j) s (λ t log. refl) log b e
wake_phase_without k (wake.Ticked d n) s log b e silent = ap (λ o. tick_phase d n o (state_without k s) (without k log)) (device_at_without k s.devices d) ∙ tick_phase_without k d n (slice_get s.devices d) s refl log b e silent
wake_phase_without k (wake.Line d change) s log b e silent = ap (λ o. line_phase change d o (state_without k s) (without k log)) (device_at_without k s.devices d) ∙ line_phase_without k change d (slice_get s.devices d) s log b e
wake_phase_without k wake.Idle s log b e silent = follows_nothing k (state_without k) s log b e
wake_phase_without k wake.Stop s log b e silent = follows_nothing k (state_without k) s log b e

-- A wake that fits, fits without link k

lines_without : (k : ℕ) (devices : List DeviceState) → lines_of (map (device_without k) devices) ≡ lines_of devices
lines_without k [] = refl
lines_without k (device ∷ devices) = ap (λ l. is_some device.line ∷ l) (lines_without k devices)

open_other : (k j : ℕ) (slots : List SlotState) → j ≢ k → slice_get (map {A = Option LinkState} {B = Bool} is_some (links_of (slice_set slots k closed_slot))) j ≡ slice_get (map {A = Option LinkState} {B = Bool} is_some (links_of slots)) j
open_other k j [] apart = refl
open_other zero zero (x ∷ slots) apart = absurd (apart refl)
open_other zero (suc j) (x ∷ slots) apart = refl
open_other (suc k) zero (x ∷ slots) apart = refl
open_other (suc k) (suc j) (x ∷ slots) apart = open_other k j slots (λ e. apart (ap suc e))

named_fits : (k j : ℕ) (v : Wake) (s : State) (test : Option Bool → Bool) → ((o : Outline) → fits o v ≡ test (slice_get o.links j)) → fits (outline s) v ≡ true → fits (outline (state_without k s)) (cond (j == k) wake.Idle v) ≡ true
named_fits k j v s test is fit =
    elim (j == k) as (λ t. (j == k) ≡ t → fits (outline (state_without k s)) (cond t wake.Idle v) ≡ true) [
      | true ↦ λ same. refl
      | false ↦ λ other. is (outline (state_without k s)) ∙ ap test (open_other k j s.slots (eqb-false j k other)) ∙ sym (is (outline s)) ∙ fit
    ] refl

pub fits_without : (k : ℕ) (w : Wake) (s : State) → fits (outline s) w ≡ true → fits (outline (state_without k s)) (wake_without k w) ≡ true
fits_without k (wake.Opened j) s fit = named_fits k j (wake.Opened j) s is_closed_at (λ o. refl) fit
fits_without k (wake.Readable j) s fit = named_fits k j (wake.Readable j) s is_open_at (λ o. refl) fit
fits_without k (wake.Writable j) s fit = named_fits k j (wake.Writable j) s is_open_at (λ o. refl) fit
fits_without k (wake.Ticked d n) s fit = ap (λ lines. nat_lt d (length lines) && nat_le 1 n && nat_le n longest_tick) (lines_without k s.devices) ∙ fit
fits_without k (wake.Line d change) s fit = ap (λ lines. has_line_at (slice_get lines d) && is_change change) (lines_without k s.devices) ∙ fit
fits_without k wake.Idle s fit = refl
fits_without k wake.Stop s fit = refl
