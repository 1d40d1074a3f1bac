-- A script's step opens the same links inside and outside, and its wake fits.
use Rattle.std.proofs.Common.{◌≡◌, ℕ, zero, suc, ◌<◌, ◌≤◌, ◌&&◌, Bool, true, false, not, cond, List, [], ◌∷◌, length, map, slice_get, is_some, option_map, nat_lt, nat_le, refl, sym, ap, ◌∙◌, subst, arith, rules}
use Rattle.std.proofs.lemmas.Grind.{common_steps}
use Rattle.std.specs.declared.option.Option.{Option}
use Rattle.std.specs.declared.option.Option.TheVariants.{None, Some}
use Rattle.af_limits.specs.Limits.{most_links, longest_tick}
use Rattle.af_phone.specs.Lines.{is_change}
use Rattle.af_world.specs.declared.happening.Wake.{Wake}
use Rattle.af_world.specs.declared.happening.Wake.TheVariants as wake
use Rattle.af_world.specs.declared.script.DeviceSpec.{DeviceSpec}
use Rattle.af_world.specs.declared.script.Step.{Step}
use Rattle.af_world.specs.declared.script.Step.TheVariants.{Open, Send, End, Room, Tick, Line, FailRead, FailWrite, FailCapture, FailEmit, FailHook, Idle}
use Rattle.af_world.specs.Outside.{Outside, ScriptedClient, outside_start, client_at, some_client, fresh_client, with_open_client, with_changed_client, with_bytes, with_end, with_room, with_failing_read, with_failing_write, wake_where_open, outside_after_step, wake_of, spec_has_line, IsStep}
use Rattle.af_model.specs.State.{State, opening_state, outline, lines_of}
use Rattle.af_model.specs.Turn.{fits, has_line_at, is_open_at, is_closed_at}
use Rattle.af_model.proofs.OpenLinkLemmas.{Agree, Woken, opens, opens-set, opens_stay, open_after}

-- whether a link is open outside
client_is_open : (clients : List (Option ScriptedClient)) (k : ℕ) → is_some (some_client (slice_get clients k)) ≡ is_open_at (slice_get (map {A = Option ScriptedClient} {B = Bool} is_some clients) k)
client_is_open [] k = refl
client_is_open (x ∷ clients) zero = refl
client_is_open (x ∷ clients) (suc k) = client_is_open clients k

closed_at : (w : List Bool) (k : ℕ) → k < length w → is_open_at (slice_get w k) ≡ false → is_closed_at (slice_get w k) ≡ true
closed_at [] k lt e = absurd (omega arith)
closed_at (x ∷ w) zero lt e = ap not e
closed_at (x ∷ w) (suc k) lt e = closed_at w k (omega arith) e

open_outside : (o : Outside) (k : ℕ) → is_some (client_at o k) ≡ is_open_at (slice_get (opens o) k)
open_outside o k = client_is_open o.clients k

-- what is stated of a link leaves the links as open as they are
adjusted_opens : (o : Outside) (k : ℕ) (change : ScriptedClient → ScriptedClient) → opens (with_changed_client o k change) ≡ opens o
adjusted_opens o k change = opens_stay o k (option_map change (client_at o k)) (stays (client_at o k))
  where
    stays : (client : Option ScriptedClient) → is_some (option_map change client) ≡ is_some client
    stays None = refl
    stays (Some client) = refl

stated_opens : (o : Outside) (k : ℕ) (change : ScriptedClient → ScriptedClient) (w : Wake) → open_after (opens o) w ≡ opens o → opens (with_changed_client o k change) ≡ open_after (opens o) (wake_where_open o k w)
stated_opens o k change w e =
    adjusted_opens o k change ∙ sym (elim (is_some (client_at o k)) as (λ b. open_after (opens o) (cond b w wake.Idle) ≡ opens o) [ true ↦ e | false ↦ refl ])

-- the links that are open outside after a step
stepped_opens : (o : Outside) (step : Step) → opens (outside_after_step o step) ≡ open_after (opens o) (wake_of o step)
stepped_opens o (Open k) =
    elim (client_at o k) as (λ p. opens (with_open_client o k p) ≡ open_after (opens o) (cond (is_some p) wake.Idle (wake.Opened k))) [
      | None ↦ opens-set o k (Some fresh_client)
      | Some client ↦ refl
    ]
stepped_opens o (Send k bytes) = stated_opens o k (with_bytes bytes) (wake.Readable k) refl
stepped_opens o (End k) = stated_opens o k with_end (wake.Readable k) refl
stepped_opens o (Room k room) = stated_opens o k (with_room room) (wake.Writable k) refl
stepped_opens o (FailRead k) = adjusted_opens o k with_failing_read
stepped_opens o (FailWrite k) = adjusted_opens o k with_failing_write
stepped_opens o (Tick d n captured) = refl
stepped_opens o (FailCapture d) = refl
stepped_opens o (FailEmit d) = refl
stepped_opens o (Line d change) = refl
stepped_opens o (FailHook d) = refl
stepped_opens o Idle = refl

pub agree_step : (s : State) (o : Outside) (step : Step) → Agree s o → Woken (wake_of o step) s (outside_after_step o step)
agree_step s o step at = stepped_opens o step ∙ ap (λ w. open_after w (wake_of o step)) at

pub agree_start : (config : List DeviceSpec) → Agree (opening_state config) (outside_start config)
agree_start config = refl

-- whether a device of a configuration has a line
abbrev pub line_of : DeviceSpec → Bool
line_of c = c.line

same_line : (config : List DeviceSpec) (d : ℕ) → has_line_at (slice_get (map line_of config) d) ≡ spec_has_line config d
same_line [] d = refl
same_line (c ∷ config) zero = refl
same_line (c ∷ config) (suc d) = same_line config d

length-lines : (config : List DeviceSpec) → length (map line_of config) ≡ length config
length-lines [] = refl
length-lines (c ∷ config) = ap suc (length-lines config)

-- the wake of a step on a link fits, if it fits for a link that is open
open_fits : (s : State) (o : Outside) (k : ℕ) (w : Wake) → Agree s o → fits (outline s) w ≡ is_open_at (slice_get (opens o) k) → fits (outline s) (wake_where_open o k w) ≡ true
open_fits s o k w at e =
    elim (is_some (client_at o k)) as (λ b. b ≡ is_open_at (slice_get (opens o) k) → fits (outline s) (cond b w wake.Idle) ≡ true) [
      | true ↦ λ is. e ∙ sym is
      | false ↦ λ is. refl
    ] (open_outside o k)

-- the wake of a step that may stand in a script fits
pub step_fits : (config : List DeviceSpec) (s : State) (o : Outside) (step : Step) → Agree s o → length o.clients ≡ most_links → lines_of s.devices ≡ map line_of config → IsStep config step → fits (outline s) (wake_of o step) ≡ true
step_fits config s o (Open k) at l c f =
    elim (client_at o k) as (λ p. is_some p ≡ is_open_at (slice_get (opens o) k) → fits (outline s) (cond (is_some p) wake.Idle (wake.Opened k)) ≡ true) [
      | None ↦ λ e. subst (λ w. is_closed_at (slice_get w k) ≡ true) at (closed_at (opens o) k (opens_length o.clients k l f) (sym e))
      | Some client ↦ λ e. refl
    ] (open_outside o k)
  where
    opens_length : (clients : List (Option ScriptedClient)) (k : ℕ) → length clients ≡ most_links → k < most_links → k < length (map {A = Option ScriptedClient} {B = Bool} is_some clients)
    opens_length clients k l f = let e : length (map {A = Option ScriptedClient} {B = Bool} is_some clients) ≡ length clients = same clients in omega arith
      where
        same : (clients : List (Option ScriptedClient)) → length (map {A = Option ScriptedClient} {B = Bool} is_some clients) ≡ length clients
        same [] = refl
        same (x ∷ clients) = ap suc (same clients)
step_fits config s o (Send k bytes) at l c f = open_fits s o k (wake.Readable k) at (ap (λ w. is_open_at (slice_get w k)) (sym at))
step_fits config s o (End k) at l c f = open_fits s o k (wake.Readable k) at (ap (λ w. is_open_at (slice_get w k)) (sym at))
step_fits config s o (Room k room) at l c f = open_fits s o k (wake.Writable k) at (ap (λ w. is_open_at (slice_get w k)) (sym at))
step_fits config s o (FailRead k) at l c f = refl
step_fits config s o (FailWrite k) at l c f = refl
step_fits config s o (Line d change) at l c f = both (has_line_at (slice_get (lines_of s.devices) d)) (is_change change) (ap (λ lines. has_line_at (slice_get lines d)) c ∙ same_line config d ∙ f.0) f.1
  where
    both : (a b : Bool) → a ≡ true → b ≡ true → (a && b) ≡ true
    both true true e f = refl
    both true false e f = absurd cc
    both false b e f = absurd cc
step_fits config s o (Tick d n captured) at l c f =
    let same = ap length c in
    let all = length-lines config in
    ticks d n (length (lines_of s.devices)) (let lt = f.0 in omega (arith, lt, same, all)) f.1 f.2
  where
    ticks : (d n devices : ℕ) → d < devices → 1 ≤ n → n ≤ longest_tick → (nat_lt d devices && nat_le 1 n && nat_le n longest_tick) ≡ true
    ticks d n devices a b c = search (rules, common_steps)
step_fits config s o (FailCapture d) at l c f = refl
step_fits config s o (FailEmit d) at l c f = refl
step_fits config s o (FailHook d) at l c f = refl
step_fits config s o Idle at l c f = refl
