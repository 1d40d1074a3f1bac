-- A run with link k and without it.
use Rattle.std.proofs.Common.{◌≡◌, ◌≢◌, ℕ, zero, suc, ◌==◌, true, false, cond, List, [], ◌∷◌, fold, length, map, replicate, slice_set, refl, sym, ap, ◌∙◌, subst, eqb-true, IfSome}
use Rattle.std.specs.declared.option.Option.{Option}
use Rattle.std.specs.declared.option.Option.TheVariants.{None, Some}
use Rattle.af_limits.specs.Limits.{most_links}
use Rattle.af_world.specs.declared.happening.Happening.{Happening}
use Rattle.af_world.specs.declared.happening.Happening.TheVariants.{Woke, Read, Wrote, Closed, Captured, Emitted, Hooked}
use Rattle.af_world.specs.declared.happening.Wake.TheVariants as wake
use Rattle.af_world.specs.declared.script.DeviceSpec.{DeviceSpec}
use Rattle.af_world.specs.Log.{Log}
use Rattle.af_model.specs.State.{closed_slot, opening_state, opening_device, outline, State}
use Rattle.af_model.specs.LinkHistory.{LinkHistory, no_history, note_happening, note_read, note_write}
use Rattle.af_model.specs.Run.{end_by, end_state, then_end, wakes}
use Rattle.af_model.specs.Turn.{Parsed, fits, hook_all, parse_then, accept, serve_all, serve_and_hook, turn, wake_phase}
use Rattle.af_model.proofs.BoolTestLemmas.{cond-some, none_some, some_is}
use Rattle.af_model.proofs.PhasePartLemmas.{then_inv}
use Rattle.af_model.proofs.RunLemmas.{run_inv}
use Rattle.af_model.proofs.WakeLemmas.{after_wake, hooked_from, turned}
use Rattle.af_isolation.specs.Without.{acted_on, device_calls, device_without, state_without, wake_without, without}
use Rattle.af_isolation.specs.Isolation.{ChangesNothing, IsolatesLinks}
use Rattle.af_isolation.proofs.OwnLinkLemmas.{laters_acted}
use Rattle.af_isolation.proofs.PhaseWithoutLemmas.{fits_without, hook_all_without, wake_phase_without}
use Rattle.af_isolation.proofs.ServeWithoutLemmas.{serve_all_without}
use Rattle.af_isolation.proofs.SlotWithoutLemmas.{other_slot}
use Rattle.af_isolation.proofs.TickWithoutLemmas.{still_silent}

-- A turn

wake_after : (k : ℕ) (s : State) (log : Log) (b : Parsed State) → serve_and_hook s log ≡ Some b → acted_on k b.state.devices ≡ false → serve_and_hook (state_without k s) (without k log) ≡ accept (state_without k b.state) (without k b.log)
wake_after k s log b e silent =
    let i = then_inv (serve_all s log) hook_all b e in
    let c = i.0 in
    let quiet = still_silent k c.state b.state (λ acted. laters_acted k c.state.devices b.state.devices (hooked_from (length c.state.devices) 0 c.state c.log b i.2).holds.goes.devices acted) silent in
    ap (λ x. parse_then x hook_all) (serve_all_without k s log c i.1 quiet) ∙ hook_all_without k c.state c.log b i.2

turn_without : (k : ℕ) (s : State) (log : Log) (b : Parsed State) → turn s log ≡ Some b → acted_on k b.state.devices ≡ false → turn (state_without k s) (without k log) ≡ accept (state_without k b.state) (without k b.log)
unfolding turn
turn_without k s (Woke w ∷ log) b e silent =
    let t = cond-some (fits (outline s) w) (parse_then (wake_phase w s log) serve_and_hook) b e in
    let i = then_inv (wake_phase w s log) serve_and_hook b t.1 in
    let c = i.0 in
    let quiet = still_silent k c.state b.state (λ acted. laters_acted k c.state.devices b.state.devices (after_wake c.state c.log b i.2).holds.goes.devices acted) silent in
    ap (λ f. cond f (parse_then (wake_phase (wake_without k w) (state_without k s) (without k log)) serve_and_hook) None) (fits_without k w s t.0)
    ∙ ap (λ x. parse_then x serve_and_hook) (wake_phase_without k w s log c i.1 quiet)
    ∙ wake_after k c.state c.log b i.2 silent
turn_without k s log b e silent = absurd (none_some e)

-- A run

-- who acted stays an actor
run_acted : (k n : ℕ) (s : State) (log : Log) (e : State) → end_by n s log ≡ Some e → acted_on k s.devices ≡ true → acted_on k e.devices ≡ true
run_acted k zero s [] e r h = subst (λ (t : State). acted_on k t.devices ≡ true) (some_is r) h
run_acted k zero s (x ∷ log) e r h = absurd (none_some r)
run_acted k (suc n) s log e r h =
    let i = run_inv (turn s log) (end_by n) e r in
    run_acted k n i.0.state i.0.log e i.2 (laters_acted k s.devices i.0.state.devices (turned s log i.0 i.1).holds.goes.devices h)

run_without : (k n : ℕ) (s : State) (log : Log) (e : State) → end_by n s log ≡ Some e → acted_on k e.devices ≡ false → end_by n (state_without k s) (without k log) ≡ Some (state_without k e)
run_without k zero s [] e r silent = ap (λ t. Some (state_without k t)) (some_is r)
run_without k zero s (x ∷ log) e r silent = absurd (none_some r)
run_without k (suc n) s log e r silent =
    let i = run_inv (turn s log) (end_by n) e r in
    let quiet = still_silent k i.0.state e (λ acted. run_acted k n i.0.state i.0.log e i.2 acted) silent in
    ap (λ (o : Option (Parsed State)). then_end o (end_by n)) (turn_without k s log i.0 i.1 quiet) ∙ run_without k n i.0.state i.0.log e i.2 silent

-- there are as many wakes
wakes_without : (k : ℕ) (log : Log) → wakes (without k log) ≡ wakes log
wakes_without k [] = refl
wakes_without k (Woke w ∷ log) = ap suc (wakes_without k log)
wakes_without k (Read j got ∷ log) = elim (j == k) as (λ t. wakes (cond t (without k log) (Read j got ∷ without k log)) ≡ wakes log) [ true ↦ wakes_without k log | false ↦ wakes_without k log ]
wakes_without k (Wrote j offered took ∷ log) = elim (j == k) as (λ t. wakes (cond t (without k log) (Wrote j offered took ∷ without k log)) ≡ wakes log) [ true ↦ wakes_without k log | false ↦ wakes_without k log ]
wakes_without k (Closed j cause ∷ log) = elim (j == k) as (λ t. wakes (cond t (without k log) (Closed j cause ∷ without k log)) ≡ wakes log) [ true ↦ wakes_without k log | false ↦ wakes_without k log ]
wakes_without k (h ∷ log) = wakes_without k log

-- no link is open at the start
opening_without : (config : List DeviceSpec) (k : ℕ) → state_without k (opening_state config) ≡ opening_state config
opening_without config k =
    ap (λ ds. record { devices = ds; slots = slice_set (replicate most_links closed_slot) k closed_slot; waiting = [] }) (devices config)
    ∙ ap (λ slots. record { devices = map opening_device config; slots = slots; waiting = [] }) (slots most_links k)
  where
    devices : (config : List DeviceSpec) → map (device_without k) (map opening_device config) ≡ map opening_device config
    devices [] = refl
    devices (c ∷ config) = ap (λ ds. opening_device c ∷ ds) (devices config)

    slots : (n k : ℕ) → slice_set (replicate n closed_slot) k closed_slot ≡ replicate n closed_slot
    slots zero k = refl
    slots (suc n) zero = refl
    slots (suc n) (suc k) = ap (λ l. closed_slot ∷ l) (slots n k)

end_without : (config : List DeviceSpec) (log : Log) (k : ℕ) (e : State) → end_state config log ≡ Some e → acted_on k e.devices ≡ false → end_state config (without k log) ≡ Some (state_without k e)
unfolding end_state
end_without config log k e r silent =
    ap (λ n. end_by n (opening_state config) (without k log)) (wakes_without k log)
    ∙ ap (λ s. end_by (wakes log) s (without k log)) (sym (opening_without config k))
    ∙ run_without k (wakes log) (opening_state config) log e r silent

-- What is seen of others

module _ (k j : ℕ) (apart : j ≢ k) where
  -- a number that is link k's is not the other's
  not_other : (i : ℕ) → (i == k) ≡ true → (i == j) ≡ false
  not_other i own = elim (i == j) as (λ t. (i == j) ≡ t → t ≡ false) [ true ↦ λ e. absurd (apart (sym (eqb-true i j e) ∙ eqb-true i k own)) | false ↦ λ e. refl ] refl

  -- a happening of a link
  happened : (i : ℕ) (g f : LinkHistory) (h : Happening) (log : Log) → note_happening j g h ≡ cond (i == j) f g → ((g : LinkHistory) → fold (note_happening j) g (without k log) ≡ fold (note_happening j) g log) →
      fold (note_happening j) g (cond (i == k) (without k log) (h ∷ without k log)) ≡ fold (note_happening j) g (h ∷ log)
  happened i g f h log is more =
      elim (i == k) as (λ t. (i == k) ≡ t → fold (note_happening j) g (cond t (without k log) (h ∷ without k log)) ≡ fold (note_happening j) g (h ∷ log)) [
        | true ↦ λ own. more g ∙ ap (λ g. fold (note_happening j) g log) (sym (is ∙ ap (λ t. cond t f g) (not_other i own)))
        | false ↦ λ other. more (note_happening j g h)
      ] refl

  noted_without : (g : LinkHistory) (log : Log) → fold (note_happening j) g (without k log) ≡ fold (note_happening j) g log
  noted_without g [] = refl
  noted_without g (Woke (wake.Opened i) ∷ log) =
      elim (i == k) as (λ t. (i == k) ≡ t → fold (note_happening j) g (Woke (cond t wake.Idle (wake.Opened i)) ∷ without k log) ≡ fold (note_happening j) g (Woke (wake.Opened i) ∷ log)) [
        | true ↦ λ own. noted_without g log ∙ ap (λ g. fold (note_happening j) g log) (sym (ap (λ t. cond t no_history g) (not_other i own)))
        | false ↦ λ other. noted_without (cond (i == j) no_history g) log
      ] refl
  noted_without g (Woke (wake.Readable i) ∷ log) = elim (i == k) as (λ t. fold (note_happening j) g (Woke (cond t wake.Idle (wake.Readable i)) ∷ without k log) ≡ fold (note_happening j) g log) [ true ↦ noted_without g log | false ↦ noted_without g log ]
  noted_without g (Woke (wake.Writable i) ∷ log) = elim (i == k) as (λ t. fold (note_happening j) g (Woke (cond t wake.Idle (wake.Writable i)) ∷ without k log) ≡ fold (note_happening j) g log) [ true ↦ noted_without g log | false ↦ noted_without g log ]
  noted_without g (Read i got ∷ log) = happened i g (note_read got g) (Read i got) log refl (λ g. noted_without g log)
  noted_without g (Wrote i offered took ∷ log) = happened i g (note_write took g) (Wrote i offered took) log refl (λ g. noted_without g log)
  noted_without g (Closed i cause ∷ log) = happened i g (record g { closed = Some cause }) (Closed i cause) log refl (λ g. noted_without g log)
  noted_without g (h ∷ log) = noted_without g log

calls_without : (k : ℕ) (log : Log) → device_calls (without k log) ≡ device_calls log
calls_without k [] = refl
calls_without k (Woke w ∷ log) = calls_without k log
calls_without k (Read j got ∷ log) = elim (j == k) as (λ t. device_calls (cond t (without k log) (Read j got ∷ without k log)) ≡ device_calls log) [ true ↦ calls_without k log | false ↦ calls_without k log ]
calls_without k (Wrote j offered took ∷ log) = elim (j == k) as (λ t. device_calls (cond t (without k log) (Wrote j offered took ∷ without k log)) ≡ device_calls log) [ true ↦ calls_without k log | false ↦ calls_without k log ]
calls_without k (Closed j cause ∷ log) = elim (j == k) as (λ t. device_calls (cond t (without k log) (Closed j cause ∷ without k log)) ≡ device_calls log) [ true ↦ calls_without k log | false ↦ calls_without k log ]
calls_without k (Captured d n got ∷ log) = ap (λ l. Captured d n got ∷ l) (calls_without k log)
calls_without k (Emitted d sound done ∷ log) = ap (λ l. Emitted d sound done ∷ l) (calls_without k log)
calls_without k (Hooked d off done ∷ log) = ap (λ l. Hooked d off done ∷ l) (calls_without k log)

-- A silent link changes nothing
pub isolates_links : (config : List DeviceSpec) (log : Log) → IsolatesLinks config log
isolates_links config log =
    elim (end_state config log) as (λ o. end_state config log ≡ o → IfSome o (λ end. (k : ℕ) → acted_on k end.devices ≡ false → ChangesNothing config log k end)) [
      | None ↦ λ r. tt
      | Some end ↦ λ r k silent. record {
        run = end_without config log k end r silent;
        others = λ j apart. noted_without k j apart no_history log;
        said = λ j apart. other_slot k j end (differs j k apart);
        devices = calls_without k log;
      }
    ] refl
  where
    differs : (j k : ℕ) → j ≢ k → (j == k) ≡ false
    differs j k apart = elim (j == k) as (λ t. (j == k) ≡ t → t ≡ false) [ true ↦ λ e. absurd (apart (eqb-true j k e)) | false ↦ λ e. refl ] refl
