-- What a link took is a prefix of what was queued for it.
use Rattle.std.proofs.Common.{◌≡◌, ℕ, zero, suc, List, [], ◌∷◌, replicate, slice_get, refl, sym, subst, IfSome}
use Rattle.std.proofs.lemmas.List.Sums.{fold-append}
use Rattle.std.specs.List.{fold}
use Rattle.std.specs.declared.option.Option.{Option}
use Rattle.std.specs.declared.option.Option.TheVariants.{None, Some}
use Rattle.af_limits.specs.Limits.{most_links}
use Rattle.af_world.specs.declared.script.DeviceSpec.{DeviceSpec}
use Rattle.af_world.specs.Log.{Log}
use Rattle.af_model.specs.State.{LinkState, SlotState, State, Deferral, closed_slot, opening_state, slot_at, some_slot}
use Rattle.af_model.specs.Turn.{turn}
use Rattle.af_model.specs.Run.{end_by, end_state, wakes}
use Rattle.af_model.specs.LinkHistory.{LinkHistory, history, no_history, note_happening}
use Rattle.af_model.specs.Prefix.{IsFrontOf, TakesInOrder, taken}
use Rattle.af_model.proofs.BoolTestLemmas.{none_some, some_is}
use Rattle.af_model.proofs.OwedBytesLemmas.{OwingAt, OwingLink}
use Rattle.af_model.proofs.WakeLemmas.{turned}
use Rattle.af_model.proofs.RunLemmas.{run_inv}

-- over a run what is queued for a link, and what its history shows, stay so
pub run_queued : (n k : ℕ) (g : LinkHistory) (s : State) (log : Log) (e : State) → OwingAt k g s → end_by n s log ≡ Some e → OwingAt k (fold (note_happening k) g log) e
run_queued zero k g s [] e h r = subst (OwingAt k g) (some_is r) h
run_queued zero k g s (x ∷ log) e h r = absurd (none_some r)
run_queued (suc n) k g s log e h r =
    let i = run_inv (turn s log) (end_by n) e r in
    let a = turned s log i.0 i.1 in
    let rest = run_queued n k (fold (note_happening k) g a.part) i.0.state i.0.log e (a.holds.goes.queued k g h) i.2 in
    subst (λ l. OwingAt k (fold (note_happening k) g l) e) (sym a.whole) (subst (λ x. OwingAt k x e) (sym (fold-append (note_happening k) g a.part i.0.log)) rest)

pub first_slot : (n k : ℕ) → some_slot (slice_get (replicate n closed_slot) k) ≡ closed_slot
first_slot zero k = refl
first_slot (suc n) zero = refl
first_slot (suc n) (suc k) = first_slot n k

pub opening_queued : (config : List DeviceSpec) (k : ℕ) → OwingAt k no_history (opening_state config)
opening_queued config k = subst (λ (x : SlotState). OwingLink k no_history x.said x.link []) (sym (first_slot most_links k)) ([], refl, tt)

shown : (k : ℕ) (g : LinkHistory) (said : List ℕ) (link : Option LinkState) (waiting : List Deferral) → OwingLink k g said link waiting → IsFrontOf g.took said link
shown k g said None waiting h = record { rest = h.0; whole = h.1; queued = tt }
shown k g said (Some l) waiting h = record { rest = h.0.rest; whole = h.0.whole; queued = h.0.queued }

pub takes_in_order : (config : List DeviceSpec) (log : Log) → TakesInOrder config log
unfolding end_state
takes_in_order config log =
    elim (end_by (wakes log) (opening_state config) log) as (λ o. end_by (wakes log) (opening_state config) log ≡ o → IfSome o (λ s. (k : ℕ) → IsFrontOf (taken k log) (slot_at k s).said (slot_at k s).link)) [
      | None ↦ λ r. tt
      | Some e ↦ λ r k. shown k (history k log) (slot_at k e).said (slot_at k e).link e.waiting (run_queued (wakes log) k no_history (opening_state config) log e (opening_queued config k) r)
    ] refl
