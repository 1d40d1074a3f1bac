-- Devices and lines are dead exactly if a call for them failed.
use Rattle.std.proofs.Common.{◌≡◌, ℕ, zero, suc, Bool, true, false, List, [], ◌∷◌, ◌++◌, map, slice_get, refl, sym, ◌∙◌, subst, IfSome}
use Rattle.std.proofs.lemmas.List.Sums.{fold-append}
use Rattle.std.specs.List.{list_any}
use Rattle.std.specs.declared.option.Option.{Option}
use Rattle.std.specs.declared.option.Option.TheVariants.{None, Some}
use Rattle.af_world.specs.declared.script.DeviceSpec.{DeviceSpec}
use Rattle.af_world.specs.Log.{Log}
use Rattle.af_model.specs.State.{DeviceState, State, opening_state, opening_device, opening_line}
use Rattle.af_model.specs.Turn.{turn}
use Rattle.af_model.specs.Run.{end_by, end_state, wakes}
use Rattle.af_model.specs.Dead.{IsDeadWhereFailed, fails_device, fails_line}
use Rattle.af_model.proofs.BoolTestLemmas.{none_some, some_is}
use Rattle.af_model.proofs.DeadLemmas.{DeadAs, DeadIn, IsAsDead, died, died_any, died_device, died_line}
use Rattle.af_model.proofs.RunLemmas.{run_inv}
use Rattle.af_model.proofs.WakeLemmas.{turned}

run_dead : (n d : ℕ) (x y : Bool) (s : State) (log : Log) (e : State) → DeadAs d x y s → end_by n s log ≡ Some e → DeadAs d (died_device d x log) (died_line d y log) e
run_dead zero d x y s [] e h r = subst (DeadAs d x y) (some_is r) h
run_dead zero d x y s (z ∷ log) e h r = absurd (none_some r)
run_dead (suc n) d x y s log e h r =
    let i = run_inv (turn s log) (end_by n) e r in
    let a = turned s log i.0 i.1 in
    let rest = run_dead n d (died_device d x a.part) (died_line d y a.part) i.0.state i.0.log e (a.holds.goes.deaths d x y h) i.2 in
    subst (λ l. DeadAs d (died_device d x l) (died_line d y l) e) (sym a.whole)
    (subst (λ z. DeadAs d z (died_line d y (a.part ++ i.0.log)) e) (sym (fold-append (died (fails_device d)) x a.part i.0.log))
    (subst (λ z. DeadAs d (died_device d (died_device d x a.part) i.0.log) z e) (sym (fold-append (died (fails_line d)) y a.part i.0.log)) rest))

-- nothing is dead at the start
opening_alive : (config : List DeviceSpec) (d : ℕ) → DeadIn d false false (map opening_device config)
opening_alive [] d device there = absurd (none_some there)
opening_alive (c ∷ config) zero device there = subst (IsAsDead false false) (some_is there) (refl, quiet c.line)
  where
    quiet : (has_line : Bool) → IfSome (opening_line has_line) (λ line. line.dead ≡ false)
    quiet true = refl
    quiet false = tt
opening_alive (c ∷ config) (suc d) device there = opening_alive config d device there

shown : (d : ℕ) (log : Log) (o : Option DeviceState) → ((device : DeviceState) → o ≡ Some device → IsAsDead (died_device d false log) (died_line d false log) device) →
    IfSome o (λ device. (device.is_dead ≡ list_any (fails_device d) log) × IfSome device.line (λ line. line.dead ≡ list_any (fails_line d) log))
shown d log None h = tt
shown d log (Some device) h =
    let at = h device refl in
    (at.0 ∙ died_any (fails_device d) log, subst (λ b. IfSome device.line (λ line. line.dead ≡ b)) (died_any (fails_line d) log) at.1)

pub is_dead_where_failed : (config : List DeviceSpec) (log : Log) → IsDeadWhereFailed config log
unfolding end_state
is_dead_where_failed config log =
    elim (end_by (wakes log) (opening_state config) log) as (λ o. end_by (wakes log) (opening_state config) log ≡ o → IfSome o (λ s. (d : ℕ) → IfSome (slice_get s.devices d) (λ device.
    (device.is_dead ≡ list_any (fails_device d) log) × IfSome device.line (λ line. line.dead ≡ list_any (fails_line d) log)))) [
      | None ↦ λ r. tt
      | Some e ↦ λ r d. shown d log (slice_get e.devices d) (run_dead (wakes log) d false false (opening_state config) log e (opening_alive config d) r)
    ] refl
