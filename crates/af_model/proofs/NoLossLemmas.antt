-- A deferred request loses nothing.
use Rattle.std.proofs.Common.{◌≡◌, ℕ, zero, suc, ◌≤◌, List, [], ◌∷◌, map, refl, subst, arith, IfSome}
use Rattle.std.proofs.lemmas.Bool.Decides.{nat_tests}
use Rattle.std.proofs.lemmas.List.Elements.{All-cons, All-head, All-nil, All-tail, All-weaker}
use Rattle.std.specs.List.{All}
use Rattle.std.specs.declared.option.Option.TheVariants.{None, Some}
use Rattle.af_sample.specs.Rates.{IsListedRate}
use Rattle.af_world.specs.declared.script.DeviceSpec.{DeviceSpec}
use Rattle.af_world.specs.Log.{Log}
use Rattle.af_model.specs.State.{Deferral, State, opening_state, opening_device}
use Rattle.af_model.specs.Turn.{turn}
use Rattle.af_model.specs.Run.{end_by, end_state, wakes}
use Rattle.af_model.specs.NoLoss.{LosesNone, RunLosesNone, StateLosesNone}
use Rattle.af_model.proofs.BoolTestLemmas.{none_some, some_is}
use Rattle.af_model.proofs.RunLemmas.{run_inv}
use Rattle.af_model.proofs.SafeLemmas.{AwaitedIn, IsSafe, SafeState}
use Rattle.af_model.proofs.WakeLemmas.{turned}

-- no device has completed a request at its start
pub opening_loses_none : (config : List DeviceSpec) → All (λ device. LosesNone device) (map opening_device config)
opening_loses_none [] = λ k d low. absurd (omega arith)
opening_loses_none (c ∷ config) = All-cons (λ device. LosesNone device) (opening_device c) (map opening_device config) (λ k d low. absurd (omega arith)) (opening_loses_none config)

-- four seconds of a device are at least 32000 frames
least_rate : (rate : ℕ) → IsListedRate rate → 8000 ≤ rate
least_rate rate listed = grind (arith, nat_tests)

opening_safe : (config : List DeviceSpec) → All (λ c. IsListedRate c.rate) config → All (λ device. IsSafe device) (map opening_device config)
opening_safe [] listed = All-nil (λ device. IsSafe device)
opening_safe (c ∷ config) listed =
    All-cons (λ device. IsSafe device) (opening_device c) (map opening_device config) (record { rate = least_rate c.rate (All-head (λ c. IsListedRate c.rate) c config listed); loses_none = λ k d low. absurd (omega arith) })
    (opening_safe config (All-tail (λ c. IsListedRate c.rate) c config listed))

run_safe : (n : ℕ) (s : State) (log : Log) (e : State) → SafeState 0 0 s → end_by n s log ≡ Some e → SafeState 0 0 e
run_safe zero s [] e h r = subst (SafeState 0 0) (some_is r) h
run_safe zero s (x ∷ log) e h r = absurd (none_some r)
run_safe (suc n) s log e h r =
    let i = run_inv (turn s log) (end_by n) e r in
    run_safe n i.0.state i.0.log e ((turned s log i.0 i.1).holds.goes.safe h) i.2

pub no_loss : (config : List DeviceSpec) (log : Log) → All (λ c. IsListedRate c.rate) config → RunLosesNone config log
unfolding end_state
no_loss config log listed =
    elim (end_by (wakes log) (opening_state config) log) as (λ o. end_by (wakes log) (opening_state config) log ≡ o → IfSome o StateLosesNone) [
      | None ↦ λ r. tt
      | Some e ↦ λ r.
          let first : SafeState 0 0 (opening_state config) = record { devices = opening_safe config listed; waiting = All-nil (λ (w : Deferral). AwaitedIn 0 0 (opening_state config).devices w) } in
          All-weaker (λ device. IsSafe device) (λ device. LosesNone device) (λ device safe. safe.loses_none) e.devices (run_safe (wakes log) (opening_state config) log e first r).devices
    ] refl
