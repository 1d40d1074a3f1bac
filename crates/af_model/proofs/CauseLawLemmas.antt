-- Each link is closed for the cause that the log shows.
use Rattle.std.proofs.Common.{◌≡◌, ℕ, ◌+◌, ◌-◌, List, ◌++◌, length, refl, sym, ap, ◌∙◌, subst, arith, length-append, IfSome}
use Rattle.std.specs.declared.option.Option.{Option}
use Rattle.std.specs.declared.option.Option.TheVariants.{None, Some}
use Rattle.af_world.specs.declared.script.DeviceSpec.{DeviceSpec}
use Rattle.af_world.specs.Log.{Log}
use Rattle.af_model.specs.State.{LinkState, Deferral, opening_state, slot_at}
use Rattle.af_model.specs.Run.{end_by, end_state, wakes}
use Rattle.af_model.specs.LinkHistory.{LinkHistory, history, no_history}
use Rattle.af_model.specs.Causes.{ClosesForCauses, IsCause, ShowsCauses, owed_of}
use Rattle.af_model.proofs.OwedBytesLemmas.{OwingLink}
use Rattle.af_model.proofs.PrefixLawLemmas.{opening_queued, run_queued}

-- what is owed is what was queued and not taken
owed_is : (took rest said : List ℕ) → said ≡ took ++ rest → length said - length took ≡ length rest
owed_is took rest said whole = let e : length said ≡ length took + length rest = ap length whole ∙ length-append took rest in omega (arith, e)

shown : (k : ℕ) (g : LinkHistory) (said : List ℕ) (link : Option LinkState) (waiting : List Deferral) → OwingLink k g said link waiting → IfSome g.closed (λ cause. IsCause cause g (owed_of g said))
shown k g said None waiting h =
    elim g.closed as (λ o. IfSome o (λ cause. IsCause cause g (length h.0)) → IfSome o (λ cause. IsCause cause g (owed_of g said))) [
      | None ↦ λ c. tt
      | Some cause ↦ λ c. subst (IsCause cause g) (sym (owed_is g.took h.0 said h.1)) c
    ] h.2
shown k g said (Some l) waiting h = subst (λ o. IfSome o (λ cause. IsCause cause g (owed_of g said))) (sym h.0.unclosed) tt

pub shows_causes : (config : List DeviceSpec) (log : Log) → ShowsCauses config log
unfolding end_state
shows_causes config log =
    elim (end_by (wakes log) (opening_state config) log) as (λ o. end_by (wakes log) (opening_state config) log ≡ o → IfSome o (λ s. (k : ℕ) → IfSome (history k log).closed (λ cause. IsCause cause (history k log) (owed_of (history k log) (slot_at k s).said)))) [
      | None ↦ λ r. tt
      | Some e ↦ λ r k. shown k (history k log) (slot_at k e).said (slot_at k e).link e.waiting (run_queued (wakes log) k no_history (opening_state config) log e (opening_queued config k) r)
    ] refl

pub closes_for_causes : (config : List DeviceSpec) (log : Log) → ClosesForCauses config log
closes_for_causes config log part rest is = shows_causes config part
