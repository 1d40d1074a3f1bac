-- No write of a run offers more than may wait to be sent.
use Rattle.std.proofs.Common.{◌≡◌, ℕ, zero, suc, ◌≤◌, List, [], ◌∷◌, length, refl, sym, subst, arith, IfSome}
use Rattle.std.proofs.lemmas.List.{length-map}
use Rattle.std.proofs.lemmas.List.Elements.{All-append, All-nil}
use Rattle.std.specs.List.{All}
use Rattle.std.specs.declared.option.Option.TheVariants.{None, Some}
use Rattle.af_limits.specs.Limits.{most_links, most_devices}
use Rattle.af_world.specs.declared.script.DeviceSpec.{DeviceSpec}
use Rattle.af_world.specs.Log.{Log}
use Rattle.af_model.specs.State.{Deferral, SlotState, State, opening_state, opening_device}
use Rattle.af_model.specs.Turn.{turn}
use Rattle.af_model.specs.Run.{end_by, end_state, wakes}
use Rattle.af_model.specs.Offers.{IsOfferWithin, OffersWithin}
use Rattle.af_model.proofs.BoolTestLemmas.{none_some}
use Rattle.af_model.proofs.PendingLemmas.{AnsweredIn, IsPending, RoomIn}
use Rattle.af_model.proofs.PrefixLawLemmas.{first_slot}
use Rattle.af_model.proofs.RunLemmas.{run_inv}
use Rattle.af_model.proofs.WakeLemmas.{turned}

opening_room : (config : List DeviceSpec) → length config ≤ most_devices → RoomIn (opening_state config)
opening_room config few = (
  record { few = omega (arith, few, length-map config opening_device); answered = All-nil (λ (w : Deferral). AnsweredIn (opening_state config).devices w); once = λ j. omega arith },
  λ k. subst (λ (x : SlotState). IfSome x.link (λ l. IsPending k [] l)) (sym (first_slot most_links k)) tt,
)

run_offers : (n : ℕ) (s : State) (log : Log) (e : State) → RoomIn s → end_by n s log ≡ Some e → All IsOfferWithin log
run_offers zero s [] e h r = All-nil IsOfferWithin
run_offers zero s (x ∷ log) e h r = absurd (none_some r)
run_offers (suc n) s log e h r =
    let i = run_inv (turn s log) (end_by n) e r in
    let a = turned s log i.0 i.1 in
    let room = a.holds.goes.room h in
    subst (All IsOfferWithin) (sym a.whole) (All-append IsOfferWithin a.part i.0.log room.1 (run_offers n i.0.state i.0.log e room.0 i.2))

pub offers_within : (config : List DeviceSpec) (log : Log) → OffersWithin config log
unfolding end_state
offers_within config log few =
    elim (end_by (wakes log) (opening_state config) log) as (λ o. end_by (wakes log) (opening_state config) log ≡ o → IfSome o (λ end. All IsOfferWithin log)) [
      | None ↦ λ r. tt
      | Some e ↦ λ r. run_offers (wakes log) (opening_state config) log e (opening_room config few) r
    ] refl
