use Rattle.std.proofs.Common.{◌∙◌, ap, slice_set, sym, subst, List}
use Rattle.af_state.specs.Deferrals.{KeptDeferral}
use Rattle.af_state.specs.SharedState.{KeptSharedState}
use Rattle.af_state.proofs.DeferralLemmas.{later_passed, passed_waiting}
use Rattle.af_core.specs.Stands.{IsBetweenPhases, IsCompleting, IsSettled, StandsFor, WantTheSame, kept_of}
use Rattle.af_core.proofs.SharedStateLemmas.{device_inside, device_kept}
use Rattle.af_core.proofs.TurnLemmas.{passed_kept, passed_state, ticks}
use Rattle.af_core.proofs.WantsWithinLemmas.{passed_wants}
use Rattle.af_core.proofs.tick.tick.Goals as goal

pub complete_due-requires : goal.complete_due-requires
complete_due-requires g c =
    let d = c.args.tick.device in
    let ds = c.shared.inside.devices.items in
    let ks = c.shared.inside.waits in
    let x = c.index_mut-device.result.now in
    let here = device_inside d x c.shared.view_is c.requires.there c.index_mut-device.ensures.value in
    let old = subst (λ (e : KeptSharedState). IsBetweenPhases (kept_of e c.args.slots.now)) (sym c.shared.view_is) c.requires.kept in
    record {
      kept = subst (λ (qs : List KeptDeferral). IsCompleting d (kept_of (record { devices = slice_set ds d c.tick_device.new.device; waits = qs }) c.args.slots.now)) (sym c.pass.ensures)
          (record {
            links = old.orderly.links;
            settled = λ k l at. subst (λ b. IsSettled b l) (sym (passed_waiting d c.args.tick.frames ks k)) (old.orderly.settled k l at);
            later = later_passed d c.args.tick.frames ks old.orderly.later;
            stands = passed_state _ _ d c.args.tick.frames (kept_of (record { devices = ds; waits = ks }) c.args.slots.now) x _ c.requires.tick.1 old.orderly.later here c.tick_device.ensures.ticks old.stands;
          });
    }

-- where nothing completes, only the frames that are left have changed of those that wait
pub returns-clause-same : goal.returns-clause-same
returns-clause-same g c = λ none.
    let d = c.args.tick.device in
    let ks = c.shared.inside.waits in
    let same = c.complete_due.ensures.same none in
    subst (λ (e : KeptSharedState). WantTheSame e.waits c.args.slots.now c.complete_due.new.shared.waits c.complete_due.new.slots) c.shared.view_is
    (passed_wants d c.args.tick.frames ks _ c.args.slots.now _ (ap (λ (e : KeptSharedState). e.waits) same.0 ∙ c.pass.ensures) same.1)

pub returns-clause-simulates : goal.returns-clause-simulates
returns-clause-simulates g c =
    let d = c.args.tick.device in
    let ds = c.shared.inside.devices.items in
    let new = c.tick_device.new.device in
    let x = c.index_mut-device.result.now in
    let here = device_kept d x c.shared.view_is c.requires.there c.index_mut-device.ensures.value in
    ticks _ _ d c.args.tick.frames (kept_of c.args.shared.now c.args.slots.now) _ x new c.requires.tick.1 c.requires.kept.orderly.later here c.tick_device.ensures.ticks
    (λ s h. c.complete_due.ensures.step s
    (subst (λ (qs : List KeptDeferral). StandsFor (kept_of (record { devices = slice_set ds d new; waits = qs }) c.args.slots.now) s) (sym c.pass.ensures)
    (subst (λ (e : KeptSharedState). StandsFor (passed_kept d c.args.tick.frames new (kept_of e c.args.slots.now)) s) (sym c.shared.view_is) h)))
