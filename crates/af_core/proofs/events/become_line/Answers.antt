use Rattle.std.proofs.Common.{ℕ, ◌∙◌, ap, length, length-set, option_map, subst, sym}
use Rattle.af_wire.specs.declared.event.Event.{Event}
use Rattle.af_model.specs.State.{State, with_device}
use Rattle.af_model.specs.Events.{tell}
use Rattle.af_state.specs.Kept.{KeptDevice}
use Rattle.af_state.specs.SharedState.{KeptSharedState}
use Rattle.af_core.specs.Stands.{AreOrderly, Kept, StandsFor, kept_of}
use Rattle.af_core.proofs.SharedStateLemmas.{device_inside}
use Rattle.af_core.proofs.EventLemmas.{lines_set, time_is}
use Rattle.af_core.proofs.events.become_line.Goals as goal

pub tell-requires : goal.tell-requires
tell-requires c = record { kept = subst (λ (e : KeptSharedState). AreOrderly e.waits c.args.slots.now) (sym c.shared.view_is) c.requires.kept }

pub returns-clause-step : goal.returns-clause-step
returns-clause-step c = λ s device h there f is.
    let d = c.args.number in
    let ds = c.shared.inside.devices.items in
    let kept : Kept = kept_of (record { devices = ds; waits = c.shared.inside.waits }) c.args.slots.now in
    let here = device_inside d c.index_mut-device.result.now c.shared.view_is c.requires.there c.index_mut-device.ensures.value in
    let old = subst (λ (e : KeptSharedState). StandsFor (kept_of e c.args.slots.now) s) (sym c.shared.view_is) h in
    let next : State = record s { devices = with_device d (λ device. record device { line = option_map f device.line }) s.devices } in
    let event : ℕ → Event = λ t. record { kind = c.args.change.0; device = d; time = record { 0 = t }; value = c.args.change.1 } in
    let time = time_is kept d _ s device c.time.result.0 here there (c.time.ensures ∙ ap (λ (x : KeptDevice). x.next.time) c.set_line.ensures) old in
    subst (λ t. StandsFor (kept_of c.tell.new.shared c.tell.new.slots) (tell (event t) next)) time (c.tell.ensures.step next (lines_set kept d _ c.set_line.new.self c.args.line f s device here c.set_line.ensures there is old))

pub returns-clause-count : goal.returns-clause-count
returns-clause-count c =
    ap length c.tell.ensures.devices ∙ length-set c.shared.inside.devices.items c.args.number c.set_line.new.self ∙ ap (λ (e : KeptSharedState). length e.devices) c.shared.view_is
