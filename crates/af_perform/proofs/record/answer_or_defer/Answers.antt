use Rattle.std.proofs.Common.{◌<◌, ◌^◌, ◌∙◌, ◌&&◌, nat_lt, ap, sym, subst, refl, rules}
use Rattle.af_time.specs.DeviceTime.{unwrap}
use Rattle.af_model.specs.Play.{frames_of}
use Rattle.af_model.specs.Record.{give_record, given_frames}
use Rattle.af_state.specs.SharedState.{ChangesLink}
use Rattle.af_perform.proofs.LinkRequestLemmas.{device_here, device_there, record_started, record_waits}
use Rattle.af_perform.proofs.LeavesLemmas.{leaves_same, leaves_waiting}
use Rattle.af_perform.proofs.record.answer_or_defer.Goals as goal

pub returns-then-is_to_wait-clause-step : goal.returns-then-is_to_wait-clause-step
returns-then-is_to_wait-clause-step c = λ bytes all a s h there.
    let r = c.args.asked in
    let ds = c.shared.inside.devices.items in
    let ks = c.shared.inside.waits in
    let word : r.start.0 < 2 ^ 32 = search rules in
    let here = device_here _ ds ks a _ r.context.device _ s c.shared.view_is c.from.ensures c.requires.there c.index-device.ensures h there in
    let at = device_there _ ds ks _ r.context.device _ c.shared.view_is c.from.ensures c.requires.there c.index-device.ensures in
    record_waits ds ks _ c.index-device.result.now c.args.link.now c.args.number r.blocking r.context r.start.0 bytes r.frames _ a s word here.0 there here.1 (all _ at) (c.requires.fits _ at)
    (ap (λ n. r.blocking && nat_lt n r.frames) (sym c.frames_before.ensures) ∙ sym c.is_to_wait.ensures ∙ c.if-is_to_wait.true) c.record_due_in-left.ensures c.begin_record.ensures

pub returns-then-is_to_wait-clause-leaves : goal.returns-then-is_to_wait-clause-leaves
returns-then-is_to_wait-clause-leaves c =
    leaves_waiting c.args.number c.args.shared.now c.shared.inside.devices.items c.shared.inside.waits _ c.args.link.now _ c.shared.view_is refl (search rules) c.begin_record.ensures c.requires.asks.room

pub returns-else-is_to_wait-clause-step : goal.returns-else-is_to_wait-clause-step
returns-else-is_to_wait-clause-step c = λ bytes all a s h there.
    let r = c.args.asked in
    let e = c.args.shared.now in
    let ds = c.shared.inside.devices.items in
    let ks = c.shared.inside.waits in
    let word : r.start.0 < 2 ^ 32 = search rules in
    let here = device_here _ ds ks a _ r.context.device _ s c.shared.view_is c.from.ensures c.requires.there c.index-device.ensures h there in
    let at = device_there _ ds ks _ r.context.device _ c.shared.view_is c.from.ensures c.requires.there c.index-device.ensures in
    record_started e.devices e.waits c.index-device.result.now c.args.link.now _ c.args.number r.blocking r.context r.start.0 bytes r.frames a s word h here.1 (all _ at)
    (ap (λ n. r.blocking && nat_lt n r.frames) (sym c.frames_before.ensures) ∙ sym c.is_to_wait.ensures ∙ c.if-is_to_wait.false)
    (subst (λ n. ChangesLink (give_record r.context (unwrap s.now r.start.0) (given_frames r.blocking s r.start.0 n) s) c.args.link.now c.answer_available.new.link) (all _ at ∙ ap (λ n. frames_of n r.context bytes) here.1.hears.channels) (c.answer_available.ensures.step s here.1))

pub returns-else-is_to_wait-clause-leaves : goal.returns-else-is_to_wait-clause-leaves
returns-else-is_to_wait-clause-leaves c = leaves_same c.args.number c.args.shared.now c.args.link.now c.answer_available.new.link c.requires.asks.free c.answer_available.ensures.rest

pub answer_available-requires-clause-fits : goal.answer_available-requires-clause-fits
answer_available-requires-clause-fits c =
    c.requires.fits _ (device_there _ c.shared.inside.devices.items c.shared.inside.waits _ c.args.asked.context.device _ c.shared.view_is c.from.ensures c.requires.there c.index-device.ensures)
