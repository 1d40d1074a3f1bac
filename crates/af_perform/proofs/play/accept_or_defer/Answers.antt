use Rattle.std.proofs.Common.{◌/◌, ◌<◌, ◌≤◌, ◌∙◌, ◌++◌, ◌∷◌, [], ap, sym, subst, length, refl, rules}
use Rattle.std.proofs.lemmas.List.{with_items_is}
use Rattle.af_sample.specs.Channels.{frame_count}
use Rattle.af_buffers.specs.PlayBuffer.{accepted_at, frames_beyond}
use Rattle.af_model.specs.State.{deferred_play, open_link}
use Rattle.af_model.specs.Play.{accept_play, in_devices, start_play, tell_played}
use Rattle.af_state.specs.SharedState.{StandsForLink, StandsForSharedState, kept_shared_state}
use Rattle.af_perform.proofs.LinkRequestLemmas.{device_named, device_there, play_started, play_waits}
use Rattle.af_perform.proofs.LeavesLemmas.{leaves_opened, leaves_waiting}
use Rattle.af_perform.proofs.play.accept_or_defer.Goals as goal

pub returns-then-frames-frames_within-clause-step : goal.returns-then-frames-frames_within-clause-step
returns-then-frames-frames_within-clause-step c = λ x bytes is a s h there.
    let p = c.args.play.now in
    let ds = c.shared.inside.devices.items in
    let ks = c.shared.inside.waits in
    let named = device_named _ ds ks a _ p.device x.device _ s c.shared.view_is c.from.ensures c.requires.there c.index-device.ensures h is.device there in
    let lent = subst (λ xs. StandsForSharedState (kept_shared_state xs ks) a) (sym c.deref_mut.ensures.value) named.1 in
    subst (λ xs. StandsForLink (kept_shared_state xs ks) c.accept.new.link (start_play c.args.number p.quiet x p.start.0 bytes s (open_link a c.args.link.now))) (sym (with_items_is c.shared.inside.devices c.accept.new.devices (search rules)))
    (play_started ds c.accept.new.devices ks _ c.args.link.now _ c.args.number p.quiet x p.start.0 bytes p.sound.now a s (search rules) named.2 is.sound
    (subst (λ n. frame_count c.index-device.result.now.next.channels p.sound.now ≤ n) c.frames_within.ensures (subst (λ n. length p.sound.now / n ≤ c.frames_within.result) (c.from-2.ensures ∙ c.channels.ensures.value) c.if-frames-frames_within.true))
    (subst (λ d. StandsForLink (kept_shared_state c.accept.new.devices ks) c.accept.new.link (tell_played p.quiet s (in_devices d (accept_play c.args.number (accepted_at s.now p.start.0 p.sound.now x.preempt)) (open_link a c.args.link.now)))) is.device
    (subst (λ b. StandsForLink (kept_shared_state c.accept.new.devices ks) c.accept.new.link (tell_played p.quiet s (in_devices p.device (accept_play c.args.number (accepted_at s.now p.start.0 p.sound.now b)) (open_link a c.args.link.now)))) is.preempt
    (c.accept.ensures.accepts c.args.number ks a s lent named.0))))

pub returns-then-frames-frames_within-clause-leaves : goal.returns-then-frames-frames_within-clause-leaves
returns-then-frames-frames_within-clause-leaves c =
    leaves_opened c.args.number c.args.shared.now c.shared.inside.devices.items _ c.shared.inside.waits c.args.link.now c.accept.new.link c.shared.view_is c.requires.asks.free c.accept.ensures.rest

pub returns-else-frames-frames_within-clause-step : goal.returns-else-frames-frames_within-clause-step
returns-else-frames-frames_within-clause-step c = λ x bytes is a s h there.
    let p = c.args.play.now in
    let ks = c.shared.inside.waits in
    let named = device_named _ _ ks a _ p.device x.device _ s c.shared.view_is c.from.ensures c.requires.there c.index-device.ensures h is.device there in
    play_waits _ ks _ _ c.args.link.now c.args.number p.quiet x p.start.0 bytes p.sound.now c.play_due_in-left.result a s (search rules) named.1 there named.2 is.sound c.requires.few (c.requires.whole _ (device_there _ _ ks _ p.device _ c.shared.view_is c.from.ensures c.requires.there c.index-device.ensures))
    (subst (λ n. n < frame_count c.index-device.result.now.next.channels p.sound.now) c.frames_within.ensures (subst (λ n. c.frames_within.result < length p.sound.now / n) (c.from-2.ensures ∙ c.channels.ensures.value) c.if-frames-frames_within.false))
    (c.play_due_in-left.ensures ∙ ap (λ n. frames_beyond c.index-device.result.now.next p.start.0 (length p.sound.now / n)) (c.from-2.ensures ∙ c.channels.ensures.value))
    (c.begin_play.ensures
    ∙ ap (λ d. ks ++ record { wait = record { link = c.args.number; device = d; left = c.play_due_in-left.result }; deferred = deferred_play p.quiet p.start.0 p.sound.now p.preempt } ∷ []) is.device
    ∙ ap (λ b. ks ++ record { wait = record { link = c.args.number; device = x.device; left = c.play_due_in-left.result }; deferred = deferred_play p.quiet p.start.0 p.sound.now b } ∷ []) is.preempt)

pub returns-else-frames-frames_within-clause-leaves : goal.returns-else-frames-frames_within-clause-leaves
returns-else-frames-frames_within-clause-leaves c =
    leaves_waiting c.args.number c.args.shared.now c.shared.inside.devices.items c.shared.inside.waits _ c.args.link.now _ c.shared.view_is refl (search rules) c.begin_play.ensures c.requires.asks.room
