use Rattle.std.proofs.Common.{refl, rules}
use Rattle.af_buffers.specs.PlayBuffer.{accepted_at}
use Rattle.af_model.specs.Play.{accept_play}
use Rattle.af_state.proofs.DeviceLemmas.{device_at}
use Rattle.af_perform.proofs.LinkRequestLemmas.{play_completes, play_told, stands_here}
use Rattle.af_perform.proofs.play.accept.Goals as goal

pub returns-clause-accepts : goal.returns-clause-accepts
returns-clause-accepts c = λ k ks a s h there.
    let p = c.args.play.now in
    let stands = stands_here c.args.devices.now ks a p.device _ s h (device_at c.args.devices.now _ _ _ c.from.ensures (search rules)) there in
    play_told c.args.devices.now ks _ _ c.args.link.now _ p.quiet p.device _ (accept_play k (accepted_at s.now p.start.0 p.sound.now p.preempt)) a s c.from.ensures h there
    (c.accept.ensures k s stands) (refl, refl, refl) c.time-time.ensures c.tell_played.ensures

pub returns-clause-completes : goal.returns-clause-completes
returns-clause-completes c = λ k ks a s deferred h there word near.
    let p = c.args.play.now in
    let stands = stands_here c.args.devices.now ks a p.device _ s h (device_at c.args.devices.now _ _ _ c.from.ensures (search rules)) there in
    play_completes k c.args.devices.now ks _ _ _ c.args.link.now _ p.quiet p.device p.start.0 _ p.sound.now p.preempt a s deferred c.from.ensures h there stands word near (c.accept.ensures k s stands) c.time-time.ensures c.tell_played.ensures

pub accept-requires-clause-whole : goal.accept-requires-clause-whole
accept-requires-clause-whole c = (c.requires.can _ (device_at c.args.devices.now _ _ _ c.from.ensures (search rules))).0.1

pub accept-requires-clause-within : goal.accept-requires-clause-within
accept-requires-clause-within c = (c.requires.can _ (device_at c.args.devices.now _ _ _ c.from.ensures (search rules))).1
