use Rattle.std.proofs.Common.{◌<◌, ◌≤◌, ◌^◌, sym, arith, rules, subst}
use Rattle.af_sample.specs.Channels.{AreWholeFrames, frame_count}
use Rattle.af_buffers.specs.PlayBuffer.{frames_within}
use Rattle.af_state.specs.Kept.{KeptDevice, StandsForDevice}
use Rattle.af_state.proofs.PlayLemmas.{accepts, accepts_nothing}
use Rattle.af_state.proofs.device.Device.accept.Goals as goal

pub returns-then-is_empty : goal.returns-then-is_empty
returns-then-is_empty c = λ k s h. accepts_nothing k _ c.args.start.0 c.args.sound.now c.args.preempt s (grind (arith, rules)) h

pub returns : goal.returns
returns c = λ k s h.
    let word : c.args.start.0 < 2 ^ 32 = search rules in
    let whole = subst (λ (v : KeptDevice). AreWholeFrames v.next.channels c.args.sound.now) (sym c.self.view_is) c.requires.whole in
    let within = subst (λ (v : KeptDevice). frame_count v.next.channels c.args.sound.now ≤ frames_within v.next c.args.start.0) (sym c.self.view_is) c.requires.within in
    accepts k _ _ c.args.start.0 c.args.sound.now c.args.preempt word (search rules) whole within c.play.ensures.next s (subst (λ (v : KeptDevice). StandsForDevice v s) (sym c.self.view_is) h)
