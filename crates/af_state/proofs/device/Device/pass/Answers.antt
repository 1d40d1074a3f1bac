use Rattle.std.proofs.Common.{◌≡◌, ◌*◌, ◌/◌, sym, length, rules, subst}
use Rattle.af_sample.specs.Channels.{AreWholeFrames}
use Rattle.af_state.specs.Kept.{KeptDevice, StandsForDevice}
use Rattle.af_state.proofs.PlayLemmas.{passes, hands_out}
use Rattle.af_state.proofs.device.Device.pass.Goals as goal

pub returns-clause-stands : goal.returns-clause-stands
returns-clause-stands c = λ s h.
    let same : length c.hand_out.new.out ≡ length c.args.captured.now = search rules in
    passes _ _ _ c.args.captured.now c.level.new.samples c.hand_out.new.out c.level.ensures same (subst (λ (v : KeptDevice). AreWholeFrames v.next.channels c.args.captured.now) (sym c.self.view_is) c.requires.whole) c.hand_out.ensures.next c.capture.ensures.last s (subst (λ (v : KeptDevice). StandsForDevice v s) (sym c.self.view_is) h)

pub returns-clause-sound : goal.returns-clause-sound
returns-clause-sound c = λ s h.
    let same : length c.hand_out.new.out ≡ length c.args.captured.now = search rules in
    let whole = subst (λ (v : KeptDevice). AreWholeFrames v.next.channels c.args.captured.now) (sym c.self.view_is) c.requires.whole in
    let whole_given = subst (λ n. n ≡ c.self.inside.next.channels * (n / c.self.inside.next.channels)) (sym same) whole in
    hands_out _ _ c.hand_out.new.out _ _ same whole_given c.level-2.ensures c.hand_out.ensures.next s (subst (λ (v : KeptDevice). StandsForDevice v s) (sym c.self.view_is) h)
