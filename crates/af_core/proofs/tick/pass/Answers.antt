use Rattle.std.proofs.Common.{◌≡◌, ◌∙◌, ◌*◌, ap, cond, length, pos, replicate, rules, subst, sym, take}
use Rattle.af_sample.specs.Channels.{IsChannelCount}
use Rattle.af_sample.specs.Samples.{bytes_of, samples}
use Rattle.af_sample.specs.SampleTypes.{frame_bytes}
use Rattle.af_core.proofs.TickSizeLemmas.{room_for, take_bytes}
use Rattle.af_core.proofs.TurnLemmas.{passes_by}
use Rattle.af_core.proofs.tick.pass.Goals as goal

pub captured-requires : goal.captured-requires
captured-requires c =
    let channels : c.from.result ≡ c.args.device.now.next.channels = c.from.ensures ∙ c.channels.ensures.value in
    let count : IsChannelCount c.from.result = subst IsChannelCount (sym c.from.ensures) c.channels.ensures.count in
    let all = room_for c.split_at_mut-before.result.0.now c.args.frames c.from.result (search rules) c.requires.bound count in
    take_bytes c.args.bytes.now c.ty-ty.result c.args.frames c.from.result _ all
    (c.requires.size ∙ ap (λ ty. c.args.frames * frame_bytes ty c.args.device.now.next.channels) (sym c.ty-ty.ensures) ∙ ap (λ n. c.args.frames * frame_bytes c.ty-ty.result n) (sym channels))

pub convert_out-requires : goal.convert_out-requires
convert_out-requires c =
    let channels : c.from.result ≡ c.args.device.now.next.channels = c.from.ensures ∙ c.channels.ensures.value in
    let count : IsChannelCount c.from.result = subst IsChannelCount (sym c.from.ensures) c.channels.ensures.count in
    let same : length c.pass.new.sound ≡ length (take (c.args.frames * c.from.result) c.split_at_mut-before.result.1.now) = search rules in
    let all = room_for c.split_at_mut-before.result.1.now c.args.frames c.from.result (search rules) c.requires.bound count in
    take_bytes c.args.bytes.now c.ty-ty.result c.args.frames c.from.result _ (same ∙ all)
    (c.requires.size ∙ ap (λ ty. c.args.frames * frame_bytes ty c.args.device.now.next.channels) (sym c.ty-ty.ensures) ∙ ap (λ n. c.args.frames * frame_bytes c.ty-ty.result n) (sym channels))

pub returns : goal.returns
returns c =
    let channels : c.from.result ≡ c.args.device.now.next.channels = c.from.ensures ∙ c.channels.ensures.value in
    let count : IsChannelCount c.from.result = subst IsChannelCount (sym c.from.ensures) c.channels.ensures.count in
    let all = room_for c.split_at_mut-before.result.0.now c.args.frames c.from.result (search rules) c.requires.bound count in
    let same : length c.captured.new.samples ≡ length (take (c.args.frames * c.from.result) c.split_at_mut-before.result.0.now) = search rules in
    record {
      passes = passes_by c.args.came c.args.frames (length (take (c.args.frames * c.from.result) c.split_at_mut-before.result.0.now)) c.args.device.now c.pass.new.self c.args.bytes.now c.convert_out.new.out c.captured.new.samples c.pass.new.sound
          (all ∙ ap (λ n. c.args.frames * n) channels) same (c.captured.ensures ∙ ap (λ ty. cond c.args.came (samples ty c.args.bytes.now) (replicate (length (take (c.args.frames * c.from.result) c.split_at_mut-before.result.0.now)) (pos 0))) c.ty-ty.ensures) (c.convert_out.ensures ∙ ap (λ ty. bytes_of ty c.pass.new.sound) c.ty-ty.ensures) c.pass.ensures.stands c.pass.ensures.sound;
    }
