use Rattle.std.proofs.Common.{◌≡◌, ◌*◌, ◌/◌, ◌++◌, ◌∙◌, ap, sym, drop, length, subst, take, rules}
use Rattle.std.proofs.Math.Seq.{drop-append_seam, take-append_seam}
use Rattle.af_time.specs.DeviceTime.{unwrap}
use Rattle.af_sample.specs.SampleTypes.{frame_bytes}
use Rattle.af_sample.specs.Channels.{IsChannelCount}
use Rattle.af_perform.proofs.CheckLemmas.{frames_fit}
use Rattle.af_model.specs.Record.{recorded_bytes}
use Rattle.af_perform.proofs.record.read_frames.Goals as goal

pub returns-clause-frames : goal.returns-clause-frames
returns-clause-frames c = λ s h.
    let r = c.args.asked in
    let ch = c.args.device.now.next.channels in
    let fit = frames_fit r.context.ty ch r.frames (subst (λ n. IsChannelCount n) c.channels.ensures.value c.channels.ensures.count) c.requires.fits in
    let size = r.frames * frame_bytes r.context.ty ch in
    let own : c.from.result ≡ ch = c.from.ensures ∙ c.channels.ensures.value in
    let head = c.split_at_mut-after.result.0.now in
    let front : length head ≡ 16 = c.split_at_mut-after.ensures.front_len in
    let rest = drop (r.frames * c.from.result * c.width.result) c.split_at_mut-after.result.1.now in
    let whole : r.frames * c.from.result * c.width.result ≡ size =
    ap (λ n. r.frames * n * c.width.result) own ∙ ap (λ w. r.frames * ch * w) c.width.ensures ∙ fit.bytes in
    let bytes : length c.record.new.bytes ≡ size = (let same : length c.record.new.bytes ≡ r.frames * c.from.result * c.width.result = search rules in same) ∙ whole in
    ap (λ n. take size (drop n (head ++ (c.record.new.bytes ++ rest)))) (sym front)
    ∙ ap (take size) (drop-append_seam head (c.record.new.bytes ++ rest))
    ∙ ap (λ n. take n (c.record.new.bytes ++ rest)) (sym bytes)
    ∙ take-append_seam c.record.new.bytes rest
    ∙ c.record.ensures s h
    ∙ ap (recorded_bytes r.context s (unwrap s.now r.start.0))
    ((let n : length _ ≡ r.frames * c.from.result = search rules in ap (λ m. m / s.channels) n)
    ∙ ap (λ m. r.frames * m / s.channels) (own ∙ h.hears.channels)
    ∙ subst (λ m. r.frames * m / m ≡ r.frames) h.hears.channels fit.count)
