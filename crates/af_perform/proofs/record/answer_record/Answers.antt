use Rattle.std.proofs.Common.{◌*◌, ◌∙◌, ap, drop, take, rules}
use Rattle.std.proofs.lemmas.List.{with_items_is}
use Rattle.af_sample.specs.SampleTypes.{frame_bytes}
use Rattle.af_perform.proofs.LinkRequestLemmas.{frames_given}
use Rattle.af_perform.proofs.record.answer_record.Goals as goal

pub returns-clause-step : goal.returns-clause-step
returns-clause-step c =
    let r = c.args.asked in
    frames_given c.args.link.now _ r.context r.start.0 c.args.device.now _ r.frames _ c.time.ensures
    (λ s h.
    ap (λ w. take (r.frames * w) (drop 16 c.deref_mut-3.result.now)) (c.frame_bytes.ensures ∙ ap (frame_bytes r.context.ty) c.channels.ensures.value)
    ∙ ap (λ bytes. take (r.frames * frame_bytes r.context.ty c.args.device.now.next.channels) (drop 16 bytes)) (c.deref_mut-3.ensures.value ∙ with_items_is c.work.inside.message c.read_frames.new.message (search rules))
    ∙ c.read_frames.ensures.frames s h) c.reply_recorded.ensures
