use Rattle.std.proofs.Common.{◌<◌, ◌^◌, ◌∙◌, ap, cond, min, rules}
use Rattle.af_perform.proofs.LinkRequestLemmas.{record_given}
use Rattle.af_perform.proofs.record.answer_available.Goals as goal

pub returns-clause-step : goal.returns-clause-step
returns-clause-step c =
    let r = c.args.asked in
    let word : r.start.0 < 2 ^ 32 = search rules in
    record_given c.args.link.now _ r.blocking r.context r.start.0 r.frames c.args.device.now c.given_frames-frames.result word
    (c.given_frames-frames.ensures.given ∙ ap (λ m. cond r.blocking r.frames (min m r.frames)) c.frames_before-before.ensures) c.answer_record.ensures.step
