use Rattle.std.proofs.Common.{rules, ◌≡◌, ◌*◌, ◌∙◌, ℕ, ap, ap₂, subst, inl, inr, refl, Ok, Err}
use Rattle.af_toolkit.proofs.PartLemmas.{goes_stop, goes_through, goes_value}
use Rattle.af_toolkit.specs.Ends.{Writes}
use Rattle.af_tools.specs.Record.{pad_after, recorded_sound, recorded_frame}
use Rattle.af_toolkit.proofs.ToolPartLemmas.{is_tool, writes_go}
use Rattle.af_toolkit.specs.declared.end.ToolEnd.TheVariants as end
use Rattle.af_tools.proofs.WriteStepLemmas.{front_wrote, not_ok, ok_no_fault, pad_least, pad_wrote, sink_failed}
use Rattle.af_tools.proofs.recorder.write_recording.Goals as goal

pub returns-in_err-write_front-clause-goes : goal.returns-in_err-write_front-clause-goes
returns-in_err-write_front-clause-goes g c =
    goes_stop is_tool _ (search rules) (writes_go g.K.Sink.held _ (Err _) c.args.sink.now c.write_front.new.sink c.in_err-write_front.ensures.written)

pub returns-in_err-recording-clause-goes : goal.returns-in_err-recording-clause-goes
returns-in_err-recording-clause-goes g c =
    goes_through is_tool _ (writes_go g.K.Sink.held _ (Ok tt) c.args.sink.now c.write_front.new.sink c.in_ok-write_front.ensures.written)
    (goes_stop is_tool _ (search rules) (rw c.recorded_sound-sound.ensures.value at c.in_err-recording.ensures.goes))

pub returns-in_err-write_pad-clause-goes : goal.returns-in_err-write_pad-clause-goes
returns-in_err-write_pad-clause-goes g c =
    let job = c.args.job.now in
    let frames = c.in_ok-recording.recording.frames in
    let sound = c.recorded_sound-sound.ensures.value in
    let size : c.from.result * c.frame_bytes.result ≡ frames * recorded_frame (recorded_sound job c.args.device) = ap₂ (λ (m n : ℕ). m * n) c.from.ensures (c.frame_bytes.ensures ∙ ap recorded_frame sound) in
    let written = subst (λ (n : ℕ). Writes g.K.Sink.held (pad_after job.form n) (Err c.in_err-write_pad.field-0.0) c.record_blocks.new.sink c.write_pad.new.sink) size c.in_err-write_pad.ensures.written in
    goes_through is_tool _ (writes_go g.K.Sink.held _ (Ok tt) c.args.sink.now c.write_front.new.sink c.in_ok-write_front.ensures.written)
    (goes_through is_tool _ (rw sound at c.in_ok-recording.ensures.goes) (goes_stop is_tool _ (search rules) (writes_go g.K.Sink.held _ (Err _) c.record_blocks.new.sink c.write_pad.new.sink written)))

pub returns-clause-goes : goal.returns-clause-goes
returns-clause-goes g c =
    let job = c.args.job.now in
    let frames = c.in_ok-recording.recording.frames in
    let sound = c.recorded_sound-sound.ensures.value in
    let size : c.from.result * c.frame_bytes.result ≡ frames * recorded_frame (recorded_sound job c.args.device) = ap₂ (λ (m n : ℕ). m * n) c.from.ensures (c.frame_bytes.ensures ∙ ap recorded_frame sound) in
    let written = subst (λ (n : ℕ). Writes g.K.Sink.held (pad_after job.form n) (Ok tt) c.record_blocks.new.sink c.write_pad.new.sink) size c.in_ok-write_pad.ensures.written in
    goes_through is_tool _ (writes_go g.K.Sink.held _ (Ok tt) c.args.sink.now c.write_front.new.sink c.in_ok-write_front.ensures.written)
    (goes_through is_tool _ (rw sound at c.in_ok-recording.ensures.goes) (goes_through is_tool _ (writes_go g.K.Sink.held _ (Ok tt) c.record_blocks.new.sink c.write_pad.new.sink written) (goes_value is_tool _)))

pub returns-in_err-write_front-clause-step : goal.returns-in_err-write_front-clause-step
returns-in_err-write_front-clause-step g c input told =
    let same : c.from_residual.result ≡ Err c.in_err-write_front.field-0.0 = search rules in
    inl (not_ok ⊥ same, refl)

pub returns-in_err-recording-clause-step : goal.returns-in_err-recording-clause-step
returns-in_err-recording-clause-step g c input told =
    let same : c.from_residual-in_err-recording.result ≡ Err c.in_err-recording.field-0.0 = search rules in
    let t = c.in_err-recording.ensures.step input told in
    let s = front_wrote c.args.job.now c.args.device c.args.start.0 {failed' = c.from_residual-in_err-recording.result ≡ Err end.SinkFault} c.recorded_sound-sound.ensures.value c.in_ok-write_front.ensures.written (sink_failed same) t.0 in
    inr (s.0, not_ok _ same)

pub returns-in_err-write_pad-clause-step : goal.returns-in_err-write_pad-clause-step
returns-in_err-write_pad-clause-step g c input told =
    let job = c.args.job.now in
    let frames = c.in_ok-recording.recording.frames in
    let size : c.from.result * c.frame_bytes.result ≡ frames * recorded_frame (recorded_sound job c.args.device) = ap₂ (λ (m n : ℕ). m * n) c.from.ensures (c.frame_bytes.ensures ∙ ap recorded_frame c.recorded_sound-sound.ensures.value) in
    let t = c.in_ok-recording.ensures.step input told in
    let over = t.1 refl in
    let same : c.from_residual-in_err-write_pad.result ≡ Err c.in_err-write_pad.field-0.0 = search rules in
    let s = front_wrote job c.args.device c.args.start.0 {failed' = ⊥} c.recorded_sound-sound.ensures.value c.in_ok-write_front.ensures.written ok_no_fault t.0 in
    let p = pad_wrote g.K.Sink.held c.record_blocks.new.sink c.write_pad.new.sink (Err _) _ (sink_failed same) c.in_err-write_pad.ensures.written (pad_least job.form _) s.0 (s.1 ∙ over.0) (s.2 ∙ over.1) in
    inr (p.0, not_ok _ same)

pub returns-clause-step : goal.returns-clause-step
returns-clause-step g c input told =
    let job = c.args.job.now in
    let frames = c.in_ok-recording.recording.frames in
    let size : c.from.result * c.frame_bytes.result ≡ frames * recorded_frame (recorded_sound job c.args.device) = ap₂ (λ (m n : ℕ). m * n) c.from.ensures (c.frame_bytes.ensures ∙ ap recorded_frame c.recorded_sound-sound.ensures.value) in
    let t = c.in_ok-recording.ensures.step input told in
    let over = t.1 refl in
    let s = front_wrote job c.args.device c.args.start.0 {failed' = ⊥} c.recorded_sound-sound.ensures.value c.in_ok-write_front.ensures.written ok_no_fault t.0 in
    let p = pad_wrote g.K.Sink.held c.record_blocks.new.sink c.write_pad.new.sink (Ok tt) _ (λ bad. absurd (ok_no_fault bad)) c.in_ok-write_pad.ensures.written (pad_least job.form _) s.0 (s.1 ∙ over.0) (s.2 ∙ over.1) in
    inr (p.0, λ _. p.1)
