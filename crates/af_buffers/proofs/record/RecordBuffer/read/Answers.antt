use Rattle.std.proofs.Common.{◌≡◌, ◌-◌, ◌*◌, ◌/◌, ◌%◌, ◌^◌, ◌++◌, ℕ, min, pos, subst, sym, ap, ◌∙◌, arith, rules, length, refl}
use Rattle.af_sample.specs.Channels.{frame_count, AreWholeFrames}
use Rattle.af_ring.specs.Cells.{IsRunAt}
use Rattle.af_buffers.specs.RecordBuffer.{RecordWindow, last_of, frames_before, samples_from}
use Rattle.af_buffers.proofs.RecordRingLemmas.{reads}
use Rattle.af_buffers.proofs.record.RecordBuffer.read.Goals as goal

pub returns : goal.returns
returns c =
    let channels : ℕ = c.self.inside.channels in
    let b : RecordWindow = last_of c.self.inside.ring c.self.inside.time.0 channels c.self.inside.horizon in
    let frames : ℕ = length c.args.out.now / channels in
    let whole : AreWholeFrames channels c.args.out.now = subst (λ (v : RecordWindow). AreWholeFrames v.channels c.args.out.now) (sym c.self.view_is) c.requires.whole in
    let before : c.frames_before-before.result ≡ frames_before b c.args.start.0 =
    subst (λ (v : RecordWindow). c.frames_before-before.result ≡ frames_before v c.args.start.0) (sym c.self.view_is) c.frames_before-before.ensures in
    let end : c.min-end.result ≡ min frames (frames_before b c.args.start.0) =
    c.min-end.ensures ∙ ap (λ m. min (length c.args.out.now / m) c.frames_before-before.result) c.from-channels.ensures ∙ ap (min frames) before in
    let begin : c.min-begin.result ≡ min c.min-end.result (frames_before b c.args.start.0 - c.self.inside.horizon) =
    c.min-begin.ensures ∙ ap (min c.min-end.result) (c.saturating_sub.ensures ∙ ap (λ m. m - c.self.inside.horizon) before) in
    let ends : c.min-end.result * c.from-channels.result ≡ c.min-end.result * channels = ap (λ m. c.min-end.result * m) c.from-channels.ensures in
    let begins : c.min-begin.result * c.from-channels.result ≡ c.min-begin.result * channels = ap (λ m. c.min-begin.result * m) c.from-channels.ensures in
    let front = c.split_at_mut-before_now.ensures.front_len in
    let rest = c.split_at_mut-before_now.ensures.back_len in
    let front' = c.split_at_mut-further_back.ensures.front_len in
    let rest' = c.split_at_mut-further_back.ensures.back_len in
    let size = c.fill.ensures.len in
    let size' = c.fill-2.ensures.len in
    subst (λ (v : RecordWindow). (c.fill.new.self ++ c.read_run.new.out) ++ c.fill-2.new.self ≡ samples_from v c.args.start.0 (frame_count v.channels ((c.fill.new.self ++ c.read_run.new.out) ++ c.fill-2.new.self))) c.self.view_is
    (reads c.self.inside.ring c.fill.new.self c.read_run.new.out c.fill-2.new.self c.self.inside.time.0 channels c.self.inside.horizon c.args.start.0 c.min-begin.result c.min-end.result frames c.self.invariant
    (search rules) end begin (omega arith) (omega arith) (omega arith)
    (λ j low. c.fill.ensures.clones j (pos 0) (omega arith) refl)
    (subst (IsRunAt c.read_run.new.out c.self.inside.ring) (c.first_cell.ensures ∙ ap (λ t. channels * t % 2 ^ 32) c.after.ensures) c.read_run.ensures)
    (λ j low. c.fill-2.ensures.clones j (pos 0) (omega arith) refl))
