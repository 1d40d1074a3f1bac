use Rattle.std.proofs.Common.{◌≡◌, ◌+◌, ◌/◌, ◌%◌, ◌^◌, ◌≤◌, length, subst, sym, ap, ◌∙◌}
use Rattle.af_limits.specs.Limits.{longest_tick}
use Rattle.af_sample.specs.Channels.{frame_count, AreWholeFrames}
use Rattle.af_ring.specs.Cells.{PutsRun}
use Rattle.af_buffers.specs.RecordBuffer.{RecordWindow, last_of, Captures}
use Rattle.af_buffers.proofs.RecordRingLemmas.{captures}
use Rattle.af_buffers.proofs.record.RecordBuffer.capture.Goals as goal

pub returns-clause-last : goal.returns-clause-last
returns-clause-last c =
    let b : RecordWindow = last_of c.self.inside.ring c.self.inside.time.0 c.self.inside.channels c.self.inside.horizon in
    let later : c.after-self-inside.result.0 ≡ (c.self.inside.time.0 + frame_count c.self.inside.channels c.args.samples.now) % 2 ^ 32 =
    c.after-self-inside.ensures ∙ ap (λ m. (c.self.inside.time.0 + length c.args.samples.now / m) % 2 ^ 32) c.from.ensures in
    subst (λ (v : RecordWindow). Captures v (last_of c.put_run.new.self c.after-self-inside.result.0 c.self.inside.channels c.self.inside.horizon) c.args.samples.now) c.self.view_is
    (subst (λ t. Captures b (last_of c.put_run.new.self t c.self.inside.channels c.self.inside.horizon) c.args.samples.now) (sym later)
    (captures c.self.inside.ring c.put_run.new.self c.args.samples.now c.self.inside.time.0 c.self.inside.channels c.self.inside.horizon c.self.invariant
    (subst (λ (v : RecordWindow). frame_count v.channels c.args.samples.now ≤ longest_tick) (sym c.self.view_is) c.requires.count)
    (subst (λ (v : RecordWindow). AreWholeFrames v.channels c.args.samples.now) (sym c.self.view_is) c.requires.whole)
    (subst (λ t. PutsRun c.self.inside.ring c.put_run.new.self t c.args.samples.now) c.first_cell-cell.ensures c.put_run.ensures)))
