use Rattle.std.proofs.Common.{rules, arith, inl, inr, Result, Err, ◌≡◌, ◌≤◌, ◌*◌, ℕ, length, refl, ap, ◌∙◌, length-take-le}
use Rattle.af_cli.specs.Sizes.{block_frames}
use Rattle.af_tools.specs.Record.{recorded_frame}
use Rattle.af_toolkit.proofs.ToolPartLemmas.{keeps_all, keeps_on}
use Rattle.af_tools.proofs.RecordBlockLemmas.{record_begin, record_done, record_on, record_quiet, record_stopped, some_recorded}
use Rattle.af_toolkit.specs.declared.end.ToolEnd.{ToolEnd}
use Rattle.af_toolkit.proofs.StepLemmas.{held_same, of_sink}
use Rattle.af_tools.proofs.WriteStepLemmas.{taken_all, taken_begin, taken_cut, taken_on, taken_quiet}
use Rattle.af_tools.specs.declared.record.Recording.{Recording}
use Rattle.af_tools.proofs.record.record_blocks.Goals as goal

pub loop-left-init : goal.loop-left-init
loop-left-init g c =
    let job = c.args.job.now in
    let sound = c.args.sound in
    let is_block : c.block_frames-block.result ≡ block_frames job.block (recorded_frame sound) = c.block_frames-block.ensures.value ∙ ap (block_frames job.block) c.frame_bytes-frame.ensures in
    record {
      holds = keeps_all c.requires.usable;
      count = omega arith;
      some = omega (arith, is_block, some_recorded sound job.block c.requires.channels c.requires.block.0);
      going = omega arith;
      left = omega arith;
      recording = record_begin job sound c.args.start.0 is_block;
      taken = taken_begin job sound c.args.start.0 c.block_frames-block.result;
    }

pub returns-in_err-taken-clause-goes : goal.returns-in_err-taken-clause-goes
returns-in_err-taken-clause-goes g c =
    let i = c.loop-left.invariant in
    let fits : c.min-count.result * c.frame_bytes-frame.result ≤ length c.loop-left.room = search rules in
    let size = length-take-le _ c.loop-left.room fits ∙ ap (λ (w : ℕ). c.min-count.result * w) c.frame_bytes-frame.ensures in
    record_stopped i.recording i.some (omega arith) c.min-count.ensures size (search rules) c.in_err-taken.ensures.goes

pub returns-then-row-job-clause-goes : goal.returns-then-row-job-clause-goes
returns-then-row-job-clause-goes g c =
    let i = c.loop-left.invariant in
    let fits : c.min-count.result * c.frame_bytes-frame.result ≤ length c.loop-left.room = search rules in
    let size = length-take-le _ c.loop-left.room fits ∙ ap (λ (w : ℕ). c.min-count.result * w) c.frame_bytes-frame.ensures in
    record_quiet i.recording i.some (omega arith) c.min-count.ensures size c.in_ok-taken.ensures.goes c.row_after-row.ensures c.lost_after-lost.ensures c.if-row-job.true refl

pub loop-left-preserved : goal.loop-left-preserved
loop-left-preserved g c =
    let i = c.loop-left.invariant in
    let e = c.in_ok-taken.ensures in
    let fits : c.min-count.result * c.frame_bytes-frame.result ≤ length c.loop-left.room = search rules in
    let size = length-take-le _ c.loop-left.room fits ∙ ap (λ (w : ℕ). c.min-count.result * w) c.frame_bytes-frame.ensures in
    record {
      holds = keeps_on i.holds e.holds;
      count = omega (arith, e.fault.0, i.count);
      some = i.some;
      going = c.if-row-job.false;
      left = omega (arith, i.left);
      recording = record_on i.recording i.some (omega arith) c.min-count.ensures size e.goes c.row_after-row.ensures c.lost_after-lost.ensures c.if-row-job.false c.after-at.ensures;
      taken = taken_on i.taken i.some (omega arith) c.min-count.ensures size e.goes c.row_after-row.ensures c.if-row-job.false c.after-at.ensures;
    }

pub returns-clause-goes : goal.returns-clause-goes
returns-clause-goes g c =
    let i = c.loop-left.invariant in
    record_done i.recording i.some (omega arith)

pub returns-in_err-taken-clause-step : goal.returns-in_err-taken-clause-step
returns-in_err-taken-clause-step g c input told =
    let i = c.loop-left.invariant in
    let e = c.in_err-taken.ensures in
    let fits : c.min-count.result * c.frame_bytes-frame.result ≤ length c.loop-left.room = search rules in
    let size = length-take-le _ c.loop-left.room fits ∙ ap (λ (w : ℕ). c.min-count.result * w) c.frame_bytes-frame.ensures in
    let is_block : c.block_frames-block.result ≡ block_frames c.args.job.now.block (recorded_frame c.args.sound) = c.block_frames-block.ensures.value ∙ ap (block_frames c.args.job.now.block) c.frame_bytes-frame.ensures in
    let same : c.from_residual.result ≡ Err c.in_err-taken.field-0.0 = search rules in
    rw (← is_block, same) (
      taken_cut i.taken (input, told, refl) _ e.goes
          (elim (of_sink _ e.end) [ inl bad ↦ inl (ap (λ (h : ToolEnd). (let r : Result Recording ToolEnd = Err h in r)) bad) | inr link ↦ inr (held_same g.K.Sink.held (e.kept link)) ]),
      λ bad. cc,
    )

pub returns-then-row-job-clause-step : goal.returns-then-row-job-clause-step
returns-then-row-job-clause-step g c input told =
    let i = c.loop-left.invariant in
    let fits : c.min-count.result * c.frame_bytes-frame.result ≤ length c.loop-left.room = search rules in
    let size = length-take-le _ c.loop-left.room fits ∙ ap (λ (w : ℕ). c.min-count.result * w) c.frame_bytes-frame.ensures in
    let is_block : c.block_frames-block.result ≡ block_frames c.args.job.now.block (recorded_frame c.args.sound) = c.block_frames-block.ensures.value ∙ ap (block_frames c.args.job.now.block) c.frame_bytes-frame.ensures in
    let t = taken_quiet i.taken i.some (omega arith) c.min-count.ensures size c.in_ok-taken.ensures.goes c.row_after-row.ensures c.if-row-job.true (input, told, refl) in
    rw (← is_block) (t.0, λ _. (t.1, t.2))

pub returns-clause-step : goal.returns-clause-step
returns-clause-step g c input told =
    let i = c.loop-left.invariant in
    let is_block : c.block_frames-block.result ≡ block_frames c.args.job.now.block (recorded_frame c.args.sound) = c.block_frames-block.ensures.value ∙ ap (block_frames c.args.job.now.block) c.frame_bytes-frame.ensures in
    let t = taken_all i.taken (input, told, refl) in
    rw (← is_block) (t.0, λ _. (t.1, t.2))
