use Rattle.std.proofs.Common.{rules, arith, ◌≡◌, ◌≤◌, ◌*◌, ◌+◌, ◌^◌, ℕ, List, Option, None, Ok, Err, length, refl, ap, ap₂, ◌∙◌, length-take-le}
use Rattle.af_sample.specs.declared.sample_type.SampleType.TheVariants.{Lin16}
use Rattle.af_cli.specs.Sizes.{block_frames}
use Rattle.af_cli.proofs.FrameSizeLemmas.{frame_size, some_frames}
use Rattle.af_toolkit.proofs.ToolPartLemmas.{keeps_all, keeps_on}
use Rattle.af_meter.specs.Levels.{frame_size as frame_of}
use Rattle.af_meter.specs.Trace.{most_frames}
use Rattle.af_meter.proofs.IntervalLemmas.{hearing_begin, hearing_done, hearing_on, hearing_stopped}
use Rattle.af_meter.proofs.interval.measure.Goals as goal

pub loop-left-init : goal.loop-left-init
loop-left-init g c =
    let plan = c.args.plan in
    let is_most : c.block_frames-most.result ≡ most_frames plan = c.block_frames-most.ensures.value ∙ ap (block_frames plan.frames) c.frame_bytes-frame.ensures in
    record {
      holds = keeps_all c.requires.usable;
      some = omega (arith, is_most, some_frames plan.frames (frame_of plan.channels) (frame_size Lin16 plan.channels c.requires.plan.channels) c.requires.plan.some);
      left = omega arith;
      room = refl;
      hearing = λ held. hearing_begin plan c.args.start.0 is_most (c.new-tallies.ensures plan.channels);
    }

pub returns-in_err-record_block-clause-goes : goal.returns-in_err-record_block-clause-goes
returns-in_err-record_block-clause-goes g c held =
    let i = c.loop-left.invariant in
    let fits : c.min-count.result * c.frame_bytes-frame.result ≤ length c.loop-left.room = search rules in
    let size = length-take-le _ c.loop-left.room fits ∙ ap (λ (w : ℕ). c.min-count.result * w) c.frame_bytes-frame.ensures in
    hearing_stopped (i.hearing held) i.some (omega arith) c.min-count.ensures size (search rules) (c.in_err-record_block.ensures.goes held)

pub loop-left-preserved : goal.loop-left-preserved
loop-left-preserved g c =
    let i = c.loop-left.invariant in
    let e = c.in_ok-record_block.ensures in
    let fits : c.min-count.result * c.frame_bytes-frame.result ≤ length c.loop-left.room = search rules in
    let size = length-take-le _ c.loop-left.room fits ∙ ap (λ (w : ℕ). c.min-count.result * w) c.frame_bytes-frame.ensures in
    record {
      holds = keeps_on i.holds e.holds;
      some = i.some;
      left = omega (arith, i.left);
      room = search rules;
      hearing = λ held.
          let h = i.hearing held in
          hearing_on h i.some (omega arith) c.min-count.ensures size (e.goes held) c.after-at.ensures
          (c.with-tallies.ensures h.blocks h.count c.min-count.result (e.room ∙ size) h.tallied);
    }

pub returns-clause-goes : goal.returns-clause-goes
returns-clause-goes g c held =
    hearing_done (c.loop-left.invariant.hearing held) (omega arith) c.levels.ensures

pub with-tallies-requires-clause-room : goal.with-tallies-requires-clause-room
with-tallies-requires-clause-room g c =
    let h = c.loop-left.invariant.hearing None in
    let t = h.tallied in
    let count = t.first_count in
    (omega (arith, t.first.few, count, h.all, c.requires.plan.few), omega (arith, t.second_few, h.all, c.requires.plan.few))
