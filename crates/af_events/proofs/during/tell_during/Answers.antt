use Rattle.std.proofs.Common.{rules, arith, ◌≡◌, ◌+◌, ◌-◌, ◌∙◌, refl, sym, true, false}
use Rattle.af_toolkit.specs.Parts.{has_value}
use Rattle.af_toolkit.specs.ToolParts.{doing}
use Rattle.af_toolkit.proofs.PartLemmas.{goes_stop, goes_value, reached_goes, reached_on}
use Rattle.af_toolkit.proofs.ToolPartLemmas.{is_tool, keeps_all, keeps_on}
use Rattle.af_events.specs.Spans.{frames_of}
use Rattle.af_events.specs.Trace.{tells_until}
use Rattle.af_events.proofs.DuringLemmas.{after_ring, during_begins, ring_done, ring_more, until_next, until_none}
use Rattle.af_events.proofs.during.tell_during.Goals as goal

pub loop-waited-init : goal.loop-waited-init
loop-waited-init g c =
    let all : c.frames-frames.result - 0 ≡ frames_of c.args.span = omega (arith, c.frames-frames.ensures.value) in
    record {
      holds = keeps_all c.requires.usable;
      count = omega arith;
      some = rw c.count-left.ensures c.requires.some;
      within = omega arith;
      telling = during_begins c.args.span c.args.start.0 c.args.job.now all refl c.count-left.ensures;
    }

pub returns-in_err-left-clause-goes : goal.returns-in_err-left-clause-goes
returns-in_err-left-clause-goes g c =
    let l = c.loop-waited in
    let i = l.invariant in
    let n = c.frames-frames.result - l.waited in
    let here = rw (until_next n c.args.span c.args.start.0 c.args.job.now (l.waited + 1) l.told.0 l.left (omega arith)) at i.telling in
    reached_goes is_tool _ here (goes_stop is_tool (after_ring (n - 1) c.args.span c.args.start.0 c.args.job.now (l.waited + 1) l.told.0) (search rules) c.in_err-left.ensures.goes)

pub returns-then-is_at_end-clause-goes : goal.returns-then-is_at_end-clause-goes
returns-then-is_at_end-clause-goes g c =
    let l = c.loop-waited in
    let i = l.invariant in
    let n = c.frames-frames.result - l.waited in
    let here = rw (until_next n c.args.span c.args.start.0 c.args.job.now (l.waited + 1) l.told.0 l.left (omega arith)) at i.telling in
    let told = reached_on is_tool (after_ring (n - 1) c.args.span c.args.start.0 c.args.job.now (l.waited + 1) l.told.0) here c.in_ok-left.ensures.goes in
    let over : c.is_at_end.result ≡ true = search rules in
    reached_goes is_tool _ told (rw (ring_done (n - 1) c.args.span c.args.start.0 c.args.job.now (l.waited + 1) l.told.0 c.in_ok-left.left (sym c.is_at_end.ensures ∙ over)) (goes_value is_tool tt))

pub returns-in_err-told-clause-goes : goal.returns-in_err-told-clause-goes
returns-in_err-told-clause-goes g c =
    reached_goes is_tool _
    (let l = c.loop-waited in
    let n = c.frames-frames.result - l.waited in
    let early : c.is_at_end.result ≡ false = search rules in
    let here = rw (until_next n c.args.span c.args.start.0 c.args.job.now (l.waited + 1) l.told.0 l.left (omega arith)) at l.invariant.telling in
    let told = reached_on is_tool (after_ring (n - 1) c.args.span c.args.start.0 c.args.job.now (l.waited + 1) l.told.0) here c.in_ok-left.ensures.goes in
    rw (ring_more (n - 1) c.args.span c.args.start.0 c.args.job.now (l.waited + 1) l.told.0 c.in_ok-left.left (sym c.is_at_end.ensures ∙ early)) at told)
    (goes_stop is_tool (λ now. tells_until (c.frames-frames.result - c.loop-waited.waited - 1) c.args.span c.args.start.0 c.args.job.now (c.loop-waited.waited + 1 + 1) now.0 c.in_ok-left.left)
    (search rules) (rw c.frame_time.ensures at (c.in_err-told.ensures.goes (g.K.Sink.held c.tell_ring.new.sink))))

pub loop-waited-preserved : goal.loop-waited-preserved
loop-waited-preserved g c =
    let l = c.loop-waited in
    let i = l.invariant in
    let n = c.frames-frames.result - l.waited in
    let here = rw (until_next n c.args.span c.args.start.0 c.args.job.now (l.waited + 1) l.told.0 l.left (omega arith)) at i.telling in
    let told = reached_on is_tool (after_ring (n - 1) c.args.span c.args.start.0 c.args.job.now (l.waited + 1) l.told.0) here c.in_ok-left.ensures.goes in
    let early : c.is_at_end.result ≡ false = search rules in
    let more = rw (ring_more (n - 1) c.args.span c.args.start.0 c.args.job.now (l.waited + 1) l.told.0 c.in_ok-left.left (sym c.is_at_end.ensures ∙ early)) at told in
    let waited = reached_on is_tool (λ now. tells_until (n - 1) c.args.span c.args.start.0 c.args.job.now (l.waited + 1 + 1) now.0 c.in_ok-left.left) more (rw c.frame_time.ensures at (c.in_ok-told.ensures.goes (g.K.Sink.held c.tell_ring.new.sink))) in
    let less : c.frames-frames.result - (l.waited + 1) ≡ n - 1 = omega arith in
    record {
      holds = keeps_on (keeps_on i.holds c.in_ok-left.ensures.holds) c.in_ok-told.ensures.holds;
      count = omega (arith, c.in_ok-left.ensures.fault.0, i.count);
      some = search rules;
      within = omega arith;
      telling = rw less waited;
    }

pub returns-in_err-tell_ring-clause-goes : goal.returns-in_err-tell_ring-clause-goes
returns-in_err-tell_ring-clause-goes g c =
    let l = c.loop-waited in
    let i = l.invariant in
    let n = c.frames-frames.result - l.waited in
    let here = rw (until_none n c.args.span c.args.start.0 c.args.job.now (l.waited + 1) l.told.0 l.left (omega arith)) at i.telling in
    reached_goes is_tool _ here (goes_stop is_tool (λ _. has_value doing tt) (search rules) c.in_err-tell_ring.ensures.goes)

pub returns-clause-goes : goal.returns-clause-goes
returns-clause-goes g c =
    let l = c.loop-waited in
    let i = l.invariant in
    let n = c.frames-frames.result - l.waited in
    let here = rw (until_none n c.args.span c.args.start.0 c.args.job.now (l.waited + 1) l.told.0 l.left (omega arith)) at i.telling in
    let told = reached_on is_tool (λ _. has_value doing tt) here c.in_ok-tell_ring.ensures.goes in
    reached_goes is_tool _ told (goes_value is_tool tt)
