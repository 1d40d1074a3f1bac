use Rattle.std.proofs.Common.{rules, arith, ◌<◌, ◌-◌, length, refl, sym}
use Rattle.af_toolkit.proofs.PartLemmas.{goes_stop, goes_value, reached_goes, reached_here, reached_on}
use Rattle.af_toolkit.proofs.ToolPartLemmas.{is_tool, keeps_all, keeps_on}
use Rattle.af_events.proofs.DuringLemmas.{after_kept, kept_done, kept_goes_on, kept_line, kept_more, none_there, oldest_next, oldest_none, ring_none, ring_some, taken_goes, taken_length, taken_stays}
use Rattle.af_events.proofs.during.tell_kept.Goals as goal

pub loop-event-init : goal.loop-event-init
loop-event-init g c = record { holds = keeps_all c.requires.usable; count = omega arith; some = c.requires.some; telling = reached_here is_tool }

pub returns-in_err-left-clause-goes : goal.returns-in_err-left-clause-goes
returns-in_err-left-clause-goes g c =
    let i = c.loop-event.invariant in
    let conn = c.loop-event.conn in
    let job = c.args.job.now in
    let n = length conn.ring.events in
    let first = sym c.in-Some.ensures.oldest in
    let handed = taken_goes g.L.Link.left g.L.Link.sent conn c.in-Some.ensures.rest first in
    let told = reached_on is_tool (after_kept (n - 1) job c.loop-event.left) (rw (oldest_next n job c.loop-event.left (ring_some conn.ring.events first)) at i.telling) handed in
    kept_goes_on g.L.Link.left g.L.Link.sent c.args.conn.now job c.args.count
    (reached_goes is_tool _ told (goes_stop is_tool (kept_line (n - 1) job) (search rules) (c.in_err-left.ensures.goes _)))

pub returns-then-left-eq0-clause-goes : goal.returns-then-left-eq0-clause-goes
returns-then-left-eq0-clause-goes g c =
    let i = c.loop-event.invariant in
    let conn = c.loop-event.conn in
    let job = c.args.job.now in
    let n = length conn.ring.events in
    let first = sym c.in-Some.ensures.oldest in
    let handed = taken_goes g.L.Link.left g.L.Link.sent conn c.in-Some.ensures.rest first in
    let told = reached_on is_tool (after_kept (n - 1) job c.loop-event.left) (rw (oldest_next n job c.loop-event.left (ring_some conn.ring.events first)) at i.telling) handed in
    let more = reached_on is_tool (kept_line (n - 1) job) told (c.in_ok-left.ensures.goes _) in
    kept_goes_on g.L.Link.left g.L.Link.sent c.args.conn.now job c.args.count
    (reached_goes is_tool _ more (rw (kept_done (n - 1) job c.in_ok-left.left c.if-left-eq0.true) (goes_value is_tool 0)))

pub loop-event-preserved : goal.loop-event-preserved
loop-event-preserved g c =
    let i = c.loop-event.invariant in
    let conn = c.loop-event.conn in
    let job = c.args.job.now in
    let n = length conn.ring.events in
    let first = sym c.in-Some.ensures.oldest in
    let handed = taken_goes g.L.Link.left g.L.Link.sent conn c.in-Some.ensures.rest first in
    let told = reached_on is_tool (after_kept (n - 1) job c.loop-event.left) (rw (oldest_next n job c.loop-event.left (ring_some conn.ring.events first)) at i.telling) handed in
    let more = reached_on is_tool (kept_line (n - 1) job) told (c.in_ok-left.ensures.goes _) in
    let some : 0 < c.in_ok-left.left = omega (arith, c.if-left-eq0.false) in
    record {
      holds = keeps_on i.holds (taken_stays g.L.Link.left g.L.Link.faults conn c.in-Some.ensures.rest (i.holds.usable refl));
      count = omega (arith, c.in_ok-left.ensures.fault.0, i.count);
      some = some;
      telling = rw (taken_length conn c.in-Some.ensures.rest) (rw (kept_more (n - 1) job c.in_ok-left.left some) at more);
    }

pub returns-clause-goes : goal.returns-clause-goes
returns-clause-goes g c =
    let i = c.loop-event.invariant in
    let conn = c.loop-event.conn in
    let job = c.args.job.now in
    let n = length conn.ring.events in
    let none = sym c.in_default.ensures.oldest in
    rw (none_there conn c.in_default.ensures.rest none)
    (kept_goes_on g.L.Link.left g.L.Link.sent c.args.conn.now job c.args.count
    (reached_goes is_tool _ i.telling (rw (oldest_none n job c.loop-event.left (ring_none conn.ring.events none)) (goes_value is_tool c.loop-event.left))))
