use Rattle.std.proofs.Common.{rules, arith, ◌≡◌, ◌∙◌, ◌-◌, ◌<◌, refl, Ok, Err}
use Rattle.af_toolkit.proofs.PartLemmas.{goes_stop, goes_value, reached_goes, reached_here, reached_on}
use Rattle.af_toolkit.proofs.ToolPartLemmas.{is_tool}
use Rattle.af_events.proofs.StepLemmas.{after_line, after_one, awaited_goes, event_stays, line_done, line_more, tells_next, tells_spent}
use Rattle.af_events.proofs.tell.tell.Goals as goal

pub loop-allowed-init : goal.loop-allowed-init
loop-allowed-init g c = record {
  stays = record { usable = c.requires.usable; devices = refl; tells = λ told. told; count = omega arith };
  count = omega arith;
  some = c.requires.some;
  telling = reached_here is_tool;
}

pub returns-in_err-event-clause-goes : goal.returns-in_err-event-clause-goes
returns-in_err-event-clause-goes g c =
    let i = c.loop-allowed.invariant in
    let n = c.loop-allowed.allowed in
    reached_goes is_tool _ (rw (tells_next n c.args.job.now c.loop-allowed.left (omega arith)) at i.telling)
    (goes_stop is_tool (after_one (n - 1) c.args.job.now c.loop-allowed.left) (search rules) (awaited_goes (Err c.in_err-event.field-0.0) c.in_err-event.ensures i.stays.usable refl))

pub returns-in_err-left-clause-goes : goal.returns-in_err-left-clause-goes
returns-in_err-left-clause-goes g c =
    let i = c.loop-allowed.invariant in
    let n = c.loop-allowed.allowed in
    let heard = awaited_goes (Ok c.in_ok-event.event) c.in_ok-event.ensures i.stays.usable refl in
    reached_goes is_tool _ (reached_on is_tool (after_one (n - 1) c.args.job.now c.loop-allowed.left) (rw (tells_next n c.args.job.now c.loop-allowed.left (omega arith)) at i.telling) heard)
    (goes_stop is_tool (after_line (n - 1) c.args.job.now) (search rules) (c.in_err-left.ensures.goes _))

pub returns-then-left-eq0-clause-goes : goal.returns-then-left-eq0-clause-goes
returns-then-left-eq0-clause-goes g c =
    let i = c.loop-allowed.invariant in
    let n = c.loop-allowed.allowed in
    let heard = awaited_goes (Ok c.in_ok-event.event) c.in_ok-event.ensures i.stays.usable refl in
    let told = reached_on is_tool (after_line (n - 1) c.args.job.now) (reached_on is_tool (after_one (n - 1) c.args.job.now c.loop-allowed.left) (rw (tells_next n c.args.job.now c.loop-allowed.left (omega arith)) at i.telling) heard) (c.in_ok-left.ensures.goes _) in
    reached_goes is_tool _ told (rw (line_done (n - 1) c.args.job.now c.in_ok-left.left c.if-left-eq0.true) (goes_value is_tool tt))

pub loop-allowed-preserved : goal.loop-allowed-preserved
loop-allowed-preserved g c =
    let i = c.loop-allowed.invariant in
    let n = c.loop-allowed.allowed in
    let e = c.in_ok-event.ensures in
    let stays = event_stays e i.stays.usable in
    let heard = awaited_goes (Ok c.in_ok-event.event) e i.stays.usable refl in
    let some : 0 < c.in_ok-left.left = omega (arith, c.if-left-eq0.false) in
    let told = reached_on is_tool (after_line (n - 1) c.args.job.now) (reached_on is_tool (after_one (n - 1) c.args.job.now c.loop-allowed.left) (rw (tells_next n c.args.job.now c.loop-allowed.left (omega arith)) at i.telling) heard) (c.in_ok-left.ensures.goes _) in
    record {
      stays = record {
        usable = stays.0;
        devices = stays.1 ∙ i.stays.devices;
        tells = λ t. e.read.tells (i.stays.tells t);
        count = omega (arith, e.read.counts.0, i.stays.count);
      };
      count = omega (arith, c.in_ok-left.ensures.fault.0, i.count);
      some = some;
      telling = rw (line_more (n - 1) c.args.job.now c.in_ok-left.left some) at told;
    }

pub returns-clause-goes : goal.returns-clause-goes
returns-clause-goes g c =
    let none : c.loop-allowed.allowed ≡ 0 = omega arith in
    reached_goes is_tool _ (rw none at c.loop-allowed.invariant.telling) (tells_spent c.args.job.now c.loop-allowed.left _)
