use Rattle.std.proofs.Common.{rules, arith, ◌≡◌, ◌∙◌, ◌<◌, refl, Ok, Err}
use Rattle.af_toolkit.proofs.ToolPartLemmas.{keeps_all, keeps_on}
use Rattle.af_meter.proofs.TellLemmas.{metering_begin, metering_cut, metering_done, metering_on, metering_spent, metering_stopped}
use Rattle.af_meter.proofs.tell.tell.Goals as goal

pub loop-allowed-init : goal.loop-allowed-init
loop-allowed-init g c = record {
  holds = keeps_all c.requires.usable;
  count = omega arith;
  some = c.requires.some;
  low = c.new-row.ensures.low;
  room = refl;
  metering = metering_begin c.args.plan c.args.start.0 c.new-row.result c.args.count c.new-row.ensures.row;
}

pub returns-in_err-levels-clause-goes : goal.returns-in_err-levels-clause-goes
returns-in_err-levels-clause-goes g c =
    metering_stopped c.loop-allowed.invariant.metering (omega arith) (search rules) (c.in_err-levels.ensures.goes _)

pub returns-in_err-left-clause-goes : goal.returns-in_err-left-clause-goes
returns-in_err-left-clause-goes g c =
    let m = c.loop-allowed.invariant.metering in
    let next = c.after-line.ensures.row m.before m.kept in
    metering_cut m (omega arith) (c.in_ok-levels.ensures.goes _) next.1 (search rules) (c.in_err-left.ensures.goes _)

pub returns-then-left-eq0-clause-goes : goal.returns-then-left-eq0-clause-goes
returns-then-left-eq0-clause-goes g c =
    let m = c.loop-allowed.invariant.metering in
    let next = c.after-line.ensures.row m.before m.kept in
    metering_done m (omega arith) (c.in_ok-levels.ensures.goes _) next.1 (c.in_ok-left.ensures.goes _) c.if-left-eq0.true

pub loop-allowed-preserved : goal.loop-allowed-preserved
loop-allowed-preserved g c =
    let i = c.loop-allowed.invariant in
    let m = i.metering in
    let e = c.in_ok-levels.ensures in
    let next = c.after-line.ensures.row m.before m.kept in
    let some : 0 < c.in_ok-left.left = omega (arith, c.if-left-eq0.false) in
    record {
      holds = keeps_on i.holds e.holds;
      count = omega (arith, c.in_ok-left.ensures.fault.0, i.count);
      some = some;
      low = c.after-line.ensures.low;
      room = e.room ∙ i.room;
      metering = metering_on m (omega arith) (e.goes _) next.1 (c.in_ok-left.ensures.goes _) some c.after-at.ensures next.0;
    }

pub returns-clause-goes : goal.returns-clause-goes
returns-clause-goes g c = metering_spent c.loop-allowed.invariant.metering (omega arith)
