use Rattle.std.proofs.Common.{rules, arith, ◌<◌, length, ap, ◌∙◌}
use Rattle.af_toolkit.proofs.PartLemmas.{goes_stop, goes_value, reached_goes, reached_here}
use Rattle.af_toolkit.proofs.ToolPartLemmas.{is_tool, keeps_all, keeps_on}
use Rattle.af_events.proofs.SelectLemmas.{select_next, select_none, selecting_on}
use Rattle.af_events.proofs.select.select_lines.Goals as goal

pub loop-number-init : goal.loop-number-init
loop-number-init g c = record { holds = keeps_all c.requires; selecting = λ held. reached_here is_tool }

pub returns-in_err-select_if-clause-goes : goal.returns-in_err-select_if-clause-goes
returns-in_err-select_if-clause-goes g c held =
    let i = c.loop-number.invariant in
    let within : c.loop-number.number < length c.args.conn.now.devices = omega (arith, c.loop-number-test.true, ap length c.devices-count.ensures.value) in
    reached_goes is_tool _ (i.selecting held) (select_next c.args.kinds _ (c.devices.ensures.value ∙ i.holds.devices) within (goes_stop is_tool _ (search rules) (c.in_err-select_if.ensures.goes held)))

pub loop-number-preserved : goal.loop-number-preserved
loop-number-preserved g c =
    let i = c.loop-number.invariant in
    let e = c.in_ok-select_if.ensures in
    let within : c.loop-number.number < length c.args.conn.now.devices = omega (arith, c.loop-number-test.true, ap length c.devices-count.ensures.value) in
    record {
      holds = keeps_on i.holds e.holds;
      selecting = λ held. selecting_on c.args.kinds _ (c.devices.ensures.value ∙ i.holds.devices) within (i.selecting held) (e.goes held);
    }

pub returns-clause-goes : goal.returns-clause-goes
returns-clause-goes g c held =
    reached_goes is_tool _ (c.loop-number.invariant.selecting held) (rw (select_none c.args.kinds c.args.conn.now.devices c.loop-number.number (omega (arith, c.loop-number-test.false, ap length c.devices-count.ensures.value))) (goes_value is_tool _))
