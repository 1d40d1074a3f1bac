use Rattle.std.proofs.Common.{rules, arith, ◌≡◌, ◌<◌, length, ap, ◌∙◌, refl, inl, inr, Result, Err}
use Rattle.af_toolkit.proofs.PartLemmas.{goes_stop, goes_value, reached_goes, reached_here}
use Rattle.af_toolkit.proofs.ToolPartLemmas.{is_tool, keeps_all, keeps_on}
use Rattle.af_standing.proofs.ListLemmas.{tell_next, tell_none, telling_on}
use Rattle.af_toolkit.specs.declared.end.ToolEnd.{ToolEnd}
use Rattle.af_toolkit.proofs.StepLemmas.{held_same, of_sink}
use Rattle.af_standing.proofs.StepLemmas.{told_all, told_begin, told_cut, told_on}
use Rattle.af_standing.proofs.lister.tell_devices.Goals as goal

pub loop-number-init : goal.loop-number-init
loop-number-init g c = record { holds = keeps_all c.requires; count = omega arith; telling = reached_here is_tool; told = told_begin c.args.conn.now.devices }

pub returns-in_err-tell_device-clause-goes : goal.returns-in_err-tell_device-clause-goes
returns-in_err-tell_device-clause-goes g c =
    let i = c.loop-number.invariant in
    let within : c.loop-number.number < length c.args.conn.now.devices = omega (arith, c.loop-number-test.true, ap length c.devices-count.ensures.value) in
    reached_goes is_tool _ i.telling (tell_next _ (c.devices.ensures.value ∙ i.holds.devices) within (goes_stop is_tool _ (search rules) c.in_err-tell_device.ensures.goes))

pub loop-number-preserved : goal.loop-number-preserved
loop-number-preserved g c =
    let i = c.loop-number.invariant in
    let e = c.in_ok-tell_device.ensures in
    let within : c.loop-number.number < length c.args.conn.now.devices = omega (arith, c.loop-number-test.true, ap length c.devices-count.ensures.value) in
    record {
      holds = keeps_on i.holds e.holds;
      count = omega (arith, e.fault.0, i.count);
      telling = telling_on _ (c.devices.ensures.value ∙ i.holds.devices) within i.telling e.goes;
      told = told_on i.told _ (c.devices.ensures.value ∙ i.holds.devices) within e.goes;
    }

pub returns-clause-goes : goal.returns-clause-goes
returns-clause-goes g c =
    reached_goes is_tool _ c.loop-number.invariant.telling (rw (tell_none c.args.conn.now.devices c.loop-number.number (omega (arith, c.loop-number-test.false, ap length c.devices-count.ensures.value))) (goes_value is_tool _))

pub returns-in_err-tell_device-clause-step : goal.returns-in_err-tell_device-clause-step
returns-in_err-tell_device-clause-step g c input told =
    let i = c.loop-number.invariant in
    let e = c.in_err-tell_device.ensures in
    let within : c.loop-number.number < length c.args.conn.now.devices = omega (arith, c.loop-number-test.true, ap length c.devices-count.ensures.value) in
    let same : c.from_residual.result ≡ Err c.in_err-tell_device.field-0.0 = search rules in
    rw same (told_cut i.told _ (c.devices.ensures.value ∙ i.holds.devices) within e.goes
    (elim (of_sink _ e.end) [ inl bad ↦ inl (ap (λ (h : ToolEnd). (let r : Result (Unit {0}) ToolEnd = Err h in r)) bad) | inr link ↦ inr (held_same g.K.Sink.held (e.kept link)) ]) (input, told, refl))

pub returns-clause-step : goal.returns-clause-step
returns-clause-step g c input told =
    told_all c.loop-number.invariant.told (omega (arith, c.loop-number-test.false, ap length c.devices-count.ensures.value)) (input, told, refl)
