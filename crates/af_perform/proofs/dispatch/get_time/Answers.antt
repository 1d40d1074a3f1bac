use Rattle.std.proofs.Common.{◌≤◌, ◌∙◌, ap, arith, length, refl, sym}
use Rattle.std.proofs.lemmas.Bool.Decides.{nat_tests}
use Rattle.std.specs.declared.option.Option.TheVariants.{Some}
use Rattle.af_request.specs.Opcodes as opcodes
use Rattle.af_model.specs.Perform.{tell_time}
use Rattle.af_state.proofs.DeviceLemmas.{device_at}
use Rattle.af_perform.proofs.LinkRequestLemmas.{device_missing, device_found, leads_at, time_told, with_error}
use Rattle.af_perform.proofs.dispatch.get_time.Goals as goal

pub returns-in-None-clause-step : goal.returns-in-None-clause-step
returns-in-None-clause-step c = λ k ks.
    let past : length c.args.devices.now ≤ c.args.device = grind (arith, nat_tests, c.in-None.ensures.lookup, c.from.ensures) in
    device_missing c.args.devices.now ks c.args.link.now _ opcodes.get_time c.args.device c.args.device tell_time past refl (c.refuse.ensures ∙ ap (λ q. with_error opcodes.get_time q c.args.link.now) c.no_device.ensures)

pub returns-in-Some-clause-step : goal.returns-in-Some-clause-step
returns-in-Some-clause-step c = λ k ks.
    let known = c.in-Some.ensures.lookup in
    device_found c.args.devices.now c.args.devices.now ks ks c.args.link.now _ opcodes.get_time c.args.device c.in-Some.device.now tell_time
    (device_at c.args.devices.now _ _ c.in-Some.device.now c.from.ensures known.3.0 ∙ ap (λ x. Some x) (sym known.1))
    (λ a s h here st. leads_at c.args.devices.now ks c.args.link.now _ (tell_time s) a (time_told c.args.link.now _ c.in-Some.device.now _ c.time-time.ensures c.reply.ensures s st a) h)
