use Rattle.std.proofs.Common.{◌∙◌, ap, sym, rules}
use Rattle.std.specs.declared.option.Option.TheVariants.{Some}
use Rattle.af_state.proofs.DeviceLemmas.{device_at}
use Rattle.af_perform.proofs.LinkRequestLemmas.{record_completes, stands_here}
use Rattle.af_perform.proofs.complete.complete_record.Goals as goal

pub returns-clause-step : goal.returns-clause-step
returns-clause-step c = λ k ks a s deferred h there word near.
    let r = c.args.asked in
    let here = device_at c.args.devices.now _ _ c.index-devices-from.result c.from.ensures (search rules) ∙ ap (λ x. Some x) (sym c.index-devices-from.is) in
    let stands = stands_here c.args.devices.now ks a c.args.device _ s h here there in
    record_completes k c.args.devices.now ks _ c.args.link.now _ r.context c.args.device r.start.0 r.frames a s deferred here h there stands word near (c.answer_record.ensures.step s stands)

pub answer_record-requires-clause-fits : goal.answer_record-requires-clause-fits
answer_record-requires-clause-fits c =
    (c.requires.can _ (device_at c.args.devices.now _ _ c.index-devices-from.result c.from.ensures (search rules) ∙ ap (λ x. Some x) (sym c.index-devices-from.is))).0.1
