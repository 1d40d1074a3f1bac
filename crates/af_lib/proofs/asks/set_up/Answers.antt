use Rattle.std.proofs.Common.{refl}
use Rattle.af_request.specs.Answer.{items_of}
use Rattle.af_lib.specs.Calls.{as_devices, device_list}
use Rattle.af_lib.proofs.ExchangeLemmas.{exchanged_as, seen_fault, seen_fresh}
use Rattle.af_lib.proofs.asks.set_up.Goals as goal

pub returns-in-Ok-clause-exchanged : goal.returns-in-Ok-clause-exchanged
returns-in-Ok-clause-exchanged g c =
    let e = c.devices_in.ensures in
    exchanged_as c.args.order as_devices _ _ _ (device_list c.devices_in.result) c.in-Ok.ensures.exchanged e.value
    (seen_fresh items_of c.devices_in.result e.fresh) (λ f. absurd (e.sound (seen_fault items_of c.devices_in.result _ f)))

pub returns-in-Err-clause-exchanged : goal.returns-in-Err-clause-exchanged
returns-in-Err-clause-exchanged g c = exchanged_as c.args.order as_devices _ _ _ _ c.in-Err.ensures.exchanged refl c.in-Err.ensures.exchanged.fresh (λ f. cc)
