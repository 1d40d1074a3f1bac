use Rattle.std.proofs.Common.{◌≡◌, ◌∙◌, ap, sym, rules, option_map}
use Rattle.std.specs.declared.option.Option.TheVariants.{None, Some}
use Rattle.af_request.specs.Asked.{request_meaning}
use Rattle.af_request.specs.Requests.{asked_in}
use Rattle.af_perform.proofs.FrameRequestLemmas.{asked_room}
use Rattle.af_core.proofs.AdvanceStepLemmas.{frame_performed, frame_refused}
use Rattle.af_core.proofs.advance.perform_frame.Goals as goal

pub perform-requires-clause-samples : goal.perform-requires-clause-samples
perform-requires-clause-samples c = asked_room c.order.result c.args.frame.now (request_meaning c.in-Some.request) (search rules) (sym (ap (option_map request_meaning) c.in-Some.is) ∙ c.read_request.ensures.value)

pub returns-in-Some-clause-step : goal.returns-in-Some-clause-step
returns-in-Some-clause-step c =
    let asks : asked_in c.args.link.now.order c.args.frame.now ≡ Some (request_meaning c.in-Some.request) =
    ap (λ o. asked_in o c.args.frame.now) (sym c.order.ensures) ∙ sym c.read_request.ensures.value ∙ ap (option_map request_meaning) c.in-Some.is in
    frame_performed c.args.number c.args.shared.now _ c.args.link.now _ c.args.frame.now _ asks c.perform.ensures.step

pub returns-in-None-clause-step : goal.returns-in-None-clause-step
returns-in-None-clause-step c =
    let asks : asked_in c.args.link.now.order c.args.frame.now ≡ None =
    ap (λ o. asked_in o c.args.frame.now) (sym c.order.ensures) ∙ sym c.read_request.ensures.value ∙ ap (option_map request_meaning) c.in-None.is in
    frame_refused c.args.number c.args.shared.now c.args.link.now _ c.args.frame.now asks c.stop.ensures
