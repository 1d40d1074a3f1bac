use Rattle.std.proofs.Common.{rules, ◌≡◌, ◌∙◌, ℕ, List, ap, length, refl, take}
use Rattle.af_request.specs.Asked.{request_meaning}
use Rattle.af_lib.specs.Calls.{as_recorded, opcode_of, recorded_as, recorded_in, value_in}
use Rattle.af_lib.proofs.ExchangeLemmas.{exchanged_as, seen_fault, seen_fresh}
use Rattle.af_lib.proofs.asks.ask_recorded.Goals as goal

pub returns-in-Ok-clause-exchanged : goal.returns-in-Ok-clause-exchanged
returns-in-Ok-clause-exchanged g c =
    let same : c.deref.result.now ≡ c.ask.new.exchange.input.items = search rules in
    let e = c.recorded_in.ensures in
    let value_of = as_recorded c.args.blocking (length c.args.into.now) in
    let view = recorded_as c.recorded_in.new.into in
    exchanged_as c.args.order value_of _ _ _ (recorded_in c.recorded_in.result c.recorded_in.new.into) c.in-Ok.ensures.exchanged
    (e.value ∙ ap (λ (o : ℕ). value_in c.args.order value_of o (take c.in-Ok.length c.deref.result.now)) c.opcode_of.ensures
    ∙ ap (λ (l : List ℕ). value_in c.args.order value_of (opcode_of (request_meaning c.args.request.now)) (take c.in-Ok.length l)) same)
    (seen_fresh view c.recorded_in.result e.fresh) (λ f. absurd (e.sound (seen_fault view c.recorded_in.result _ f)))

pub returns-in-Err-clause-exchanged : goal.returns-in-Err-clause-exchanged
returns-in-Err-clause-exchanged g c = exchanged_as c.args.order (as_recorded c.args.blocking (length c.args.into.now)) _ _ _ _ c.in-Err.ensures.exchanged refl c.in-Err.ensures.exchanged.fresh (λ f. cc)
