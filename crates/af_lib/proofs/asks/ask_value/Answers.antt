use Rattle.std.proofs.Common.{rules, ◌≡◌, ◌∙◌, ℕ, List, ap, refl, take}
use Rattle.af_request.specs.Asked.{request_meaning}
use Rattle.af_lib.specs.Calls.{opcode_of, value_in}
use Rattle.af_lib.proofs.ExchangeLemmas.{exchanged_as}
use Rattle.af_lib.proofs.asks.ask_value.Goals as goal

pub returns-in-Ok-clause-exchanged : goal.returns-in-Ok-clause-exchanged
returns-in-Ok-clause-exchanged g c =
    let same : c.deref.result.now ≡ c.ask.new.exchange.input.items = search rules in
    let e = c.value_in.ensures in
    exchanged_as c.args.order g.T.FromReply.value_of _ _ _ c.value_in.result c.in-Ok.ensures.exchanged
    (e.value ∙ ap (λ (o : ℕ). value_in c.args.order g.T.FromReply.value_of o (take c.in-Ok.length c.deref.result.now)) c.opcode_of.ensures
    ∙ ap (λ (l : List ℕ). value_in c.args.order g.T.FromReply.value_of (opcode_of (request_meaning c.args.request.now)) (take c.in-Ok.length l)) same) e.fresh (λ f. absurd (e.sound f))

pub returns-in-Err-clause-exchanged : goal.returns-in-Err-clause-exchanged
returns-in-Err-clause-exchanged g c = exchanged_as c.args.order g.T.FromReply.value_of _ _ _ _ c.in-Err.ensures.exchanged refl c.in-Err.ensures.exchanged.fresh (λ f. cc)
