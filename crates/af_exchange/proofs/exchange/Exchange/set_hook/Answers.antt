use Rattle.std.proofs.Common.{◌≡◌, ◌||◌, if◌then◌else◌, ◌∙◌, rules, subst}
use Rattle.af_io.specs.declared.flow.Put.TheVariants as put
use Rattle.af_program.specs.Waits.{is_left}
use Rattle.af_exchange.specs.Dialogue.{is_open}
use Rattle.af_exchange.specs.Exchange.{ExchangeState}
use Rattle.af_exchange.specs.Hook.{CallsHook}
use Rattle.af_exchange.proofs.HookLemmas.{calls-hook}
use Rattle.af_exchange.proofs.exchange.Exchange.set_hook.Goals as goal

pub returns-clause-calls : goal.returns-clause-calls
returns-clause-calls g c =
    let is : c.if-is_left.result ≡ (if is_open c.give_owed.new.self.running || is_left c.give_owed.new.self.starts then put.Done else put.Failed) = search rules in
    subst (λ (e : ExchangeState _). CallsHook c.args.off c.if-is_left.result e.dialogue c.give_owed.new.self (g.P.Program.acts e.program) (g.P.Program.acts c.give_owed.new.program)) c.self.view_is
    (calls-hook c.args.off c.if-is_left.result _ c.call.new.self c.give_owed.new.self _ _ _ _ c.call.ensures.after c.tend.ensures.acts c.call.ensures.acts c.give_owed.ensures.offers
    (c.give_owed.ensures.same.0 ∙ c.call.ensures.same) is)
