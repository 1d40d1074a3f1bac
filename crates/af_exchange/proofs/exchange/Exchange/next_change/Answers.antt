use Rattle.std.proofs.Common.{◌∙◌, ap, sym, subst}
use Rattle.af_process.specs.Acts.{words_of}
use Rattle.af_program.specs.Waits.{may_come}
use Rattle.af_exchange.specs.Exchange.{ExchangeState}
use Rattle.af_exchange.specs.Asks.{AsksProgram}
use Rattle.af_exchange.specs.Begins.{BeginsWhereDue}
use Rattle.af_exchange.proofs.AskLemmas.{asks-after}
use Rattle.af_exchange.proofs.BeginLemmas.{begins-due, begins-none}
use Rattle.af_exchange.proofs.exchange.Exchange.next_change.Goals as goal

pub returns-then-runs-clause-asks : goal.returns-then-runs-clause-asks
returns-then-runs-clause-asks g c = λ runs.
    subst (λ (e : ExchangeState _). AsksProgram c.args.at c.next_of.result e.dialogue c.next_of.new.dialogue (g.P.Program.acts e.program) (g.P.Program.acts c.next_of.new.program)) c.self.view_is
    (asks-after c.args.at c.next_of.result _ c.next_of.new.dialogue _ _ _ c.tend.ensures.acts c.next_of.ensures.asks)

pub returns-then-may_come-clause-begins : goal.returns-then-may_come-clause-begins
returns-then-may_come-clause-begins g c = λ none.
    let comes = ap (λ s. may_come s c.args.at) (sym c.starts.ensures.same) ∙ sym c.may_come.ensures ∙ c.if-may_come.true in
    subst (λ (e : ExchangeState _). BeginsWhereDue c.args.at e.words e.dialogue c.begin.new.self (g.P.Program.acts e.program) (g.P.Program.acts c.begin.new.program)) c.self.view_is
    (begins-due c.args.at _ c.begin.result _ c.begin.new.self _ _ _ (sym c.runs.ensures ∙ c.if-runs.false) comes c.tend.ensures.acts c.begin.ensures.begins)

pub returns-else-may_come-clause-begins : goal.returns-else-may_come-clause-begins
returns-else-may_come-clause-begins g c = λ none.
    let comes = ap (λ s. may_come s c.args.at) (sym c.starts.ensures.same) ∙ sym c.may_come.ensures ∙ c.if-may_come.false in
    subst (λ (e : ExchangeState _). BeginsWhereDue c.args.at e.words e.dialogue c.self.inside.dialogue (g.P.Program.acts e.program) (g.P.Program.acts c.tend.new.self)) c.self.view_is
    (begins-none c.args.at (words_of c.self.inside.words) c.self.inside.dialogue _ _ (sym c.runs.ensures ∙ c.if-runs.false) comes c.tend.ensures.acts)
