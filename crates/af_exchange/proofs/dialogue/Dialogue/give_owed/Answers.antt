use Rattle.std.proofs.Common.{◌<◌, ◌∙◌, length, sym, subst, arith}
use Rattle.std.proofs.lemmas.Bool.Decides.{nat_tests}
use Rattle.std.specs.declared.option.Option.TheVariants.{Some}
use Rattle.af_exchange.specs.contracts.dialogue.Dialogue.{the_view}
use Rattle.af_exchange.specs.Dialogue.{Accounts}
use Rattle.af_exchange.specs.Hook.{OffersOwed}
use Rattle.af_exchange.proofs.HookLemmas.{offers-nothing, offers-given, owes-none}
use Rattle.af_exchange.proofs.DialogueLemmas.{Accounts-given, notes-given}
use Rattle.af_exchange.proofs.dialogue.Dialogue.give_owed.Goals as goal

pub returns-clause-fits : goal.returns-clause-fits
returns-clause-fits g c =
    subst (λ r. Accounts (record (the_view c.self.inside) { running = Some r; owed = c.give_from-took.new.queue }) (g.P.Program.acts c.give_from-took.new.program)) (sym c.after_give.ensures.state)
    (Accounts-given (the_view c.self.inside) c.in-Some.running c.give_from-took.result c.give_from-took.new.queue _ _ c.in-Some.is
    c.give_from-took.ensures (subst (λ d. Accounts d (g.P.Program.acts c.args.program.now)) (sym c.self.view_is) c.requires.fits))

pub returns-clause-notes : goal.returns-clause-notes
returns-clause-notes g c = notes-given c.give_from-took.result _ _ _ _ c.give_from-took.ensures

pub returns-clause-offers : goal.returns-clause-offers
returns-clause-offers g c =
    let some : 0 < length c.as_slice.result.now = let test = sym c.is_empty.ensures ∙ c.if-is_empty.false in grind (arith, nat_tests) in
    subst (λ d. OffersOwed d (record (the_view c.self.inside) { running = Some c.after_give.result; owed = c.give_from-took.new.queue }) (g.P.Program.acts c.args.program.now) (g.P.Program.acts c.give_from-took.new.program))
    c.self.view_is
    (subst (λ r. OffersOwed (the_view c.self.inside) (record (the_view c.self.inside) { running = Some r; owed = c.give_from-took.new.queue }) (g.P.Program.acts c.args.program.now) (g.P.Program.acts c.give_from-took.new.program))
    (sym c.after_give.ensures.state)
    (offers-given (the_view c.self.inside) c.in-Some.running c.give_from-took.result c.give_from-took.new.queue _ _ c.in-Some.is c.if-running.false
    (subst (λ xs. 0 < length xs) c.as_slice.ensures.bytes some) c.give_from-took.ensures))

pub returns-in_default-clause-offers : goal.returns-in_default-clause-offers
returns-in_default-clause-offers g c =
    subst (λ d. OffersOwed d d (g.P.Program.acts c.args.program.now) (g.P.Program.acts c.args.program.now)) c.self.view_is
    (offers-nothing (the_view c.self.inside) _ (owes-none (the_view c.self.inside) c.in_default.is))
