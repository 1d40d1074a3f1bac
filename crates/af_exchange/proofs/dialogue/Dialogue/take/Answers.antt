use Rattle.std.proofs.Common.{sym, subst}
use Rattle.std.specs.declared.option.Option.TheVariants.{Some}
use Rattle.af_exchange.specs.contracts.dialogue.Dialogue.{the_view}
use Rattle.af_exchange.specs.Dialogue.{Accounts}
use Rattle.af_exchange.proofs.DialogueLemmas.{Accounts-taken, notes-taken}
use Rattle.af_exchange.proofs.dialogue.Dialogue.take.Goals as goal

pub returns-clause-fits : goal.returns-clause-fits
returns-clause-fits g c =
    subst (λ r. Accounts (record (the_view c.self.inside) { running = Some r; left = c.take_into-gave.new.queue }) (g.P.Program.acts c.take_into-gave.new.program)) (sym c.after_take.ensures.state)
    (Accounts-taken (the_view c.self.inside) c.in-Some.running _ c.take_into-gave.result c.take_into-gave.new.queue _ _ c.in-Some.is
    c.take_into-gave.ensures.takes (subst (λ d. Accounts d (g.P.Program.acts c.args.program.now)) (sym c.self.view_is) c.requires.fits))

pub returns-clause-notes : goal.returns-clause-notes
returns-clause-notes g c = notes-taken _ c.take_into-gave.result _ _ _ _ c.take_into-gave.ensures.takes
