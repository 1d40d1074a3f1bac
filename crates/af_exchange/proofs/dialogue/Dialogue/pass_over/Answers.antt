use Rattle.std.proofs.Common.{sym, subst}
use Rattle.af_exchange.specs.contracts.dialogue.Dialogue.{the_view}
use Rattle.af_exchange.specs.Dialogue.{Accounts}
use Rattle.af_exchange.proofs.DialogueLemmas.{Accounts-passed}
use Rattle.af_exchange.proofs.dialogue.Dialogue.pass_over.Goals as goal

pub returns-clause-fits : goal.returns-clause-fits
returns-clause-fits c = λ acts fits.
    Accounts-passed (the_view c.self.inside) c.pass_comments.new.queue acts c.pass_comments.ensures.passed (subst (λ d. Accounts d acts) (sym c.self.view_is) fits)
