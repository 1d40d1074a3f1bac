use Rattle.std.proofs.Common.{sym, subst, ◌∷◌, []}
use Rattle.af_exchange.specs.contracts.dialogue.Dialogue.{the_view}
use Rattle.af_program.specs.Acts.{ended}
use Rattle.af_exchange.specs.Dialogue.{Accounts, CanEnd}
use Rattle.af_exchange.proofs.NoteLemmas.{notes}
use Rattle.af_exchange.proofs.DialogueLemmas.{Accounts-ended}
use Rattle.af_exchange.proofs.dialogue.Dialogue.end.Goals as goal

pub returns-clause-fits : goal.returns-clause-fits
returns-clause-fits g c =
    Accounts-ended (the_view c.self.inside) c.in-Some.running c.args.at c.end-2.new.self _ _ c.in-Some.is (subst (λ d. CanEnd d) (sym c.self.view_is) c.requires.can) c.end-2.ensures.ended
    c.end.ensures.acts (subst (λ d. Accounts d (g.P.Program.acts c.args.program.now)) (sym c.self.view_is) c.requires.fits)

pub returns-clause-notes : goal.returns-clause-notes
returns-clause-notes g c = notes _ _ (ended c.args.at ∷ []) c.end.ensures.acts
