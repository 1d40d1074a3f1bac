use Rattle.std.proofs.Common.{[], refl, subst}
use Rattle.af_program.proofs.LedgerLemmas.{no-act}
use Rattle.af_card.proofs.AccountLemmas.{Accounts-on, fed-where}
use Rattle.af_card.proofs.PassingLemmas.{meets-after}
use Rattle.af_card.specs.Card.{CardState}
use Rattle.af_card.specs.Passing.{Meets}
use Rattle.af_card.proofs.card.Card.due.Goals as goal

pub returns-then-is_captured-clause-fed : goal.returns-then-is_captured-clause-fed
returns-then-is_captured-clause-fed g c =
    fed-where c.self.inside.between _ (Accounts-on c.self.inside.between c.self.inside.between _ _ [] c.self.invariant.1 (no-act _ _ c.tend.ensures.acts) (λ ledger account. account) refl)

pub returns-then-runs-clause-meets : goal.returns-then-runs-clause-meets
returns-then-runs-clause-meets g c = λ tick runs.
    subst (λ (card : CardState _). Meets c.args.at card.between c.due_while_it_runs.new.between (g.P.Program.acts card.program) (g.P.Program.acts c.due_while_it_runs.new.program)) c.self.view_is
    (meets-after c.args.at c.self.inside.between c.due_while_it_runs.new.between _ _ _ c.tend.ensures.acts c.due_while_it_runs.ensures.meets)
