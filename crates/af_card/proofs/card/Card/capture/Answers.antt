use Rattle.std.proofs.Common.{subst}
use Rattle.af_card.specs.Card.{IsFedWhereTold}
use Rattle.af_card.proofs.AccountLemmas.{fed-where}
use Rattle.af_card.proofs.card.Card.capture.Goals as goal

pub returns-then-is_dead-clause-fed : goal.returns-then-is_dead-clause-fed
returns-then-is_dead-clause-fed g c = subst (λ card. IsFedWhereTold g.P.Program.acts card) c.self.view_is (fed-where c.self.inside.between _ c.self.invariant.1)
