use Rattle.std.proofs.Common.{sym, subst}
use Rattle.af_card.specs.Card.{IsFedWhereTold}
use Rattle.af_card.proofs.AccountLemmas.{fed-where}
use Rattle.af_card.proofs.card.Card.emit.Goals.{else-may_begin-via-then-may_begin+else-not-is_due, else-may_begin-via-else-may_begin}
use Rattle.af_card.proofs.card.Card.emit.Goals as goal

pub returns-then-is_dead-clause-fed : goal.returns-then-is_dead-clause-fed
returns-then-is_dead-clause-fed g c = subst (λ card. IsFedWhereTold g.P.Program.acts card) c.self.view_is (fed-where c.self.inside.between _ c.self.invariant.1)

pub returns-else-may_begin-clause-fed : goal.returns-else-may_begin-clause-fed
returns-else-may_begin-clause-fed g c = elim c.else-may_begin.branch [
  | else-may_begin-via-then-may_begin+else-not-is_due w ↦ subst (λ card. IsFedWhereTold g.P.Program.acts card) (sym w.self-is) (fed-where c.emit.new.self _ c.emit.ensures.fits)
  | else-may_begin-via-else-may_begin w ↦ subst (λ card. IsFedWhereTold g.P.Program.acts card) (sym w.self-is) (fed-where c.emit.new.self _ c.emit.ensures.fits)
]
