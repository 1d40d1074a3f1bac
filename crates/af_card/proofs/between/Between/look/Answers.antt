use Rattle.std.proofs.Common.{true, refl, sym, subst}
use Rattle.af_card.specs.contracts.between.Between.{the_view}
use Rattle.af_card.specs.Between.{Accounts}
use Rattle.af_card.proofs.BetweenLemmas.{Accounts-known}
use Rattle.af_card.proofs.between.Between.look.Goals as goal

pub returns-then-is_stalled-clause-fits : goal.returns-then-is_stalled-clause-fits
returns-then-is_stalled-clause-fits c = λ acts fits.
    Accounts-known (the_view c.self.inside) c.in-Some.running (record c.in-Some.running { is_over = true }) acts c.in-Some.is refl (subst (λ b. Accounts b acts) (sym c.self.view_is) fits)
