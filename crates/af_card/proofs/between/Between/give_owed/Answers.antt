use Rattle.std.proofs.Common.{sym, subst}
use Rattle.af_card.specs.Between.{Accounts}
use Rattle.af_card.proofs.BetweenLemmas.{Accounts-given}
use Rattle.af_card.proofs.between.Between.give_owed.Goals as goal

pub returns-clause-fits : goal.returns-clause-fits
returns-clause-fits g c =
    Accounts-given _ c.in-Some.running _ c.give_from-took.result _ _ _ c.in-Some.is c.after_give.ensures.began c.give_from-took.ensures
    (subst (λ b. Accounts b (g.P.Program.acts c.args.program.now)) (sym c.self.view_is) c.requires.fits)
