use Rattle.std.proofs.Common.{sym, subst}
use Rattle.af_card.specs.contracts.between.Between.{the_view}
use Rattle.af_card.specs.Between.{Accounts, CanEnd}
use Rattle.af_card.proofs.BetweenLemmas.{Accounts-ended}
use Rattle.af_card.proofs.between.Between.end.Goals as goal

pub returns-clause-fits : goal.returns-clause-fits
returns-clause-fits g c =
    let can = subst (λ b. CanEnd b) (sym c.self.view_is) c.requires.can in
    Accounts-ended (the_view c.self.inside) c.in-Some.running c.args.at c.end-2.new.self c.clear.new.self c.clear-2.new.self _ _ c.in-Some.is can.0 c.self.invariant.1 can.1
    c.end-2.ensures.ended c.clear.ensures c.clear-2.ensures c.end.ensures.acts (subst (λ b. Accounts b (g.P.Program.acts c.args.program.now)) (sym c.self.view_is) c.requires.fits)
