use Rattle.std.proofs.Common.{sym, subst, ◌∙◌}
use Rattle.af_card.specs.Between.{Accounts}
use Rattle.af_card.proofs.BetweenLemmas.{Accounts-taken}
use Rattle.af_card.proofs.between.Between.take.Goals as goal

pub returns-clause-fits : goal.returns-clause-fits
returns-clause-fits g c =
    Accounts-taken _ c.in-Some.running _ _ c.take_into-gave.result _ _ _ c.in-Some.is c.after_take.ensures.began (sym c.gives_sound.ensures ∙ c.if-not-gives_sound.false)
    c.take_into-gave.ensures.takes (subst (λ b. Accounts b (g.P.Program.acts c.args.program.now)) (sym c.self.view_is) c.requires.fits)
