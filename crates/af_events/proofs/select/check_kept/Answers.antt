use Rattle.std.proofs.Common.{refl, ◌∙◌, sym}
use Rattle.std.proofs.lemmas.Bool.{eq-eqb, ne_eqb}
use Rattle.af_events.proofs.StepLemmas.{kept_goes, lost_goes}
use Rattle.af_events.proofs.select.check_kept.Goals as goal

pub returns-then-lost-eq0-clause-goes : goal.returns-then-lost-eq0-clause-goes
returns-then-lost-eq0-clause-goes g c held =
    kept_goes g.L.Link.left g.L.Link.sent c.args.conn.now held (eq-eqb _ _ (sym c.lost.ensures ∙ c.if-lost-eq0.true))

pub returns-else-lost-eq0-clause-goes : goal.returns-else-lost-eq0-clause-goes
returns-else-lost-eq0-clause-goes g c held =
    lost_goes g.L.Link.left g.L.Link.sent c.args.conn.now held (ne_eqb _ _ (λ same. c.if-lost-eq0.false (c.lost.ensures ∙ same))) refl
