use Rattle.std.proofs.Common.{rules, ◌+◌, sym, ap, ◌∙◌, arith}
use Rattle.af_live.specs.Shares.{renewed_from}
use Rattle.af_live.proofs.SharesLemmas.{none_renewed, renew_here}
use Rattle.af_live.proofs.held_links.HeldLinks.renew_all.Goals as goal

pub loop-number-preserved : goal.loop-number-preserved
loop-number-preserved c = (
  ap (renewed_from (c.loop-number.number + 1)) c.renew.ensures ∙ sym (renew_here c.loop-number.number c.loop-number.self) ∙ c.loop-number.invariant.0,
  search rules,
)

pub returns : goal.returns
returns c =
    sym (none_renewed c.loop-number.number c.loop-number.self (λ k low. c.loop-number.invariant.1 k (omega (arith, c.loop-number-test.false, low))))
    ∙ c.loop-number.invariant.0
