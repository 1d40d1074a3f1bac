use Rattle.std.proofs.Common.{◌≡◌, ⊎_elim, true, ap, subst, arith}
use Rattle.std.proofs.lemmas.Bool.{cases_lt}
use Rattle.af_live.specs.LinkTable.{nothing_unread, link_at}
use Rattle.af_live.proofs.held_links.HeldLinks.are_drained.Goals as goal

pub returns : goal.returns
returns c = λ _ k. ⊎_elim
    (λ before. c.loop-number.invariant k before)
    (λ beyond. subst (λ links. nothing_unread (link_at links k) ≡ true) c.self.view_is
    (ap nothing_unread (c.self.invariant.5 k (omega (arith, c.loop-number-test.false, beyond)))))
    (cases_lt k c.loop-number.number)
