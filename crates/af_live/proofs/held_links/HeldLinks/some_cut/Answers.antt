use Rattle.std.proofs.Common.{◌≡◌, ◌+◌, ◌||◌, true, false, sym, ap, subst, ◌∙◌, arith}
use Rattle.af_live.specs.LinkTable.{link_at}
use Rattle.af_live.specs.Shares.{cut_from, is_cut}
use Rattle.af_live.proofs.SharesLemmas.{cut_here, none_cut}
use Rattle.af_live.proofs.held_links.HeldLinks.some_cut.Goals as goal

pub loop-number-preserved : goal.loop-number-preserved
loop-number-preserved c =
    let is : is_cut (link_at c.args.self.now c.loop-number.number) ≡ false =
    subst (λ links. is_cut (link_at links c.loop-number.number) ≡ false) c.self.view_is (sym c.is_cut.ensures ∙ c.if-is_cut.false) in
    ap (λ b. b || cut_from (c.loop-number.number + 1) c.args.self.now) (sym is)
    ∙ sym (cut_here c.loop-number.number c.args.self.now) ∙ c.loop-number.invariant

pub returns-then-is_cut : goal.returns-then-is_cut
returns-then-is_cut c =
    let is : is_cut (link_at c.args.self.now c.loop-number.number) ≡ true =
    subst (λ links. is_cut (link_at links c.loop-number.number) ≡ true) c.self.view_is (sym c.is_cut.ensures ∙ c.if-is_cut.true) in
    sym (sym c.loop-number.invariant ∙ cut_here c.loop-number.number c.args.self.now
    ∙ ap (λ b. b || cut_from (c.loop-number.number + 1) c.args.self.now) is)

pub returns : goal.returns
returns c =
    let none : cut_from c.loop-number.number c.args.self.now ≡ false =
    subst (λ links. cut_from c.loop-number.number links ≡ false) c.self.view_is
    (none_cut c.loop-number.number c.self.inside.entries (λ k low. c.self.invariant.5 k (omega (arith, c.loop-number-test.false, low)))) in
    sym (sym c.loop-number.invariant ∙ none)
