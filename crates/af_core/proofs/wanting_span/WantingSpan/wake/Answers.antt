use Rattle.std.proofs.Common.{ap, arith, subst, sym}
use Rattle.af_core.specs.declared.wanting_span.WantingSpan.{WantingSpan}
use Rattle.af_core.specs.Stands.{AreBounds}
use Rattle.af_core.proofs.WantsWithinLemmas.{all_bounds}
use Rattle.af_core.proofs.wanting_span.WantingSpan.wake.Goals as goal

pub returns-then-concerns_all-clause-all : goal.returns-then-concerns_all-clause-all
returns-then-concerns_all-clause-all c = λ is ks most.
    let woken = c.include_woken.new.self in
    let same = ap (λ (b : WantingSpan). b.open_below) c.include_woken.ensures in
    let fewer = c.include_all.ensures.bound in
    subst (λ (b : WantingSpan). AreBounds b ks c.args.slots.now) (sym c.include_all.ensures.all)
    (all_bounds (record woken { open_below = c.include_all.new.self.open_below }) ks c.args.slots.now (omega (arith, same, fewer, most)) c.include_all.ensures.none_open)
