use Rattle.std.proofs.Common.{◌∙◌, ap, ℕ, ℤ}
use Rattle.af_sample.specs.Gains.{gained, scaled}
use Rattle.af_sample.proofs.GainLemmas.{quotient_is, sample_is, unity}
use Rattle.af_sample.proofs.decibels.gained.Goals as goal

pub returns-clause-value : goal.returns-clause-value
returns-clause-value c =
    sample_is _ c.clamp.result _
    (quotient_is c.args.x c.from.result c.from-2.result c.multiplier_of.result c.ranges.x c.multiplier_of.ensures.most c.from.ensures c.from-2.ensures)
    c.clamp.ensures.value
    ∙ ap (λ (m : ℕ). scaled m c.args.x) c.multiplier_of.ensures.value

pub returns-clause-unity : goal.returns-clause-unity
returns-clause-unity c = λ none.
    returns-clause-value c ∙ ap (λ (g : ℤ). gained c.args.x g) none ∙ unity c.args.x c.ranges.x
