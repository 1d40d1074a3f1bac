use Rattle.std.proofs.Common.{◌∙◌, ap, map, arith, ℕ}
use Rattle.af_sample.specs.Gains.{scaled}
use Rattle.af_sample.proofs.LaneLemmas.{are_wide, divides_all, gained_value}
use Rattle.af_sample.proofs.lanes.gain_lanes.Goals as goal

pub nonzero_div-product : goal.nonzero_div-product
nonzero_div-product c = divides_all 16 _ (omega arith)

pub returns : goal.returns
returns c = λ fits.
    gained_value c.multiplier_of.result c.multiplier_of.ensures.most 16 c.args.samples c.saturated.result (omega arith) fits (c.saturated.ensures (are_wide _))
    ∙ ap (λ (m : ℕ). map (scaled m) c.args.samples) c.multiplier_of.ensures.value
