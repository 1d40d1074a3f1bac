use Rattle.af_sample.proofs.LaneLemmas.{are_wide, mixed_value}
use Rattle.af_sample.proofs.lanes.mix_lanes.Goals as goal

pub returns : goal.returns
returns c = λ first second.
    mixed_value c.args.a c.args.b c.saturated.result first second (c.saturated.ensures (are_wide _))
