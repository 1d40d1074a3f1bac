use Rattle.std.proofs.Common.{arith}
use Rattle.af_sample.proofs.LaneLemmas.{narrow_lanes, saturated_lanes}
use Rattle.af_sample.proofs.lanes.saturated.Goals as goal

pub overflow_cast-result : goal.overflow_cast-result
overflow_cast-result c = narrow_lanes 16 c.args.wide (omega arith)

pub returns : goal.returns
returns c = λ wide. saturated_lanes 16 c.args.wide (omega arith) wide
