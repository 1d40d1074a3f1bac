use Rattle.std.proofs.Common.{arith, ◌≤◌, ◌*◌}
use Rattle.af_meter.proofs.PlanLemmas.{product_low}
use Rattle.af_meter.proofs.plan.frames_in.Goals as goal

pub returns-clause-few : goal.returns-clause-few
returns-clause-few c =
    let low = product_low c.from.result c.from-2.result (omega arith) in
    grind (arith, low)
