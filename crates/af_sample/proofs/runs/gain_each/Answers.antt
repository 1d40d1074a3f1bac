use Rattle.std.proofs.Common.{arith}
use Rattle.af_sample.specs.Gains.{gained}
use Rattle.af_sample.proofs.RunLemmas.{mapped_run}
use Rattle.af_sample.proofs.runs.gain_each.Goals as goal

pub returns : goal.returns
returns c =
    mapped_run (λ x. gained x c.args.gain) c.args.samples.now c.loop-x.samples (omega arith)
    (λ k low. c.loop-x.invariant.0 k (omega arith))
