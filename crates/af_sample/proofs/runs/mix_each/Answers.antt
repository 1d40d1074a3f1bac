use Rattle.std.proofs.Common.{arith}
use Rattle.af_sample.specs.Mixing.{mixed}
use Rattle.af_sample.proofs.RunLemmas.{joined_run}
use Rattle.af_sample.proofs.runs.mix_each.Goals as goal

pub returns : goal.returns
returns c =
    joined_run mixed c.args.onto.now c.args.from.now c.loop-i.onto (omega arith) c.requires
    (λ k low. c.loop-i.invariant.0 k (omega arith))
