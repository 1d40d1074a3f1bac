use Rattle.std.proofs.Common.{◌*◌}
use Rattle.af_sample.specs.Gains.{gained}
use Rattle.af_sample.proofs.VectorLemmas.{IsWorked}
use Rattle.af_sample.proofs.runs.gain_vectors.Given as goal

abbrev pub invariant-loop-i : goal.invariant-loop-i
invariant-loop-i l = IsWorked (λ k x. gained x l.gain) (l.i * 16) l.initial.samples l.samples
