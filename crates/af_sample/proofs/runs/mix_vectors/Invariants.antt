use Rattle.std.proofs.Common.{◌*◌, get_or, pos}
use Rattle.af_sample.specs.Mixing.{mixed}
use Rattle.af_sample.proofs.VectorLemmas.{IsWorked}
use Rattle.af_sample.proofs.runs.mix_vectors.Given as goal

abbrev pub invariant-loop-i : goal.invariant-loop-i
invariant-loop-i l = IsWorked (λ k x. mixed x (get_or l.from k (pos 0))) (l.i * 16) l.initial.onto l.onto
