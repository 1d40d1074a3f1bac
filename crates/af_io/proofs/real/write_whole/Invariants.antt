use Rattle.std.proofs.Common.{◌-◌, length}
use Rattle.af_io.specs.Real.{AppendsSoFar}
use Rattle.af_io.proofs.real.write_whole.Given as goal

abbrev pub invariant-loop-written : goal.invariant-loop-written
invariant-loop-written g l = AppendsSoFar (g.W.Write.contents l.initial.writer) (g.W.Write.contents l.writer) l.piece l.written

abbrev pub decreases-loop-written : goal.decreases-loop-written
decreases-loop-written g l = length l.piece - l.written
