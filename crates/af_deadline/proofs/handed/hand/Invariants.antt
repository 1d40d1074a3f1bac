use Rattle.std.proofs.Common.{◌-◌, length}
use Rattle.af_io.specs.Real.{AppendsSoFar}
use Rattle.af_deadline.proofs.handed.hand.Given as goal

abbrev pub invariant-loop-taken : goal.invariant-loop-taken
invariant-loop-taken g l = AppendsSoFar (g.W.Write.contents l.initial.writer) (g.W.Write.contents l.writer) l.piece l.taken

abbrev pub decreases-loop-taken : goal.decreases-loop-taken
decreases-loop-taken g l = length l.piece - l.taken
