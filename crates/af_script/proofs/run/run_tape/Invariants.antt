use Rattle.std.proofs.Common.{length}
use Rattle.af_script.proofs.TapeRunLemmas.{Plays}
use Rattle.af_script.proofs.run.run_tape.Given as goal

abbrev pub invariant-loop-wake : goal.invariant-loop-wake
invariant-loop-wake l = Plays l.config.items l.initial.tape.left l.core l.tape

abbrev pub decreases-loop-wake : goal.decreases-loop-wake
decreases-loop-wake l = length l.tape.left
