use Rattle.std.proofs.Common.{rules}
use Rattle.af_program.proofs.RunsLemmas.{runs-asked}
use Rattle.af_program.proofs.mem_program.MemProgramProgram.take.Goals.{in-Bytes, in_default}
use Rattle.af_program.proofs.mem_program.MemProgramProgram.take.Goals as goal

pub invariant_of-self : goal.invariant_of-self
invariant_of-self c = elim c.match-came.branch [
  | in-Bytes w ↦ (search rules, runs-asked c.match-came.self-inside.runs _ _ _ _ c.note_take.ensures.acts (search rules))
  | in_default w ↦ (search rules, runs-asked c.match-came.self-inside.runs _ _ _ _ c.note_take.ensures.acts (search rules))
]
