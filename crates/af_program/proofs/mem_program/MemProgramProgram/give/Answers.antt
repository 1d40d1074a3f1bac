use Rattle.af_program.proofs.RunsLemmas.{runs-offered}
use Rattle.af_program.proofs.mem_program.MemProgramProgram.give.Goals as goal

pub invariant_of-self : goal.invariant_of-self
invariant_of-self c = (c.self.invariant.0, runs-offered c.self.inside.runs _ _ _ _ c.note_give.ensures.acts c.self.invariant.1)
