use Rattle.std.proofs.Common.{false, Ok}
use Rattle.af_io.proofs.NotesLemmas.{Noted-told, noted_folds}
use Rattle.af_program.specs.Acts.{runs_after}
use Rattle.af_program.specs.Notes.{told_of}
use Rattle.af_program.proofs.mem_program.MemProgramProgram.start.Goals as goal

pub invariant_of-self : goal.invariant_of-self
invariant_of-self c = (c.self.invariant.0, noted_folds told_of runs_after false c.self.inside.notes c.add.new.self (Ok c.launched.result) _ c.self.inside.runs c.launched.ensures c.add.ensures c.self.invariant.1)

pub invariant_of-self-2 : goal.invariant_of-self-2
invariant_of-self-2 c = (c.self.invariant.0, noted_folds told_of runs_after false c.self.inside.notes c.add-2.new.self (Ok c.launched-2.result) _ c.self.inside.runs c.launched-2.ensures c.add-2.ensures c.self.invariant.1)

pub returns-then-fails-clause-acts : goal.returns-then-fails-clause-acts
returns-then-fails-clause-acts c = rw (← c.self.view_is) (Noted-told told_of c.self.inside.notes c.add.new.self (Ok c.launched.result) _ c.launched.ensures c.add.ensures)

pub returns-clause-acts : goal.returns-clause-acts
returns-clause-acts c = rw (← c.self.view_is) (Noted-told told_of c.self.inside.notes c.add-2.new.self (Ok c.launched-2.result) _ c.launched-2.ensures c.add-2.ensures)
