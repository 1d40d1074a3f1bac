use Rattle.std.proofs.Common.{false, refl, Ok}
use Rattle.af_program.specs.declared.act.Act.TheVariants.{Ended}
use Rattle.af_io.proofs.NotesLemmas.{Noted-told, noted_folds}
use Rattle.af_program.specs.Acts.{runs_after, ended}
use Rattle.af_program.specs.Notes.{told_of}
use Rattle.af_program.proofs.mem_program.MemProgramProgram.end.Goals as goal

pub invariant_of-self : goal.invariant_of-self
invariant_of-self c = (c.self.invariant.0, noted_folds told_of runs_after false c.self.inside.notes c.add.new.self (Ok (Ended c.args.at)) (ended c.args.at) c.self.inside.runs refl c.add.ensures c.self.invariant.1)

pub returns-clause-acts : goal.returns-clause-acts
returns-clause-acts c = rw (← c.self.view_is) (Noted-told told_of c.self.inside.notes c.add.new.self (Ok (Ended c.args.at)) (ended c.args.at) refl c.add.ensures)
