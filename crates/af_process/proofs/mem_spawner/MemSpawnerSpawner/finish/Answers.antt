use Rattle.std.proofs.Common.{refl, Ok, None}
use Rattle.af_process.specs.declared.act.Act.TheVariants.{Finished}
use Rattle.af_io.proofs.NotesLemmas.{noted_folds}
use Rattle.af_process.specs.Acts.{told_of, children_after, finished}
use Rattle.af_process.proofs.mem_spawner.MemSpawnerSpawner.finish.Goals as goal

pub invariant_of-self : goal.invariant_of-self
invariant_of-self c = noted_folds told_of children_after 0 c.self.inside.notes c.add.new.self (Ok (Finished c.args.child None)) (finished c.args.child None) c.self.inside.started refl c.add.ensures c.self.invariant
