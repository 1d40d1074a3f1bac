use Rattle.std.proofs.Common.{Ok}
use Rattle.af_io.proofs.NotesLemmas.{noted_folds}
use Rattle.af_process.specs.Acts.{told_of, children_after}
use Rattle.af_process.proofs.mem_spawner.MemSpawnerSpawner.start.Goals as goal

pub invariant_of-self : goal.invariant_of-self
invariant_of-self c = noted_folds told_of children_after 0 c.self.inside.notes c.add.new.self (Ok c.began.result) _ c.self.inside.started c.began.ensures c.add.ensures c.self.invariant
