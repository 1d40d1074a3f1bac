use Rattle.std.proofs.Common.{rules}
use Rattle.std.proofs.lemmas.List.{with_items_is}
use Rattle.af_world.specs.declared.happening.Happening.TheVariants.{Read}
use Rattle.af_world.specs.World.{got_of}
use Rattle.af_outside.specs.Tape.{outside_of, devices_of}
use Rattle.af_outside.proofs.TapeLemmas.{TapeLeadsTo-link, answered_as}
use Rattle.af_outside.proofs.tape.TapeWorld.read.Goals as goal

pub returns-clause-answered : goal.returns-clause-answered
returns-clause-answered c = rw (← c.self.view_is) (answered_as (λ ends. outside_of ends (devices_of c.self.inside.steps.items c.self.inside.devices.items)) _ _ _ _ (Read c.args.link (got_of c.read-got.result c.read-got.new.into)) c.deref_mut.ensures.value (with_items_is c.self.inside.links c.read-got.new.links (search rules)) (c.read-got.ensures.answered (devices_of c.self.inside.steps.items c.self.inside.devices.items)))

pub returns-clause-leads : goal.returns-clause-leads
returns-clause-leads c = TapeLeadsTo-link c.self.view_is c.read_of.result _ (Read c.args.link (got_of c.read-got.result c.read-got.new.into)) _ _ _ c.add.ensures c.read_of.ensures (returns-clause-answered c) c.faults_after-self-inside.ensures (search rules)
