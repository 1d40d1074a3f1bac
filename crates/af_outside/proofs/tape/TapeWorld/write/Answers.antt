use Rattle.std.proofs.Common.{length, rules}
use Rattle.std.proofs.lemmas.List.{with_items_is}
use Rattle.af_world.specs.declared.happening.Happening.TheVariants.{Wrote}
use Rattle.af_world.specs.World.{took_of}
use Rattle.af_outside.specs.Tape.{outside_of, devices_of}
use Rattle.af_outside.proofs.TapeLemmas.{TapeLeadsTo-link, answered_as}
use Rattle.af_outside.proofs.tape.TapeWorld.write.Goals as goal

pub returns-clause-answered : goal.returns-clause-answered
returns-clause-answered c = rw (← c.self.view_is) (answered_as (λ ends. outside_of ends (devices_of c.self.inside.steps.items c.self.inside.devices.items)) _ _ _ _ (Wrote c.args.link (length c.args.piece.now) (took_of c.write-took.result c.args.piece.now)) c.deref_mut.ensures.value (with_items_is c.self.inside.links c.write-took.new.links (search rules)) (c.write-took.ensures.answered (devices_of c.self.inside.steps.items c.self.inside.devices.items)))

pub returns-clause-leads : goal.returns-clause-leads
returns-clause-leads c = TapeLeadsTo-link c.self.view_is c.write_of.result _ (Wrote c.args.link (length c.args.piece.now) (took_of c.write-took.result c.args.piece.now)) _ _ _ c.add.ensures c.write_of.ensures (returns-clause-answered c) c.faults_after-self-inside.ensures (search rules)
