use Rattle.std.proofs.Common.{rules}
use Rattle.std.proofs.lemmas.List.{with_items_is}
use Rattle.af_world.specs.declared.happening.Happening.TheVariants.{Captured}
use Rattle.af_world.specs.World.{captured_of}
use Rattle.af_outside.specs.Tape.{outside_of, devices_of}
use Rattle.af_outside.proofs.TapeLemmas.{TapeLeadsTo-device, answered_as}
use Rattle.af_outside.proofs.tape.TapeWorld.capture.Goals as goal

pub returns-clause-answered : goal.returns-clause-answered
returns-clause-answered c = rw (← c.self.view_is) (answered_as (λ kept. outside_of c.self.inside.links.items (devices_of c.self.inside.steps.items kept)) _ _ _ _ (Captured c.args.device c.args.frames (captured_of c.capture-put.result c.capture-put.new.into)) c.deref_mut.ensures.value (with_items_is c.self.inside.devices c.capture-put.new.devices (search rules)) (rw c.deref.ensures.value at (c.capture-put.ensures c.self.inside.links.items)))

pub returns-clause-leads : goal.returns-clause-leads
returns-clause-leads c = TapeLeadsTo-device c.self.view_is c.capture_of.result _ (Captured c.args.device c.args.frames (captured_of c.capture-put.result c.capture-put.new.into)) _ _ _ c.add.ensures c.capture_of.ensures (returns-clause-answered c) c.faults_after-self-inside.ensures (search rules)
