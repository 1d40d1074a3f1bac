use Rattle.std.proofs.Common.{rules}
use Rattle.std.proofs.lemmas.List.{with_items_is}
use Rattle.af_world.specs.declared.happening.Happening.TheVariants.{Emitted}
use Rattle.af_world.specs.World.{is_done}
use Rattle.af_outside.specs.Tape.{outside_of, devices_of}
use Rattle.af_outside.proofs.TapeLemmas.{TapeLeadsTo-device, answered_as}
use Rattle.af_outside.proofs.ScriptedDeviceLemmas.{emit_answered}
use Rattle.af_outside.proofs.tape.TapeWorld.emit.Goals as goal

pub returns-clause-answered : goal.returns-clause-answered
returns-clause-answered c = rw (← c.self.view_is) (answered_as (λ kept. outside_of c.self.inside.links.items (devices_of c.self.inside.steps.items kept)) _ _ _ _ (Emitted c.args.device c.args.sound.now (is_done c.answer-put.result)) c.deref_mut.ensures.value (with_items_is c.self.inside.devices c.answer-put.new.devices (search rules)) (emit_answered _ _ c.args.device _ (c.answer-put.ensures c.self.inside.links.items c.self.inside.steps.items)))

pub returns-clause-leads : goal.returns-clause-leads
returns-clause-leads c = TapeLeadsTo-device c.self.view_is c.emit_of.result _ (Emitted c.args.device c.args.sound.now (is_done c.answer-put.result)) _ _ _ c.add.ensures c.emit_of.ensures (returns-clause-answered c) c.faults_after-self-inside.ensures (search rules)
