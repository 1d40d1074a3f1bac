use Rattle.std.proofs.Common.{refl, rules}
use Rattle.std.proofs.Math.Nat.{le_refl}
use Rattle.std.proofs.lemmas.List.{with_items_is}
use Rattle.std.specs.declared.result.Result.TheVariants.{Ok}
use Rattle.af_world.specs.declared.happening.Happening.TheVariants.{Closed}
use Rattle.af_outside.specs.Tape.{outside_of, devices_of}
use Rattle.af_outside.proofs.TapeLemmas.{TapeLeadsTo-noted, answered_as}
use Rattle.af_outside.proofs.tape.TapeWorld.close.Goals as goal

pub returns-clause-answered : goal.returns-clause-answered
returns-clause-answered c =
    rw (← c.self.view_is)
    (answered_as (λ ends. outside_of ends (devices_of c.self.inside.steps.items c.self.inside.devices.items)) _ _ _ _ (Closed c.args.link c.args.why) c.deref_mut.ensures.value (with_items_is c.self.inside.links c.close.new.links (search rules))
    (c.close.ensures.answered (devices_of c.self.inside.steps.items c.self.inside.devices.items)))

pub returns-clause-leads : goal.returns-clause-leads
returns-clause-leads c =
    rw (← c.self.view_is)
    (TapeLeadsTo-noted _ (Ok (Closed c.args.link c.args.why)) _ (Closed c.args.link c.args.why) _ _ _ c.add.ensures refl (rw (← c.self.view_is) at (returns-clause-answered c))
    (le_refl c.self.inside.link_faults) (le_refl c.self.inside.device_faults))
