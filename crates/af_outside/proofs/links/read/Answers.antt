use Rattle.std.proofs.Common.{arith, refl}
use Rattle.af_world.specs.Outside.{client_after_read}
use Rattle.af_world.specs.World.{got_of}
use Rattle.af_world.specs.declared.happening.ReadGot.TheVariants.{NotYet}
use Rattle.af_outside.proofs.ScriptedLinkLemmas.{answered_here, answered_past, HasRoomForSteps-kept}
use Rattle.af_outside.proofs.links.read.Goals as goal

pub returns-clause-answered : goal.returns-clause-answered
returns-clause-answered c = λ devices.
    answered_here c.args.links.now devices c.args.link c.index-links-place.result c.read.new.self (client_after_read (got_of c.read.result c.read.new.into)) (omega arith) c.read.ensures.answered

pub returns-clause-room : goal.returns-clause-room
returns-clause-room c = λ steps room. HasRoomForSteps-kept _ _ c.index-links-place.result _ steps (omega arith) room (omega arith)

pub returns-then-place-links-clause-answered : goal.returns-then-place-links-clause-answered
returns-then-place-links-clause-answered c = λ devices. answered_past c.args.links.now devices c.args.link (client_after_read NotYet) (omega arith) refl
