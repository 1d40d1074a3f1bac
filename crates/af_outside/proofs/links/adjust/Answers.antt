use Rattle.std.proofs.Common.{arith}
use Rattle.af_world.specs.Outside.{client_after_step}
use Rattle.af_outside.proofs.ScriptedLinkLemmas.{adjusted_here, adjusted_past, HasRoomForSteps-sent, HasRoomForSteps-less}
use Rattle.af_outside.proofs.links.adjust.Goals as goal

pub returns-then-place-links-clause-outside : goal.returns-then-place-links-clause-outside
returns-then-place-links-clause-outside c = λ devices.
    adjusted_here c.args.links.now devices c.args.link c.index-links-place.result c.adjust.new.self (client_after_step c.args.step.now) (omega arith) c.adjust.ensures.client

pub returns-then-place-links-clause-room : goal.returns-then-place-links-clause-room
returns-then-place-links-clause-room c = λ steps room. HasRoomForSteps-sent _ _ c.args.step.now c.index-links-place.result _ steps (omega arith) c.requires.link room c.adjust.ensures.room

pub returns-else-place-links-clause-outside : goal.returns-else-place-links-clause-outside
returns-else-place-links-clause-outside c = λ devices. adjusted_past c.args.links.now devices c.args.link (client_after_step c.args.step.now) (omega arith)

pub returns-else-place-links-clause-room : goal.returns-else-place-links-clause-room
returns-else-place-links-clause-room c = λ steps room. HasRoomForSteps-less _ _ steps room
