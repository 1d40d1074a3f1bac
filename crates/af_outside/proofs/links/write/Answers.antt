use Rattle.std.proofs.Common.{ap, arith, length, take}
use Rattle.std.proofs.Math.Seq.{take-length}
use Rattle.std.specs.declared.option.Option.TheVariants.{Some}
use Rattle.af_world.specs.Outside.{client_after_write}
use Rattle.af_world.specs.World.{took_of}
use Rattle.af_outside.proofs.ScriptedLinkLemmas.{answered_here, answered_past, HasRoomForSteps-kept}
use Rattle.af_outside.proofs.ScriptedClientLemmas.{written_closed}
use Rattle.af_outside.proofs.links.write.Goals as goal

pub returns-clause-answered : goal.returns-clause-answered
returns-clause-answered c = λ devices.
    answered_here c.args.links.now devices c.args.link c.index-links-place.result c.write.new.self (client_after_write (length c.args.piece.now) (took_of c.write.result c.args.piece.now)) (omega arith) c.write.ensures.answered

pub returns-clause-room : goal.returns-clause-room
returns-clause-room c = λ steps room. HasRoomForSteps-kept _ _ c.index-links-place.result _ steps (omega arith) room (omega arith)

pub returns-then-place-links-clause-answered : goal.returns-then-place-links-clause-answered
returns-then-place-links-clause-answered c = λ devices.
    let piece = c.args.piece.now in
    answered_past c.args.links.now devices c.args.link (client_after_write (length piece) (Some (take (length piece) piece))) (omega arith) (written_closed (length piece) (take (length piece) piece) (ap length (take-length piece)))
