use Rattle.std.proofs.Common.{length, ap, ◌∙◌, arith}
use Rattle.std.proofs.lemmas.List.{length-drop}
use Rattle.af_io.proofs.KnownBytesLemmas.{Appends-part, rest_whole}
use Rattle.af_deadline.proofs.handed.hand.Goals as goal

pub loop-taken-preserved : goal.loop-taken-preserved
loop-taken-preserved g c =
    let wrote = c.in-Ok-hand_part.ensures in
    let rest = ap length (rest_whole c.loop-taken.taken c.args.piece.now) ∙ length-drop c.loop-taken.taken c.args.piece.now in
    (omega arith, Appends-part _ _ _ c.loop-taken.taken c.in-Ok-hand_part.count c.args.piece.now c.loop-taken.invariant.1 wrote.2)
