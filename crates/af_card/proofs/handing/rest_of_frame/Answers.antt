use Rattle.std.proofs.Common.{◌/◌, arith}
use Rattle.std.proofs.Math.Nat.{div-add-mod}
use Rattle.af_card.proofs.handing.rest_of_frame.Goals as goal

pub returns-then-part-eq0-clause-whole : goal.returns-then-part-eq0-clause-whole
returns-then-part-eq0-clause-whole c =
    let whole = div-add-mod c.args.count c.args.frame_bytes in
    let none = c.if-part-eq0.true in
    (c.args.count / c.args.frame_bytes, grind arith)
