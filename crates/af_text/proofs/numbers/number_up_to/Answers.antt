use Rattle.std.proofs.Common.{◌≤◌, arith}
use Rattle.std.proofs.Math.Nat.{lt_of_lt_of_le, pow-le-pow_right}
use Rattle.af_text.proofs.numbers.number_up_to.Goals as goal

pub returns-clause-bound : goal.returns-clause-bound
returns-clause-bound c =
    let read = c.loop-digit.auto.digit-index-end in
    let short = c.if-word-most.false in
    let fewer : c.loop-digit.digit-index ≤ c.args.most = omega (arith, read, short) in
    lt_of_lt_of_le c.loop-digit.invariant.bound (pow-le-pow_right (omega arith) fewer)
