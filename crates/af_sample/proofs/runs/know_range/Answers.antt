use Rattle.std.proofs.Common.{pos, arith}
use Rattle.std.proofs.lemmas.Simd.{Each1-from_get_or}
use mir.Syntax.{w16}
use mir.Val.{SFits}
use Rattle.af_sample.proofs.runs.know_range.Goals as goal

pub returns : goal.returns
returns c = Each1-from_get_or (SFits w16) c.args.samples.now (pos 0) (λ k low. c.loop-i.invariant k (omega arith))
