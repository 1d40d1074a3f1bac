use Rattle.std.proofs.Common.{◌≡◌, ℕ, ◌<◌, get_or, pos}
use Rattle.af_sample.specs.Samples.{decoded, piece}
use Rattle.af_sample.proofs.coding.decode_each.Given as goal

abbrev pub invariant-loop-i : goal.invariant-loop-i
invariant-loop-i l = (k : ℕ) → k < l.i → get_or l.out k (pos 0) ≡ decoded l.ty (piece l.ty l.bytes k)
