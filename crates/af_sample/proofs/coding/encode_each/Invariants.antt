use Rattle.std.proofs.Common.{◌≡◌, ◌*◌, take}
use Rattle.af_sample.specs.Samples.{bytes_of}
use Rattle.af_sample.proofs.coding.encode_each.Given as goal

abbrev pub invariant-loop-i : goal.invariant-loop-i
invariant-loop-i l = take (l.i * l.width) l.out ≡ bytes_of l.ty (take l.i l.samples)
