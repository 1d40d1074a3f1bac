use Rattle.std.proofs.Common.{◌≡◌, ◌*◌, take, map}
use Rattle.af_sample.specs.declared.sample_type.SampleType.TheVariants as ty
use Rattle.af_sample.specs.Samples.{bytes_of}
use Rattle.af_sound.specs.Served.{sample_of}
use Rattle.af_sound.proofs.served.widen.Given as goal

abbrev pub invariant-loop-i : goal.invariant-loop-i
invariant-loop-i l = take (l.i * 2) l.out ≡ bytes_of ty.Lin16 (map sample_of (take l.i l.bytes))
