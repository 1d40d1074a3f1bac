use Rattle.std.proofs.Common.{arith}
use Rattle.std.proofs.lemmas.Grind.{common_steps}
use Rattle.af_ring.proofs.RingStepLemmas.{size_of}
use Rattle.af_ring.proofs.time_ring.TimeRing.new.Goals as goal

pub invariant_of-result : goal.invariant_of-result
invariant_of-result c = size_of _ c.args.bits c.requires.some c.requires.few (grind (arith, common_steps))
