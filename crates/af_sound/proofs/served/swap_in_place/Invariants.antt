use Rattle.af_sound.proofs.SwappedLemmas.{AreSwappedUpTo}
use Rattle.af_sound.proofs.served.swap_in_place.Given as goal

abbrev pub invariant-loop-i : goal.invariant-loop-i
invariant-loop-i l = AreSwappedUpTo l.initial.bytes l.bytes l.i
