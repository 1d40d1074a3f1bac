use Rattle.std.proofs.Common.{◌≡◌, ℕ, ◌<◌, get_or}
use Rattle.af_sound.proofs.SwappedLemmas.{partner}
use Rattle.af_sound.proofs.served.swap_pairs.Given as goal

abbrev pub invariant-loop-i : goal.invariant-loop-i
invariant-loop-i l = (k : ℕ) → k < l.i → get_or l.out k 0 ≡ get_or l.bytes (partner k) 0
