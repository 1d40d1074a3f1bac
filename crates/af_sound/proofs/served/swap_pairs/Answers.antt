use Rattle.std.proofs.Common.{arith}
use Rattle.af_sound.proofs.SwappedLemmas.{swapped_run}
use Rattle.af_sound.proofs.served.swap_pairs.Goals as goal

pub returns : goal.returns
returns c =
    swapped_run c.args.bytes.now c.loop-i.out (omega arith) c.requires.whole (λ k low. c.loop-i.invariant k (omega arith))
