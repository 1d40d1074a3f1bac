use Rattle.std.proofs.Common.{arith, refl}
use Rattle.af_sound.proofs.SwappedLemmas.{swapped_on, swapped_run}
use Rattle.af_sound.proofs.served.swap_in_place.Goals as goal

pub loop-i-init : goal.loop-i-init
loop-i-init c = record { size = refl; front = λ k low. absurd (omega arith); rest = λ k high. refl }

pub loop-i-preserved : goal.loop-i-preserved
loop-i-preserved c = swapped_on c.args.bytes.now c.loop-i.bytes c.swap.new.self c.loop-i.i c.loop-i.invariant c.swap.ensures.len c.swap.ensures.by_index

pub returns : goal.returns
returns c =
    let i = c.loop-i.invariant in
    let auto = c.loop-i.auto.i-end in
    let even = c.requires in
    swapped_run c.args.bytes.now c.loop-i.bytes i.size even (λ k low. i.front k (omega arith))
