use Rattle.std.proofs.Common.{◌≤◌, length, arith, refl, rules}
use Rattle.af_limits.specs.Limits.{most_devices}
use Rattle.af_core.proofs.TurnLemmas.{starts}
use Rattle.af_core.proofs.WantsWithinLemmas.{starts_bounds}
use Rattle.af_core.proofs.server.Core.new.Goals as goal

pub invariant_of-result : goal.invariant_of-result
invariant_of-result c =
    let count = c.in_ok-devices.ensures.count in
    let few : length c.as_slice.result.now ≤ most_devices = search rules in
    omega (arith, count, few)

pub invariant_of-result-2 : goal.invariant_of-result-2
invariant_of-result-2 c =
    (starts _ c.as_slice.result.now c.in_ok-devices.ensures.stands c.in_ok-waits.ensures c.in_ok-slots.ensures, (starts_bounds _ _ _ refl c.in_ok-slots.ensures, λ less. absurd (omega (arith, less))))
