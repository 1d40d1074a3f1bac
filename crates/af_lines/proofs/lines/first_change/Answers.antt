use Rattle.std.proofs.Common.{◌≡◌, ◌<◌, ℕ, max, arith, rules, subst}
use Rattle.std.proofs.Math.Nat.{le_refl}
use Rattle.af_lines.specs.HeldLines.{LinesAsked}
use Rattle.af_lines.proofs.LinesLemmas.{none_asked}
use Rattle.af_lines.proofs.lines.first_change.Goals as goal

pub offset_bounds-held-device : goal.offset_bounds-held-device
offset_bounds-held-device g c = let small : c.loop-device.device < 8 = omega (arith, c.requires, c.loop-device-test.true) in search rules

pub loop-device-init : goal.loop-device-init
loop-device-init g c = record {
  from = le_refl c.args.from;
  to = omega arith;
  count = c.told-held;
  asked = none_asked c.args.at c.args.from c.args.held.now;
}

pub returns : goal.returns
returns g c =
    let last : c.loop-device.device ≡ max c.args.from c.args.to = omega arith in
    subst (λ (to : ℕ). LinesAsked c.args.at c.args.from to c.args.held.now c.loop-device.held) last c.loop-device.invariant.asked
