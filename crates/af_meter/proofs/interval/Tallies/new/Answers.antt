use Rattle.std.proofs.Common.{arith, ◌≡◌, ◌≤◌, ◌*◌, ◌^◌, refl}
use Rattle.af_meter.specs.Tallies.{AreTallied}
use Rattle.af_meter.proofs.interval.Tallies.new.Goals as goal

pub returns : goal.returns
returns c = λ channels. record {
  first = record { peak = c.new.ensures.0; squares = c.new.ensures.1; few = omega (arith, c.new.ensures.1) };
  first_count = refl;
  second = λ e. record { peak = c.new-2.ensures.0; squares = c.new-2.ensures.1; few = omega (arith, c.new-2.ensures.1) };
  second_count = refl;
  second_few = omega (arith, c.new-2.ensures.1);
}
