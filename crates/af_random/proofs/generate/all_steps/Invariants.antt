use Rattle.std.proofs.Common.{◌≡◌, ◌-◌, ◌++◌}
use Rattle.std.specs.Prelude.{All}
use Rattle.af_world.specs.Outside.{IsStep}
use Rattle.af_random.specs.Exercise.{exercised_devices, first_steps, steps_drawn, seeded_generator, start_time}
use Rattle.af_random.proofs.generate.all_steps.Given as goal

abbrev pub invariant-loop-turn : goal.invariant-loop-turn
invariant-loop-turn l = record {
  same : l.steps.items ++ steps_drawn (l.turns - l.turn) l.generator l.time.0 ≡ first_steps ++ steps_drawn l.turns (seeded_generator l.seed) start_time;
  fit : All (IsStep exercised_devices) l.steps.items;
}
