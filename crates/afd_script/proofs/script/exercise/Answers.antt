use Rattle.std.proofs.Common.{length, ap, arith}
use Rattle.afd_script.proofs.ExerciseStepLemmas.{exercise_length}
use Rattle.afd_script.proofs.script.exercise.Goals as goal

pub overflow_cast-steps : goal.overflow_cast-steps
overflow_cast-steps g c =
    let long = exercise_length c.args.seed c.args.turns c.in-Ok.script.config.items c.in-Ok.script.steps c.in-Ok.ensures.script in
    let same = ap length c.as_slice.ensures in
    let few = c.requires.1 in
    omega (arith, long, same, few)
