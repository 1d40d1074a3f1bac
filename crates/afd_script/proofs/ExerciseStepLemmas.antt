-- How many steps an exercise has.
use Rattle.std.proofs.Common.{◌≡◌, ℕ, zero, suc, ◌+◌, List, length, refl, sym, ap, ◌∙◌, length-append}
use Rattle.rand_pcg.specs.Lcg.{Lcg}
use Rattle.af_world.specs.declared.script.DeviceSpec.{DeviceSpec}
use Rattle.af_world.specs.declared.script.Step.{Step}
use Rattle.af_script.specs.Script.{StatedScript}
use Rattle.af_random.specs.Exercise.{first_steps, steps_drawn, seeded_generator, start_time, generated_script}

drawn_length : (turns : ℕ) (g : Lcg) (time : ℕ) → length (steps_drawn turns g time) ≡ turns
drawn_length zero g time = refl
drawn_length (suc turns) g time = ap suc (drawn_length turns _ _)

first_length : length first_steps ≡ 8
unfolding first_steps
first_length = refl

-- an exercise has eight steps before those of its turns
generated_length : (seed turns : ℕ) → length (generated_script seed turns).steps ≡ 8 + turns
unfolding generated_script
generated_length seed turns =
    length-append first_steps (steps_drawn turns (seeded_generator seed) start_time) ∙ ap (λ n. n + length (steps_drawn turns (seeded_generator seed) start_time)) first_length
    ∙ ap (λ n. 8 + n) (drawn_length turns (seeded_generator seed) start_time)

module _ (seed turns : ℕ) (config : List DeviceSpec) (steps : List Step) (made : generated_script seed turns ≡ record { config = config; steps = steps }) where
  pub exercise_length : length steps ≡ 8 + turns
  exercise_length = sym (ap (λ (s : StatedScript). length s.steps) made) ∙ generated_length seed turns
