-- The script of an exercise, turn by turn.
use Rattle.std.proofs.Common.{◌≡◌, ℕ, zero, suc, ◌+◌, ◌%◌, ◌^◌, ◌<◌, false, List, [], ◌∷◌, ◌++◌, length, refl, sym, ap, ◌∙◌, subst, arith, append_assoc, append-nil}
use Rattle.rand_pcg.specs.Lcg.{Lcg}
use Rattle.af_world.specs.declared.script.Step.{Step}
use Rattle.af_world.specs.declared.script.Step.TheVariants as step
use Rattle.af_world.specs.Outside.{IsStep}
use Rattle.std.specs.Prelude.{All}
use Rattle.af_request.specs.Asked.{play_run}
use Rattle.std.proofs.lemmas.List.Elements.{All-nil, All-cons, All-push}
use Rattle.af_limits.specs.Limits.{most_links}
use Rattle.af_random.specs.Exercise.{time_about, sample_bytes, play_drawn, exercised_devices, greeting, first_steps, copies_of, turn_step, frames_ticked, drawn_word, generator_after, step_drawn, steps_drawn, seeded_generator, start_time, generated_script}
use Rattle.af_script.specs.Script.{StatedScript}
use Rattle.af_world.specs.declared.script.DeviceSpec.{DeviceSpec}

-- one more copy at the end is one more at the front
pub repeated_more : (n : ℕ) (bytes : List ℕ) → copies_of n bytes ++ bytes ≡ copies_of (suc n) bytes
repeated_more zero bytes = sym (append-nil bytes)
repeated_more (suc n) bytes = append_assoc bytes (copies_of n bytes) bytes ∙ ap (λ l. bytes ++ l) (repeated_more n bytes)

-- one more step is one turn less
pub turn_less : (steps more : List Step) (n m : ℕ) (g later_g : Lcg) (time later : ℕ) (s : Step) → more ≡ steps ++ s ∷ [] → n ≡ suc m → s ≡ step_drawn g time → later_g ≡ generator_after (generator_after g) → later ≡ (time + frames_ticked s) % 2 ^ 32
    → more ++ steps_drawn m later_g later ≡ steps ++ steps_drawn n g time
turn_less steps more n m g later_g time later s grown turns is moved goes_on =
    ap (λ xs. xs ++ steps_drawn m later_g later) grown ∙ append_assoc steps (s ∷ []) (steps_drawn m later_g later)
    ∙ ap (λ t. steps ++ s ∷ steps_drawn m later_g t) goes_on
    ∙ ap (λ h. steps ++ s ∷ steps_drawn m h ((time + frames_ticked s) % 2 ^ 32)) moved
    ∙ ap (λ x. steps ++ x ∷ steps_drawn m (generator_after (generator_after g)) ((time + frames_ticked x) % 2 ^ 32)) is
    ∙ ap (λ k. steps ++ steps_drawn k g time) (sym turns)

-- with no turn left the steps are whole
pub no_turn_left : (steps : List Step) (n : ℕ) (g : Lcg) (time : ℕ) → n ≡ 0 → steps ++ steps_drawn n g time ≡ steps
no_turn_left steps n g time none = ap (λ k. steps ++ steps_drawn k g time) none ∙ append-nil steps

-- as many turns, from the same generator on, after the same steps
pub whole_start : (steps first : List Step) (n m : ℕ) (g h : Lcg) (time : ℕ) → steps ≡ first → n ≡ m → g ≡ h → steps ++ steps_drawn n g time ≡ first ++ steps_drawn m h time
whole_start steps first n m g h time same turns generator =
    ap (λ xs. xs ++ steps_drawn n g time) same ∙ ap (λ k. first ++ steps_drawn k g time) turns ∙ ap (λ k. first ++ steps_drawn m k time) generator

-- the step of a turn, by its two drawn numbers
pub words_drawn : (s : Step) (x y : ℕ) (g g1 : Lcg) (time : ℕ) → s ≡ turn_step x y time → x ≡ drawn_word g → y ≡ drawn_word g1 → g1 ≡ generator_after g → s ≡ step_drawn g time
words_drawn s x y g g1 time is first second moved =
    is ∙ ap (λ a. turn_step a y time) first ∙ ap (λ b. turn_step (drawn_word g) b time) (second ∙ ap drawn_word moved)

greets : (k : ℕ) (bytes : List ℕ) → k < most_links → length bytes ≡ 32 → IsStep exercised_devices (step.Send k bytes)
greets k bytes few size = (few, omega arith, omega arith)

-- the steps of a script with one more at the front
fit_first : (s : Step) (rest : List Step) → IsStep exercised_devices s → All (IsStep exercised_devices) rest → All (IsStep exercised_devices) (s ∷ rest)
fit_first s rest one all = All-cons (IsStep exercised_devices) s rest one all

opens : (k : ℕ) → k < most_links → IsStep exercised_devices (step.Open k)
opens k few = few

greeted : ℕ → Step
greeted k = step.Send k (greeting k)

-- the first steps may stand in a script
pub first_fit : All (IsStep exercised_devices) first_steps
unfolding first_steps greeting greeted
first_fit =
    let none : List Step = [] in
    let g3 : List Step = greeted 3 ∷ none in
    let g2 : List Step = greeted 2 ∷ g3 in
    let g1 : List Step = greeted 1 ∷ g2 in
    let g0 : List Step = greeted 0 ∷ g1 in
    let o3 : List Step = step.Open 3 ∷ g0 in
    let o2 : List Step = step.Open 2 ∷ o3 in
    let o1 : List Step = step.Open 1 ∷ o2 in
    let few : (k : ℕ) → k < 4 → k < most_links = λ k h. omega arith in
    fit_first (step.Open 0) o1 (opens 0 (few 0 (omega arith)))
    (fit_first (step.Open 1) o2 (opens 1 (few 1 (omega arith)))
    (fit_first (step.Open 2) o3 (opens 2 (few 2 (omega arith)))
    (fit_first (step.Open 3) g0 (opens 3 (few 3 (omega arith)))
    (fit_first (greeted 0) g1 (greets 0 (greeting 0) (few 0 (omega arith)) refl)
    (fit_first (greeted 1) g2 (greets 1 (greeting 1) (few 1 (omega arith)) refl)
    (fit_first (greeted 2) g3 (greets 2 (greeting 2) (few 2 (omega arith)) refl)
    (fit_first (greeted 3) none (greets 3 (greeting 3) (few 3 (omega arith)) refl) (All-nil (IsStep exercised_devices)))))))))

pub start_fit : (steps : List Step) → steps ≡ first_steps → All (IsStep exercised_devices) steps
start_fit steps same = subst (All (IsStep exercised_devices)) (sym same) first_fit

pub fit_more : (steps more : List Step) (s : Step) → more ≡ steps ++ s ∷ [] → All (IsStep exercised_devices) steps → IsStep exercised_devices s → All (IsStep exercised_devices) more
fit_more steps more s grown all one = subst (All (IsStep exercised_devices)) (sym grown) (All-push (IsStep exercised_devices) steps s all one)

-- the script of these steps
pub made : (seed turns : ℕ) (config : List DeviceSpec) (steps all : List Step) → config ≡ exercised_devices → all ≡ steps → steps ≡ first_steps ++ steps_drawn turns (seeded_generator seed) start_time → generated_script seed turns ≡ record { config = config; steps = all }
unfolding generated_script
made seed turns config steps all one same whole =
    ap (λ (xs : List Step). stated exercised_devices xs) (sym whole ∙ sym same) ∙ ap (λ ds. stated ds all) (sym one)
  where
    stated : List DeviceSpec → List Step → StatedScript
    stated ds xs = record { config = ds; steps = xs }

pub made_fit : (config : List DeviceSpec) (steps all : List Step) → config ≡ exercised_devices → all ≡ steps → All (IsStep exercised_devices) steps → All (IsStep config) all
made_fit config steps all one same fit = subst (λ ds. All (IsStep ds) all) (sym one) (subst (All (IsStep exercised_devices)) (sym same) fit)

-- a Play of these samples from this time on is the one that is drawn
pub play_is : (y time t : ℕ) (samples : List ℕ) → t ≡ time_about time 2000 (y % 36000) → samples ≡ copies_of 100 (sample_bytes y) → play_run false 1 t samples ≡ play_drawn y time
unfolding play_drawn
play_is y time t samples at same = ap (λ u. play_run false 1 u samples) at ∙ ap (λ xs. play_run false 1 (time_about time 2000 (y % 36000)) xs) same
