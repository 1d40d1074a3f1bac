-- The script that an exercise makes of a seed and a number of turns.
use Rattle.std.specs.Prelude.{ℕ, zero, suc, ◌+◌, ◌-◌, ◌/◌, ◌%◌, ◌^◌, nat_lt, ◌==◌, pos, ◌-ℤ◌, true, false, List, [], ◌∷◌, ◌++◌, map, Some, None, if◌then◌else◌}
use Rattle.std.specs.Int.{w16, to_be_bytes, cast_unsigned}
use Rattle.rand_core.specs.Pcg32Seed.{pcg32_seed}
use Rattle.rand_pcg.specs.Lcg.{Lcg}
use Rattle.rand_pcg.specs.Pcg.{pcg32, pcg32_of_seed}
use Rattle.af_sample.specs.declared.sample_type.SampleType.TheVariants.{Lin16}
use Rattle.af_wire.specs.declared.order.Order.TheVariants.{Big}
use Rattle.af_wire.specs.Front.{setup_bytes}
use Rattle.af_request.specs.Asked.{Asked, get_time, create_ac, play_run, record_run, select_events}
use Rattle.af_request.specs.Requests.{request_bytes}
use Rattle.af_phone.specs.declared.line.LineChange.TheVariants as change
use Rattle.af_world.specs.declared.script.DeviceSpec.{DeviceSpec}
use Rattle.af_world.specs.declared.script.Step.{Step}
use Rattle.af_world.specs.declared.script.Step.TheVariants as step
use Rattle.af_script.specs.Script.{StatedScript}

-- the device time at which the device starts: it passes 2^32 after 7296 frames
abbrev pub start_time : ℕ
start_time = 4294960000

-- the one device: `lin16 8000 4294960000 line`
abbrev pub exercised_devices : List DeviceSpec
exercised_devices = record { ty = Lin16; rate = 8000; start = start_time; channels = 1; line = true } ∷ []

-- the links
abbrev pub links : List ℕ
links = 0 ∷ 1 ∷ 2 ∷ 3 ∷ []

-- the plays of link 3 preempt, those of the others mix
abbrev pub preempts : ℕ → ℕ
preempts link = if link == 3 then 1 else 0

-- what a link sends first: a setup, a CreateAC of context 1 for 16-bit samples of one channel with gains of 0, and a
-- SelectEvents of every kind of event
unfoldable pub greeting : ℕ → List ℕ
greeting link =
    setup_bytes Big ++ request_bytes Big (create_ac 0 1 2 1 (preempts link) (pos 0) (pos 0))
    ++ request_bytes Big (select_events 0 15)

-- each link is opened, and each greets
unfoldable pub first_steps : List Step
first_steps = map step.Open links ++ map (λ link. step.Send link (greeting link)) links

-- the same bytes n times
abbrev pub copies_of : ℕ → List ℕ → List ℕ
copies_of zero bytes = []
copies_of (suc n) bytes = bytes ++ copies_of n bytes

-- a device time so many frames after the one that is n frames before another
abbrev pub time_about : ℕ → ℕ → ℕ → ℕ
time_about time before on = ((time + (2 ^ 32 - before)) % 2 ^ 32 + on) % 2 ^ 32

-- how many frames a tick has
abbrev pub tick_frames : ℕ → ℕ
tick_frames y = 1 + y % 512

-- a tick of 1 to 512 frames, in which each captured sample has the same pattern
unfoldable pub tick_drawn : ℕ → Step
tick_drawn y = step.Tick 0 (tick_frames y) (Some (copies_of (tick_frames y) (to_be_bytes w16 (y / 512 % 65536))))

-- the bytes of a sample between -10000 and 10000
abbrev pub sample_bytes : ℕ → List ℕ
sample_bytes y = to_be_bytes w16 (cast_unsigned w16 (pos (y % 20001) -ℤ pos 10000))

-- a Play with a reply, of 100 equal samples, that begins 2000 frames before the device's time or up to 35999 frames later
unfoldable pub play_drawn : ℕ → ℕ → Asked
play_drawn y time = play_run false 1 (time_about time 2000 (y % 36000)) (copies_of 100 (sample_bytes y))

-- a Record of 50 frames that blocks, and begins 1000 frames before the device's time or up to 1999 frames later
unfoldable pub record_drawn : ℕ → ℕ → Asked
record_drawn y time = record_run true 1 (time_about time 1000 (y % 2000)) 100

-- a link sends a request
abbrev pub sends : ℕ → Asked → Step
sends link request = step.Send link (request_bytes Big request)

-- a decimal digit is dialled
unfoldable pub digit_drawn : ℕ → Step
digit_drawn y = step.Line 0 (change.Digit (48 + y % 10))

-- a link takes 100 bytes from now on, or every byte
unfoldable pub room_drawn : ℕ → ℕ → Step
room_drawn link y = step.Room link (if y % 16 == 0 then Some 100 else None)

-- the step of one of eight choices
abbrev pub step_chosen : ℕ → ℕ → ℕ → ℕ → Step
step_chosen choice link y time =
    if nat_lt choice 3 then tick_drawn y
    else if choice == 3 then sends link (play_drawn y time)
    else if choice == 4 then sends link (record_drawn y time)
    else if choice == 5 then sends link (get_time 0)
    else if choice == 6 then digit_drawn y
    else room_drawn link y

-- the step of a turn at a device time: x gives its kind and its link, and y its values
unfoldable pub turn_step : ℕ → ℕ → ℕ → Step
turn_step x y time = step_chosen (x / 4 % 8) (x % 4) y time

-- how many frames go by in a step
abbrev pub frames_ticked : Step → ℕ
frames_ticked (step.Tick device frames captured) = frames
frames_ticked _ = 0

-- the word that a generator draws
unfoldable pub drawn_word : Lcg → ℕ
drawn_word g = (pcg32 g).0

-- the generator after a draw
unfoldable pub generator_after : Lcg → Lcg
generator_after g = (pcg32 g).1

-- the generator of a seed
unfoldable pub seeded_generator : ℕ → Lcg
seeded_generator seed = pcg32_of_seed (pcg32_seed 16 seed)

-- the step that a generator draws at a device time: first x, and then y
abbrev pub step_drawn : Lcg → ℕ → Step
step_drawn g time = turn_step (drawn_word g) (drawn_word (generator_after g)) time

-- n steps that a generator draws, from a device time on
abbrev pub steps_drawn : ℕ → Lcg → ℕ → List Step
steps_drawn zero g time = []
steps_drawn (suc turns) g time =
    step_drawn g time ∷ steps_drawn turns (generator_after (generator_after g))
    ((time + frames_ticked (step_drawn g time)) % 2 ^ 32)

-- the script of a seed and n turns
unfoldable pub generated_script : ℕ → ℕ → StatedScript
generated_script seed turns =
    record { config = exercised_devices; steps = first_steps ++ steps_drawn turns (seeded_generator seed) start_time }
