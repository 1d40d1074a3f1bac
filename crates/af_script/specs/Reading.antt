-- A script that is read line by line.
use Rattle.std.specs.Prelude.{ℕ, nat_lt, Bool, ◌&&◌, List, [], ◌∷◌, ◌++◌, length, Option, Some, None, option_map, if◌then◌else◌}
use Rattle.af_world.specs.declared.script.DeviceSpec.{DeviceSpec}
use Rattle.af_world.specs.declared.script.Step.{Step}
use Rattle.af_script.specs.Lines.{words, is_nil}
use Rattle.af_script.specs.Statement.{is_device_line, device_of, step_of}
use Rattle.af_script.specs.Script.{StatedScript, is_passed_over, most_devices}

-- the script so far with one more device
abbrev pub with_script_device : StatedScript → DeviceSpec → StatedScript
with_script_device s device = record s { config = s.config ++ device ∷ [] }

-- the script so far with one more step
abbrev pub with_step : StatedScript → Step → StatedScript
with_step s step = record s { steps = s.steps ++ step ∷ [] }

-- a further device may be stated as long as there is no step
abbrev pub can_take_device : StatedScript → Bool
can_take_device s = is_nil s.steps && nat_lt (length s.config) most_devices

-- the script so far with what the words of a further line state, if they are allowed there
abbrev pub with_words : StatedScript → List (List ℕ) → Option StatedScript
with_words s words =
    if can_take_device s && is_device_line words then option_map (with_script_device s) (device_of words)
    else if is_nil s.config then None
    else option_map (with_step s) (step_of s.config words)

-- the script so far with a further line, if it is allowed there
abbrev pub with_line : StatedScript → List ℕ → Option StatedScript
with_line s line = if is_passed_over line then Some s else with_words s (words line)

-- a script has at least one device
abbrev pub wants_device : StatedScript → Bool
wants_device s = is_nil s.config
