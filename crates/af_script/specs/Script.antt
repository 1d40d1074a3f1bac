-- The script that a text is, or the line of its first fault.
use Rattle.std.specs.Prelude.{◌≡◌, ℕ, zero, suc, ◌+◌, ◌==◌, List, [], ◌∷◌, length, take, drop, Result, Ok, Err, if◌then◌else◌}
use Rattle.af_world.specs.declared.script.DeviceSpec.{DeviceSpec}
use Rattle.af_world.specs.declared.script.Step.{Step}
use Rattle.af_script.specs.declared.fault.ScriptFault.{ScriptFault}
use Rattle.af_script.specs.declared.fault.ScriptFault.TheVariants as fault
pub use Rattle.af_text.specs.Lines.{is_passed_over, with_first}
use Rattle.af_text.specs.Lines.{lines, words}
pub use Rattle.af_text.specs.Reading.{Entry, each_says}
use Rattle.af_text.specs.Reading.{entries_of}
use Rattle.af_script.specs.Statement.{is_device_line, device_of, step_of}

-- what a script states
pub record StatedScript : Type 0 where
  pub config : List DeviceSpec
  pub steps : List Step

-- a line that is not skipped, by its words
abbrev pub ScriptLine : Type 0
ScriptLine = Entry (List (List ℕ))

-- the lines that are not skipped; the first of all lines has this number
abbrev pub entries : ℕ → List (List ℕ) → List ScriptLine
entries n ls = entries_of is_passed_over words n ls

-- how many devices a script may have
abbrev pub most_devices : ℕ
most_devices = 8

-- how many device lines stand in front, counted up to so many
abbrev pub device_lines : ℕ → List ScriptLine → ℕ
device_lines zero es = 0
device_lines (suc most) [] = 0
device_lines (suc most) (e ∷ es) = if is_device_line e.said then suc (device_lines most es) else 0

-- the number of the first of these lines, or the one after the last line of the text
abbrev pub first_number : List ScriptLine → ℕ → ℕ
first_number [] after = after
first_number (e ∷ es) after = e.number

-- these devices with their steps
abbrev pub with_steps : List DeviceSpec → Result (List Step) ℕ → Result StatedScript ℕ
with_steps config (Ok steps) = Ok (record { config = config; steps = steps })
with_steps config (Err n) = Err n

-- devices, and steps for them
abbrev pub with_config : Result (List DeviceSpec) ℕ → List ScriptLine → Result StatedScript ℕ
with_config (Ok config) es = with_steps config (each_says (step_of config) es)
with_config (Err n) es = Err n

-- so many device lines, at least one, and then steps
abbrev pub script_by : ℕ → List ScriptLine → ℕ → Result StatedScript ℕ
script_by devices es after =
    if devices == 0 then Err (first_number es after) else with_config (each_says device_of (take devices es)) (drop devices es)

-- the script that a text is, or the number of the first line that is not allowed where it stands
unfoldable pub script_of : List ℕ → Result StatedScript ℕ
script_of text =
    let es = entries 1 (lines text) in script_by (device_lines most_devices es) es (1 + length (lines text))

-- the text has its first fault in this line
abbrev pub IsScriptFault : List ℕ → ScriptFault → Type 0
IsScriptFault text (fault.Line n) = script_of text ≡ Err n
IsScriptFault text fault.OutOfMemory = Unit {0}
