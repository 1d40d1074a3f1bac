-- The configuration that a text is, or the line of its first fault.
use Rattle.std.specs.Prelude.{◌≡◌, ℕ, zero, suc, ◌+◌, Bool, false, ◌&&◌, ◌||◌, List, [], ◌∷◌, ◌++◌, length, map, Option, None, option_map, option_and_then, option_to_list, unwrap_or, Result, Ok, Err, if◌then◌else◌}
use Rattle.std.specs.Str.{is_utf8}
use Rattle.af_limits.specs.Limits.{most_devices}
use Rattle.af_text.specs.Lines.{lines, words, is_passed_over, with_first}
use Rattle.af_text.specs.Reading.{Entry, entries_of}
use Rattle.af_text.specs.Words.{only_if}
use Rattle.af_world.specs.declared.lifecycle.ToldKind.{ToldKind}
use Rattle.af_world.specs.declared.script.DeviceSpec.{DeviceSpec}
use Rattle.af_config.specs.declared.fault.ConfigFault.{ConfigFault}
use Rattle.af_config.specs.declared.fault.ConfigFault.TheVariants as fault
use Rattle.af_config.specs.Stating.{Settings, Configured, LineProgram, configured_of, is_codec, is_phone_line, line_program_of, has_free_line}

-- a line is skipped only if it is text
abbrev pub is_idle : List ℕ → Bool
is_idle line = is_utf8 line && is_passed_over line

-- the lines that are not skipped; the first of all lines has this number
abbrev pub config_entries : ℕ → List (List ℕ) → List (Entry (List ℕ))
config_entries n ls = entries_of is_idle (λ line. line) n ls

-- the device that a line states, which has to be text
abbrev pub placed_of : List ℕ → Option Configured
placed_of line = if is_utf8 line then configured_of (words line) else None

-- whether that device has a codec
abbrev pub states_codec : List ℕ → Bool
states_codec line = unwrap_or (option_map (λ device. is_codec device.kind) (placed_of line)) false

-- the device that a line states; it has no codec if a device before it has one
abbrev pub placed_after : Bool → List ℕ → Option Configured
placed_after has line = if has && states_codec line then None else placed_of line

-- the devices of these lines, at most so many; at most one of all devices has a codec
abbrev pub placed_within : ℕ → Bool → List (Entry (List ℕ)) → Result (List Configured) ℕ
placed_within most has [] = Ok []
placed_within zero has (e ∷ es) = Err e.number
placed_within (suc most) has (e ∷ es) =
    with_first e.number (placed_after has e.said) (placed_within most (has || states_codec e.said) es)

-- the lines before the first phone line: they state devices
abbrev pub device_lines : List (Entry (List ℕ)) → List (Entry (List ℕ))
device_lines [] = []
device_lines (e ∷ es) = if is_phone_line (words e.said) then [] else e ∷ device_lines es

-- the first phone line and all lines after it: they state programs of telephone lines
abbrev pub phone_lines : List (Entry (List ℕ)) → List (Entry (List ℕ))
phone_lines [] = []
phone_lines (e ∷ es) = if is_phone_line (words e.said) then e ∷ es else phone_lines es

-- the program that a line states, as a list of one; a line that states none gives none
abbrev pub stated_program : List ℕ → List LineProgram
stated_program line = option_to_list (line_program_of (words line))

-- the program that a line states, which has to be text; its device has a telephone line, and no program so far
abbrev pub program_after : List DeviceSpec → List LineProgram → List ℕ → Option LineProgram
program_after config before line =
    if is_utf8 line then option_and_then (only_if (λ program. has_free_line config before program.device))
    (line_program_of (words line)) else None

-- the programs of these lines for these devices, after these programs of earlier lines
abbrev pub programs_within : List DeviceSpec → List LineProgram → List (Entry (List ℕ)) → Result (List LineProgram) ℕ
programs_within config before [] = Ok []
programs_within config before (e ∷ es) =
    with_first e.number (program_after config before e.said) (programs_within config (before ++ stated_program e.said) es)

-- the configuration of these devices, with these programs of their telephone lines
abbrev pub settings_with : List DeviceSpec → List ToldKind → Result (List LineProgram) ℕ → Result Settings ℕ
settings_with config kinds (Ok programs) = Ok (record { config = config; kinds = kinds; phones = programs })
settings_with config kinds (Err n) = Err n

-- the configuration of these devices, with the programs that these lines state
abbrev pub settings_within : List DeviceSpec → List ToldKind → List (Entry (List ℕ)) → Result Settings ℕ
settings_within config kinds es = settings_with config kinds (programs_within config [] es)

-- the devices, their backends, and the programs of their telephone lines
abbrev pub settings_of : Result (List Configured) ℕ → List (Entry (List ℕ)) → Result Settings ℕ
settings_of (Ok devices) phones = settings_within (map (λ d. d.spec) devices) (map (λ d. d.kind) devices) phones
settings_of (Err n) phones = Err n

-- at least one line, or else the number after the last line
abbrev pub settings_by : List (Entry (List ℕ)) → ℕ → Result Settings ℕ
settings_by [] after = Err after
settings_by (e ∷ es) after = settings_of (placed_within most_devices false (device_lines (e ∷ es))) (phone_lines (e ∷ es))

-- the configuration that a text is, or the number of the first line that may not stand where it stands
unfoldable pub config_of : List ℕ → Result Settings ℕ
config_of text = settings_by (config_entries 1 (lines text)) (1 + length (lines text))

-- the text has its first fault in this line
abbrev pub IsConfigFault : List ℕ → ConfigFault → Type 0
IsConfigFault text (fault.Line n) = config_of text ≡ Err n
IsConfigFault text fault.OutOfMemory = Unit {0}
