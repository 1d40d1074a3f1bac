-- What a line states by its words: a device, or a step.
use Rattle.std.specs.Prelude.{ℕ, ◌*◌, ◌-◌, ◌^◌, nat_lt, Bool, true, false, List, [], ◌∷◌, length, codes, bytes_eq, Option, Some, None, option_map, option_and_then, if◌then◌else◌}
use Rattle.af_limits.specs.Limits.{most_links, longest_tick, longest_send}
use Rattle.af_sample.specs.declared.sample_type.SampleType.{SampleType}
use Rattle.af_phone.specs.Lines.{is_digit}
use Rattle.af_phone.specs.declared.line.LineChange.{LineChange}
use Rattle.af_phone.specs.declared.line.LineChange.TheVariants as change
use Rattle.af_world.specs.declared.script.DeviceSpec.{DeviceSpec}
use Rattle.af_world.specs.declared.script.Step.{Step}
use Rattle.af_world.specs.declared.script.Step.TheVariants as step
use Rattle.af_world.specs.Outside.{spec_has_line, frame_bytes_at}
use Rattle.af_script.specs.declared.statement.LineKind.{LineKind}
use Rattle.af_script.specs.declared.statement.LineKind.TheVariants as kind
pub use Rattle.af_text.specs.Sound.{type_of, rate_of, channels_stated, after_channels}
use Rattle.af_script.specs.Words.{number_of, number_within, only_if, bytes_within}

-- the kind of a line by its first word
abbrev pub line_kind_of : List ℕ → Option LineKind
line_kind_of name =
    if bytes_eq name (codes "device") then Some kind.Device
    else if bytes_eq name (codes "open") then Some kind.Open
    else if bytes_eq name (codes "send") then Some kind.Send
    else if bytes_eq name (codes "end") then Some kind.End
    else if bytes_eq name (codes "room") then Some kind.Room
    else if bytes_eq name (codes "tick") then Some kind.Tick
    else if bytes_eq name (codes "ring") then Some kind.Ring
    else if bytes_eq name (codes "loop") then Some kind.Loop
    else if bytes_eq name (codes "digit") then Some kind.Digit
    else if bytes_eq name (codes "failread") then Some kind.FailRead
    else if bytes_eq name (codes "failwrite") then Some kind.FailWrite
    else if bytes_eq name (codes "failcapture") then Some kind.FailCapture
    else if bytes_eq name (codes "failemit") then Some kind.FailEmit
    else if bytes_eq name (codes "failhook") then Some kind.FailHook
    else if bytes_eq name (codes "idle") then Some kind.Idle
    else None

-- the kind of a line by all its words
abbrev pub kind_of_words : List (List ℕ) → Option LineKind
kind_of_words [] = None
kind_of_words (name ∷ arguments) = line_kind_of name

-- the kind of device lines
abbrev pub is_device_kind : Option LineKind → Bool
is_device_kind None = false
is_device_kind (Some kind.Device) = true
is_device_kind (Some kind.Open) = false
is_device_kind (Some kind.Send) = false
is_device_kind (Some kind.End) = false
is_device_kind (Some kind.Room) = false
is_device_kind (Some kind.Tick) = false
is_device_kind (Some kind.Ring) = false
is_device_kind (Some kind.Loop) = false
is_device_kind (Some kind.Digit) = false
is_device_kind (Some kind.FailRead) = false
is_device_kind (Some kind.FailWrite) = false
is_device_kind (Some kind.FailCapture) = false
is_device_kind (Some kind.FailEmit) = false
is_device_kind (Some kind.FailHook) = false
is_device_kind (Some kind.Idle) = false

-- a line whose first word is `device`
abbrev pub is_device_line : List (List ℕ) → Bool
is_device_line words = is_device_kind (kind_of_words words)

-- Devices

-- whether the words after these state a line: `line` does, and no word does not
abbrev pub line_stated : List (List ℕ) → Option Bool
line_stated [] = Some false
line_stated (word ∷ []) = if bytes_eq word (codes "line") then Some true else None
line_stated _ = None

-- a device of this type and rate, whose time begins here, with so many channels, with a line or without
abbrev pub device_at : SampleType → ℕ → ℕ → ℕ → Bool → DeviceSpec
device_at ty rate start channels line = record { ty = ty; rate = rate; start = start; channels = channels; line = line }

-- the device of `device TYPE RATE START`, then `stereo` if it has two channels, then `line` if it has one; the words are those
-- after `device`
abbrev pub device_with : List (List ℕ) → Option DeviceSpec
device_with (ty ∷ rate ∷ start ∷ rest) =
    option_and_then
    (λ t. option_and_then
    (λ r. option_and_then (λ s. option_map (device_at t r s (channels_stated rest)) (line_stated (after_channels rest)))
    (number_within 0 (2 ^ 32 - 1) start)) (rate_of rate)) (type_of ty)
device_with _ = None

-- the device that a line of this kind states, by the words that follow its name
abbrev pub device_of_kind : Option LineKind → List (List ℕ) → Option DeviceSpec
device_of_kind kind arguments = if is_device_kind kind then device_with arguments else None

-- the device that the words of a line state
abbrev pub device_of : List (List ℕ) → Option DeviceSpec
device_of [] = None
device_of (name ∷ arguments) = device_of_kind (line_kind_of name) arguments

-- Steps

-- links are numbered from 0 to this
abbrev pub last_link : ℕ
last_link = most_links - 1

-- the number of a link
abbrev pub link_of : List ℕ → Option ℕ
link_of word = number_within 0 last_link word

-- the number of one of these devices
abbrev pub device_number : List DeviceSpec → List ℕ → Option ℕ
device_number config word = option_and_then (only_if (λ d. nat_lt d (length config))) (number_of word)

-- the number of one of these devices that has a line
abbrev pub line_number : List DeviceSpec → List ℕ → Option ℕ
line_number config word = option_and_then (only_if (spec_has_line config)) (device_number config word)

-- the number that a line states alone, as that of a link or of a device, by the words that follow its name
abbrev pub number_alone : (List ℕ → Option ℕ) → List (List ℕ) → Option ℕ
number_alone number_in (number ∷ []) = number_in number
number_alone number_in _ = None

-- a step of such a number
abbrev pub with_number : (List ℕ → Option ℕ) → (ℕ → Step) → List (List ℕ) → Option Step
with_number number_in step arguments = option_map step (number_alone number_in arguments)

-- a step of a number and a value, by the words that follow its name
abbrev pub with_value : {X : Type 0} → (List ℕ → Option ℕ) → (List ℕ → Option X) → (ℕ → X → Step) → List (List ℕ) → Option Step
with_value number_in value_in step (number ∷ value ∷ []) =
    option_and_then (λ n. option_map (step n) (value_in value)) (number_in number)
with_value number_in value_in step _ = None

-- the step of `send K HEX`
abbrev pub send_of : List (List ℕ) → Option Step
send_of arguments = with_value link_of (bytes_within 1 longest_send) step.Send arguments

-- how many bytes the last word of `room K N` states that a link takes, or every byte, if it is `all`
abbrev pub room_stated : List ℕ → Option (Option ℕ)
room_stated word = if bytes_eq word (codes "all") then Some None else option_map Some (number_within 0 (2 ^ 32 - 1) word)

-- the step of `room K N` or `room K all`
abbrev pub room_of : List (List ℕ) → Option Step
room_of arguments = with_value link_of room_stated step.Room arguments

-- what `tick D N` is stated to capture, by the words that follow it: n bytes, or nothing
abbrev pub capture_of : ℕ → List (List ℕ) → Option (Option (List ℕ))
capture_of size [] = Some None
capture_of size (hex ∷ []) = option_map Some (bytes_within size size hex)
capture_of size _ = None

-- the step of `tick D N` or `tick D N HEX`
abbrev pub tick_of : List DeviceSpec → List (List ℕ) → Option Step
tick_of config (device ∷ frames ∷ capture) =
    option_and_then
    (λ d. option_and_then (λ n. option_map (step.Tick d n) (capture_of (n * frame_bytes_at config d) capture))
    (number_within 1 longest_tick frames)) (device_number config device)
tick_of config _ = None

-- `on` or `off`
abbrev pub switch_of : List ℕ → Option Bool
switch_of word =
    if bytes_eq word (codes "on") then Some true
    else if bytes_eq word (codes "off") then Some false
    else None

-- the digit of a word, one of `0123456789*#ABCD`
abbrev pub digit_of : List ℕ → Option ℕ
digit_of (code ∷ []) = only_if is_digit code
digit_of _ = None

-- what the last word of `ring D on`, `loop D off` or `digit D C` changes on a line
abbrev pub change_of : LineKind → List ℕ → Option LineChange
change_of kind.Ring word = option_map change.Ring (switch_of word)
change_of kind.Loop word = option_map change.Current (switch_of word)
change_of kind.Digit word = option_map change.Digit (digit_of word)
change_of _ word = None

-- the step of such a line
abbrev pub line_step_of : LineKind → List DeviceSpec → List (List ℕ) → Option Step
line_step_of kind config arguments = with_value (line_number config) (change_of kind) step.Line arguments

-- the step of `idle`
abbrev pub idle_of : List (List ℕ) → Option Step
idle_of [] = Some step.Idle
idle_of (word ∷ words) = None

-- the step of a line of this kind, by the words that follow its name
abbrev pub step_of_kind : List DeviceSpec → Option LineKind → List (List ℕ) → Option Step
step_of_kind config None arguments = None
step_of_kind config (Some kind.Device) arguments = None
step_of_kind config (Some kind.Open) arguments = with_number link_of step.Open arguments
step_of_kind config (Some kind.Send) arguments = send_of arguments
step_of_kind config (Some kind.End) arguments = with_number link_of step.End arguments
step_of_kind config (Some kind.Room) arguments = room_of arguments
step_of_kind config (Some kind.Tick) arguments = tick_of config arguments
step_of_kind config (Some kind.Ring) arguments = line_step_of kind.Ring config arguments
step_of_kind config (Some kind.Loop) arguments = line_step_of kind.Loop config arguments
step_of_kind config (Some kind.Digit) arguments = line_step_of kind.Digit config arguments
step_of_kind config (Some kind.FailRead) arguments = with_number link_of step.FailRead arguments
step_of_kind config (Some kind.FailWrite) arguments = with_number link_of step.FailWrite arguments
step_of_kind config (Some kind.FailCapture) arguments = with_number (device_number config) step.FailCapture arguments
step_of_kind config (Some kind.FailEmit) arguments = with_number (device_number config) step.FailEmit arguments
step_of_kind config (Some kind.FailHook) arguments = with_number (line_number config) step.FailHook arguments
step_of_kind config (Some kind.Idle) arguments = idle_of arguments

-- the step that the words of a line state, with these devices
abbrev pub step_of : List DeviceSpec → List (List ℕ) → Option Step
step_of config [] = None
step_of config (name ∷ arguments) = step_of_kind config (line_kind_of name) arguments
