-- What the words of a line of a configuration state: a device and its backend, or the program of a telephone line.
use Rattle.std.specs.Prelude.{ℕ, ◌-◌, ◌^◌, Bool, true, false, not, nat_le, ◌==◌, ◌&&◌, ◌||◌, List, [], ◌∷◌, length, fold, codes, bytes_eq, Option, Some, None, option_map, option_and_then, if◌then◌else◌}
use Rattle.af_limits.specs.Limits.{most_devices}
use Rattle.af_sample.specs.declared.sample_type.SampleType.{SampleType}
use Rattle.af_text.specs.Words.{number_within, only_if}
use Rattle.af_text.specs.Sound.{type_of, rate_of, channels_stated, after_channels}
use Rattle.af_world.specs.declared.card_kind.CardKind.{CardKind}
use Rattle.af_world.specs.declared.card_kind.CardKind.TheVariants as card_kind
use Rattle.af_world.specs.declared.script.DeviceSpec.{DeviceSpec}
use Rattle.af_world.specs.declared.lifecycle.ToldKind.{ToldKind}
use Rattle.af_world.specs.declared.lifecycle.ToldKind.TheVariants as told
use Rattle.af_world.specs.Outside.{spec_has_line}
use Rattle.af_world.specs.Kinds.{silence, two_files, its_own_sound, child_program, card_program, most_card_restarts}

-- the program that is the exchange of a telephone line: the device of the line, how often it is started again, and its command
-- line
pub record LineProgram : Type 0 where
  pub device : ℕ
  pub restarts : ℕ
  pub words : List (List ℕ)

-- the devices of a server, the backend of each, in the same order, and the programs of their telephone lines
pub record Settings : Type 0 where
  pub config : List DeviceSpec
  pub kinds : List ToldKind
  pub phones : List LineProgram

-- a device, and its backend
pub record Configured : Type 0 where
  pub spec : DeviceSpec
  pub kind : ToldKind

-- the end of a device line: whether it states a telephone line, and the backend of the device
pub record EndingState : Type 0 where
  pub line : Bool
  pub kind : ToldKind

-- whether a device has the codec
abbrev pub is_codec : ToldKind → Bool
is_codec told.Silent = false
is_codec (told.Files input output) = false
is_codec told.Loop = false
is_codec (told.Codec restarts words) = true
is_codec (told.Card kind restarts words) = false

-- whether one of these has it
abbrev pub has_codec : List ToldKind → Bool
has_codec kinds = fold (λ has kind. has || is_codec kind) false kinds

-- no word comes after `silent`
abbrev pub silent_of : List (List ℕ) → Option ToldKind
silent_of [] = Some silence
silent_of (name ∷ names) = None

-- and none after `loop`
abbrev pub loop_of : List (List ℕ) → Option ToldKind
loop_of [] = Some its_own_sound
loop_of (name ∷ names) = None

-- the names of two files come after `files`
abbrev pub files_of : List (List ℕ) → Option ToldKind
files_of (input ∷ output ∷ []) = Some (two_files input output)
files_of _ = None

-- how many bytes a word of a program has at most, and one of the program of a codec
abbrev pub longest_word : ℕ
longest_word = 255

abbrev pub longest_codec_word : ℕ
longest_codec_word = 64

-- these words have at most so many bytes each
abbrev pub are_short : ℕ → List (List ℕ) → Bool
are_short longest [] = true
are_short longest (word ∷ words) = nat_le (length word) longest && are_short longest words

-- a command line: 1 to 8 words of at most so many bytes each
abbrev pub is_command_line : ℕ → List (List ℕ) → Bool
is_command_line longest words = nat_le 1 (length words) && nat_le (length words) 8 && are_short longest words

-- how often a program is started again, at most so many times, and its command line, of words of at most so many bytes
abbrev pub program_of : {A : Type 0} → (ℕ → List (List ℕ) → A) → ℕ → ℕ → List (List ℕ) → Option A
program_of made most longest [] = None
program_of made most longest (restarts ∷ words) =
    option_and_then (λ n. option_map (made n) (only_if (is_command_line longest) words)) (number_within 0 most restarts)

-- they come after `codec`
abbrev pub codec_of : List (List ℕ) → Option ToldKind
codec_of words = program_of child_program 100 longest_codec_word words

-- and after `speaker`, `microphone`, `card` or `encoder`
abbrev pub card_of : CardKind → List (List ℕ) → Option ToldKind
card_of kind words = program_of (card_program kind) most_card_restarts longest_word words

-- `silent`, `loop`, `files INPUT OUTPUT`, or one of `codec`, `speaker`, `microphone`, `card` and `encoder` with
-- `RESTARTS WORD ..`
abbrev pub kind_of : List (List ℕ) → Option ToldKind
kind_of [] = None
kind_of (word ∷ names) =
    if bytes_eq word (codes "silent") then silent_of names
    else if bytes_eq word (codes "loop") then loop_of names
    else if bytes_eq word (codes "files") then files_of names
    else if bytes_eq word (codes "codec") then codec_of names
    else if bytes_eq word (codes "speaker") then card_of card_kind.Speaker names
    else if bytes_eq word (codes "microphone") then card_of card_kind.Microphone names
    else if bytes_eq word (codes "card") then card_of card_kind.Card names
    else if bytes_eq word (codes "encoder") then card_of card_kind.Encoder names
    else None

-- with a telephone line, or with none
abbrev pub ending_with : Bool → ToldKind → EndingState
ending_with line kind = record { line = line; kind = kind }

-- `KIND`, or `line KIND`
abbrev pub ending_of : List (List ℕ) → Option EndingState
ending_of [] = None
ending_of (word ∷ rest) =
    if bytes_eq word (codes "line") then option_map (ending_with true) (kind_of rest)
    else option_map (ending_with false) (kind_of (word ∷ rest))

-- a device of this type and rate, whose time begins here, with so many channels
abbrev pub configured_at : SampleType → ℕ → ℕ → ℕ → DeviceSpec
configured_at ty rate start channels = record { ty = ty; rate = rate; start = start; channels = channels; line = false }

-- a device with this ending
abbrev pub placed_at : DeviceSpec → EndingState → Configured
placed_at device ending = record { spec = record device { line = ending.line }; kind = ending.kind }

-- the device of `device TYPE RATE START`, then `stereo` if it has two channels, then `line` if it has a telephone line, then its
-- backend; the words are those after `device`
abbrev pub configured_with : List (List ℕ) → Option Configured
configured_with (ty ∷ rate ∷ start ∷ rest) =
    option_and_then
    (λ t. option_and_then
    (λ r. option_and_then
    (λ s. option_map (placed_at (configured_at t r s (channels_stated rest))) (ending_of (after_channels rest)))
    (number_within 0 (2 ^ 32 - 1) start)) (rate_of rate)) (type_of ty)
configured_with _ = None

-- the device that the words of a line state
abbrev pub configured_of : List (List ℕ) → Option Configured
configured_of [] = None
configured_of (name ∷ arguments) = if bytes_eq name (codes "device") then configured_with arguments else None

-- Programs of telephone lines

-- the program of the telephone line of a device
abbrev pub line_program : ℕ → ℕ → List (List ℕ) → LineProgram
line_program device restarts words = record { device = device; restarts = restarts; words = words }

-- the program of `DEVICE RESTARTS WORD ..`
abbrev pub line_program_with : List (List ℕ) → Option LineProgram
line_program_with [] = None
line_program_with (device ∷ words) =
    option_and_then (λ d. program_of (line_program d) most_card_restarts longest_word words)
    (number_within 0 (most_devices - 1) device)

-- whether the words of a line begin with `phone`
abbrev pub is_phone_line : List (List ℕ) → Bool
is_phone_line [] = false
is_phone_line (name ∷ arguments) = bytes_eq name (codes "phone")

-- the program that the words of a phone line state, whichever devices there are
abbrev pub line_program_of : List (List ℕ) → Option LineProgram
line_program_of [] = None
line_program_of (name ∷ arguments) = if bytes_eq name (codes "phone") then line_program_with arguments else None

-- whether one of these programs is of this device
abbrev pub has_program : List LineProgram → ℕ → Bool
has_program [] device = false
has_program (program ∷ programs) device = program.device == device || has_program programs device

-- whether a device has a telephone line, and none of these programs is for it
abbrev pub has_free_line : List DeviceSpec → List LineProgram → ℕ → Bool
has_free_line config programs device = spec_has_line config device && not (has_program programs device)
