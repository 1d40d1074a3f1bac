-- A configuration that is read line by line.
use Rattle.std.specs.Prelude.{◌≡◌, ℕ, suc, ◌+◌, ◌≤◌, nat_lt, Bool, not, IsTrue, ◌||◌, List, [], ◌∷◌, ◌++◌, length, All, Option, Some, None, option_map, if◌then◌else◌}
use Rattle.af_limits.specs.Limits.{most_devices}
use Rattle.af_sample.specs.Channels.{IsChannelCount}
use Rattle.af_sample.specs.Rates.{IsListedRate}
use Rattle.af_text.specs.Lines.{words, is_nil}
use Rattle.af_world.specs.declared.script.DeviceSpec.{DeviceSpec}
use Rattle.af_world.specs.Outside.{spec_has_line}
use Rattle.af_config.specs.Stating.{Settings, Configured, LineProgram, has_codec, has_program, is_phone_line}
use Rattle.af_config.specs.Configuration.{is_idle, placed_after, program_after}

-- the configuration so far with one more device
abbrev pub with_configured : Settings → Configured → Settings
with_configured s device = record s { config = s.config ++ device.spec ∷ []; kinds = s.kinds ++ device.kind ∷ [] }

-- the configuration so far with one more program of a telephone line
abbrev pub with_program : Settings → LineProgram → Settings
with_program s program = record s { phones = s.phones ++ program ∷ [] }

-- the configuration so far with the device that a further line states, if it is allowed there
abbrev pub with_device_line : Settings → List ℕ → Option Settings
with_device_line s line =
    if nat_lt (length s.config) most_devices then option_map (with_configured s) (placed_after (has_codec s.kinds) line) else None

-- the configuration so far with the program that a further line states, if it is allowed there
abbrev pub with_phone_line : Settings → List ℕ → Option Settings
with_phone_line s line = option_map (with_program s) (program_after s.config s.phones line)

-- whether a further line is to state a program: it is a phone line, or comes after one
abbrev pub expects_program : Settings → List ℕ → Bool
expects_program s line = not (is_nil s.phones) || is_phone_line (words line)

-- the configuration so far with what a further line states, if it is allowed there
abbrev pub with_config_line : Settings → List ℕ → Option Settings
with_config_line s line =
    if is_idle line then Some s
    else if expects_program s line then with_phone_line s line
    else with_device_line s line

-- a configuration has at least one device
abbrev pub lacks_configured : Settings → Bool
lacks_configured s = is_nil s.config

-- how many of these devices have one of these programs; the first of the devices has this number
abbrev pub programmed_count : List LineProgram → ℕ → List DeviceSpec → ℕ
programmed_count programs number [] = 0
programmed_count programs number (device ∷ devices) =
    (if has_program programs number then 1 else 0) + programmed_count programs (suc number) devices

-- There are no more devices than allowed, of listed rates and of one or two channels, and as many kinds. Each program is of a
-- device with a telephone line, and no two are of one.
pub record IsSound (s : Settings) : Type 0 where
  pub few : length s.config ≤ most_devices
  pub kinds : length s.kinds ≡ length s.config
  pub rates : All (λ device. IsListedRate device.rate) s.config
  pub channels : All (λ device. IsChannelCount device.channels) s.config
  pub lines : All (λ program. IsTrue (spec_has_line s.config program.device)) s.phones
  pub apart : length s.phones ≡ programmed_count s.phones 0 s.config
