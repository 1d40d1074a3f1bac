-- The values of the parts of a line, once they are read.
use Rattle.std.specs.Prelude.{string_bytes}
use Rattle.af_world.specs.declared.lifecycle.ToldKind.{ToldKind}
use Rattle.af_world.specs.Kinds.{silence, two_files, its_own_sound, child_program, card_program}
use Rattle.af_config.specs.declared.device.OwnedKind.{OwnedKind}
use Rattle.af_config.specs.declared.device.OwnedKind.TheVariants as held
use Rattle.af_config.specs.declared.device.ConfiguredDevice.{ConfiguredDevice}
use Rattle.af_config.specs.declared.device.Ending as kept
use Rattle.af_config.specs.declared.line_program.OwnedLineProgram.{OwnedLineProgram}
use Rattle.af_config.specs.Stating.{Configured, EndingState, LineProgram}

-- the backend of a device
abbrev pub told_owned_kind : OwnedKind → ToldKind
told_owned_kind held.Silent = silence
told_owned_kind (held.Files input output) = two_files (string_bytes input) (string_bytes output)
told_owned_kind held.Loop = its_own_sound
told_owned_kind (held.Codec restarts words) = child_program restarts words
told_owned_kind (held.Card card restarts words) = card_program card restarts words

-- a device with it
abbrev pub told_device : ConfiguredDevice → Configured
told_device device = record { spec = device.spec; kind = told_owned_kind device.kind }

-- the end of a device line
abbrev pub stated_ending : kept.Ending → EndingState
stated_ending stated = record { line = stated.line; kind = told_owned_kind stated.kind }

-- the program of a telephone line
abbrev pub owned_program : OwnedLineProgram → LineProgram
owned_program program = record { device = program.device; restarts = program.restarts; words = program.words }
