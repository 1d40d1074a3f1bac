-- How far the start of a server came.
use Rattle.std.specs.Prelude.{◌≡◌, ◌⊎◌, ℕ, ◌<◌, List, [], ◌∷◌, ◌++◌, length, take, slice_get}
use Rattle.std.specs.declared.option.Option.{Option}
use Rattle.std.specs.declared.option.Option.TheVariants.{Some}
use Rattle.std.specs.declared.result.Result.TheVariants.{Ok}
use Rattle.af_limits.specs.Limits.{longest_config}
use Rattle.af_world.specs.declared.lifecycle.Lifecycle.{Lifecycle}
use Rattle.af_world.specs.declared.lifecycle.Lifecycle.TheVariants as noted
use Rattle.af_io.specs.Observed.{Appended}
use Rattle.af_io.specs.Flow.{ConsumedWhole}
use Rattle.af_config.specs.Stating.{Settings, LineProgram}
use Rattle.af_config.specs.Configuration.{config_of}
use Rattle.afd_serve.specs.declared.live.LiveEnd.{LiveEnd}
use Rattle.afd_serve.specs.declared.live.LiveEnd.TheVariants as end
use Rattle.afd_serve.specs.Serving.{all_attached, all_lines, start_entries}

-- all that the source gave is this configuration
pub record IsReadFrom (left left' : Option (List ℕ)) (settings : Settings) : Type 0 where
  pub text : List ℕ
  pub read : ConsumedWhole longest_config left left' text
  pub states : config_of text ≡ Ok settings

-- why no configuration was read
abbrev pub IsReadEnd : LiveEnd → Type 0
IsReadEnd end.ReadFault = Unit {0}
IsReadEnd end.TooLong = Unit {0}
IsReadEnd (end.ConfigFault line) = Unit {0}
IsReadEnd end.OutOfMemory = Unit {0}
IsReadEnd _ = ⊥

-- a list grew by a prefix of what was to be added
pub record AppendedInPart (all : List Lifecycle) (before after : Option (List Lifecycle)) : Type 0 where
  pub front : List Lifecycle
  pub rest : List Lifecycle
  pub whole : all ≡ front ++ rest
  pub appended : Appended before front after

-- the devices below this one were attached
abbrev pub IsBelow : ℕ → Settings → List Lifecycle → Type 0
IsBelow d settings entries = entries ≡ take d (all_attached settings)

-- all devices were attached, and the programs of telephone lines that are stated before the one for the line of this device
pub record IsBeforeLine (d : ℕ) (settings : Settings) (entries : List Lifecycle) : Type 0 where
  pub number : ℕ
  pub program : LineProgram
  pub stated : slice_get settings.phones number ≡ Some program
  pub of_device : program.device ≡ d
  pub entries_are : entries ≡ all_attached settings ++ take number (all_lines settings)

-- the attach of this device, or that of the program of its line, failed, after exactly those that come before it
pub record AttachFailed (d : ℕ) (front : List Lifecycle) (settings : Settings)
    (lifecycle lifecycle' : Option (List Lifecycle)) : Type 0 where
  pub is_device : d < length settings.config
  pub before : List Lifecycle
  pub cause : IsBelow d settings before ⊎ IsBeforeLine d settings before
  pub appended : Appended lifecycle (front ++ before) lifecycle'

-- exactly the devices below the one whose attach failed were attached, or some if memory ran out
abbrev pub DevicesUntil : LiveEnd → Settings → Option (List Lifecycle) → Option (List Lifecycle) → Type 0
DevicesUntil (end.AttachFault d) settings lifecycle lifecycle' = (d < length settings.config)
    × Appended lifecycle (take d (all_attached settings)) lifecycle'
DevicesUntil end.OutOfMemory settings lifecycle lifecycle' = AppendedInPart (all_attached settings) lifecycle lifecycle'
DevicesUntil _ settings lifecycle lifecycle' = ⊥

-- exactly the programs of lines before the one that failed were attached, or some if memory ran out
pub record LineFailed (d : ℕ) (settings : Settings) (lifecycle lifecycle' : Option (List Lifecycle)) : Type 0 where
  pub is_device : d < length settings.config
  pub number : ℕ
  pub program : LineProgram
  pub stated : slice_get settings.phones number ≡ Some program
  pub of_device : program.device ≡ d
  pub appended : Appended lifecycle (take number (all_lines settings)) lifecycle'

abbrev pub LinesUntil : LiveEnd → Settings → Option (List Lifecycle) → Option (List Lifecycle) → Type 0
LinesUntil (end.AttachFault d) settings lifecycle lifecycle' = LineFailed d settings lifecycle lifecycle'
LinesUntil end.OutOfMemory settings lifecycle lifecycle' = AppendedInPart (all_lines settings) lifecycle lifecycle'
LinesUntil _ settings lifecycle lifecycle' = ⊥

-- the same for devices, and then for the programs of lines
abbrev pub AttachedUntil : LiveEnd → Settings → Option (List Lifecycle) → Option (List Lifecycle) → Type 0
AttachedUntil (end.AttachFault d) settings lifecycle lifecycle' = AttachFailed d [] settings lifecycle lifecycle'
AttachedUntil end.OutOfMemory settings lifecycle lifecycle' =
    AppendedInPart (all_attached settings ++ all_lines settings) lifecycle lifecycle'
AttachedUntil _ settings lifecycle lifecycle' = ⊥

-- the same after a listen, which may have failed
abbrev pub StartedUntil : LiveEnd → List ℕ → Settings → Option (List Lifecycle) → Option (List Lifecycle) → Type 0
StartedUntil end.ListenFault address settings lifecycle lifecycle' = Appended lifecycle [] lifecycle'
StartedUntil (end.AttachFault d) address settings lifecycle lifecycle' =
    AttachFailed d (noted.Listened address ∷ []) settings lifecycle lifecycle'
StartedUntil end.OutOfMemory address settings lifecycle lifecycle' =
    AppendedInPart (start_entries address settings) lifecycle lifecycle'
StartedUntil _ address settings lifecycle lifecycle' = ⊥
