-- How the server ends: what was read, what was asked of the world, and what of that is observable.
use Rattle.std.specs.Prelude.{◌≡◌, ◌≢◌, ℕ, ◌<◌, ◌≤◌, ◌⊎◌, ⊤, Bool, true, false, List, [], ◌∷◌, ◌++◌, length, Ok, Err}
use Rattle.std.specs.declared.option.Option.{Option}
use Rattle.std.specs.declared.option.Option.TheVariants.{None, Some}
use Rattle.af_limits.specs.Limits.{longest_config}
use Rattle.af_world.specs.declared.happening.Wake.TheVariants as wake
use Rattle.af_world.specs.declared.lifecycle.Lifecycle.{Lifecycle}
use Rattle.af_world.specs.declared.lifecycle.Lifecycle.TheVariants as noted
use Rattle.af_io.specs.Observed.{CountsFault, Appended, FaultCounted, Unchanged}
use Rattle.af_world.specs.Log.{Log}
use Rattle.af_io.specs.Flow.{ConsumedWhole, ConsumedWithin, ConsumedTooMuch}
use Rattle.af_text.specs.Reading.{IsGoodText}
use Rattle.af_config.specs.Stating.{Settings}
use Rattle.af_config.specs.Configuration.{config_of}
use Rattle.af_model.specs.State.{State}
use Rattle.af_model.specs.More.{has_more}
use Rattle.afd_serve.specs.declared.live.LiveEnd.{LiveEnd}
use Rattle.afd_serve.specs.declared.live.LiveEnd.TheVariants as end
use Rattle.afd_serve.specs.declared.words.Waits.{Waits}
use Rattle.afd_serve.specs.declared.words.Waits.TheVariants as waits
use Rattle.afd_serve.specs.Words.{ServeJob, serve_job_of}
use Rattle.afd_serve.specs.Serving.{WaitMade, Served, start_entries}
use Rattle.afd_serve.specs.Starting.{AttachFailed}

-- all that the source gave is no configuration, and this is the first line that may not stand where it stands
pub record IsFaultyConfig (line : ℕ) (left left' : Option (List ℕ)) : Type 0 where
  pub text : List ℕ
  pub read : ConsumedWhole longest_config left left' text
  pub fault : config_of text ≡ Err line

-- What the source gave, by the end: TooLong exactly if more came than a configuration may have.
pub record ConfigReadAs (ends : LiveEnd → Type 0) (left left' : Option (List ℕ)) : Type 0 where
  pub long : ends end.TooLong → ConsumedTooMuch longest_config left left'
  pub within : ¬ ends end.TooLong → ConsumedWithin longest_config left left'
  pub fault : (line : ℕ) → ends (end.ConfigFault line) → IsFaultyConfig line left left'

-- the arguments ask for a job, and all that the source gave is a configuration
pub record IsTold (words : List (List ℕ)) (left left' : Option (List ℕ)) : Type 0 where
  pub job : ServeJob
  pub asks : serve_job_of words ≡ Some job
  pub text : List ℕ
  pub read : ConsumedWhole longest_config left left' text
  pub settings : Settings
  pub states : config_of text ≡ Ok settings

-- the ends at which the world was not called
abbrev pub calls_nothing : LiveEnd → Bool
calls_nothing end.Usage = true
calls_nothing end.ReadFault = true
calls_nothing end.TooLong = true
calls_nothing (end.ConfigFault line) = true
calls_nothing _ = false

-- the ends that come from the first wait on
abbrev pub comes_to_wait : LiveEnd → Bool
comes_to_wait end.Done = true
comes_to_wait end.WaitFault = true
comes_to_wait end.WaitsSpent = true
comes_to_wait _ = false

-- What an early end leaves alone: the source if the arguments ask for nothing, the world if there is no configuration, and the
-- log if no wait came.
pub record ServeLeavesAlone {S W : Type 0} (log : W → Option Log) (ended : LiveEnd) (before after : S) (world world' : W) : Type 0
  where
    pub unread : ended ≡ end.Usage → after ≡ before
    pub uncalled : calls_nothing ended ≡ true → world' ≡ world
    pub unserved : comes_to_wait ended ≡ false → Unchanged (log world) (log world')

-- No count of a world's faults falls. If a fault of the world ended the server, its count has risen.
pub record CountsFaults {W : Type 0} (link_faults device_faults listen_faults wait_faults : W → ℕ) (ends : LiveEnd → Type 0)
    (before after : W) : Type 0 where
  pub links : link_faults before ≤ link_faults after
  pub devices : device_faults before ≤ device_faults after
  pub attach : (d : ℕ) → ends (end.AttachFault d) → FaultCounted (device_faults before) (device_faults after)
  pub listen : CountsFault (ends end.ListenFault) (listen_faults before) (listen_faults after)
  pub wait : CountsFault (ends end.WaitFault) (wait_faults before) (wait_faults after)

-- so many waits are fewer than were asked for
abbrev pub IsFewer : ℕ → Waits → Type 0
IsFewer n (waits.Number most) = n < most
IsFewer n waits.Forever = ⊤

-- so many waits are all that were asked for
abbrev pub IsAll : ℕ → Waits → Type 0
IsAll n (waits.Number most) = n ≡ most
IsAll n waits.Forever = ⊥

-- how many waits had their turn, of those that were asked for: all if they are spent, and fewer if one gave Stop or failed
abbrev pub IsCount : LiveEnd → ℕ → Waits → Type 0
IsCount end.Done n most = IsFewer n most
IsCount end.WaitFault n most = IsFewer n most
IsCount end.WaitsSpent n most = IsAll n most
IsCount _ n most = ⊤

-- the entry of a last wait that gave Stop, and had no turn
abbrev pub last_entry : LiveEnd → State → List Lifecycle
last_entry end.Done s = noted.Waited (has_more s) wake.Stop ∷ []
last_entry _ s = []

-- A server that came to its first wait. It listened at the stated address, attached each device that the source states, and then
-- waited and took turns, as often as this end says.
pub record ServerRan (end : LiveEnd) (words : List (List ℕ)) (left left' : Option (List ℕ)) (log log' : Option Log)
    (lifecycle lifecycle' : Option (List Lifecycle)) : Type 0 where
  pub told : IsTold words left left'
  pub waits : List WaitMade
  pub count : IsCount end (length waits) told.job.waits
  pub served : Served told.settings.config (start_entries told.job.address told.settings) (last_entry end) waits log log'
      lifecycle lifecycle'

-- nothing was done: the listen at the stated address failed
pub record Unheard (words : List (List ℕ)) (left left' : Option (List ℕ)) (lifecycle lifecycle' : Option (List Lifecycle)) : Type
    0 where
  pub told : IsTold words left left'
  pub appended : Appended lifecycle [] lifecycle'

-- The attach of this device, or that of the program of its line, failed. Before it came a listen and exactly the earlier
-- attaches: those of the devices below this one, or of all devices and of the programs of lines that are stated before.
pub record FailedAt (d : ℕ) (words : List (List ℕ)) (left left' : Option (List ℕ))
    (lifecycle lifecycle' : Option (List Lifecycle)) : Type 0 where
  pub told : IsTold words left left'
  pub failed : AttachFailed d (noted.Listened told.job.address ∷ []) told.settings lifecycle lifecycle'

-- a prefix of a whole start was made
pub record StartedInPart (words : List (List ℕ)) (left left' : Option (List ℕ))
    (lifecycle lifecycle' : Option (List Lifecycle)) : Type 0 where
  pub told : IsTold words left left'
  pub front : List Lifecycle
  pub rest : List Lifecycle
  pub whole : start_entries told.job.address told.settings ≡ front ++ rest
  pub appended : Appended lifecycle front lifecycle'

-- What was asked of the world if no wait came: nothing if the listen failed; the listen and the attaches before the one that
-- failed; and if memory ran out, a part of the whole, unless the world was not called.
pub record EndsBeforeWaits {W : Type 0} (lifecycle : W → Option (List Lifecycle)) (ended : LiveEnd) (words : List (List ℕ))
    (left left' : Option (List ℕ)) (world world' : W) : Type 0 where
  pub unlistened : ended ≡ end.ListenFault → Unheard words left left' (lifecycle world) (lifecycle world')
  pub attached : (d : ℕ) → ended ≡ end.AttachFault d → FailedAt d words left left' (lifecycle world) (lifecycle world')
  pub memory : ended ≡ end.OutOfMemory → (world' ≡ world) ⊎ StartedInPart words left left' (lifecycle world) (lifecycle world')

-- the arguments ask for a job, the source is observable before and after, and its bytes are a configuration
pub record IsGoodConfig (words : List (List ℕ)) (left left' : Option (List ℕ)) : Type 0 where
  pub asks : serve_job_of words ≢ None
  pub text : IsGoodText config_of longest_config left left'

-- what a good configuration can end in: Stop or all waits came, memory ran out, or the attach of a device failed
abbrev pub EndsWell : LiveEnd → Type 0
EndsWell end.Done = ⊤
EndsWell end.WaitsSpent = ⊤
EndsWell end.OutOfMemory = ⊤
EndsWell (end.AttachFault device) = ⊤
EndsWell _ = ⊥

-- the exit status of an end
abbrev pub live_status : LiveEnd → ℕ
live_status end.Done = 0
live_status end.Usage = 2
live_status (end.ConfigFault line) = 3
live_status end.TooLong = 4
live_status end.ReadFault = 5
live_status end.OutOfMemory = 7
live_status end.ListenFault = 8
live_status (end.AttachFault device) = 9
live_status end.WaitFault = 10
live_status end.WaitsSpent = 11
