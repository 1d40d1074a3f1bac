-- A server that waits and takes turns: what it asks of its waits, which of their wakes it takes, and how the log grows.
use Rattle.std.specs.Prelude.{◌≡◌, ◌≢◌, ℕ, suc, Bool, List, [], ◌∷◌, ◌++◌, map, if◌then◌else◌}
use Rattle.std.specs.declared.option.Option.{Option}
use Rattle.af_world.specs.declared.happening.Happening.TheVariants.{Woke}
use Rattle.af_world.specs.declared.happening.Wake.{Wake}
use Rattle.af_world.specs.declared.happening.Wake.TheVariants as wake
use Rattle.af_world.specs.declared.lifecycle.Lifecycle.{Lifecycle}
use Rattle.af_world.specs.declared.lifecycle.Lifecycle.TheVariants as noted
use Rattle.af_world.specs.declared.script.DeviceSpec.{DeviceSpec}
use Rattle.af_world.specs.declared.lifecycle.ToldKind.{ToldKind}
use Rattle.af_io.specs.Observed.{Appended}
use Rattle.af_world.specs.Log.{Log}
use Rattle.af_config.specs.Stating.{Settings, LineProgram}
use Rattle.af_model.specs.State.{State, opening_state, outline}
use Rattle.af_model.specs.Turn.{IsTurn, fits}
use Rattle.af_model.specs.Run.{wakes, IsRun}
use Rattle.af_model.specs.More.{has_more}
use Rattle.af_isolation.specs.Laws.{KeepsLaws}

-- a wait: whether it was asked with more to do, and the wake that it gave
pub record WaitMade : Type 0 where
  pub more : Bool
  pub wake : Wake

-- its entry in the lifecycle log
abbrev pub entry_of : WaitMade → Lifecycle
entry_of wait = noted.Waited wait.more wait.wake

-- the wake that the core gets: one that does not fit the state becomes Idle
abbrev pub wake_taken_as : State → Wake → Wake
wake_taken_as s w = if fits (outline s) w then w else wake.Idle

-- The wait was asked with whether there was more to do in this state, and did not give Stop. The part is the one turn of its
-- wake, which leads to the next state.
pub record IsTurnOf (s : State) (wait : WaitMade) (part : Log) (next : State) : Type 0 where
  pub asked : wait.more ≡ has_more s
  pub goes_on : wait.wake ≢ wake.Stop
  pub tail : Log
  pub begins : part ≡ Woke (wake_taken_as s wait.wake) ∷ tail
  pub only : wakes tail ≡ 0
  pub is_turn : IsTurn s part next

-- the log begins with such a part
pub record HasTurn (s : State) (wait : WaitMade) (log : Log) : Type 0 where
  pub part : Log
  pub rest : Log
  pub whole : log ≡ part ++ rest
  pub next : State
  pub turn : IsTurnOf s wait part next

-- each of these waits had its turn, from the first state to the last, and the log is these turns
abbrev pub Serves : State → List WaitMade → Log → State → Type 0
Serves s [] log end = (log ≡ []) × (end ≡ s)
Serves s (wait ∷ waits) log end = (turn : HasTurn s wait log) × Serves turn.next waits turn.rest end

-- the entries of devices that are attached in the order of numbers, from this number on
abbrev pub attached_from : ℕ → List DeviceSpec → List ToldKind → List Lifecycle
attached_from d [] kinds = []
attached_from d (spec ∷ config) [] = []
attached_from d (spec ∷ config) (kind ∷ kinds) = noted.Attached d spec kind ∷ attached_from (suc d) config kinds

abbrev pub all_attached : Settings → List Lifecycle
all_attached settings = attached_from 0 settings.config settings.kinds

-- the entries of the programs of telephone lines, in the order in which they are stated
abbrev pub line_entry : LineProgram → Lifecycle
line_entry program = noted.LineAttached program.device program.restarts program.words

abbrev pub all_lines : Settings → List Lifecycle
all_lines settings = map line_entry settings.phones

-- the entries of a whole start: the listen, each device, and the program of each telephone line
abbrev pub start_entries : List ℕ → Settings → List Lifecycle
start_entries address settings = noted.Listened address ∷ (all_attached settings ++ all_lines settings)

-- What a server did with these devices from its opening state on. What was added to the log is a run. The lifecycle log grew by
-- what came before the waits, by the waits, and by what comes after them in the last state. Each wait had its turn. The laws of
-- whole runs hold for the run.
pub record Served (config : List DeviceSpec) (front : List Lifecycle) (last : State → List Lifecycle) (waits : List WaitMade)
    (log log' : Option Log) (lifecycle lifecycle' : Option (List Lifecycle)) : Type 0 where
  pub added : Log
  pub appended : Appended log added log'
  pub end : State
  pub serves : Serves (opening_state config) waits added end
  pub told : Appended lifecycle (front ++ (map entry_of waits ++ last end)) lifecycle'
  pub is_run : IsRun config added
  pub laws : KeepsLaws config added
