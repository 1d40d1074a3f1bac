-- How far a server came that waits and takes turns.
use Rattle.std.specs.Prelude.{◌≡◌, ◌≢◌, Bool, List, [], ◌∷◌, length, true, if◌then◌else◌}
use Rattle.std.specs.declared.option.Option.{Option}
use Rattle.af_world.specs.declared.happening.Wake.{Wake}
use Rattle.af_world.specs.declared.happening.Wake.TheVariants as wake
use Rattle.af_world.specs.declared.lifecycle.Lifecycle.{Lifecycle}
use Rattle.af_world.specs.declared.lifecycle.Lifecycle.TheVariants as noted
use Rattle.af_world.specs.declared.script.DeviceSpec.{DeviceSpec}
use Rattle.af_world.specs.Log.{Log}
use Rattle.af_io.specs.Observed.{Appended}
use Rattle.af_model.specs.State.{State}
use Rattle.af_model.specs.Turn.{fits}
use Rattle.af_model.specs.More.{has_more}
use Rattle.af_core.specs.Stands.{Kept, Stands, Turns, outline_of}
use Rattle.afd_serve.specs.declared.live.LiveEnd.{LiveEnd}
use Rattle.afd_serve.specs.declared.live.LiveEnd.TheVariants as end
use Rattle.afd_serve.specs.declared.words.Waits.{Waits}
use Rattle.afd_serve.specs.Serving.{WaitMade, Served}
use Rattle.afd_serve.specs.Ends.{IsCount, comes_to_wait, last_entry}

-- it was asked with whether there was more to do
abbrev pub AsksRightly : Kept → Bool → Type 0
AsksRightly kept more = (s : State) → Stands kept s → more ≡ has_more s

-- a wait gave a wake other than Stop, and the core took its turn, or that of Idle if the wake did not fit
pub record TookTurn (kept kept' : Kept) (log log' : Option Log) (lifecycle lifecycle' : Option (List Lifecycle)) : Type 0 where
  pub more : Bool
  pub gave : Wake
  pub asked : AsksRightly kept more
  pub goes_on : gave ≢ wake.Stop
  pub told : Appended lifecycle (noted.Waited more gave ∷ []) lifecycle'
  pub turns : Turns log log' (if fits (outline_of kept) gave then gave else wake.Idle) kept kept'

-- a wait gave Stop
pub record GotStop (kept : Kept) (lifecycle lifecycle' : Option (List Lifecycle)) : Type 0 where
  pub more : Bool
  pub asked : AsksRightly kept more
  pub told : Appended lifecycle (noted.Waited more wake.Stop ∷ []) lifecycle'

-- a wait gave this end: it gave Stop, or it failed and told nothing
abbrev pub WaitEnds : LiveEnd → Kept → Option (List Lifecycle) → Option (List Lifecycle) → Type 0
WaitEnds end.Done kept lifecycle lifecycle' = GotStop kept lifecycle lifecycle'
WaitEnds end.WaitFault kept lifecycle lifecycle' = Appended lifecycle [] lifecycle'
WaitEnds _ kept lifecycle lifecycle' = ⊥

-- it waited as often as this end says, of the waits that were asked for
pub record ServedUntil (config : List DeviceSpec) (end : LiveEnd) (most : Waits) (log log' : Option Log)
    (lifecycle lifecycle' : Option (List Lifecycle)) : Type 0 where
  pub is_end : comes_to_wait end ≡ true
  pub asked : List WaitMade
  pub count : IsCount end (length asked) most
  pub served : Served config [] (last_entry end) asked log log' lifecycle lifecycle'
