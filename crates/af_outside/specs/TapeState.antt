-- A tape, as contracts see it, and what its calls and its waits lead to.
use Rattle.std.specs.Prelude.{◌≡◌, ℕ, ◌≤◌, Bool, List, [], ◌∷◌, ◌++◌, drop, if◌then◌else◌}
use Rattle.std.specs.declared.option.Option.{Option}
use Rattle.std.specs.declared.option.Option.TheVariants.{None, Some}
use Rattle.af_world.specs.declared.happening.Wake.{Wake}
use Rattle.af_world.specs.declared.happening.Wake.TheVariants as wake
use Rattle.af_world.specs.declared.script.DeviceSpec.{DeviceSpec}
use Rattle.af_world.specs.declared.script.Step.{Step}
use Rattle.af_world.specs.declared.live.Waited.{Waited}
use Rattle.af_world.specs.declared.live.Waited.TheVariants as waited
use Rattle.af_world.specs.declared.lifecycle.Lifecycle.{Lifecycle}
use Rattle.af_outside.specs.declared.lifecycle_faults.LifecycleFaults.{LifecycleFaults}
use Rattle.af_io.specs.Observed.{faults_after}
use Rattle.af_world.specs.Log.{Log}
use Rattle.af_world.specs.Outside.{Outside, outside_start, outside_after_step, wake_of, outside_after_log}
use Rattle.af_outside.specs.LifecycleState.{LifecycleState, lifecycle_start, no_faults, told_beside, is_stated}

-- a tape: its devices, the steps that are left, its log, if it is observable, the outside that it is, how often a link and a
-- device have failed, and what it keeps of listens, attaches and waits
pub record TapeState : Type 0 where
  pub config : List DeviceSpec
  pub left : List Step
  pub log : Option Log
  pub outside : Outside
  pub link_faults : ℕ
  pub device_faults : ℕ
  pub lifecycle : LifecycleState

-- a tape as it is made
abbrev pub new_tape : List DeviceSpec → List Step → LifecycleFaults → TapeState
new_tape config steps faults =
    record {
      config = config;
      left = steps;
      log = Some [];
      outside = outside_start config;
      link_faults = 0;
      device_faults = 0;
      lifecycle = lifecycle_start faults;
    }

-- a tape as it is made, on which no listen, attach or wait fails
abbrev pub faultless_tape : List DeviceSpec → List Step → TapeState
faultless_tape config steps = new_tape config steps no_faults

-- a step is taken exactly if one is left; the wake is that step's
abbrev pub TakesStep : TapeState → List Step → Option Wake → TapeState → Type 0
TakesStep old [] None new = new ≡ old
TakesStep old [] (Some w) new = ⊥
TakesStep old (s ∷ left) None new = ⊥
TakesStep old (s ∷ left) (Some w) new =
    (w ≡ wake_of old.outside s) × (new ≡ record old { left = left; outside = outside_after_step old.outside s })

-- if the log is observable afterwards, it was so before, and grew by a part whose answers lead from one outside to the other
abbrev pub Answered : Option Log → Outside → Option Log → Outside → Type 0
Answered before o None o' = Unit {0}
Answered None o (Some after) o' = ⊥
Answered (Some before) o (Some after) o' = (part : Log) × (after ≡ before ++ part) × (outside_after_log o part ≡ Some o')

-- the server's calls leave a tape's steps alone, and are answered as its script states
pub record TapeLeadsTo (old new : TapeState) : Type 0 where
  pub config : new.config ≡ old.config
  pub left : new.left ≡ old.left
  pub link_faults : old.link_faults ≤ new.link_faults
  pub device_faults : old.device_faults ≤ new.device_faults
  pub lifecycle : new.lifecycle ≡ old.lifecycle
  pub answered : Answered old.log old.outside new.log new.outside

-- what a read or a write, which failed or did not, changes of a tape
abbrev pub ChangedByLink : Bool → TapeState → TapeState → Type 0
ChangedByLink failed old new =
    new ≡ record old { log = new.log; outside = new.outside; link_faults = faults_after old.link_faults failed }

-- what a capture, an emit or a hook, which failed or did not, changes of a tape
abbrev pub ChangedByDevice : Bool → TapeState → TapeState → Type 0
ChangedByDevice failed old new =
    new ≡ record old { log = new.log; outside = new.outside; device_faults = faults_after old.device_faults failed }

-- what an attach, which was refused or not, changes of a tape
abbrev pub ChangedByAttach : Bool → TapeState → TapeState → Type 0
ChangedByAttach refused old new =
    new
    ≡ record old {
      log = new.log;
      device_faults = faults_after old.device_faults refused;
      lifecycle = record old.lifecycle { entries = new.lifecycle.entries };
    }

-- no count of faults falls
pub record NoCountFalls (old new : TapeState) : Type 0 where
  pub link_count : old.link_faults ≤ new.link_faults
  pub device_count : old.device_faults ≤ new.device_faults
  pub listen_count : old.lifecycle.listen_faults ≤ new.lifecycle.listen_faults
  pub wait_count : old.lifecycle.wait_faults ≤ new.lifecycle.wait_faults

-- the lifecycle log, which is observable if the log is
abbrev pub lifecycle_told : TapeState → Option (List Lifecycle)
lifecycle_told tape = told_beside tape.log tape.lifecycle.entries

-- whether the next wait fails
abbrev pub wait_fails : TapeState → Bool
wait_fails tape = is_stated tape.lifecycle.faults.wait tape.lifecycle.waits

-- the wake of the first step that is left, or Stop if there is none
abbrev pub next_wake : Outside → List Step → Wake
next_wake o [] = wake.Stop
next_wake o (s ∷ left) = wake_of o s

-- the outside after the first of these steps
abbrev pub outside_after : Outside → List Step → Outside
outside_after o [] = o
outside_after o (s ∷ left) = outside_after_step o s

-- what a wait answers
abbrev pub wait_answer : TapeState → Waited
wait_answer tape = if wait_fails tape then waited.Failed else waited.Woke (next_wake tape.outside tape.left)

-- the steps after a wait: one that fails takes none
abbrev pub left_after : TapeState → List Step
left_after tape = if wait_fails tape then tape.left else drop 1 tape.left

-- the outside after a wait
abbrev pub waited_outside : TapeState → Outside
waited_outside tape = if wait_fails tape then tape.outside else outside_after tape.outside tape.left
