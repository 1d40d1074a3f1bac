-- What each call of a tape does: it is answered as the script states, and changes what is named here.
use Rattle.std.specs.Prelude.{◌≡◌, ◌≢◌, ◌↔◌, ℕ, Bool, true, false, slice_get, if◌then◌else◌}
use Rattle.std.specs.declared.option.Option.TheVariants.{Some}
use Rattle.af_io.specs.Observed.{faults_after, next_count}
use Rattle.af_world.specs.declared.happening.Happening.{Happening}
use Rattle.af_world.specs.declared.script.DeviceSpec.{DeviceSpec}
use Rattle.af_world.specs.declared.live.Ready.{Ready}
use Rattle.af_world.specs.declared.live.Ready.TheVariants as ready
use Rattle.af_world.specs.declared.live.Waited.{Waited}
use Rattle.af_world.specs.Outside.{outside_after_happening, spec_has_line}
use Rattle.af_outside.specs.LifecycleState.{is_stated, was_refused}
use Rattle.af_outside.specs.TapeState.{TapeState, ChangedByAttach, ChangedByDevice, ChangedByLink, left_after, wait_answer, wait_fails, waited_outside}

-- a read of a link, or a write to it, which failed or did not
pub record LinkAnswers (h : Happening) (failed : Bool) (old new : TapeState) : Type 0 where
  pub answered : outside_after_happening old.outside h ≡ Some new.outside
  pub rest : ChangedByLink failed old new

-- the close of a link
pub record CloseAnswers (h : Happening) (old new : TapeState) : Type 0 where
  pub answered : outside_after_happening old.outside h ≡ Some new.outside
  pub rest : new ≡ record old { log = new.log; outside = new.outside }

-- a capture, an emit or a hook call of a device, which failed or did not
pub record DeviceAnswers (h : Happening) (failed : Bool) (old new : TapeState) : Type 0 where
  pub answered : outside_after_happening old.outside h ≡ Some new.outside
  pub rest : ChangedByDevice failed old new

-- a listen fails exactly if that is stated
pub record TapeListens (old : TapeState) (answer : Ready) (new : TapeState) : Type 0 where
  pub answers : answer ≡ (if old.lifecycle.faults.listen then ready.Failed else ready.Done)
  pub rest : new ≡ record old {
    log = new.log;
    lifecycle = record old.lifecycle {
      entries = new.lifecycle.entries;
      listen_faults = faults_after old.lifecycle.listen_faults old.lifecycle.faults.listen;
    };
  }

-- a device is attached exactly if the script has it so, and no fault is stated
pub record TapeAttaches (old : TapeState) (device : ℕ) (spec : DeviceSpec) (answer : Ready) (new : TapeState) : Type 0 where
  pub answers : (answer ≡ ready.Done)
      ↔ ((slice_get old.config device ≡ Some spec) × (is_stated old.lifecycle.faults.attach device ≡ false))
  pub memory : answer ≢ ready.OutOfMemory
  pub rest : ChangedByAttach (was_refused answer) old new

-- a line gets a program exactly if the script has it
pub record TapeAttachesLine (old : TapeState) (device : ℕ) (answer : Ready) (new : TapeState) : Type 0 where
  pub answers : (answer ≡ ready.Done) ↔ (spec_has_line old.config device ≡ true)
  pub memory : answer ≢ ready.OutOfMemory
  pub rest : ChangedByAttach (was_refused answer) old new

-- a wait gives the wake of the next step, or Stop, and fails exactly if that is stated
pub record TapeWaits (old : TapeState) (answer : Waited) (new : TapeState) : Type 0 where
  pub answers : answer ≡ wait_answer old
  pub rest : new ≡ record old {
    left = left_after old;
    log = new.log;
    outside = waited_outside old;
    lifecycle = record old.lifecycle {
      entries = new.lifecycle.entries;
      waits = next_count old.lifecycle.waits;
      wait_faults = faults_after old.lifecycle.wait_faults (wait_fails old);
    };
  }
