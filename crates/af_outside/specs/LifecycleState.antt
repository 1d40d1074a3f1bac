-- What a tape keeps of listens, attaches and waits.
use Rattle.std.specs.Prelude.{◌≡◌, ℕ, ◌==◌, Bool, true, false, List, [], ◌∷◌}
use Rattle.std.specs.declared.option.Option.{Option}
use Rattle.std.specs.declared.option.Option.TheVariants.{None, Some}
use Rattle.std.specs.declared.result.Result.{Result}
use Rattle.std.specs.declared.result.Result.TheVariants.{Ok, Err}
use Rattle.af_time.specs.declared.OutOfMemory.{OutOfMemory}
use Rattle.af_world.specs.declared.live.Ready.{Ready}
use Rattle.af_world.specs.declared.live.Ready.TheVariants as ready
use Rattle.af_world.specs.declared.lifecycle.Lifecycle.{Lifecycle}
use Rattle.af_outside.specs.declared.lifecycle_faults.LifecycleFaults.{LifecycleFaults}
use Rattle.af_io.specs.Observed.{Appended, Unchanged}
use Rattle.af_world.specs.Log.{Log}

-- whether a listen or an attach failed
abbrev pub was_refused : Ready → Bool
was_refused ready.Done = false
was_refused ready.Failed = true
was_refused ready.OutOfMemory = false

-- What a tape keeps of these calls: which of them fail, those that were done, the number of its next wait, and how often a listen
-- and a wait have failed.
pub record LifecycleState : Type 0 where
  pub faults : LifecycleFaults
  pub entries : List Lifecycle
  pub waits : ℕ
  pub listen_faults : ℕ
  pub wait_faults : ℕ

-- none was made so far
abbrev pub lifecycle_start : LifecycleFaults → LifecycleState
lifecycle_start faults = record { faults = faults; entries = []; waits = 0; listen_faults = 0; wait_faults = 0 }

-- no call fails
abbrev pub no_faults : LifecycleFaults
no_faults = record { listen = false; attach = None; wait = None }

-- whether this is the number that is stated
abbrev pub is_stated : Option ℕ → ℕ → Bool
is_stated None n = false
is_stated (Some stated) n = stated == n

-- a list that is observable if the log is
abbrev pub told_beside : Option Log → List Lifecycle → Option (List Lifecycle)
told_beside None entries = None
told_beside (Some log) entries = Some entries

-- an entry is added; if memory ran out for it, nothing is observable any more
abbrev pub EntryNoted : Option Log → List Lifecycle → Result Lifecycle OutOfMemory → Option Log → List Lifecycle → Type 0
EntryNoted log before (Ok entry) log' after = Unchanged log log'
    × Appended (told_beside log before) (entry ∷ []) (told_beside log' after)
EntryNoted log before (Err e) log' after = log' ≡ None
