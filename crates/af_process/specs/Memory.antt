-- Child programs in memory, and those of the system.
use Rattle.std.specs.Prelude.{◌≡◌, ◌≢◌, ◌↔◌, ◌⊎◌, ◌^◌, ◌-◌, ⊤, ℕ, ℤ, pos, ◌+ℤ◌, List, slice_get, Contains}
use Rattle.std.specs.declared.option.Option.{Option}
use Rattle.std.specs.declared.process.status.ExitStatus.{ExitStatus}
use Rattle.std.specs.Process.{exit_code, exit_signal}
use Rattle.std.specs.declared.option.Option.TheVariants.{None, Some}
use Rattle.af_process.specs.declared.spawner.Finished.{Finished}
use Rattle.af_process.specs.declared.spawner.Finished.TheVariants as finished
use Rattle.af_process.specs.declared.spawner.Started.{Started}
use Rattle.af_process.specs.declared.spawner.Started.TheVariants as started
use Rattle.af_io.specs.declared.flow.Put.{Put}
use Rattle.af_io.specs.declared.flow.Put.TheVariants as put
use Rattle.af_io.specs.Observed.{CountsOneFault, next_count}
use Rattle.af_process.specs.Acts.{Told, started_after}

-- A spawner in memory: the acts so far, if they are observable; the numbers of its calls that fail; the statuses of the children
-- in the order of their ends; the number of its next call; how many calls have failed; how many children were started; and how
-- many have ended.
pub record MemSpawnerState : Type 0 where
  pub acts : Option (List Told)
  pub fails : List ℕ
  pub statuses : List ℤ
  pub calls : ℕ
  pub faults : ℕ
  pub started : ℕ
  pub ended : ℕ

-- a spawner of the system's programs: how many children were started, and how many calls have failed
pub record StdSpawnerState : Type 0 where
  pub started : ℕ
  pub faults : ℕ

abbrev pub some_status : Option ℤ → ℤ
some_status None = pos 0
some_status (Some status) = status

-- the status of the child that ends as the n-th: 0 after those that are stated
abbrev pub status_at : List ℤ → ℕ → ℤ
status_at statuses n = some_status (slice_get statuses n)

-- how many children have ended, after a finish with this answer
abbrev pub ended_after : ℕ → Finished → ℕ
ended_after n (finished.Ended status) = next_count n
ended_after n finished.Failed = n

-- A start in memory fails exactly if its number is listed, or if no number is left for a child.
pub record MemStarts (before : MemSpawnerState) (answer : Started) (after : MemSpawnerState) : Type 0 where
  pub faults : CountsOneFault (answer ≡ started.Failed) before.faults after.faults
  pub failed : (answer ≡ started.Failed) ↔ (Contains before.fails before.calls ⊎ (before.started ≡ 2 ^ 32 - 1))
  pub child : answer ≢ started.Failed → answer ≡ started.Child before.started
  pub calls : after.calls ≡ next_count before.calls
  pub rest : after
      ≡ record before {
        acts = after.acts;
        calls = after.calls;
        faults = after.faults;
        started = started_after before.started answer;
      }

-- A give in memory fails exactly if its number is listed.
pub record MemGives (before : MemSpawnerState) (answer : Put) (after : MemSpawnerState) : Type 0 where
  pub faults : CountsOneFault (answer ≡ put.Failed) before.faults after.faults
  pub failed : (answer ≡ put.Failed) ↔ Contains before.fails before.calls
  pub calls : after.calls ≡ next_count before.calls
  pub rest : after ≡ record before { acts = after.acts; calls = after.calls; faults = after.faults }

-- A finish in memory fails exactly if its number is listed, and else has the status that is stated.
pub record MemFinishes (before : MemSpawnerState) (answer : Finished) (after : MemSpawnerState) : Type 0 where
  pub faults : CountsOneFault (answer ≡ finished.Failed) before.faults after.faults
  pub failed : (answer ≡ finished.Failed) ↔ Contains before.fails before.calls
  pub status : answer ≢ finished.Failed → answer ≡ finished.Ended (status_at before.statuses before.ended)
  pub calls : after.calls ≡ next_count before.calls
  pub rest : after
      ≡ record before {
        acts = after.acts;
        calls = after.calls;
        faults = after.faults;
        ended = ended_after before.ended answer;
      }

-- the status of a program as a shell tells it: that of its exit, or 128 and the number of the signal that ended it
abbrev pub code_or_signal : Option ℤ → Option ℤ → ℤ
code_or_signal (Some code) signal = code
code_or_signal None signal = pos 128 +ℤ some_status signal

abbrev pub shell_status : ExitStatus → ℤ
shell_status status = code_or_signal (exit_code status) (exit_signal status)

-- a child that ended has the status that the system gave, as a shell tells it
abbrev pub EndsAsTold : Finished → Type 0
EndsAsTold (finished.Ended status) = (given : ExitStatus) × (status ≡ shell_status given)
EndsAsTold finished.Failed = ⊤

-- Calls of the system's programs: a start has the next number, and one that failed is counted.
pub record StdStarts (before : StdSpawnerState) (answer : Started) (after : StdSpawnerState) : Type 0 where
  pub faults : CountsOneFault (answer ≡ started.Failed) before.faults after.faults
  pub number : (child : ℕ) → answer ≡ started.Child child → child ≡ before.started
  pub most : before.started ≡ 2 ^ 32 - 1 → answer ≡ started.Failed
  pub started : after.started ≡ started_after before.started answer

pub record StdGives (before : StdSpawnerState) (answer : Put) (after : StdSpawnerState) : Type 0 where
  pub faults : CountsOneFault (answer ≡ put.Failed) before.faults after.faults
  pub started : after.started ≡ before.started

-- a finish tells the status of the child as a shell does
pub record StdFinishes (before : StdSpawnerState) (answer : Finished) (after : StdSpawnerState) : Type 0 where
  pub faults : CountsOneFault (answer ≡ finished.Failed) before.faults after.faults
  pub status : EndsAsTold answer
  pub started : after.started ≡ before.started
