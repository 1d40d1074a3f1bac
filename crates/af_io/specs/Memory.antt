-- Sources and sinks in memory.
use Rattle.std.specs.Prelude.{◌≡◌, ◌↔◌, ◌⊎◌, ◌+◌, ◌<◌, ℕ, List, length, min, Contains}
use Rattle.af_io.specs.declared.flow.Got.{Got}
use Rattle.af_io.specs.declared.flow.Got.TheVariants as got
use Rattle.af_io.specs.declared.flow.Put.{Put}
use Rattle.af_io.specs.declared.flow.Put.TheVariants as put
use Rattle.af_io.specs.Observed.{CountsOneFault, next_count}

-- A source: the bytes that it has not given, in pieces of at most so many; the numbers of its calls that fail; the number of its
-- next call; and how many calls have failed.
pub record SourceState : Type 0 where
  pub left : List ℕ
  pub piece : ℕ
  pub fails : List ℕ
  pub calls : ℕ
  pub faults : ℕ

-- A sink: the bytes that it holds; how many it has room for in all; the numbers of its calls that fail; the number of its next
-- call; and how many calls have failed.
pub record SinkState : Type 0 where
  pub held : List ℕ
  pub size : ℕ
  pub fails : List ℕ
  pub calls : ℕ
  pub faults : ℕ

-- A read fails exactly if its number is listed, and else gives as much as it may. What it leaves alone stays.
pub record SourceGives (before : SourceState) (answer : Got) (into : List ℕ) (after : SourceState) : Type 0 where
  pub faults : CountsOneFault (answer ≡ got.Failed) before.faults after.faults
  pub failed : (answer ≡ got.Failed) ↔ Contains before.fails before.calls
  pub whole : (n : ℕ) → answer ≡ got.Bytes n → n ≡ min (min before.piece (length into)) (length before.left)
  pub calls : after.calls ≡ next_count before.calls
  pub rest : after ≡ record before { left = after.left; calls = after.calls; faults = after.faults }

-- A write fails exactly if its number is listed or there is no room, and adds nothing then.
pub record SinkTakes (before : SinkState) (piece : List ℕ) (answer : Put) (after : SinkState) : Type 0 where
  pub faults : CountsOneFault (answer ≡ put.Failed) before.faults after.faults
  pub failed : (answer ≡ put.Failed)
      ↔ (Contains before.fails before.calls ⊎ (before.size < length before.held + length piece))
  pub nothing : answer ≡ put.Failed → after.held ≡ before.held
  pub calls : after.calls ≡ next_count before.calls
  pub rest : after ≡ record before { held = after.held; calls = after.calls; faults = after.faults }
