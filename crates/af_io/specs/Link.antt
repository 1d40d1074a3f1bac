-- A link as a client has it, and one in memory.
use Rattle.std.specs.Prelude.{◌≡◌, ◌↔◌, ◌⊎◌, ◌+◌, ◌<◌, ℕ, List, length, min, Contains}
use Rattle.af_io.specs.declared.flow.Got.{Got}
use Rattle.af_io.specs.declared.flow.Got.TheVariants as got
use Rattle.af_io.specs.declared.flow.Put.{Put}
use Rattle.af_io.specs.declared.flow.Put.TheVariants as put
use Rattle.af_io.specs.Observed.{CountsOneFault, next_count}

-- A link in memory: the bytes that it has not given, in pieces of at most so many; the bytes that it was sent; how many it takes
-- in all; the numbers of its calls that fail; the number of its next call; and how many calls have failed.
pub record MemLinkState : Type 0 where
  pub left : List ℕ
  pub piece : ℕ
  pub sent : List ℕ
  pub room : ℕ
  pub fails : List ℕ
  pub calls : ℕ
  pub faults : ℕ

-- A read fails exactly if its number is listed, and else gives as much as it may. What it leaves alone stays.
pub record MemLinkGives (before : MemLinkState) (answer : Got) (into : List ℕ) (after : MemLinkState) : Type 0 where
  pub faults : CountsOneFault (answer ≡ got.Failed) before.faults after.faults
  pub failed : (answer ≡ got.Failed) ↔ Contains before.fails before.calls
  pub whole : (n : ℕ) → answer ≡ got.Bytes n → n ≡ min (min before.piece (length into)) (length before.left)
  pub calls : after.calls ≡ next_count before.calls
  pub rest : after ≡ record before { left = after.left; calls = after.calls; faults = after.faults }

-- A write fails exactly if its number is listed or its room is used up, and sends nothing then.
pub record MemLinkTakes (before : MemLinkState) (piece : List ℕ) (answer : Put) (after : MemLinkState) : Type 0 where
  pub faults : CountsOneFault (answer ≡ put.Failed) before.faults after.faults
  pub failed : (answer ≡ put.Failed)
      ↔ (Contains before.fails before.calls ⊎ (before.room < length before.sent + length piece))
  pub nothing : answer ≡ put.Failed → after.sent ≡ before.sent
  pub calls : after.calls ≡ next_count before.calls
  pub rest : after ≡ record before { sent = after.sent; calls = after.calls; faults = after.faults }
