-- A sink in memory that can be corrected.
use Rattle.std.specs.Prelude.{◌≡◌, ◌↔◌, ◌+◌, ◌<◌, ℕ, List, length}
use Rattle.af_io.specs.declared.flow.Put.{Put}
use Rattle.af_io.specs.declared.flow.Put.TheVariants as put
use Rattle.af_io.specs.Observed.{CountsOneFault}
use Rattle.af_true_header.specs.Corrections.{Overwrites}

-- The bytes that it holds; how many it has room for in all; and how many writes have failed.
pub record MemFileState : Type 0 where
  pub held : List ℕ
  pub size : ℕ
  pub faults : ℕ

-- A write fails exactly if there is no room, and adds nothing then.
pub record FileTakes (before : MemFileState) (piece : List ℕ) (answer : Put) (after : MemFileState) : Type 0 where
  pub faults : CountsOneFault (answer ≡ put.Failed) before.faults after.faults
  pub failed : (answer ≡ put.Failed) ↔ (before.size < length before.held + length piece)
  pub nothing : answer ≡ put.Failed → after.held ≡ before.held
  pub rest : after ≡ record before { held = after.held; faults = after.faults }

-- A correction fails exactly if it is not within what is held.
pub record FileCorrects (before : MemFileState) (at : ℕ) (piece : List ℕ) (answer : Put) (after : MemFileState) : Type 0 where
  pub overwrites : Overwrites answer before.held at piece after.held
  pub failed : (answer ≡ put.Failed) ↔ (length before.held < at + length piece)
  pub rest : after ≡ record before { held = after.held }
