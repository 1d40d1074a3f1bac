-- What a device over two files captures. The bytes are known if std's readers are observable.
use Rattle.std.specs.Prelude.{◌≡◌, ℕ, ◌≤◌, List, ◌++◌, length, replicate}
use Rattle.std.specs.declared.option.Option.{Option}
use Rattle.std.specs.Io.KnownBytes.{Consumes, IsAtEnd}
use Rattle.af_io.specs.declared.flow.Put.{Put}
use Rattle.af_io.specs.declared.flow.Put.TheVariants as put

-- A device over files: the byte that is its silence, the bytes that its input has left to give, and those that its output holds.
pub record FileState : Type 0 where
  pub silent : ℕ
  pub input : Option (List ℕ)
  pub output : Option (List ℕ)

-- A room is filled with what a reader gave, in order, and then with silence, if the reader has ended.
pub record FilledFrom (silent : ℕ) (before : Option (List ℕ)) (into : List ℕ) (after : Option (List ℕ)) : Type 0 where
  pub given : List ℕ
  pub silences : ℕ
  pub whole : into ≡ given ++ replicate silences silent
  pub consumed : Consumes before after given
  pub ended : 1 ≤ silences → IsAtEnd after

-- A reader gave at most as many bytes as there is room for.
pub record GaveWithin (before : Option (List ℕ)) (into : List ℕ) (after : Option (List ℕ)) : Type 0 where
  pub given : List ℕ
  pub consumed : Consumes before after given
  pub within : length given ≤ length into

-- what filling a room from a reader did
abbrev pub FillsRoom : ℕ → Put → Option (List ℕ) → List ℕ → Option (List ℕ) → Type 0
FillsRoom silent put.Done before into after = FilledFrom silent before into after
FillsRoom silent put.Failed before into after = GaveWithin before into after
