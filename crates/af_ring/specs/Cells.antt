-- Rings of cells: each time has the cell at its place modulo the number of cells.
use Rattle.std.specs.Prelude.{◌≡◌, ℕ, ◌+◌, ◌%◌, ◌^◌, ◌<◌, ◌≤◌, List, length, if◌then◌else◌, nat_lt, ℤ, pos, slice_index_or}
use Rattle.af_sample.specs.Mixing.{mixed}

-- a number of cells: a power of two, from 2 to 2^20, so that times that are equal modulo 2^32 share a
-- cell
pub record IsSize (size : ℕ) : Type 0 where
  pub bits : ℕ
  pub power : size ≡ 2 ^ bits
  pub some : 2 ≤ size
  pub few : size ≤ 2 ^ 20

-- the cell of a time
abbrev pub cell : List ℤ → ℕ → ℤ
cell cells t = slice_index_or cells (t % length cells) (pos 0)

-- the first n cells from a time on are changed, each to what f makes of its place in the run and of its old sample; no other cell
-- is changed
pub record ChangesRun (old new : List ℤ) (t n : ℕ) (f : ℕ → ℤ → ℤ) : Type 0 where
  pub size : length new ≡ length old
  pub each : (k : ℕ) → k < length old →
      cell new (t + k) ≡ (if nat_lt k n then f k (cell old (t + k)) else cell old (t + k))

-- samples are mixed into the cells from a time on
abbrev pub MixesRun : List ℤ → List ℤ → ℕ → List ℤ → Type 0
MixesRun old new t samples =
    ChangesRun old new t (length samples) (λ k x. mixed x (slice_index_or samples k (pos 0)))

-- samples replace the cells from a time on
abbrev pub PutsRun : List ℤ → List ℤ → ℕ → List ℤ → Type 0
PutsRun old new t samples =
    ChangesRun old new t (length samples) (λ k _. slice_index_or samples k (pos 0))

-- the n cells from a time on are silenced
abbrev pub ClearsRun : List ℤ → List ℤ → ℕ → ℕ → Type 0
ClearsRun old new t n = ChangesRun old new t n (λ _ _. pos 0)

-- a list has the cells from a time on
abbrev pub IsRunAt : List ℤ → List ℤ → ℕ → Type 0
IsRunAt out cells t = (k : ℕ) → k < length out → slice_index_or out k (pos 0) ≡ cell cells (t + k)
