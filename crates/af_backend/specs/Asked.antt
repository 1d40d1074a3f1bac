-- What a round does to the devices that go by a program: each that it comes to is asked what is due.
use Rattle.std.specs.Prelude.{◌≡◌, ℕ, ◌≤◌, ◌<◌, max, Bool, true, false, List, Option, Some, None}
use Rattle.af_backend.specs.declared.source.Source.{Source}
use Rattle.af_backend.specs.Rounds.{RoundState, source_in, goes_by_program}
use Rattle.af_backend.specs.CardUse.{CardUse, AsksCard}
use Rattle.af_backend.specs.Backends.{BackendState, always_silent, over_files, over_loop, over_codec, over_card, backend_at}

-- A device is asked what its program has due at a reading. One without a program has nothing due.
abbrev pub IsAskedOf : ℕ → ℕ → Option BackendState → Option BackendState → Type 0
IsAskedOf nanos n (Some (over_card card)) b' = (card' : CardUse) × AsksCard nanos n card card' × (b' ≡ Some (over_card card'))
IsAskedOf nanos n (Some (always_silent ty)) b' = (n ≡ 0) × (b' ≡ Some (always_silent ty))
IsAskedOf nanos n (Some (over_files files)) b' = (n ≡ 0) × (b' ≡ Some (over_files files))
IsAskedOf nanos n (Some (over_loop line)) b' = (n ≡ 0) × (b' ≡ Some (over_loop line))
IsAskedOf nanos n (Some (over_codec ty)) b' = (n ≡ 0) × (b' ≡ Some (over_codec ty))
IsAskedOf nanos n None b' = (n ≡ 0) × (b' ≡ None)

abbrev pub IsAskedWhere : Bool → ℕ → ℕ → Option BackendState → Option BackendState → Type 0
IsAskedWhere true nanos n b b' = IsAskedOf nanos n b b'
IsAskedWhere false nanos n b b' = b' ≡ b

-- A device that goes by its program is asked, and so many frames are due. No other device is changed.
abbrev pub IsAsked : ℕ → ℕ → Option Source → Option BackendState → Option BackendState → Type 0
IsAsked nanos n s b b' = IsAskedWhere (goes_by_program s) nanos n b b'

-- each device between two was asked, and has nothing due; no other is changed
pub record DevicesAsked (nanos from to : ℕ) (sources : List (Option Source)) (old new : List (Option BackendState)) : Type 0 where
  pub inside : (d : ℕ) → d < to → from ≤ d → IsAsked nanos 0 (source_in sources d) (backend_at old d) (backend_at new d)
  pub below : (d : ℕ) → d < from → backend_at new d ≡ backend_at old d
  pub above : (d : ℕ) → to ≤ d → backend_at new d ≡ backend_at old d

-- each device before one was asked, and has nothing due; this one has so many frames due; no other is changed
pub record DeviceTicks (nanos from d n : ℕ) (sources : List (Option Source)) (old new : List (Option BackendState)) : Type 0 where
  pub passed : (e : ℕ) → e < d → from ≤ e → IsAsked nanos 0 (source_in sources e) (backend_at old e) (backend_at new e)
  pub ticks : IsAsked nanos n (source_in sources d) (backend_at old d) (backend_at new d)
  pub below : (e : ℕ) → e < from → backend_at new e ≡ backend_at old e
  pub above : (e : ℕ) → d < e → backend_at new e ≡ backend_at old e

-- the same for the first device with frames due, from one on and before another
abbrev pub AsksUpTo : ℕ → ℕ → ℕ → List (Option Source) → Option (ℕ × ℕ) → List (Option BackendState) →
    List (Option BackendState) → Type 0
AsksUpTo nanos from to sources None old new = DevicesAsked nanos from (max from to) sources old new
AsksUpTo nanos from to sources (Some (d, n)) old new = DeviceTicks nanos from d n sources old new

-- The round goes on, and asks each device that it comes to.
abbrev pub GoesOver : ℕ → RoundState → Option (ℕ × ℕ) → RoundState → List (Option BackendState) → List (Option BackendState) →
    Type 0
GoesOver nanos before None after old new = DevicesAsked nanos before.next after.next before.sources old new
GoesOver nanos before (Some (d, n)) after old new = DeviceTicks nanos before.next d n before.sources old new
