-- The bytes of a link, if they are observable.
use Rattle.std.specs.Prelude.{◌≡◌, ⊤, ℕ, List, IsSome, Option, None, Some}
use Rattle.af_io.specs.Observed.{CountsFault}

-- the bytes that were left before and are left now, if they are observable; then they were so before, too
abbrev pub BothTold : Option (List ℕ) → Option (List ℕ) → (List ℕ → List ℕ → Type 0) → Type 0
BothTold before None P = ⊤
BothTold None (Some after) P = ⊥
BothTold (Some before) (Some after) P = P before after

-- A link was only read: nothing was sent, bytes that are observable stay so, and its count of faults rose if this failed.
pub record OnlyRead {L : Type 0} (left sent : L → Option (List ℕ)) (faults : L → ℕ) (failed : Type 0)
    (link link' : L) : Type 0 where
  pub sends : sent link' ≡ sent link
  pub tells : IsSome (left link) → IsSome (left link')
  pub counts : CountsFault failed (faults link) (faults link')
