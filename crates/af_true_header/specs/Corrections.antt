-- What a correction does to the bytes that a sink holds.
use Rattle.std.specs.Prelude.{◌≡◌, ◌≤◌, ◌+◌, ℕ, List, ◌++◌, length, take, drop}
use Rattle.std.specs.declared.option.Option.{Option}
use Rattle.std.specs.declared.option.Option.TheVariants.{None, Some}
use Rattle.af_io.specs.declared.flow.Put.{Put}
use Rattle.af_io.specs.declared.flow.Put.TheVariants as put

-- bytes with these over those from a place on
abbrev pub overwritten : (at : ℕ) → List ℕ → List ℕ → List ℕ
overwritten at piece bytes = take at bytes ++ (piece ++ drop (length piece) (drop at bytes))

-- Known bytes were overwritten from a place on, all of it within them; or nothing has changed.
abbrev pub Overwrites : Put → (before : List ℕ) → (at : ℕ) → (piece after : List ℕ) → Type 0
Overwrites put.Done before at piece after = (at + length piece ≤ length before) × (after ≡ overwritten at piece before)
Overwrites put.Failed before at piece after = after ≡ before

-- the same, if they are observable
abbrev pub Overwrote : Put → Option (List ℕ) → (at : ℕ) → List ℕ → Option (List ℕ) → Type 0
Overwrote answer before at piece None = Unit {0}
Overwrote answer None at piece (Some after) = ⊥
Overwrote answer (Some before) at piece (Some after) = Overwrites answer before at piece after
