-- A dial in memory.
use Rattle.std.specs.Prelude.{◌≡◌, ◌≢◌, ◌↔◌, ◌<◌, ℕ, Bool, List, [], ◌∷◌, ◌++◌, length, map, IfSome, IsSome}
use Rattle.std.specs.declared.option.Option.{Option}
use Rattle.std.specs.declared.option.Option.TheVariants.{None, Some}
use Rattle.af_io.specs.declared.dial.Dialed.{Dialed}
use Rattle.af_io.specs.declared.dial.Dialed.TheVariants as dialed
use Rattle.af_io.specs.Link.{MemLinkState}
use Rattle.af_io.specs.Dial.{ToldLink, hurt_after}
use Rattle.af_io.specs.Observed.{told_if, CountsOneFault}

-- A dial in memory: the links that it will give; the addresses of its dials, if they are observable; the links that were given
-- back and kept, and whether these are all; how many dials have failed; and how many links had failed.
pub record MemDialState : Type 0 where
  pub links : List MemLinkState
  pub asked : Option (List (List ℕ))
  pub kept : List MemLinkState
  pub keeps_all : Bool
  pub faults : ℕ
  pub hurt : ℕ

-- two links in order, each of which may be missing
abbrev pub both_of : {A : Type 0} → Option A → Option A → List A
both_of None None = []
both_of None (Some b) = b ∷ []
both_of (Some a) None = a ∷ []
both_of (Some a) (Some b) = a ∷ b ∷ []

-- the observable part of a link
abbrev pub told_link : MemLinkState → ToldLink
told_link link = record { gives = link.left; sent = link.sent }

-- what each link that was given back had been sent
abbrev pub back_of : MemDialState → Option (List (List ℕ))
back_of d = told_if d.keeps_all (map (λ (link : MemLinkState). link.sent) d.kept)

-- A dial gives the next link, and fails exactly if none is left. The first two addresses stay observable.
pub record MemDials (before : MemDialState) (answer : Dialed MemLinkState) (after : MemDialState) : Type 0 where
  pub faults : CountsOneFault (answer ≡ dialed.Failed) before.faults after.faults
  pub hurt : after.hurt ≡ before.hurt
  pub tells : IfSome before.asked (λ said. length said < 2 → IsSome after.asked)
  pub failed : (answer ≡ dialed.Failed) ↔ (before.links ≡ [])
  pub first : (link : MemLinkState) → answer ≡ dialed.Far link → before.links ≡ link ∷ after.links
  pub memory : answer ≢ dialed.OutOfMemory
  pub kept : (after.kept ≡ before.kept) × (after.keeps_all ≡ before.keeps_all)

-- The first two links that are given back are kept.
pub record MemHangsUp (before : MemDialState) (far : MemLinkState) (after : MemDialState) : Type 0 where
  pub faults : after.faults ≡ before.faults
  pub hurt : after.hurt ≡ hurt_after far.faults before.hurt
  pub asked : after.asked ≡ before.asked
  pub links : after.links ≡ before.links
  pub kept : length before.kept < 2 → (after.kept ≡ before.kept ++ far ∷ []) × (after.keeps_all ≡ before.keeps_all)
