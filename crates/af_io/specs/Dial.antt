-- Links to servers, which are dialled by address and given back.
use Rattle.std.specs.Prelude.{◌≡◌, ◌<◌, ◌≤◌, ⊤, ℕ, nat_lt, if◌then◌else◌, List, [], ◌∷◌}
use Rattle.std.specs.declared.option.Option.{Option}
use Rattle.std.specs.declared.option.Option.TheVariants.{None, Some}
use Rattle.af_io.specs.declared.dial.Dialed.{Dialed}
use Rattle.af_io.specs.declared.dial.Dialed.TheVariants as dialed
use Rattle.af_io.specs.declared.dial.DialCounts.{DialCounts}
use Rattle.af_io.specs.Observed.{Appended, CountsOneFault, FaultCounted, next_count}

-- a link that a dial will give: the bytes that it gives, and those that it was sent before
pub record ToldLink : Type 0 where
  pub gives : List ℕ
  pub sent : List ℕ

-- the first of the observable links was given
abbrev pub IsFirstOf : {F : Type 0} → (F → Option (List ℕ)) → (F → Option (List ℕ)) → F → Option (List ToldLink) →
    Option (List ToldLink) → Type 0
IsFirstOf left sent far None after = after ≡ None
IsFirstOf left sent far (Some []) after = ⊥
IsFirstOf left sent far (Some (link ∷ links)) after = (left far ≡ Some link.gives) × (sent far ≡ Some link.sent)
    × (after ≡ Some links)

-- if the links that it will give are observable, it gives the first of them
abbrev pub GivesNext : {F : Type 0} → (F → Option (List ℕ)) → (F → Option (List ℕ)) → Dialed F → Option (List ToldLink) →
    Option (List ToldLink) → Type 0
GivesNext left sent (dialed.Far far) before after = IsFirstOf left sent far before after
GivesNext left sent dialed.Failed before after = after ≡ before
GivesNext left sent dialed.OutOfMemory before after = after ≡ before

-- a link that is dialled has not failed yet
abbrev pub IsUnhurt : {F : Type 0} → (F → ℕ) → Dialed F → Type 0
IsUnhurt faults (dialed.Far far) = faults far ≡ 0
IsUnhurt faults dialed.Failed = ⊤
IsUnhurt faults dialed.OutOfMemory = ⊤

-- what a dial gave, whose link stands over this one
abbrev pub dialed_over : {F G : Type 0} → (F → G) → Dialed F → Dialed G
dialed_over inner (dialed.Far far) = dialed.Far (inner far)
dialed_over inner dialed.Failed = dialed.Failed
dialed_over inner dialed.OutOfMemory = dialed.OutOfMemory

-- a dial that failed is counted, and no other
pub record CountsDial {F : Type 0} (answer : Dialed F) (before after : DialCounts) : Type 0 where
  pub faults : CountsOneFault (answer ≡ dialed.Failed) before.faults after.faults
  pub hurt : after.hurt ≡ before.hurt

-- if the links that were given back are observable, this one was added: what it had been sent
abbrev pub AppendedBack : Option (List (List ℕ)) → Option (List ℕ) → Option (List (List ℕ)) → Type 0
AppendedBack before None after = after ≡ None
AppendedBack before (Some sent) after = Appended before (sent ∷ []) after

-- the count of failed links rises exactly if the link that is given back has failed
pub record CountsHurt (faults before after : ℕ) : Type 0 where
  pub hurt : 0 < faults → FaultCounted before after
  pub unhurt : faults ≡ 0 → after ≡ before
  pub count : before ≤ after

-- the count of failed links after one is given back that had failed so often
abbrev pub hurt_after : ℕ → ℕ → ℕ
hurt_after faults hurt = if nat_lt 0 faults then next_count hurt else hurt
