-- What is observable of the things that programs read from and write to: lists that grow or are consumed, and counts of faults.
use Rattle.std.specs.Prelude.{◌≡◌, ℕ, ◌+◌, ◌-◌, ◌≤◌, ◌^◌, min, if◌then◌else◌, Bool, true, false, List, ◌++◌}
use Rattle.std.specs.declared.option.Option.{Option}
use Rattle.std.specs.declared.option.Option.TheVariants.{None, Some}

-- a list that is observable, or not
abbrev pub told_if : {A : Type 0} → Bool → List A → Option (List A)
told_if tells list = if tells then Some list else None

-- if the list is observable afterwards, it was so before, and this part was appended
abbrev pub Appended : {A : Type 0} → Option (List A) → List A → Option (List A) → Type 0
Appended before part None = Unit {0}
Appended None part (Some after) = ⊥
Appended (Some before) part (Some after) = after ≡ before ++ part

-- if what is left is observable afterwards, it was so before, and this part was consumed
abbrev pub Consumed : {A : Type 0} → Option (List A) → List A → Option (List A) → Type 0
Consumed before part None = Unit {0}
Consumed None part (Some after) = ⊥
Consumed (Some before) part (Some after) = before ≡ part ++ after

-- one more, except for a count at the end of its type, which stays
abbrev pub next_count : ℕ → ℕ
next_count n = min (n + 1) (2 ^ 64 - 1)

-- the count of faults after a call that failed, or did not
abbrev pub faults_after : ℕ → Bool → ℕ
faults_after faults false = faults
faults_after faults true = next_count faults

-- a count of faults has risen, or is at the end of its type
abbrev pub FaultCounted : ℕ → ℕ → Type 0
FaultCounted before now = next_count before ≤ now

-- a count of faults never falls, and one is counted if this failed
abbrev pub CountsFault : Type 0 → ℕ → ℕ → Type 0
CountsFault failed before now = (before ≤ now) × (failed → FaultCounted before now)

-- nothing failed that this counts
abbrev pub NoFault : {A : Type 0} → (A → ℕ) → A → A → Type 0
NoFault faults before after = ¬ FaultCounted (faults before) (faults after)

-- a count of faults rises by one if this failed, and else stays
pub record CountsOneFault (failed : Type 0) (before now : ℕ) : Type 0 where
  pub counts : CountsFault failed before now
  pub fault : failed → now ≡ next_count before
  pub no_fault : ¬ failed → now ≡ before

-- if the list is observable afterwards, it was so before, and is unchanged
abbrev pub Unchanged : {A : Type 0} → Option (List A) → Option (List A) → Type 0
Unchanged before None = Unit {0}
Unchanged None (Some after) = ⊥
Unchanged (Some before) (Some after) = after ≡ before
