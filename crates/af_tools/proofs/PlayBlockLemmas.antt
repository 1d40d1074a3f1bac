-- Blocks that are played, one after the other.
use Rattle.std.proofs.Common.{◌≡◌, ℕ, zero, suc, ◌+◌, ◌-◌, ◌/◌, ◌<◌, ◌≤◌, nat_lt, true, false, List, [], ◌∷◌, ◌++◌, length, take, drop, sym, ap, ap₂, ◌∙◌, append-nil, refl, arith, inl, inr, length-append, length-drop, length-take, Option}
use Rattle.std.proofs.lemmas.Bool.Decides.{nat_tests}
use Rattle.std.proofs.lemmas.List.{take_at, drop_at, take_all, drop_all}
use Rattle.std.proofs.lemmas.Bool.{cases_lt}
use Rattle.std.proofs.Math.Nat.{div-le_self}
use Rattle.af_io.specs.Observed.{Consumed}
use Rattle.af_toolkit.specs.Parts.{goes_on, has_value, part_among, stops}
use Rattle.af_toolkit.specs.ToolParts.{doing}
use Rattle.af_sound.specs.declared.head.Coding.{Coding}
use Rattle.af_tools.specs.Sounds.{most_bytes, as_served}
use Rattle.af_tools.specs.declared.pace.Course.{Course}
use Rattle.af_tools.specs.declared.pace.Pace.{Pace}
use Rattle.af_tools.specs.Pacing.{course_on}
use Rattle.af_tools.specs.Play.{blocks, cut_blocks, frames_in, of_reply, of_source, plays, plays_block, whole_frames}

-- a source gave exactly n bytes
pub record ConsumedAll (count : ℕ) (before after : Option (List ℕ)) : Type 0 where
  pub bytes : List ℕ
  pub consumed : Consumed before bytes after
  pub all : length bytes ≡ count

-- enough steps to cut a list are as good as more
cut_enough : (n m size : ℕ) (bytes : List ℕ) → 0 < size → length bytes ≤ n → length bytes ≤ m → cut_blocks n size bytes ≡ cut_blocks m size bytes
cut_enough zero zero size bytes some few less = refl
cut_enough zero (suc m) size [] some few less = refl
cut_enough zero (suc m) size (b ∷ bytes) some few less = absurd (omega arith)
cut_enough (suc n) zero size [] some few less = refl
cut_enough (suc n) zero size (b ∷ bytes) some few less = absurd (omega arith)
cut_enough (suc n) (suc m) size [] some few less = refl
cut_enough (suc n) (suc m) size (b ∷ bytes) some few less =
    let len : length (drop size (b ∷ bytes)) ≡ suc (length bytes) - size = length-drop size (b ∷ bytes) in
    ap (λ more. take size (b ∷ bytes) ∷ more) (cut_enough n m size (drop size (b ∷ bytes)) some (omega arith) (omega arith))

-- the first block, and those of the rest
pub blocks_some : (size : ℕ) (bytes : List ℕ) → 0 < size → 0 < length bytes → blocks size bytes ≡ take size bytes ∷ blocks size (drop size bytes)
unfolding blocks
blocks_some size [] some more = absurd (omega arith)
blocks_some size (b ∷ bytes) some more =
    let len : length (drop size (b ∷ bytes)) ≡ suc (length bytes) - size = length-drop size (b ∷ bytes) in
    ap (λ more. take size (b ∷ bytes) ∷ more) (cut_enough (length bytes) (length (drop size (b ∷ bytes))) size (drop size (b ∷ bytes)) some (omega arith) (omega arith))

-- the first block of a list whose bytes were read so far
front_read : (size : ℕ) (block later : List ℕ) → length block ≤ size → (length block < size → later ≡ []) → (take size (block ++ later) ≡ block) × (drop size (block ++ later) ≡ later)
front_read size block later fits ended = elim (cases_lt (length block) size) [
  | inl short ↦
      let none = ended short in
      let same : block ++ later ≡ block = ap (λ b. block ++ b) none ∙ append-nil block in
      (ap (take size) same ∙ take_all size block fits, ap (drop size) same ∙ drop_all size block fits ∙ sym none)
  | inr long ↦ let full : length block ≡ size = omega arith in (take_at block later size full, drop_at block later size full)
]

-- the block that was read, and those of the rest
pub blocks_read : (size : ℕ) (rest block later : List ℕ) → 0 < size → 0 < length block → length block ≤ size → rest ≡ block ++ later → (length block < size → later ≡ []) →
    blocks size rest ≡ block ∷ blocks size later
blocks_read size rest block later some more fits is ended =
    let len : length rest ≡ length block + length later = ap length is ∙ length-append block later in
    let parts = front_read size block later fits ended in
    blocks_some size rest some (omega arith)
    ∙ ap₂ (λ (a b : List ℕ). a ∷ blocks size b) (ap (take size) is ∙ parts.0) (ap (drop size) is ∙ parts.1)

pub blocks_empty : (size : ℕ) (rest : List ℕ) → length rest ≡ 0 → blocks size rest ≡ []
unfolding blocks
blocks_empty size [] none = refl
blocks_empty size (x ∷ rest) none = absurd (omega arith)

module _ (coding : Option Coding) (width : ℕ) (pace : Pace) (course : Course) (given : ℕ) where
  pub plays_some : (block : List ℕ) (more : List (List ℕ)) → given + length block ≤ most_bytes → 0 < length block / width →
      plays coding width pace course given (block ∷ more)
      ≡ goes_on doing (part_among of_reply (plays_block pace course (as_served coding (whole_frames width block)))) (λ told. plays coding width pace (course_on pace course (frames_in width block) told) (given + length block) more)
  unfolding plays
  plays_some block more within some =
      let fits : nat_lt most_bytes (given + length block) ≡ false = grind (arith, nat_tests) in
      let whole : nat_lt 0 (length block / width) ≡ true = grind (arith, nat_tests) in
      rw (fits, whole) refl

  pub plays_last : (block : List ℕ) (more : List (List ℕ)) → given + length block ≤ most_bytes → length block / width ≡ 0 → plays coding width pace course given (block ∷ more) ≡ has_value doing course
  unfolding plays
  plays_last block more within none =
      let fits : nat_lt most_bytes (given + length block) ≡ false = grind (arith, nat_tests) in
      let whole : nat_lt 0 (length block / width) ≡ false = grind (arith, nat_tests) in
      rw (fits, whole) refl

  pub plays_long : (block : List ℕ) (more : List (List ℕ)) → most_bytes < given + length block → plays coding width pace course given (block ∷ more) ≡ stops doing of_source
  unfolding plays
  plays_long block more beyond =
      let long : nat_lt most_bytes (given + length block) ≡ true = grind (arith, nat_tests) in
      rw long refl

  pub plays_none : plays coding width pace course given [] ≡ has_value doing course
  unfolding plays
  plays_none = refl

  -- the block that was read is played
  pub plays_next : (size : ℕ) (rest block later : List ℕ) → 0 < size → length block ≤ size → rest ≡ block ++ later → (length block < size → later ≡ []) → given + length block ≤ most_bytes → 0 < length block / width →
      plays coding width pace course given (blocks size rest)
      ≡ goes_on doing (part_among of_reply (plays_block pace course (as_served coding (whole_frames width block)))) (λ told. plays coding width pace (course_on pace course (frames_in width block) told) (given + length block) (blocks size later))
  plays_next size rest block later some fits is ended within whole =
      let least = div-le_self (length block) width in
      ap (plays coding width pace course given) (blocks_read size rest block later some (omega arith) fits is ended) ∙ plays_some block (blocks size later) within whole

  -- fewer bytes than a frame has are left
  pub plays_over : (size : ℕ) (rest : List ℕ) → 0 < size → length rest ≤ size → given + length rest ≤ most_bytes → length rest / width ≡ 0 → plays coding width pace course given (blocks size rest) ≡ has_value doing course
  plays_over size rest some fits within none = elim (cases_lt 0 (length rest)) [
    | inl more ↦ ap (plays coding width pace course given) (blocks_read size rest rest [] some more fits (sym (append-nil rest)) (λ _. refl)) ∙ plays_last rest (blocks size []) within none
    | inr no_more ↦ ap (plays coding width pace course given) (blocks_empty size rest (omega arith)) ∙ plays_none
  ]

  -- a block that goes beyond what is allowed
  pub plays_beyond : (size : ℕ) (rest part later : List ℕ) → 0 < size → rest ≡ part ++ later → length part ≤ size → most_bytes < given + length part → given ≤ most_bytes → plays coding width pace course given (blocks size rest) ≡ stops doing of_source
  plays_beyond size rest part later some is fits beyond so_far =
      let len : length rest ≡ length part + length later = ap length is ∙ length-append part later in
      let first : length part ≤ length (take size rest) = omega (arith, length-take size rest) in
      ap (plays coding width pace course given) (blocks_some size rest some (omega arith)) ∙ plays_long (take size rest) (blocks size (drop size rest)) (omega arith)
