-- The multiplier of a gain: the greatest number within its decibels, and the table of them all.
use Rattle.std.proofs.Common.{◌≡◌, ◌<◌, ◌≤◌, ◌+◌, ◌*◌, ◌^◌, ◌&&◌, inl, inr, ℕ, ℤ, pos, negsuc, nat_abs, ◌+ℤ◌, ◌-ℤ◌, zero, suc, Bool, true, false, not, cond, nat_le, slice_index, length, List, sym, subst, ap, ◌∙◌, arith, to_z, of_z, w32}
use Rattle.std.proofs.lemmas.Int.{ints}
use Rattle.std.proofs.lemmas.Bool.{and_parts, cases_lt, cases_order, cases_Bool, not-true, leb-true, le-leb, lt-leb, false_from_ne_true, true≢false}
use Rattle.std.proofs.lemmas.Nat.{mul-le}
use Rattle.std.proofs.Math.Nat.{pow-le-pow_left, one-le-pow, pow-suc}
use Rattle.af_sample.specs.Gains.{is_within, greatest_number, multiplier, IsGain}
use Rattle.af_sample.proofs.TableLemmas.{all_from, entry_passes}

-- the greatest is a number that passes, if none above it passes
pub greatest_is : (passes : ℕ → Bool) (n m : ℕ) → m ≤ n → passes m ≡ true → ((k : ℕ) → m < k → passes k ≡ false) → greatest_number passes n ≡ m
greatest_is passes zero m low here above = omega arith
greatest_is passes (suc n) m low here above =
    elim (cases_order m (suc n)) [
      | inl same ↦
          let e : passes (suc n) ≡ true = ap passes (sym same) ∙ here in
          ap (λ b. cond b (suc n) (greatest_number passes n)) e ∙ sym same
      | inr other ↦ elim other [
        | inl less ↦
            ap (λ b. cond b (suc n) (greatest_number passes n)) (above (suc n) less)
            ∙ greatest_is passes n m (omega arith) here above
        | inr more ↦ absurd (omega arith)
      ]
    ]

-- if a number is within n decibels, so is each smaller one
pub within_less : (db : ℤ) (k m : ℕ) → k ≤ m → is_within db m ≡ true → is_within db k ≡ true
within_less (pos n) k m low h =
    let less : k ^ 20 ≤ m ^ 20 = pow-le-pow_left low 20 in
    let top : m ^ 20 ≤ 1024 ^ 20 * 10 ^ n = leb-true (m ^ 20) (1024 ^ 20 * 10 ^ n) h in
    le-leb (k ^ 20) (1024 ^ 20 * 10 ^ n) (omega arith)
within_less (negsuc n) k m low h =
    let less : k ^ 20 ≤ m ^ 20 = pow-le-pow_left low 20 in
    let top : m ^ 20 * 10 ^ suc n ≤ 1024 ^ 20 = leb-true (m ^ 20 * 10 ^ suc n) (1024 ^ 20) h in
    let more : k ^ 20 * 10 ^ suc n ≤ m ^ 20 * 10 ^ suc n =
    mul-le (k ^ 20) (10 ^ suc n) (m ^ 20) (10 ^ suc n) less (omega arith) in
    le-leb (k ^ 20 * 10 ^ suc n) (1024 ^ 20) (omega arith)

-- a number is at most its powers
self_power : (k : ℕ) → 0 < k → k ≤ k ^ 20
self_power k some =
    let e : k ^ 20 ≡ k ^ 19 * k = pow-suc k 19 in
    let one : 1 ≤ k ^ 19 = one-le-pow 19 k some in
    let more : 1 * k ≤ k ^ 19 * k = mul-le 1 k (k ^ 19) k one (omega arith) in
    omega arith

-- nothing above the bound is within n decibels
bounded : (db : ℤ) (k : ℕ) → 1024 ^ 20 * 10 ^ nat_abs db < k → is_within db k ≡ false
bounded (pos n) k high =
    let power : k ≤ k ^ 20 = self_power k (omega arith) in
    lt-leb (k ^ 20) (1024 ^ 20 * 10 ^ n) (omega arith)
bounded (negsuc n) k high =
    let power : k ≤ k ^ 20 = self_power k (omega arith) in
    let tens : 1 ≤ 10 ^ suc n = one-le-pow (suc n) 10 (omega arith) in
    let more : k ^ 20 * 1 ≤ k ^ 20 * 10 ^ suc n = mul-le (k ^ 20) 1 (k ^ 20) (10 ^ suc n) (omega arith) tens in
    let bound : 1024 ^ 20 * 1 ≤ 1024 ^ 20 * 10 ^ suc n = mul-le (1024 ^ 20) 1 (1024 ^ 20) (10 ^ suc n) (omega arith) tens in
    lt-leb (k ^ 20 * 10 ^ suc n) (1024 ^ 20) (omega arith)

-- the multiplier is the number that is within n decibels, and the next is not
pub multiplier_is : (db : ℤ) (m : ℕ) → is_within db m ≡ true → is_within db (suc m) ≡ false → multiplier db ≡ m
unfolding multiplier
multiplier_is db m here next =
    let over : (k : ℕ) → m < k → is_within db k ≡ false =
    λ k more. false_from_ne_true (is_within db k) (λ t. true≢false (sym (within_less db (suc m) k (omega arith) t) ∙ next)) in
    let low : m ≤ 1024 ^ 20 * 10 ^ nat_abs db =
    elim (cases_lt (1024 ^ 20 * 10 ^ nat_abs db) m) [
      | inl high ↦ absurd (true≢false (sym here ∙ bounded db m high))
      | inr low ↦ low
    ] in
    greatest_is (is_within db) (1024 ^ 20 * 10 ^ nat_abs db) m low here over

none_within : (db : ℤ) → is_within db 0 ≡ true
none_within (pos n) = le-leb 0 (1024 ^ 20 * 10 ^ n) (omega arith)
none_within (negsuc n) = le-leb (0 ^ 20 * 10 ^ suc n) (1024 ^ 20) (omega arith)

greatest_passes : (passes : ℕ → Bool) (n : ℕ) → passes 0 ≡ true → passes (greatest_number passes n) ≡ true
greatest_passes passes zero none = none
greatest_passes passes (suc n) none =
    elim (cases_Bool (passes (suc n))) [
      | inl top ↦ ap (λ b. passes (cond b (suc n) (greatest_number passes n))) top ∙ top
      | inr less ↦ ap (λ b. passes (cond b (suc n) (greatest_number passes n))) less ∙ greatest_passes passes n none
    ]

greatest_above : (passes : ℕ → Bool) (n m : ℕ) → m ≤ n → passes m ≡ true → m ≤ greatest_number passes n
greatest_above passes zero m low here = low
greatest_above passes (suc n) m low here =
    elim (cases_Bool (passes (suc n))) [
      | inl top ↦ subst (λ k. m ≤ k) (sym (ap (λ b. cond b (suc n) (greatest_number passes n)) top)) low
      | inr less ↦
          subst (λ k. m ≤ k) (sym (ap (λ b. cond b (suc n) (greatest_number passes n)) less))
          (elim (cases_order m (suc n)) [
            | inl same ↦ absurd (true≢false (sym here ∙ ap passes same ∙ less))
            | inr other ↦ elim other [
              | inl below ↦ greatest_above passes n m (omega arith) here
              | inr above ↦ absurd (omega arith)
            ]
          ])
    ]

-- the numbers within n decibels are those up to the multiplier
pub within_multiplier : (db : ℤ) (m : ℕ) → m ≤ multiplier db → is_within db m ≡ true
unfolding multiplier
within_multiplier db m low =
    within_less db m (multiplier db) low (greatest_passes (is_within db) (1024 ^ 20 * 10 ^ nat_abs db) (none_within db))

pub multiplier_above : (db : ℤ) (m : ℕ) → is_within db m ≡ true → m ≤ multiplier db
unfolding multiplier
multiplier_above db m here =
    elim (cases_lt (1024 ^ 20 * 10 ^ nat_abs db) m) [
      | inl high ↦ absurd (true≢false (sym here ∙ bounded db m high))
      | inr low ↦ greatest_above (is_within db) (1024 ^ 20 * 10 ^ nat_abs db) m low here
    ]

-- the gain of a place in the table
abbrev pub gain_at : ℕ → ℤ
gain_at i = pos i -ℤ pos 30

-- an entry of the table is the multiplier of its place's gain
abbrev pub is_entry : ℕ → ℕ → Bool
is_entry i m = (is_within (gain_at i) m && not (is_within (gain_at i) (suc m))) && nat_le m 32381

-- the place of a gain, as the code computes it
abbrev pub place_of : ℤ → ℕ
place_of db = nat_abs (to_z w32 (of_z w32 (to_z w32 (of_z w32 db) +ℤ pos 30)))

pub place_low : (db : ℤ) → IsGain db → place_of db < 61
place_low db h = grind (arith, ints)

pub gain_back : (db : ℤ) → IsGain db → gain_at (place_of db) ≡ db
gain_back db h = grind (arith, ints)

-- what a table that passes holds at the place of a gain
module _ (table : List ℕ) (passes : all_from is_entry 0 table ≡ true) (size : length table ≡ 61) where
  entry : (db : ℤ) → IsGain db → is_entry (place_of db) (slice_index table (place_of db)) ≡ true
  entry db h =
      let place : place_of db ≡ place_of db + 0 = omega arith in
      let low : place_of db < 61 = place_low db h in
      ap (λ i. is_entry i (slice_index table (place_of db))) place
      ∙ entry_passes is_entry 0 table (place_of db) passes (omega arith)

  pub table_value : (db : ℤ) → IsGain db → slice_index table (place_of db) ≡ multiplier db
  table_value db h =
      let m : ℕ = slice_index table (place_of db) in
      let both = and_parts (is_within (gain_at (place_of db)) m && not (is_within (gain_at (place_of db)) (suc m))) (nat_le m 32381) (entry db h) in
      let parts = and_parts (is_within (gain_at (place_of db)) m) (not (is_within (gain_at (place_of db)) (suc m))) both.0 in
      sym (multiplier_is (gain_at (place_of db)) m parts.0 (not-true (is_within (gain_at (place_of db)) (suc m)) parts.1))
      ∙ ap multiplier (gain_back db h)

  pub table_most : (db : ℤ) → IsGain db → slice_index table (place_of db) ≤ 32381
  table_most db h =
      let m : ℕ = slice_index table (place_of db) in
      let both = and_parts (is_within (gain_at (place_of db)) m && not (is_within (gain_at (place_of db)) (suc m))) (nat_le m 32381) (entry db h) in
      leb-true m 32381 both.1
