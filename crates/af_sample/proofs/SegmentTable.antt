-- The written table of segments: each entry is the highest bit of its place, except place 0.
use Rattle.std.proofs.Common.{◌≡◌, ◌<◌, ◌≤◌, ◌+◌, ◌-◌, ◌*◌, ◌/◌, ◌^◌, ◌&&◌, ◌||◌, inl, inr, ℕ, Bool, true, nat_eq, nat_lt, nat_le, List, length, slice_index, sym, ap, ◌∙◌, arith}
use Rattle.std.specs.Int.Count.{count_leading_zeros, leading_unique}
use Rattle.std.proofs.lemmas.Bool.{and_parts, or_cases, eqb-true, ltb-true, leb-true}
use Rattle.std.proofs.lemmas.Nat.{pow-add}
use Rattle.af_sample.proofs.TableLemmas.{all_from, entry_passes}
use Rattle.af_sample.proofs.AlawLemmas.{zeros_many}

-- whether s is the highest bit of p, or p has none and s is 0
abbrev pub is_segment : ℕ → ℕ → Bool
is_segment p s = (nat_lt p 1 && nat_eq s 0) || (nat_le s 7 && (nat_le (2 ^ s) p && nat_lt p (2 ^ s * 2)))

-- a number of 15 bits whose 128ths have the highest bit s
zeros_are : (a s : ℕ) → a < 32768 → s ≤ 7 → 2 ^ s ≤ a / 128 → a / 128 < 2 ^ s * 2 → count_leading_zeros 16 a ≡ 8 - s
zeros_are a s low few least most =
    let power : 2 ^ (s + 8) ≡ 2 ^ s * 256 = pow-add 2 s 8 in
    sym (leading_unique 16 a (8 - s) (s + 8) (omega arith) (omega arith) (omega arith))

pub table_segment : (table : List ℕ) → all_from is_segment 0 table ≡ true → length table ≡ 256 → (a : ℕ) → a < 32768 →
    slice_index table (a / 128) ≡ 8 - count_leading_zeros 16 a
table_segment table passes long a low =
    let p : ℕ = a / 128 in
    let s : ℕ = slice_index table p in
    let place : p ≡ p + 0 = omega arith in
    let here : is_segment p s ≡ true = ap (λ i. is_segment i s) place ∙ entry_passes is_segment 0 table p passes (omega arith) in
    elim (or_cases (nat_lt p 1 && nat_eq s 0) (nat_le s 7 && (nat_le (2 ^ s) p && nat_lt p (2 ^ s * 2))) here) [
      | inl first ↦
          let parts = and_parts (nat_lt p 1) (nat_eq s 0) first in
          let small : p < 1 = ltb-true p 1 parts.0 in
          let none : s ≡ 0 = eqb-true s 0 parts.1 in
          let zeros : 8 ≤ count_leading_zeros 16 a = zeros_many a (omega arith) in
          omega arith
      | inr other ↦
          let parts = and_parts (nat_le s 7) (nat_le (2 ^ s) p && nat_lt p (2 ^ s * 2)) other in
          let few : s ≤ 7 = leb-true s 7 parts.0 in
          let within = and_parts (nat_le (2 ^ s) p) (nat_lt p (2 ^ s * 2)) parts.1 in
          let zeros : count_leading_zeros 16 a ≡ 8 - s = zeros_are a s low few (leb-true (2 ^ s) p within.0) (ltb-true p (2 ^ s * 2) within.1) in
          omega arith
    ]
