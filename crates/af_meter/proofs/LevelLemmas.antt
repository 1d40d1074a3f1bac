-- Peaks, squares and roots.
use Rattle.std.proofs.Common.{◌≡◌, ◌<◌, ◌≤◌, ◌+◌, ◌*◌, ◌/◌, ◌^◌, ℕ, ℤ, zero, suc, max, nat_le, unsigned_abs, Bool, true, false, List, [], ◌∷◌, ◌++◌, length, map, sym, ap, ap₂, ◌∙◌, subst, refl, arith, append_assoc, append-nil, inl, inr, if◌then◌else◌}
use Rattle.std.proofs.lemmas.Bool.Decides.{nat_tests}
use Rattle.std.proofs.lemmas.Bool.{cases_lt}
use Rattle.std.proofs.lemmas.Nat.{mul-le}
use Rattle.std.proofs.lemmas.List.{length-append}
use Rattle.std.proofs.lemmas.List.FromFn.{map-range_with_len_more}
use Rattle.std.specs.List.{range_with_len}
use Rattle.std.proofs.Math.Nat.{div-mul-le_self, mul_comm, mul_left_comm}
use Rattle.af_sample.proofs.FrameLemmas.{place_before}
use Rattle.af_meter.specs.declared.level.Tally.{Tally}
use Rattle.af_meter.specs.Levels.{if_root, peak_of, root_of, root_up_to, squares_of}
use Rattle.af_meter.specs.Tallies.{IsTally}

-- a number is the root, or is too great for it
root_here : (k n otherwise : ℕ) → k * k ≤ n → if_root k n otherwise ≡ k
root_here k n otherwise low = let test : nat_le (k * k) n ≡ true = grind (arith, nat_tests) in rw test refl

root_less : (k n otherwise : ℕ) → n < k * k → if_root k n otherwise ≡ otherwise
root_less k n otherwise high = let test : nat_le (k * k) n ≡ false = grind (arith, nat_tests) in rw test refl

-- a greater number has a greater square
square_above : (r n k : ℕ) → n < (r + 1) * (r + 1) → r < k → n < k * k
square_above r n k high above =
    let more : (r + 1) * (r + 1) ≤ k * k = mul-le (r + 1) (r + 1) k k (omega (arith, above)) (omega (arith, above)) in
    omega (arith, high, more)

-- the root of n, where it is at most so much
root_below : (r n most : ℕ) → r * r ≤ n → n < (r + 1) * (r + 1) → r ≤ most → root_up_to most n ≡ r
root_below r n zero low high within = omega (arith, within)
root_below r n (suc m) low high within = elim (cases_lt r (suc m)) [
  | inl below ↦ root_less (suc m) n (root_up_to m n) (square_above r n (suc m) high below) ∙ root_below r n m low high (omega (arith, below))
  | inr above ↦
      let same : suc m ≡ r = omega (arith, above, within) in
      ap (λ (k : ℕ). if_root k n (root_up_to m n)) same ∙ root_here r n (root_up_to m n) low
]

-- no root is more than its square
square_up : (r : ℕ) → r ≤ r * r
square_up zero = omega arith
square_up (suc r) = let up : suc r * 1 ≤ suc r * suc r = mul-le (suc r) 1 (suc r) (suc r) (omega arith) (omega arith) in omega (arith, up)

pub root_is : (r n : ℕ) → r * r ≤ n → n < (r + 1) * (r + 1) → root_of n ≡ r
unfolding root_of
root_is r n low high = root_below r n n low high (let up = square_up r in omega (arith, up, low))

-- peaks and squares of more samples
pub peak-append : (xs ys : List ℤ) → peak_of (xs ++ ys) ≡ max (peak_of xs) (peak_of ys)
peak-append [] ys = omega arith
peak-append (x ∷ xs) ys = let ih = peak-append xs ys in omega arith

pub squares-append : (xs ys : List ℤ) → squares_of (xs ++ ys) ≡ squares_of xs + squares_of ys
squares-append [] ys = omega arith
squares-append (x ∷ xs) ys = let ih = squares-append xs ys in omega arith

-- one sample more
pub tally_with : {before tally : Tally} {xs : List ℤ} (x : ℤ) → IsTally before xs → tally.peak ≡ max before.peak (unsigned_abs x) → tally.squares ≡ before.squares + unsigned_abs x * unsigned_abs x → tally.squares ≤ before.squares + 2 ^ 32 → IsTally tally (xs ++ x ∷ [])
tally_with {before} {tally} {xs} x is peak squares few =
    let most : peak_of (xs ++ x ∷ []) ≡ max (peak_of xs) (max (unsigned_abs x) 0) = peak-append xs (x ∷ []) in
    let sum : squares_of (xs ++ x ∷ []) ≡ squares_of xs + (unsigned_abs x * unsigned_abs x + 0) = squares-append xs (x ∷ []) in
    let count : length (xs ++ x ∷ []) ≡ length xs + 1 = length-append xs (x ∷ []) in
    record {
      peak = (let same : tally.peak ≡ peak_of (xs ++ x ∷ []) = omega (arith, most, peak, is.peak) in same);
      squares = (let same : tally.squares ≡ squares_of (xs ++ x ∷ []) = omega (arith, sum, squares, is.squares) in same);
      few = (let less : tally.squares ≤ length (xs ++ x ∷ []) * 2 ^ 32 = omega (arith, count, few, is.few) in less);
    }

-- a square of 16 bits
pub square_small : (x : ℕ) → x ≤ 65535 → x * x < 2 ^ 32
square_small x small = let most : x * x ≤ 65535 * 65535 = mul-le x x 65535 65535 small small in omega (arith, most)

-- the sample of a channel in a frame of a block lies in the block
pub place_within : (channels channel i size : ℕ) → channel < channels → i < size / (2 * channels) → (channels * i + channel) * 2 + 2 ≤ size
place_within channels channel i size is less =
    let n : ℕ = size / (2 * channels) in
    let before : channels * i + channel < channels * n = place_before channels i n channel less is in
    let all : n * (2 * channels) ≤ size = div-mul-le_self size (2 * channels) in
    let same : n * (2 * channels) ≡ 2 * (channels * n) = mul_left_comm n 2 channels ∙ ap (λ (k : ℕ). 2 * k) (mul_comm n channels) in
    omega (arith, before, all, same)
