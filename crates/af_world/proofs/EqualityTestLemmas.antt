-- Tests of numbers and bytes.
use Rattle.std.proofs.Common.{◌≡◌, ℕ, true, ◌==◌, List, [], ◌∷◌, refl, rules}
use Rattle.af_world.specs.Outside.{same_bytes}

pub eq-refl : (k : ℕ) → (k == k) ≡ true
eq-refl k = search rules

pub same_bytes-refl : (xs : List ℕ) → same_bytes xs xs ≡ true
same_bytes-refl [] = refl
same_bytes-refl (x ∷ xs) = let e = same_bytes-refl xs in search rules
