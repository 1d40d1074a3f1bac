-- Written tables: a test of the whole table is computed once, and then read at a place.
use Rattle.std.proofs.Common.{◌≡◌, ◌<◌, ◌+◌, ◌&&◌, ℕ, zero, suc, Bool, true, List, [], ◌∷◌, length, map, slice_index, slice_index_or, ℤ, pos, to_z, of_z, arith, ap, sym, ◌∙◌}
use Rattle.std.specs.Int.{w16}
use Rattle.std.proofs.lemmas.Bool.{and_parts}
use Rattle.std.proofs.lemmas.List.{get_or-map}

-- each entry from place i on passes a test of its place and itself
abbrev pub all_from : (ℕ → ℕ → Bool) → ℕ → List ℕ → Bool
all_from passes i [] = true
all_from passes i (x ∷ xs) = passes i x && all_from passes (suc i) xs

-- what the test of the whole table means for one entry
pub entry_passes : (passes : ℕ → ℕ → Bool) (i : ℕ) (xs : List ℕ) (k : ℕ) → all_from passes i xs ≡ true → k < length xs → passes (k + i) (slice_index xs k) ≡ true
entry_passes passes i [] k all low = absurd (omega arith)
entry_passes passes i (x ∷ xs) zero all low =
    ap (λ n. passes n x) (omega arith) ∙ (and_parts (passes i x) (all_from passes (suc i) xs) all).0
entry_passes passes i (x ∷ xs) (suc k) all low =
    ap (λ n. passes n (slice_index xs k)) (omega arith)
    ∙ entry_passes passes (suc i) xs k (and_parts (passes i x) (all_from passes (suc i) xs) all).1 (omega arith)

-- a sample as the code reads it from a table
abbrev pub read : ℤ → ℤ
read x = to_z w16 (of_z w16 x)

pub read_entry : (table samples : List ℤ) (k : ℕ) → map read table ≡ samples → k < length table → read (slice_index_or table k (pos 0)) ≡ slice_index_or samples k (pos 0)
read_entry table samples k same low = sym (get_or-map read table k (pos 0) (pos 0) low) ∙ ap (λ (xs : List ℤ). slice_index_or xs k (pos 0)) same
