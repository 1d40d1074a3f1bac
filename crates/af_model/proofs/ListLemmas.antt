-- Lists with one element replaced or added, and lists over ranges of numbers.
use Rattle.std.proofs.Common.{◌≡◌, ◌≢◌, ℕ, zero, suc, ◌+◌, ◌==◌, ◌<◌, ◌≤◌, not, cond, List, [], ◌∷◌, ◌++◌, map, filter, slice_get, slice_set, refl, ap, ◌∙◌, append-nil, arith}
use Rattle.std.proofs.lemmas.List.Elements.{filter-append}
use Rattle.std.specs.List.{range_with_len}
use Rattle.std.specs.declared.option.Option.TheVariants.{Some}
use Rattle.af_model.proofs.BoolTestLemmas.{same_number}

module _ {A : Type 0} where
  pub get-set_other : (xs : List A) (j k : ℕ) (x : A) → k ≢ j → slice_get (slice_set xs j x) k ≡ slice_get xs k
  get-set_other [] j k x apart = refl
  get-set_other (y ∷ xs) zero zero x apart = absurd (apart refl)
  get-set_other (y ∷ xs) zero (suc k) x apart = refl
  get-set_other (y ∷ xs) (suc j) zero x apart = refl
  get-set_other (y ∷ xs) (suc j) (suc k) x apart = get-set_other xs j k x (λ e. apart (ap suc e))

  pub get-set_same : (xs : List A) (k : ℕ) (x y : A) → slice_get xs k ≡ Some x → slice_get (slice_set xs k y) k ≡ Some y
  get-set_same [] k x y there = absurd cc
  get-set_same (z ∷ xs) zero x y there = refl
  get-set_same (z ∷ xs) (suc k) x y there = get-set_same xs k x y there

  -- what is the same at each number of a range is the same over the range
  pub map-range_alike : (f g : ℕ → A) (a n : ℕ) → ((j : ℕ) → a ≤ j → j < a + n → f j ≡ g j) → map f (range_with_len a n) ≡ map g (range_with_len a n)
  map-range_alike f g a zero same = refl
  map-range_alike f g a (suc n) same =
      ap (λ x. x ∷ map f (range_with_len (a + 1) n)) (same a (omega arith) (omega arith))
      ∙ ap (λ l. g a ∷ l) (map-range_alike f g (a + 1) n (λ j from to. same j (omega arith) (omega arith)))

  -- what link k leaves at the end of a list is not there without it
  pub pushed_without : (link : A → ℕ) (k : ℕ) (xs : List A) (x : A) → link x ≡ k → filter (λ y. not (link y == k)) (xs ++ x ∷ []) ≡ filter (λ y. not (link y == k)) xs
  pushed_without link k xs x own =
      let others : List A = filter (λ y. not (link y == k)) xs in
      filter-append (λ y. not (link y == k)) xs (x ∷ []) ∙ ap (λ t. others ++ cond (not t) (x ∷ []) []) (ap (λ n. n == k) own ∙ same_number k) ∙ append-nil others
