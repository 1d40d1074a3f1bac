-- Lists whose elements are told apart by a number.
use Rattle.std.proofs.Common.{◌≡◌, ◌≢◌, ℕ, ◌==◌, suc, false, cond, not, List, [], ◌∷◌, filter, refl, ap, ◌∙◌, arith}
use Rattle.std.proofs.lemmas.Bool.Decides.{nat_tests}
use Rattle.std.specs.List.{All}

-- where no element has a number, none is taken out by it
pub keep_others : {X : Type 0} (number : X → ℕ) (n : ℕ) (xs : List X) → All (λ x. n ≢ number x) xs → filter (λ x. not (number x == n)) xs ≡ xs
keep_others number n [] h = refl
keep_others number n (x ∷ xs) h =
    let other : (number x == n) ≡ false = let ne = h 0 x (omega arith) in grind (arith, nat_tests) in
    let rest = keep_others number n xs (λ k d low. h (suc k) d (omega arith)) in
    ap (λ b. cond (not b) (x ∷ filter (λ y. not (number y == n)) xs) (filter (λ y. not (number y == n)) xs)) other ∙ ap (λ l. x ∷ l) rest
