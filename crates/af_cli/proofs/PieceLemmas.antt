-- The pieces of a text that is cut at a character, one after another.
use Rattle.std.proofs.Common.{◌≡◌, List, ℕ, [], ◌∷◌, Bor, sym, ap, refl}
use Rattle.std.specs.Prelude.{Option, None, Some}
use Rattle.std.specs.declared.str.Split.{Split}
use Rattle.std.specs.Str.Iter.{split_steps}
use Rattle.std.specs.Str.Pattern.{FindsChar}
use Rattle.std.proofs.lemmas.Iterator.{YieldsList}

-- the iterator gives these pieces
abbrev pub Pieces : Split ℕ → List (List ℕ) → Type 0
Pieces s pieces = YieldsList (split_steps FindsChar (λ a b. b ≡ a)) (λ x. x.now) s pieces

-- one more piece
pub record Next (t : Split ℕ) (x : Bor (List ℕ)) (pieces : List (List ℕ)) : Type 0 where
  pub more : List (List ℕ)
  pub is : pieces ≡ x.now ∷ more
  pub then : Pieces t more

pub piece_next : {s : Split ℕ} {pieces : List (List ℕ)} (t : Split ℕ) (r : Option (Bor (List ℕ))) (x : Bor (List ℕ)) → Pieces s pieces → r ≡ Some x → split_steps FindsChar (λ a b. b ≡ a) s r t → Next t x pieces
piece_next {pieces = []} t r x gives is step = absurd (gives.runs x t (rw is at step))
piece_next {pieces = piece ∷ more} t r x gives is step = let a = gives.runs.1 x t (rw is at step) in record { more = more; is = ap (λ n. n ∷ more) (sym a.0); then = record { runs = a.1 } }

pub no_piece : {s : Split ℕ} {pieces : List (List ℕ)} (t : Split ℕ) (r : Option (Bor (List ℕ))) → Pieces s pieces → r ≡ None → split_steps FindsChar (λ a b. b ≡ a) s r t → pieces ≡ []
no_piece {pieces = []} t r gives is step = refl
no_piece {pieces = piece ∷ more} t r gives is step = absurd (gives.runs.0 t (rw is at step))
