-- The lines of a text that is read line by line.
use Rattle.std.proofs.Common.{◌≡◌, ℕ, suc, Bool, true, false, cond, List, ◌∷◌, ap}
use Rattle.af_text.specs.Reading.{Entry, entries_of}

module _ {A : Type 0} (is_over : List ℕ → Bool) (said : List ℕ → A) (n : ℕ) (line : List ℕ) (rest : List (List ℕ)) where
  abbrev pub entry : Entry A
  entry = record { number = n; said = said line }

  -- a line that is skipped is no entry
  pub entries_over : is_over line ≡ true → entries_of is_over said n (line ∷ rest) ≡ entries_of is_over said (suc n) rest
  entries_over over = ap (λ t. cond t (entries_of is_over said (suc n) rest) (entry ∷ entries_of is_over said (suc n) rest)) over

  -- and any other line is one
  pub entries_read : is_over line ≡ false → entries_of is_over said n (line ∷ rest) ≡ entry ∷ entries_of is_over said (suc n) rest
  entries_read over = ap (λ t. cond t (entries_of is_over said (suc n) rest) (entry ∷ entries_of is_over said (suc n) rest)) over
