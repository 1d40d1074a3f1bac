-- Texts that are joined in another order of the joints.
use Rattle.std.proofs.Common.{◌≡◌, ◌++◌, ◌∙◌, List, ℕ, ap, append_assoc}

pub joined_four : (t a b c d : List ℕ) → t ++ a ++ b ++ c ++ d ≡ t ++ (a ++ b ++ c ++ d)
joined_four t a b c d =
    ap (λ (l : List ℕ). l ++ d) (ap (λ (l : List ℕ). l ++ c) (append_assoc t a b) ∙ append_assoc t (a ++ b) c) ∙ append_assoc t (a ++ b ++ c) d
