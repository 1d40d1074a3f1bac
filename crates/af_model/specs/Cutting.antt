-- Bytes that come to a link in two pieces, one right after the other, are as good as both at once.
use Rattle.std.specs.Prelude.{◌≡◌, ℕ, List, ◌++◌}
use Rattle.af_model.specs.State.{OpenLink}
use Rattle.af_model.specs.Advance.{absorb}

-- Two pieces come to link k, one right after the other. They change it and its environment as both do together.
abbrev pub CutsAlike : ℕ → OpenLink → Type 0
CutsAlike k p = (a b : List ℕ) → absorb k b (absorb k a p) ≡ absorb k (a ++ b) p
