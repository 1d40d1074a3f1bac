-- A dial that is tried again.
use Rattle.std.specs.Prelude.{◌≡◌, ℕ, List, [], ◌∷◌}
use Rattle.af_io.specs.declared.dial.Dialed.{Dialed}
use Rattle.af_io.specs.declared.dial.Dialed.TheVariants as dialed

-- Dials of an address have all failed, and lead from the first to the last. Before each of them the dial stood as in this list,
-- the latest first.
abbrev pub HaveFailed : {D F : Type 0} → (D → List ℕ → Dialed F → D → Type 0) → List ℕ → D → List D → D → Type 0
HaveFailed dials address first [] last = last ≡ first
HaveFailed dials address first (before ∷ earlier) last =
    dials before address dialed.Failed last × HaveFailed dials address first earlier before

-- the dials of an address have all failed but the last, which has this answer; together they lead from the first to the last
pub record Tried {D F : Type 0} (dials : D → List ℕ → Dialed F → D → Type 0) (address : List ℕ) (answer : Dialed F)
    (first last : D) : Type 0 where
  pub earlier : List D
  pub before : D
  pub failed : HaveFailed dials address first earlier before
  pub answered : dials before address answer last
