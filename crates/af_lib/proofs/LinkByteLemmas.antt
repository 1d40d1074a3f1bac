-- The bytes that a link gives, over several reads.
use Rattle.std.proofs.Common.{◌≡◌, refl, IsSome, ℕ, ◌+◌, ◌≤◌, List, ◌++◌, length, take, sym, ap, ap₂, ◌∙◌, subst, Option, None, Some}
use Rattle.std.proofs.Math.Seq.{take-add}
use Rattle.std.proofs.lemmas.List.{take_at, drop_at, length-take-le, take-append-le}
use Rattle.af_io.specs.Observed.{Consumed}
use Rattle.af_io.proofs.ConsumedLemmas.{consumed_on}
use Rattle.af_lib.specs.Observed.{BothTold}

-- bytes that stay observable
pub told_both : (before after : Option (List ℕ)) (input : List ℕ) (P : List ℕ → List ℕ → Type 0) → before ≡ Some input → (IsSome before → IsSome after) →
    BothTold before after P → (a : List ℕ) × (after ≡ Some a) × P input a
told_both None after input P is stays told = cc is
told_both (Some x) None input P is stays told = cc (stays refl)
told_both (Some x) (Some a) input P is stays told = let same : x ≡ input = cc in (a, refl, subst (λ (i : List ℕ). P i a) same told)

-- a slice whose first part comes before what was read into the rest of it
pub take-part : (filled count : ℕ) (into part : List ℕ) → filled ≤ length into → take (filled + count) (take filled into ++ part) ≡ take filled into ++ take count part
take-part filled count into part fits =
    let len = length-take-le filled into fits in
    take-add filled count (take filled into ++ part) ∙ ap₂ (λ (a b : List ℕ). a ++ take count b) (take_at (take filled into) part filled len) (drop_at (take filled into) part filled len)

-- one more read into the rest of a slice
pub Consumed-part : (before now after : Option (List ℕ)) (filled count : ℕ) (into part past : List ℕ) → filled ≤ length into → count ≤ length part →
    Consumed before (take filled into) now → Consumed now (take count part) after → Consumed before (take (filled + count) (take filled into ++ (part ++ past))) after
Consumed-part before now after filled count into part past fits few first second =
    let P : List ℕ → Type 0 = λ bytes. Consumed before bytes after in
    let bytes = take-part filled count into (part ++ past) fits ∙ ap (λ (t : List ℕ). take filled into ++ t) (take-append-le count part past few) in
    subst P (sym bytes) (consumed_on before now after (take filled into) (take count part) first second)

-- a weaker statement on observable bytes
pub BothTold-map : (before after : Option (List ℕ)) (P Q : List ℕ → List ℕ → Type 0) → BothTold before after P → ((b a : List ℕ) → P b a → Q b a) → BothTold before after Q
BothTold-map before None P Q told f = tt
BothTold-map None (Some z) P Q told f = told
BothTold-map (Some x) (Some z) P Q told f = f x z told

-- what was given, if observable
pub BothTold-Consumed : (before after : Option (List ℕ)) (part : List ℕ) → Consumed before part after → BothTold before after (λ b a. b ≡ part ++ a)
BothTold-Consumed before None part consumed = tt
BothTold-Consumed None (Some z) part consumed = consumed
BothTold-Consumed (Some x) (Some z) part consumed = consumed

-- a statement on a second stretch, after what was given in a first
pub BothTold-later : (before now after : Option (List ℕ)) (part : List ℕ) (P Q : List ℕ → List ℕ → Type 0) → Consumed before part now → BothTold now after P →
    ((b a : List ℕ) → P b a → Q (part ++ b) a) → BothTold before after Q
BothTold-later before now None part P Q consumed told f = tt
BothTold-later before None (Some z) part P Q consumed told f = absurd told
BothTold-later None (Some y) (Some z) part P Q consumed told f = absurd consumed
BothTold-later (Some x) (Some y) (Some z) part P Q consumed told f = let R : List ℕ → Type 0 = λ b. Q b z in subst R (sym consumed) (f y z told)
