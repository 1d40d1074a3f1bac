-- The known bytes of a reader, over several reads.
use Rattle.std.proofs.Common.{◌≡◌, ℕ, ◌+◌, ◌≤◌, List, ◌++◌, length, take, ap, ap₂, sym, subst, ◌∙◌, append_assoc, take-add, take_at, drop_at, length-take-le}
use Rattle.std.proofs.lemmas.List.{take-append-le}
use Rattle.std.specs.declared.option.Option.{Option}
use Rattle.std.specs.declared.option.Option.TheVariants.{None, Some}
use Rattle.std.specs.Io.KnownBytes.{Keeps, Consumes}

-- bytes that were consumed, and then stayed
pub Consumes-Keeps : (before now after : Option (List ℕ)) (bytes : List ℕ) → Consumes before now bytes → Keeps now after → Consumes before after bytes
Consumes-Keeps None now after bytes consumed kept = tt
Consumes-Keeps (Some xs) None after bytes consumed kept = absurd consumed
Consumes-Keeps (Some xs) (Some ys) None bytes consumed kept = absurd kept
Consumes-Keeps (Some xs) (Some ys) (Some zs) bytes consumed kept = consumed ∙ ap (λ left. bytes ++ left) (sym kept)

-- bytes that were consumed twice
pub Consumes-trans : (before now after : Option (List ℕ)) (front back : List ℕ) → Consumes before now front → Consumes now after back → Consumes before after (front ++ back)
Consumes-trans None now after front back first second = tt
Consumes-trans (Some xs) None after front back first second = absurd first
Consumes-trans (Some xs) (Some ys) None front back first second = absurd second
Consumes-trans (Some xs) (Some ys) (Some zs) front back first second = first ∙ ap (λ left. front ++ left) second ∙ sym (append_assoc front back zs)

-- a slice whose first bytes come before what was read into the rest of it
take-part : (filled count : ℕ) (into part past : List ℕ) → filled ≤ length into → count ≤ length part →
    take (filled + count) (take filled into ++ (part ++ past)) ≡ take filled into ++ take count part
take-part filled count into part past fits few =
    let len = length-take-le filled into fits in
    take-add filled count (take filled into ++ (part ++ past))
    ∙ ap₂ (λ (a b : List ℕ). a ++ take count b) (take_at (take filled into) (part ++ past) filled len) (drop_at (take filled into) (part ++ past) filled len)
    ∙ ap (λ (t : List ℕ). take filled into ++ t) (take-append-le count part past few)

-- one more read into the rest of a slice
pub Consumes-part : (before now after : Option (List ℕ)) (filled count : ℕ) (into part past : List ℕ) → filled ≤ length into → count ≤ length part →
    Consumes before now (take filled into) → Consumes now after (take count part) → Consumes before after (take (filled + count) (take filled into ++ (part ++ past)))
Consumes-part before now after filled count into part past fits few first second =
    subst (Consumes before after) (sym (take-part filled count into part past fits few)) (Consumes-trans before now after (take filled into) (take count part) first second)
