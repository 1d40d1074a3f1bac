-- The bytes that a writer holds, if they are known, over several writes.
use Rattle.std.proofs.Common.{◌≡◌, ℕ, ◌+◌, ◌-◌, List, ◌++◌, length, take, drop, ap, sym, subst, ◌∙◌, append_assoc}
use Rattle.std.proofs.Math.Seq.{take-add, take-length}
use Rattle.std.proofs.lemmas.List.{length-drop}
use Rattle.std.specs.declared.option.Option.{Option}
use Rattle.std.specs.declared.option.Option.TheVariants.{None, Some}
use Rattle.std.specs.Io.KnownBytes.{Keeps, Appends}

-- bytes that stay after they grew
pub Appends-Keeps : (before now after : Option (List ℕ)) (bytes : List ℕ) → Appends before now bytes → Keeps now after → Appends before after bytes
Appends-Keeps None now after bytes appended kept = tt
Appends-Keeps (Some xs) None after bytes appended kept = absurd appended
Appends-Keeps (Some xs) (Some ys) None bytes appended kept = absurd kept
Appends-Keeps (Some xs) (Some ys) (Some zs) bytes appended kept = kept ∙ appended

-- bytes that grew twice
pub Appends-trans : (before now after : Option (List ℕ)) (front back : List ℕ) → Appends before now front → Appends now after back → Appends before after (front ++ back)
Appends-trans None now after front back first second = tt
Appends-trans (Some xs) None after front back first second = absurd first
Appends-trans (Some xs) (Some ys) None front back first second = absurd second
Appends-trans (Some xs) (Some ys) (Some zs) front back first second = second ∙ ap (λ bytes. bytes ++ back) first ∙ append_assoc xs front back

-- what is left of a piece
pub rest_whole : (taken : ℕ) (piece : List ℕ) → take (length piece - taken) (drop taken piece) ≡ drop taken piece
rest_whole taken piece = ap (λ n. take n (drop taken piece)) (sym (length-drop taken piece)) ∙ take-length (drop taken piece)

-- one more part of the piece
pub Appends-part : (before now after : Option (List ℕ)) (taken count : ℕ) (piece : List ℕ) → Appends before now (take taken piece) →
    Appends now after (take count (take (length piece - taken) (drop taken piece))) → Appends before after (take (taken + count) piece)
Appends-part before now after taken count piece first second =
    let parts : take taken piece ++ take count (take (length piece - taken) (drop taken piece)) ≡ take (taken + count) piece =
    ap (λ xs. take taken piece ++ take count xs) (rest_whole taken piece) ∙ sym (take-add taken count piece) in
    subst (Appends before after) parts (Appends-trans before now after _ _ first second)
