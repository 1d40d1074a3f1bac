use Rattle.std.proofs.Common.{◌≡◌, ◌+◌, ℕ, zero, suc, List, [], ◌∷◌, ◌++◌, length, take, drop, refl, sym, ap, ap₂, ◌∙◌, arith}
use Rattle.std.proofs.lemmas.List.{take-append-drop, drop-drop}
use Rattle.std.proofs.lemmas.Grind.{common_steps}
use Rattle.af_io.proofs.mem_link.MemLinkLink.read.Goals as goal

taken_twice : (n m : ℕ) (xs : List ℕ) → take (length (take n (take m xs))) xs ≡ take n (take m xs)
taken_twice zero m xs = refl
taken_twice (suc n) zero xs = refl
taken_twice (suc n) (suc m) [] = refl
taken_twice (suc n) (suc m) (x ∷ xs) = ap (λ ys. x ∷ ys) (taken_twice n m xs)

-- the first bytes that are left, before the others
consumed : (left far into : List ℕ) (given count room piece : ℕ) → left ≡ drop given far → count ≡ length (take room (take piece left)) → take count into ≡ take room (take piece left) →
    left ≡ take count into ++ drop (given + count) far
consumed left far into given count room piece is count_is copied =
    let front : take count into ≡ take count left = copied ∙ sym (taken_twice room piece left) ∙ ap (λ n. take n left) (sym count_is) in
    let back : drop (given + count) far ≡ drop count left = sym (drop-drop count given far) ∙ ap (drop count) (sym is) in
    sym (ap₂ (λ (a b : List ℕ). a ++ b) front back ∙ take-append-drop count left)

pub returns-clause-consumed : goal.returns-clause-consumed
returns-clause-consumed c =
    consumed c.args.self.now.left c.self.inside.far.items c.copy_first-count.new.into c.self.inside.given c.copy_first-count.result (length c.args.into.now) c.min-piece.result
    (grind (arith, common_steps)) (grind (arith, common_steps)) (grind (arith, common_steps))
