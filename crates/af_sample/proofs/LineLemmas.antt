-- The interval of a number by the lines of the segments: outside its segment a line is at or above the others.
use Rattle.std.proofs.Common.{◌≡◌, ◌<◌, ◌≤◌, ◌+◌, ◌-◌, ◌*◌, ◌/◌, ◌^◌, ℕ, zero, suc, min, refl, sym, subst, ap, ◌∙◌, arith}
use Rattle.std.proofs.lemmas.Nat.{shr-shr}

-- the value of the line of segment k at a, if each step of the first segment has 2 ^ s numbers
abbrev pub line : ℕ → ℕ → ℕ → ℕ
line s a k = a / 2 ^ (k + s) + k * 16

-- the least value of the lines of the segments 0 to k
unfoldable pub least : ℕ → ℕ → ℕ → ℕ
least s a zero = a / 2 ^ s
least s a (suc k) = min (least s a k) (line s a (suc k))

pub least-zero : (s a : ℕ) → a / 2 ^ s ≡ least s a 0
unfolding least
least-zero s a = refl

least-suc : (s a k : ℕ) → least s a (suc k) ≡ min (least s a k) (line s a (suc k))
unfolding least
least-suc s a k = refl

-- one more line, as the code takes it
pub with_line : (s a k r r' : ℕ) → r ≡ least s a k → r' ≡ min r (line s a (suc k)) → r' ≡ least s a (suc k)
with_line s a k r r' before here = here ∙ ap (λ n. min n (line s a (suc k))) before ∙ sym (least-suc s a k)

-- a step has twice as many numbers in the next segment
half : (s a k : ℕ) → a / 2 ^ (suc k + s) ≡ a / 2 ^ (k + s) / 2
half s a k = ap (λ n. a / 2 ^ n) (let e : suc k + s ≡ k + s + 1 = omega arith in e) ∙ sym (shr-shr a (k + s) 1)

first_line : (s a : ℕ) → least s a 0 ≡ line s a 0
first_line s a =
    let same : a / 2 ^ s ≡ a / 2 ^ (0 + s) = ap (λ n. a / 2 ^ n) (let e : s ≡ 0 + s = omega arith in e) in
    let zero_steps : a / 2 ^ (0 + s) ≡ line s a 0 = omega arith in
    sym (least-zero s a) ∙ same ∙ zero_steps

-- from its segment on a line is the least so far
least_from : (s a k : ℕ) → 16 ≤ a / 2 ^ (k + s) → least s a k ≡ line s a k
least_from s a zero high = first_line s a
least_from s a (suc k) high =
    let twice : a / 2 ^ (suc k + s) ≡ a / 2 ^ (k + s) / 2 = half s a k in
    let before : least s a k ≡ line s a k = least_from s a k (omega arith) in
    let lower : min (least s a k) (line s a (suc k)) ≡ line s a (suc k) = omega arith in
    least-suc s a k ∙ lower

least_most : (s a k : ℕ) → least s a k ≤ line s a k
least_most s a zero = let e = first_line s a in omega arith
least_most s a (suc k) = let e = least-suc s a k in omega arith

-- up to its segment a line is below all that come after it
pub least_to : (s a k n j : ℕ) → a / 2 ^ (k + s) < 32 → j ≡ n + k → (least s a j ≡ least s a k) × (a / 2 ^ (j + s) < 32)
least_to s a k zero j few same =
    let e : k ≡ j = omega arith in
    (ap (least s a) (sym e), subst (λ i. a / 2 ^ (i + s) < 32) e few)
least_to s a k (suc n) j few same =
    let last : suc (n + k) ≡ j = omega arith in
    let before = least_to s a k n (n + k) few refl in
    let steps : a / 2 ^ (n + k + s) < 32 = before.1 in
    let twice : a / 2 ^ (suc (n + k) + s) ≡ a / 2 ^ (n + k + s) / 2 = half s a (n + k) in
    let most : least s a (n + k) ≤ line s a (n + k) = least_most s a (n + k) in
    let lower : min (least s a (n + k)) (line s a (suc (n + k))) ≡ least s a (n + k) = omega arith in
    let small : a / 2 ^ (suc (n + k) + s) < 32 = omega arith in
    (ap (least s a) (sym last) ∙ least-suc s a (n + k) ∙ lower ∙ before.0, subst (λ i. a / 2 ^ (i + s) < 32) last small)

-- the line of a number's segment is the least of all
pub least_is : (s a top k : ℕ) → k ≤ top → 16 ≤ a / 2 ^ (k + s) → a / 2 ^ (k + s) < 32 → least s a top ≡ line s a k
least_is s a top k low high few = (least_to s a k (top - k) top few (omega arith)).0 ∙ least_from s a k high
