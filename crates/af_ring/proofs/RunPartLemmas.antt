-- The two parts of a run: the cells from the place of its time on, as many as there are before the end, and then those from the
-- first cell on.
use Rattle.std.proofs.Common.{◌≡◌, ℕ, ℤ, pos, ◌+◌, ◌-◌, ◌%◌, ◌<◌, ◌≤◌, ◌⊎◌, inl, inr, cond, min, List, ◌++◌, length, take, drop, get_or, sym, ap, ◌∙◌, subst, arith, length-append, length-drop, get_or-drop}
use Rattle.std.proofs.lemmas.Bool.{cases_lt, lt-ltb, le-ltb}
use Rattle.std.proofs.lemmas.List.{length-take-le, get_or-take, get_or_append_left, get_or-append_right}
use Rattle.std.proofs.Math.Nat.{mod-lt}
use Rattle.std.proofs.lemmas.Simd.{length-zip2, get_or-zip2}
use lib.Lanes.{zip2}
use borrow.Rule.Slice.PartMut.{put_mid, post_of}
use Rattle.af_ring.specs.Cells.{cell, ChangesRun, IsRunAt}
use Rattle.af_ring.proofs.RingStepLemmas.{step}

-- how many of a run of n times from t on are in its first part
abbrev pub first_of : ℕ → ℕ → ℕ → ℕ
first_of t n size = min n (size - t % size)

-- each time of a run is in its first part or in the second
pub part_of : (t k n size first : ℕ) → first ≡ first_of t n size → n ≤ size → k < n →
    ((k < first) × ((t + k) % size ≡ t % size + k)) ⊎ ((first ≤ k) × ((t + k) % size ≡ k - first))
part_of t k n size first is room low =
    let at : t % size < size = mod-lt t (omega arith) in
    elim (step t k size (omega arith)) [
      | inl within ↦ inl (omega arith, within.1)
      | inr over ↦ inr (omega arith, omega arith)
    ]

-- the n cells from a place on are changed, each to what f makes of its place among them and of its old sample; no other cell is
-- changed
pub record ChangesPart (old new : List ℤ) (at n : ℕ) (f : ℕ → ℤ → ℤ) : Type 0 where
  pub size : length new ≡ length old
  pub inside : (p : ℕ) → at ≤ p → p < at + n → get_or new p (pos 0) ≡ f (p - at) (get_or old p (pos 0))
  pub below : (p : ℕ) → p < at → get_or new p (pos 0) ≡ get_or old p (pos 0)
  pub above : (p : ℕ) → at + n ≤ p → get_or new p (pos 0) ≡ get_or old p (pos 0)

-- a part is written over by as many samples
pub length-written : (old written : List ℤ) (at k : ℕ) → at + k ≤ length old → length written ≡ k → length (put_mid at k old written) ≡ length old
length-written old written at k room long =
    let front : length (take at old) ≡ at = length-take-le at old (omega arith) in
    let back : length (post_of at k old) ≡ length old - at - k = length-drop k (drop at old) ∙ ap (λ m. m - k) (length-drop at old) in
    let tail : length (written ++ post_of at k old) ≡ length written + length (post_of at k old) = length-append written (post_of at k old) in
    length-append (take at old) (written ++ post_of at k old) ∙ omega arith

-- what is written over a part
pub part_written : (old written : List ℤ) (at k n : ℕ) (f : ℕ → ℤ → ℤ) → k ≡ n → at + n ≤ length old → length written ≡ n →
    ((j : ℕ) → j < n → get_or written j (pos 0) ≡ f j (get_or old (at + j) (pos 0))) → ChangesPart old (put_mid at k old written) at n f
part_written old written at k n f same room long each =
    let front : length (take at old) ≡ at = length-take-le at old (omega arith) in
    record {
      size = length-written old written at k (omega arith) (omega arith);
      inside = λ p from low.
          get_or-append_right (take at old) (written ++ post_of at k old) at p (pos 0) front from
          ∙ get_or_append_left written (post_of at k old) (pos 0) (p - at) (omega arith) ∙ each (p - at) (omega arith)
          ∙ ap (λ i. f (p - at) (get_or old i (pos 0))) (let e : at + (p - at) ≡ p = omega arith in e);
      below = λ p low. get_or_append_left (take at old) (written ++ post_of at k old) (pos 0) p (omega arith) ∙ get_or-take at old p (pos 0) low;
      above = λ p past.
          get_or-append_right (take at old) (written ++ post_of at k old) at p (pos 0) front (omega arith)
          ∙ get_or-append_right written (post_of at k old) n (p - at) (pos 0) long (omega arith)
          ∙ get_or-drop k (drop at old) (p - at - n) (pos 0) ∙ get_or-drop at old (k + (p - at - n)) (pos 0)
          ∙ ap (λ i. get_or old i (pos 0)) (let e : at + (k + (p - at - n)) ≡ p = omega arith in e);
    }

-- a run is changed, one part after the other
pub changes_run : (old mid new : List ℤ) (t n first : ℕ) (f : ℕ → ℤ → ℤ) → first ≡ first_of t n (length old) → n ≤ length old →
    ChangesPart old mid (t % length old) first f → ChangesPart mid new 0 (n - first) (λ j x. f (first + j) x) → ChangesRun old new t n f
changes_run old mid new t n first f is room front back =
    let size : length new ≡ length old = back.size ∙ front.size in
    let at_place : (k p : ℕ) → (t + k) % length old ≡ p → cell new (t + k) ≡ get_or new p (pos 0) =
    λ k p e. ap (λ m. get_or new ((t + k) % m) (pos 0)) size ∙ ap (λ i. get_or new i (pos 0)) e in
    let was : (k p : ℕ) → (t + k) % length old ≡ p → get_or old p (pos 0) ≡ cell old (t + k) =
    λ k p e. ap (λ i. get_or old i (pos 0)) (sym e) in
    record {
      size = size;
      each = λ k low.
          let at : t % length old < length old = mod-lt t (omega arith) in
          elim (cases_lt k n) [
            | inl inside ↦
                elim (part_of t k n (length old) first is room inside) [
                  | inl a ↦
                      at_place k (t % length old + k) a.1 ∙ back.above (t % length old + k) (omega arith) ∙ front.inside (t % length old + k) (omega arith) (omega arith)
                      ∙ ap (λ i. f i (get_or old (t % length old + k) (pos 0))) (let e : t % length old + k - t % length old ≡ k = omega arith in e)
                      ∙ ap (f k) (was k (t % length old + k) a.1)
                  | inr b ↦
                      at_place k (k - first) b.1 ∙ back.inside (k - first) (omega arith) (omega arith)
                      ∙ ap (λ i. f i (get_or mid (k - first) (pos 0))) (let e : first + (k - first - 0) ≡ k = omega arith in e)
                      ∙ ap (f k) (front.below (k - first) (omega arith) ∙ was k (k - first) b.1)
                ]
                ∙ sym (ap (λ b. cond b (f k (cell old (t + k))) (cell old (t + k))) (lt-ltb k n inside))
            | inr past ↦
                elim (step t k (length old) low) [
                  | inl a ↦
                      at_place k (t % length old + k) a.1 ∙ back.above (t % length old + k) (omega arith) ∙ front.above (t % length old + k) (omega arith)
                      ∙ was k (t % length old + k) a.1
                  | inr b ↦
                      at_place k (t % length old + k - length old) b.1 ∙ back.above (t % length old + k - length old) (omega arith)
                      ∙ front.below (t % length old + k - length old) (omega arith) ∙ was k (t % length old + k - length old) b.1
                ]
                ∙ sym (ap (λ b. cond b (f k (cell old (t + k))) (cell old (t + k))) (le-ltb k n past))
          ];
    }

-- a part, joined with as many samples; x is the sample at each place
pub part_joined : (old samples joined : List ℤ) (at k n : ℕ) (f : ℤ → ℤ → ℤ) (x : ℕ → ℤ) → k ≡ n → at + n ≤ length old → length samples ≡ n →
    joined ≡ zip2 f (take k (drop at old)) samples → ((j : ℕ) → j < n → get_or samples j (pos 0) ≡ x j) →
    (length joined ≡ n) × ((j : ℕ) → j < n → get_or joined j (pos 0) ≡ f (get_or old (at + j) (pos 0)) (x j))
part_joined old samples joined at k n f x same room long is given =
    let left : length (drop at old) ≡ length old - at = length-drop at old in
    let long' : length (take k (drop at old)) ≡ k = length-take-le k (drop at old) (omega arith) in (
      ap length is ∙ length-zip2 f (take k (drop at old)) samples (omega arith) ∙ omega arith,
      λ j low. ap (λ xs. get_or xs j (pos 0)) is ∙ get_or-zip2 f (take k (drop at old)) samples j (pos 0) (pos 0) (pos 0) (omega arith) (omega arith)
          ∙ ap (λ y. f y (get_or samples j (pos 0))) (get_or-take k (drop at old) j (pos 0) (omega arith) ∙ get_or-drop at old j (pos 0))
          ∙ ap (f (get_or old (at + j) (pos 0))) (given j low),
    )

-- what is written over the two parts of a run changes it
pub run_written : (old first_part rest : List ℤ) (t n start first k k' : ℕ) (f : ℕ → ℤ → ℤ) → start ≡ t % length old → first ≡ first_of t n (length old) → 0 < length old → n ≤ length old →
    k ≡ first → k' ≡ n - first → length first_part ≡ first → length rest ≡ n - first →
    ((j : ℕ) → j < first → get_or first_part j (pos 0) ≡ f j (get_or old (start + j) (pos 0))) →
    ((j : ℕ) → j < n - first → get_or rest j (pos 0) ≡ f (first + j) (get_or (put_mid start k old first_part) (0 + j) (pos 0))) →
    ChangesRun old (put_mid 0 k' (put_mid start k old first_part) rest) t n f
run_written old first_part rest t n start first k k' f at is some room same same' long long' front back =
    let within : t % length old < length old = mod-lt t some in
    let first_change : ChangesPart old (put_mid start k old first_part) start first f =
    part_written old first_part start k first f same (omega arith) long front in
    let size : length (put_mid start k old first_part) ≡ length old = first_change.size in
    changes_run old (put_mid start k old first_part) (put_mid 0 k' (put_mid start k old first_part) rest) t n first f is room
    (subst (λ m. ChangesPart old (put_mid start k old first_part) m first f) at first_change)
    (part_written (put_mid start k old first_part) rest 0 k' (n - first) (λ j x. f (first + j) x) same' (omega arith) long' back)

-- a run is read, one part after the other
pub reads_run : (cells before_end rest : List ℤ) (t n first : ℕ) → first ≡ first_of t n (length cells) → n ≤ length cells → length before_end ≡ first → length rest ≡ n - first →
    ((j : ℕ) → j < first → get_or before_end j (pos 0) ≡ get_or cells (t % length cells + j) (pos 0)) →
    ((j : ℕ) → j < n - first → get_or rest j (pos 0) ≡ get_or cells j (pos 0)) → IsRunAt (before_end ++ rest) cells t
reads_run cells before_end rest t n first is room long long' front back k low =
    let all : length (before_end ++ rest) ≡ length before_end + length rest = length-append before_end rest in
    elim (part_of t k n (length cells) first is room (omega arith)) [
      | inl a ↦ get_or_append_left before_end rest (pos 0) k (omega arith) ∙ front k a.0 ∙ ap (λ i. get_or cells i (pos 0)) (sym a.1)
      | inr b ↦ get_or-append_right before_end rest first k (pos 0) long b.0 ∙ back (k - first) (omega arith) ∙ ap (λ i. get_or cells i (pos 0)) (sym b.1)
    ]
