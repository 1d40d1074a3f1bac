-- Pairs that are swapped, place by place.
use Rattle.std.proofs.Common.{◌≡◌, ◌≢◌, ◌<◌, ◌≤◌, ◌+◌, ◌-◌, ◌*◌, ◌%◌, ◌==◌, ℕ, List, [], ◌∷◌, ◌++◌, length, get_or, refl, sym, ap, ◌∙◌, suc, zero, arith, inl, inr}
use Rattle.std.specs.Prelude.{if◌then◌else◌}
use Rattle.std.specs.List.{SwappedAt}
use Rattle.std.proofs.lemmas.Bool.{cases_lt}
use Rattle.std.proofs.lemmas.Bool.Decides.{nat_tests}
use Rattle.std.proofs.lemmas.List.{ext_get_or}
use Rattle.af_sound.specs.declared.head.Coding.{Coding}
use Rattle.af_sound.specs.declared.head.Coding.TheVariants as coding
use Rattle.af_sound.specs.Served.{HasWholePairs, filed_bytes, served_bytes, swapped_pairs}

-- the other place of a pair
abbrev pub partner : ℕ → ℕ
partner place = if place % 2 == 0 then place + 1 else place - 1

length-swapped_pairs : (bytes : List ℕ) → length bytes % 2 ≡ 0 → length (swapped_pairs bytes) ≡ length bytes
length-swapped_pairs [] even = refl
length-swapped_pairs (a ∷ []) even = absurd (omega arith)
length-swapped_pairs (a ∷ b ∷ rest) even = let rests : length (swapped_pairs rest) ≡ length rest = length-swapped_pairs rest (omega arith) in omega arith

each : (bytes : List ℕ) (k : ℕ) → length bytes % 2 ≡ 0 → k < length bytes → get_or (swapped_pairs bytes) k 0 ≡ get_or bytes (partner k) 0
each [] k even low = absurd (omega arith)
each (a ∷ []) k even low = absurd (omega arith)
each (a ∷ b ∷ rest) zero even low = refl
each (a ∷ b ∷ rest) (suc zero) even low = refl
each (a ∷ b ∷ rest) (suc (suc k)) even low =
    let rests : get_or (swapped_pairs rest) k 0 ≡ get_or rest (partner k) 0 = each rest k (omega arith) (omega arith) in
    let places : partner (suc (suc k)) ≡ suc (suc (partner k)) = grind (arith, nat_tests) in
    rests ∙ ap (λ (p : ℕ). get_or (a ∷ b ∷ rest) p 0) (sym places)

-- if every byte comes from the other place of its pair, these are the bytes with each pair swapped
pub swapped_run : (bytes out : List ℕ) → length out ≡ length bytes → length bytes % 2 ≡ 0 →
    ((k : ℕ) → k < length out → get_or out k 0 ≡ get_or bytes (partner k) 0) → out ≡ swapped_pairs bytes
swapped_run bytes out size even from =
    ext_get_or 0 out (swapped_pairs bytes) (size ∙ sym (length-swapped_pairs bytes even))
    (λ k low. from k low ∙ sym (each bytes k even (omega arith)))

-- the first n pairs of a list are swapped, and the rest is as it was
pub record AreSwappedUpTo (first bytes : List ℕ) (n : ℕ) : Type 0 where
  pub size : length bytes ≡ length first
  pub front : (k : ℕ) → k < 2 * n → get_or bytes k 0 ≡ get_or first (partner k) 0
  pub rest : (k : ℕ) → 2 * n ≤ k → get_or bytes k 0 ≡ get_or first k 0

-- one more pair
pub swapped_on : (first bytes next : List ℕ) (n : ℕ) → AreSwappedUpTo first bytes n → length next ≡ length bytes → SwappedAt bytes next (2 * n) (2 * n + 1) → AreSwappedUpTo first next (n + 1)
swapped_on first bytes next n s size at = record {
  size = size ∙ s.size;
  front = λ k low. elim (cases_lt k (2 * n)) [
    | inl before ↦
        let left : k ≢ 2 * n = omega arith in
        let right : k ≢ 2 * n + 1 = omega arith in
        at.2 k 0 left right ∙ s.front k before
    | inr after ↦ elim (cases_lt k (2 * n + 1)) [
      | inl is ↦
          let place : k ≡ 2 * n = omega arith in
          let other : partner (2 * n) ≡ 2 * n + 1 = grind (arith, nat_tests) in
          ap (λ (p : ℕ). get_or next p 0) place ∙ at.0 0 ∙ s.rest (2 * n + 1) (omega arith) ∙ ap (λ (p : ℕ). get_or first p 0) (sym other) ∙ ap (λ (p : ℕ). get_or first (partner p) 0) (sym place)
      | inr is ↦
          let place : k ≡ 2 * n + 1 = omega arith in
          let other : partner (2 * n + 1) ≡ 2 * n = grind (arith, nat_tests) in
          ap (λ (p : ℕ). get_or next p 0) place ∙ at.1 0 ∙ s.rest (2 * n) (omega arith) ∙ ap (λ (p : ℕ). get_or first p 0) (sym other) ∙ ap (λ (p : ℕ). get_or first (partner p) 0) (sym place)
    ]
  ];
  rest = λ k high.
      let left : k ≢ 2 * n = omega arith in
      let right : k ≢ 2 * n + 1 = omega arith in
      at.2 k 0 left right ∙ s.rest k (omega arith);
}

-- pairs that are swapped twice are as they were
swapped_twice : (bytes : List ℕ) → length bytes % 2 ≡ 0 → swapped_pairs (swapped_pairs bytes) ≡ bytes
swapped_twice [] even = refl
swapped_twice (a ∷ []) even = absurd (omega arith)
swapped_twice (a ∷ b ∷ rest) even = ap (λ (l : List ℕ). a ∷ b ∷ l) (swapped_twice rest (omega arith))

-- the sound of a file that was written for samples is taken as these
pub served_again : (c : Coding) (bytes : List ℕ) → c ≢ coding.U8 → HasWholePairs c (length bytes) → served_bytes c (filed_bytes c bytes) ≡ bytes
served_again coding.Mu255 bytes written whole = refl
served_again coding.Alaw bytes written whole = refl
served_again coding.Lin16Big bytes written whole = refl
served_again coding.Lin16Little bytes written whole = swapped_twice bytes whole
served_again coding.U8 bytes written whole = absurd (written refl)

-- whole pairs, and what is after them
pub swapped_append : (a b : List ℕ) → length a % 2 ≡ 0 → swapped_pairs (a ++ b) ≡ swapped_pairs a ++ swapped_pairs b
swapped_append [] b even = refl
swapped_append (x ∷ []) b even = absurd (omega arith)
swapped_append (x ∷ y ∷ rest) b even = ap (λ (l : List ℕ). y ∷ x ∷ l) (swapped_append rest b (omega arith))
