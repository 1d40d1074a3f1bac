-- The interval of a magnitude, if the starts rise: the place whose start is at most the magnitude and whose next start is above
-- it.
use Rattle.std.proofs.Common.{◌≡◌, ◌<◌, ◌≤◌, ◌+◌, ◌-◌, ◌&&◌, ℕ, zero, suc, Bool, true, cond, nat_le, List, [], ◌∷◌, length, slice_index, refl, ap, ◌∙◌, arith}
use Rattle.std.specs.List.{count_by}
use Rattle.std.proofs.lemmas.Bool.{and_parts, leb-true, le-leb, lt-leb}
use Rattle.std.proofs.lemmas.List.Sums.{sum_by-cons}
use Rattle.af_sample.specs.G711.{interval_of}
use Rattle.af_sample.proofs.TableLemmas.{all_from, entry_passes}

-- each element is at least the one before it, and the first at least a limit
abbrev pub rises : ℕ → List ℕ → Bool
rises low [] = true
rises low (x ∷ xs) = nat_le low x && rises x xs

-- how many starts are at most a magnitude
abbrev pub starts_reached : ℕ → List ℕ → ℕ
starts_reached m xs = count_by (λ start. nat_le start m) xs

reached_yes : (m x : ℕ) (xs : List ℕ) → x ≤ m → starts_reached m (x ∷ xs) ≡ suc (starts_reached m xs)
reached_yes m x xs low =
    sum_by-cons (λ start. cond (nat_le start m) 1 0) x xs
    ∙ ap (λ b. cond b 1 0 + starts_reached m xs) (le-leb x m low) ∙ omega arith

reached_no : (m x : ℕ) (xs : List ℕ) → m < x → starts_reached m (x ∷ xs) ≡ starts_reached m xs
reached_no m x xs high =
    sum_by-cons (λ start. cond (nat_le start m) 1 0) x xs
    ∙ ap (λ b. cond b 1 0 + starts_reached m xs) (lt-leb x m high) ∙ omega arith

none_reached : (m low : ℕ) (xs : List ℕ) → rises low xs ≡ true → m < low → starts_reached m xs ≡ 0
none_reached m low [] up high = refl
none_reached m low (x ∷ xs) up high =
    let parts = and_parts (nat_le low x) (rises x xs) up in
    let first : low ≤ x = leb-true low x parts.0 in
    reached_no m x xs (omega arith) ∙ none_reached m x xs parts.1 (omega arith)

above_limit : (low : ℕ) (xs : List ℕ) (k : ℕ) → rises low xs ≡ true → k < length xs → low ≤ slice_index xs k
above_limit low [] k up there = absurd (omega arith)
above_limit low (x ∷ xs) zero up there = leb-true low x (and_parts (nat_le low x) (rises x xs) up).0
above_limit low (x ∷ xs) (suc k) up there =
    let parts = and_parts (nat_le low x) (rises x xs) up in
    let first : low ≤ x = leb-true low x parts.0 in
    let rest : x ≤ slice_index xs k = above_limit x xs k parts.1 (omega arith) in
    omega arith

reached_at : (m low : ℕ) (xs : List ℕ) (k : ℕ) → rises low xs ≡ true → k < length xs → slice_index xs k ≤ m → (suc k < length xs → m < slice_index xs (suc k)) → starts_reached m xs ≡ suc k
reached_at m low [] k up there from to = absurd (omega arith)
reached_at m low (x ∷ []) zero up there from to = reached_yes m x [] from
reached_at m low (x ∷ y ∷ ys) zero up there from to =
    let parts = and_parts (nat_le low x) (rises x (y ∷ ys)) up in
    let rest = and_parts (nat_le x y) (rises y ys) parts.1 in
    let next : m < y = to (omega arith) in
    reached_yes m x (y ∷ ys) from
    ∙ ap suc (reached_no m y ys next ∙ none_reached m y ys rest.1 next)
reached_at m low (x ∷ xs) (suc k) up there from to =
    let parts = and_parts (nat_le low x) (rises x xs) up in
    let first : x ≤ slice_index xs k = above_limit x xs k parts.1 (omega arith) in
    reached_yes m x xs (omega arith)
    ∙ ap suc (reached_at m x xs k parts.1 (omega arith) from (λ more. to (omega arith)))

pub interval_is : (starts : List ℕ) (m k : ℕ) → rises 0 starts ≡ true → k < length starts → slice_index starts k ≤ m → (suc k < length starts → m < slice_index starts (suc k)) → interval_of starts m ≡ k
interval_is starts m k up there from to = ap (λ n. n - 1) (reached_at m 0 starts k up there from to) ∙ (let e : suc k - 1 ≡ k = omega arith in e)

-- a table of 128 starts: they rise, and each passes a test of its place and itself
pub record IsStartTable (passes : ℕ → ℕ → Bool) (starts : List ℕ) : Type 0 where
  pub up : rises 0 starts ≡ true
  pub long : length starts ≡ 128
  pub each : all_from passes 0 starts ≡ true

module _ (passes : ℕ → ℕ → Bool) (starts : List ℕ) (table : IsStartTable passes starts) where
  long : length starts ≡ 128
  long = table.long

  pub start_passes : (k : ℕ) → k < 128 → passes k (slice_index starts k) ≡ true
  start_passes k low =
      ap (λ n. passes n (slice_index starts k)) (let place : k ≡ k + 0 = omega arith in place)
      ∙ entry_passes passes 0 starts k table.each (omega (arith, long))

  pub interval_in : (m k : ℕ) → k < 128 → slice_index starts k ≤ m → (suc k < 128 → m < slice_index starts (suc k)) → interval_of starts m ≡ k
  interval_in m k low from to = interval_is starts m k table.up (omega (arith, long)) from (λ more. to (omega (arith, long)))
