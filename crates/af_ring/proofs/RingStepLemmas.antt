-- Steps round a ring.
use Rattle.std.proofs.Common.{◌≡◌, ℕ, ℤ, pos, ◌+◌, ◌-◌, ◌*◌, ◌%◌, ◌^◌, ◌<◌, ◌≤◌, ◌⊎◌, inl, inr, cond, List, length, get_or, sym, ap, ◌∙◌, subst, arith}
use Rattle.std.proofs.lemmas.Bool.{cases_lt, lt-ltb, le-ltb}
use Rattle.std.proofs.Math.Nat.{mod-add-mod, mod-lt, mod-eq_of_lt, mod-eq-sub-mod, mod-mod_of_dvd, add-mod_right, pow-le-pow_right, dvd-mul_left}
use Rattle.std.proofs.lemmas.Nat.{pow-add}
use Rattle.std.specs.Int.{◌∣◌}
use Rattle.af_ring.specs.Cells.{cell, ChangesRun, IsSize}

-- a size divides the number of 32-bit times
pub size_divides : (size : ℕ) → IsSize size → size ∣ 2 ^ 32
size_divides size h =
    let few : size ≤ 2 ^ 20 = h.few in
    let power : size ≡ 2 ^ h.bits = h.power in
    elim (cases_lt h.bits 21) [
      | inl low ↦
          let parts : 2 ^ (32 - h.bits) * 2 ^ h.bits ≡ 2 ^ 32 =
          sym (pow-add 2 (32 - h.bits) h.bits) ∙ ap (λ k. 2 ^ k) (let e : (32 - h.bits) + h.bits ≡ 32 = omega arith in e) in
          subst (λ n. n ∣ 2 ^ 32) (sym power) (subst (λ n. 2 ^ h.bits ∣ n) parts (dvd-mul_left (2 ^ h.bits) (2 ^ (32 - h.bits))))
      | inr high ↦
          let most : 2 ^ 21 ≤ 2 ^ h.bits = pow-le-pow_right {n = 2} (omega arith) {i = 21} {j = h.bits} high in
          absurd (omega arith)
    ]

-- 2^bits is a size
pub size_of : (size bits : ℕ) → 1 ≤ bits → bits ≤ 20 → size ≡ 2 ^ bits → IsSize size
size_of size bits some few power =
    let low : 2 ^ 1 ≤ 2 ^ bits = pow-le-pow_right {n = 2} (omega arith) {i = 1} {j = bits} some in
    let high : 2 ^ bits ≤ 2 ^ 20 = pow-le-pow_right {n = 2} (omega arith) {i = bits} {j = 20} few in
    record { bits = bits; power = power; some = omega arith; few = omega arith }

-- a step within a round, or into the next
pub step : (t k m : ℕ) → k < m → ((t % m + k < m) × ((t + k) % m ≡ t % m + k)) ⊎ ((m ≤ t % m + k) × ((t + k) % m ≡ t % m + k - m))
step t k m h =
    let low : t % m < m = mod-lt t (omega arith) in
    let e : (t % m + k) % m ≡ (t + k) % m = mod-add-mod t m k in
    elim (cases_lt (t % m + k) m) [
      | inl under ↦ inl (under, sym e ∙ mod-eq_of_lt under)
      | inr over ↦ inr (over, sym e ∙ mod-eq-sub-mod over ∙ mod-eq_of_lt (omega arith))
    ]

-- times that are equal modulo 2^32 share a cell
pub same_cell : (cells : List ℤ) (t u : ℕ) → IsSize (length cells) → t % 2 ^ 32 ≡ u % 2 ^ 32 → cell cells t ≡ cell cells u
same_cell cells t u size e =
    let whole = size_divides (length cells) size in
    ap (λ n. get_or cells n (pos 0))
    (sym (mod-mod_of_dvd (length cells) t whole) ∙ ap (λ n. n % length cells) e ∙ mod-mod_of_dvd (length cells) u whole)

-- a time and the one a round later share a cell
pub around : (cells : List ℤ) (t : ℕ) → cell cells (t + length cells) ≡ cell cells t
around cells t = ap (λ n. get_or cells n (pos 0)) (add-mod_right t (length cells))

-- a cell of a run, by any time that shares it
pub in_run : (old new : List ℤ) (t u k n : ℕ) (f : ℕ → ℤ → ℤ) → IsSize (length old) → ChangesRun old new t n f → (t + k) % 2 ^ 32 ≡ u % 2 ^ 32 → k < n → n ≤ length old →
    cell new u ≡ f k (cell old u)
in_run old new t u k n f size run same within room =
    let size' : IsSize (length new) = subst IsSize (sym run.size) size in
    sym (same_cell new (t + k) u size' same) ∙ run.each k (omega arith)
    ∙ ap (λ b. cond b (f k (cell old (t + k))) (cell old (t + k))) (lt-ltb k n within)
    ∙ ap (f k) (same_cell old (t + k) u size same)

-- a cell past a run, less than a round from its start
pub past_run : (old new : List ℤ) (t u k n : ℕ) (f : ℕ → ℤ → ℤ) → IsSize (length old) → ChangesRun old new t n f → (t + k) % 2 ^ 32 ≡ u % 2 ^ 32 → n ≤ k → k < length old →
    cell new u ≡ cell old u
past_run old new t u k n f size run same past round =
    let size' : IsSize (length new) = subst IsSize (sym run.size) size in
    sym (same_cell new (t + k) u size' same) ∙ run.each k round
    ∙ ap (λ b. cond b (f k (cell old (t + k))) (cell old (t + k))) (le-ltb k n past)
    ∙ same_cell old (t + k) u size same

-- the same for a time that is a round earlier
pub before_run : (old new : List ℤ) (t u k n : ℕ) (f : ℕ → ℤ → ℤ) → IsSize (length old) → ChangesRun old new t n f → (t + k) % 2 ^ 32 ≡ (u + length old) % 2 ^ 32 → n ≤ k → k < length old →
    cell new u ≡ cell old u
before_run old new t u k n f size run same past round =
    sym (around new u) ∙ ap (λ m. cell new (u + m)) run.size
    ∙ past_run old new t (u + length old) k n f size run same past round ∙ around old u
