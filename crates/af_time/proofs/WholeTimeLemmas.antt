-- The whole time that a word means, and its arithmetic.
use Rattle.std.proofs.Common.{◌≡◌, ℕ, ◌+◌, ◌-◌, ◌^◌, ◌<◌, ◌≤◌, inl, inr, true, false, cond, nat_lt, ap, arith, rules}
use Rattle.std.proofs.lemmas.Bool.{cases_lt}
use Rattle.af_time.specs.DeviceTime.{ahead, unwrap, IsMeant}

is_lt : (a b : ℕ) → a < b → nat_lt a b ≡ true
is_lt a b h = search rules

not_lt : (a b : ℕ) → b ≤ a → nat_lt a b ≡ false
not_lt a b h = search rules

-- a word that is ahead
pub unwrap_ahead : (now w : ℕ) → ahead now w < 2 ^ 31 → unwrap now w ≡ now + ahead now w
unfolding unwrap
unwrap_ahead now w h =
    ap (λ b. cond b (now + ahead now w) (now - (2 ^ 32 - ahead now w))) (is_lt (ahead now w) (2 ^ 31) h)

-- a word that is late
pub unwrap_late : (now w : ℕ) → 2 ^ 31 ≤ ahead now w → unwrap now w ≡ now - (2 ^ 32 - ahead now w)
unfolding unwrap
unwrap_late now w h =
    ap (λ b. cond b (now + ahead now w) (now - (2 ^ 32 - ahead now w))) (not_lt (ahead now w) (2 ^ 31) h)

-- what a word means is meant by it
pub unwrap_meant : (now w : ℕ) → 2 ^ 32 ≤ now → w < 2 ^ 32 → IsMeant now w (unwrap now w)
unwrap_meant now w big word =
    elim (cases_lt (ahead now w) (2 ^ 31)) [
      | inl early ↦
          let e = unwrap_ahead now w early in
          record { word = omega arith; early = omega arith; late = omega arith }
      | inr late ↦
          let e = unwrap_late now w late in
          record { word = omega arith; early = omega arith; late = omega arith }
    ]

-- nothing else is
pub meant_unwrap : (now w whole : ℕ) → 2 ^ 32 ≤ now → IsMeant now w whole → whole ≡ unwrap now w
meant_unwrap now w whole big meant =
    elim (cases_lt (ahead now w) (2 ^ 31)) [
      | inl early ↦ let e = unwrap_ahead now w early in omega arith
      | inr late ↦ let e = unwrap_late now w late in omega arith
    ]
