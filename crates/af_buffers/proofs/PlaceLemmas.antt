-- How far a time is from a buffer's time, and the place of its frame in a ring.
use Rattle.std.proofs.Common.{◌≡◌, ℕ, ◌+◌, ◌-◌, ◌*◌, ◌%◌, ◌^◌, ◌<◌, ◌≤◌, inl, inr, ◌↔◌, Bool, true, false, sym, ap, ◌∙◌, arith}
use Rattle.std.proofs.lemmas.Bool.{cases_lt}
use Rattle.std.proofs.lemmas.Nat.{mul-mod_first}
use Rattle.std.proofs.Math.Nat.{mod-add-mod, mul_comm}
use Rattle.af_time.specs.DeviceTime.{unwrap, AreNear, IsMeant}
use Rattle.af_time.proofs.WholeTimeLemmas.{unwrap_meant}
use Rattle.af_buffers.specs.Horizons.{whole_time}

-- times with one word have places with one word
pub same_place : (channels t u : ℕ) → t % 2 ^ 32 ≡ u % 2 ^ 32 → (channels * t) % 2 ^ 32 ≡ (channels * u) % 2 ^ 32
same_place channels t u same =
    ap (λ m. m % 2 ^ 32) (mul_comm channels t) ∙ sym (mul-mod_first t channels (2 ^ 32)) ∙ ap (λ m. (m * channels) % 2 ^ 32) same
    ∙ mul-mod_first u channels (2 ^ 32) ∙ ap (λ m. m % 2 ^ 32) (mul_comm u channels)

-- the places of a run that begins at the frame of a word, by any time with the word
pub run_place : (channels word t k : ℕ) → t % 2 ^ 32 ≡ word % 2 ^ 32 → (channels * word % 2 ^ 32 + k) % 2 ^ 32 ≡ (channels * t + k) % 2 ^ 32
run_place channels word t k same =
    ap (λ m. (m + k) % 2 ^ 32) (sym (same_place channels t word same)) ∙ mod-add-mod (channels * t) (2 ^ 32) k

-- a start has the word that it is given by
pub word_of_start : (t start : ℕ) → start < 2 ^ 32 → unwrap (whole_time t) start % 2 ^ 32 ≡ start
word_of_start t start word = (unwrap_meant (whole_time t) start (omega arith) word).word

-- the whole times of a start and of a buffer are near each other
near : (t start : ℕ) → t < 2 ^ 32 → start < 2 ^ 32 → AreNear (unwrap (whole_time t) start) (whole_time t) start t
near t start word word' =
    let meant : IsMeant (whole_time t) start (unwrap (whole_time t) start) = unwrap_meant (whole_time t) start (omega arith) word' in
    record { first = meant.word; second = omega arith; early = meant.early; late = meant.late }

-- a start is before a buffer's time exactly if the comparison of their words says so
pub is_late : (t start : ℕ) (before : Bool) → t < 2 ^ 32 → start < 2 ^ 32 → ((a b : ℕ) → AreNear a b start t → (before ≡ true) ↔ (a < b)) → before ≡ true → unwrap (whole_time t) start < whole_time t
is_late t start before word word' tells yes' = (tells (unwrap (whole_time t) start) (whole_time t) (near t start word word')).0 yes'

pub not_late : (t start : ℕ) (before : Bool) → t < 2 ^ 32 → start < 2 ^ 32 → ((a b : ℕ) → AreNear a b start t → (before ≡ true) ↔ (a < b)) → before ≡ false → whole_time t ≤ unwrap (whole_time t) start
not_late t start before word word' tells no' = elim (cases_lt (unwrap (whole_time t) start) (whole_time t)) [
  | inl late ↦ let told = (tells (unwrap (whole_time t) start) (whole_time t) (near t start word word')).1 late in absurd (cc)
  | inr ahead ↦ ahead
]

-- how late a start is, by the words
pub late_by : (t start late : ℕ) → t < 2 ^ 32 → start < 2 ^ 32 → unwrap (whole_time t) start < whole_time t → late ≡ (t + (2 ^ 32 - start)) % 2 ^ 32 → unwrap (whole_time t) start + late ≡ whole_time t
late_by t start late word word' before is =
    let meant : IsMeant (whole_time t) start (unwrap (whole_time t) start) = unwrap_meant (whole_time t) start (omega arith) word' in
    let same : unwrap (whole_time t) start % 2 ^ 32 ≡ start = meant.word in
    let early : whole_time t ≤ unwrap (whole_time t) start + 2 ^ 31 = meant.early in
    omega arith

-- how far ahead a start is, by the words
pub ahead_by : (t start far : ℕ) → t < 2 ^ 32 → start < 2 ^ 32 → whole_time t ≤ unwrap (whole_time t) start → far ≡ (start + (2 ^ 32 - t)) % 2 ^ 32 → unwrap (whole_time t) start ≡ whole_time t + far
ahead_by t start far word word' begun is =
    let meant : IsMeant (whole_time t) start (unwrap (whole_time t) start) = unwrap_meant (whole_time t) start (omega arith) word' in
    let same : unwrap (whole_time t) start % 2 ^ 32 ≡ start = meant.word in
    let late : unwrap (whole_time t) start < whole_time t + 2 ^ 31 = meant.late in
    omega arith

-- so it is at its place
pub before_now : (t start late : ℕ) → t < 2 ^ 32 → start < 2 ^ 32 → unwrap (whole_time t) start < whole_time t → late ≡ (t + (2 ^ 32 - start)) % 2 ^ 32 → (unwrap (whole_time t) start + late ≡ whole_time t) × (0 < late) × (late ≤ 2 ^ 31)
before_now t start late word word' before is =
    let meant : IsMeant (whole_time t) start (unwrap (whole_time t) start) = unwrap_meant (whole_time t) start (omega arith) word' in
    let early : whole_time t ≤ unwrap (whole_time t) start + 2 ^ 31 = meant.early in
    let by = late_by t start late word word' before is in
    (by, omega (arith, by, before), omega (arith, by, early))

pub ahead_of_now : (t start far : ℕ) → t < 2 ^ 32 → start < 2 ^ 32 → whole_time t ≤ unwrap (whole_time t) start → far ≡ (start + (2 ^ 32 - t)) % 2 ^ 32 → (unwrap (whole_time t) start ≡ whole_time t + far) × (far < 2 ^ 31)
ahead_of_now t start far word word' begun is =
    let meant : IsMeant (whole_time t) start (unwrap (whole_time t) start) = unwrap_meant (whole_time t) start (omega arith) word' in
    let late : unwrap (whole_time t) start < whole_time t + 2 ^ 31 = meant.late in
    let by = ahead_by t start far word word' begun is in
    (by, omega (arith, by, late))
