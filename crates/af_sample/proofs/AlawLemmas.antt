-- A-law: the list of interval starts is what the code's shifts make, with a table and by lines.
use Rattle.std.proofs.Common.{◌≡◌, ◌<◌, ◌≤◌, ◌+◌, ◌-◌, ◌*◌, ◌/◌, ◌%◌, ◌^◌, ◌&&◌, ◌||◌, ◌⊎◌, inl, inr, ℕ, zero, suc, Bool, true, false, nat_eq, nat_lt, nat_le, slice_index, slice_index_or, bit_and, bit_or, bit_xor, refl, sym, ap, ◌∙◌, arith, max, ℤ, pos, negsuc, nat_abs, to_z, of_z}
use Rattle.std.specs.Int.{w16, int_max}
use Rattle.std.specs.Prelude.{FitsSigned}
use Rattle.std.specs.Int.Count.{count_leading_zeros}
use Rattle.std.proofs.lemmas.Int.{ints, to_z-of_z, to_z_pos}
use Rattle.std.proofs.lemmas.Bool.{and_parts, or_cases, eqb-true, ltb-true, leb-true, cases_lt, true≢false}
use Rattle.std.proofs.lemmas.Nat.{leading_length}
use Rattle.std.proofs.Math.Pow.{pow_mono}
use lib.Signed.{lt_z}
use Rattle.af_sample.specs.declared.alaw.TheConstants.{SAMPLES}
use Rattle.af_sample.specs.G711.{alaw_samples, alaw_starts, from_alaw, interval_of, to_alaw}
use Rattle.af_sample.proofs.TableLemmas.{read, read_entry}
use Rattle.af_sample.proofs.IntervalLemmas.{IsStartTable, interval_in, start_passes}
use Rattle.af_sample.proofs.SegmentLemmas.{InSegment, segment_of, place, code, joined, from, to}
use Rattle.af_sample.proofs.LineLemmas.{line, least, least-zero, least_to, least_is}

-- a start is n times 16 in the first segment, and 16 and more steps of each other
abbrev is_start : ℕ → ℕ → Bool
is_start p start = (nat_lt p 16 && nat_eq start (p * 16)) || (nat_le 16 p && nat_eq start ((16 + p % 16) * 2 ^ (p / 16 + 3)))

table : IsStartTable is_start alaw_starts
unfolding alaw_starts
table = record { up = refl; long = refl; each = refl }

start_is : (p : ℕ) → p < 128 → ((p < 16) × (slice_index alaw_starts p ≡ p * 16)) ⊎ ((16 ≤ p) × (slice_index alaw_starts p ≡ (16 + p % 16) * 2 ^ (p / 16 + 3)))
start_is p low =
    let start : ℕ = slice_index alaw_starts p in
    let here : is_start p start ≡ true = start_passes is_start alaw_starts table p low in
    elim (or_cases (nat_lt p 16 && nat_eq start (p * 16)) (nat_le 16 p && nat_eq start ((16 + p % 16) * 2 ^ (p / 16 + 3))) here) [
      | inl e ↦
          let parts = and_parts (nat_lt p 16) (nat_eq start (p * 16)) e in
          inl (ltb-true p 16 parts.0, eqb-true start (p * 16) parts.1)
      | inr e ↦
          let parts = and_parts (nat_le 16 p) (nat_eq start ((16 + p % 16) * 2 ^ (p / 16 + 3))) e in
          inr (leb-true 16 p parts.0, eqb-true start ((16 + p % 16) * 2 ^ (p / 16 + 3)) parts.1)
    ]

first_start : (p : ℕ) → p < 16 → slice_index alaw_starts p ≡ p * 16
first_start p low =
    elim (start_is p (omega arith)) [ inl e ↦ e.1 | inr e ↦ absurd (let high : 16 ≤ p = e.0 in omega arith) ]

start_of : (p e m : ℕ) → m < 16 → p ≡ e * 16 + m → p < 128 → 16 ≤ p → slice_index alaw_starts p + 0 ≡ (16 + m) * 2 ^ (e + 3)
start_of p e m small same low high =
    let step : p % 16 ≡ m = omega arith in
    let segment : p / 16 ≡ e = omega arith in
    let none : slice_index alaw_starts p + 0 ≡ slice_index alaw_starts p = omega arith in
    elim (start_is p low) [
      | inl e ↦ absurd (let first : p < 16 = e.0 in omega arith)
      | inr e ↦ none ∙ e.1 ∙ ap (λ k. (16 + k) * 2 ^ (p / 16 + 3)) step ∙ ap (λ k. (16 + m) * 2 ^ (k + 3)) segment
    ]

-- the first segment: 16 to an interval
first_segment : (m : ℕ) → m < 256 → interval_of alaw_starts m ≡ m / 16
first_segment m low =
    let here = first_start (m / 16) (omega arith) in
    interval_in is_start alaw_starts table m (m / 16) (omega arith) (omega arith)
    (λ more. elim (cases_lt (suc (m / 16)) 16) [
      | inl inside ↦ let next = first_start (suc (m / 16)) inside in omega arith
      | inr last ↦
          let next = start_of (suc (m / 16)) 1 0 (omega arith) (omega arith) (omega arith) (omega arith) in
          omega arith
    ])

not_first : (a e : ℕ) → 256 ≤ a → InSegment a e → 1 ≤ e
not_first a zero high seg =
    let most : a / 8 < 32 = seg.most in
    absurd (omega arith)
not_first a (suc e) high seg = omega arith

-- every other segment
other_segment : (m e : ℕ) → 256 ≤ m → InSegment m e → interval_of alaw_starts m ≡ place m e
other_segment m e high seg =
    let few : e ≤ 7 = seg.few in
    let some : 1 ≤ e = not_first m e high seg in
    let none : m ≡ m + 0 = omega arith in
    interval_in is_start alaw_starts table m (place m e) (omega arith)
    (from alaw_starts 0 16 start_of m m e none seg (omega arith))
    (λ more. to alaw_starts 0 16 start_of m m e none seg (omega arith) more)

pub zeros_many : (m : ℕ) → m < 256 → 8 ≤ count_leading_zeros 16 m
zeros_many m low =
    let top = leading_length 16 m (omega arith) in
    let n : ℕ = top.0 in
    let sum : count_leading_zeros 16 m + n ≡ 16 = top.1 in
    let most : 2 ^ n ≤ 2 * m + 1 = top.3 in
    elim (cases_lt 8 n) [
      | inl much ↦
          let power : 2 ^ 9 ≤ 2 ^ n = pow_mono much in
          absurd (omega arith)
      | inr few ↦ omega arith
    ]

-- the code's interval
pub code_value : (m s k : ℕ) → m < 32768 → s ≡ 8 - count_leading_zeros 16 m → k ≡ max s 1 →
    bit_or (s * 16 % 256) (bit_and (m / 2 ^ (k + 3)) 15) ≡ interval_of alaw_starts m
code_value m s k low segment shift =
    elim (cases_lt m 256) [
      | inl first ↦
          let zeros : 8 ≤ count_leading_zeros 16 m = zeros_many m first in
          let s0 : s ≡ 0 = omega arith in
          let k1 : k ≡ 1 = omega arith in
          let rest : 0 * 16 + m / 16 % 16 ≡ m / 16 = omega arith in
          ap (λ a. bit_or (a * 16 % 256) (bit_and (m / 2 ^ (k + 3)) 15)) s0
          ∙ ap (λ a. bit_or 0 (bit_and (m / 2 ^ (a + 3)) 15)) k1
          ∙ joined 0 (m / 16) (omega arith) ∙ rest ∙ sym (first_segment m first)
      | inr other ↦
          let seg = segment_of m (omega arith) low in
          let some : 1 ≤ seg.0 = not_first m seg.0 other seg.1 in
          let few : seg.0 ≤ 7 = seg.1.few in
          let zeros : count_leading_zeros 16 m ≡ 8 - seg.0 = seg.1.zeros in
          let s1 : s ≡ seg.0 = omega arith in
          let k1 : k ≡ seg.0 = omega arith in
          ap (λ a. bit_or (a * 16 % 256) (bit_and (m / 2 ^ (k + 3)) 15)) s1
          ∙ ap (λ a. bit_or (seg.0 * 16 % 256) (bit_and (m / 2 ^ (a + 3)) 15)) k1
          ∙ joined seg.0 (m / 2 ^ (seg.0 + 3)) few ∙ sym (other_segment m seg.0 other seg.1)
    ]

on_its_line : (m e : ℕ) → 256 ≤ m → InSegment m e → least 4 m 6 ≡ place m e
on_its_line m zero high seg =
    let some : 1 ≤ zero = not_first m zero high seg in
    absurd (omega arith)
on_its_line m (suc k) high seg =
    let same : m / 2 ^ (suc k + 3) ≡ m / 2 ^ (k + 4) = ap (λ n. m / 2 ^ n) (let e : suc k + 3 ≡ k + 4 = omega arith in e) in
    let few : suc k ≤ 7 = seg.few in
    let least' : 16 ≤ m / 2 ^ (suc k + 3) = seg.least in
    let most : m / 2 ^ (suc k + 3) < 32 = seg.most in
    let whole : least 4 m 6 ≡ line 4 m k = least_is 4 m 6 k (omega arith) (omega arith) (omega arith) in
    omega arith

-- the least value of the lines
pub least_value : (m : ℕ) → m < 32768 → least 4 m 6 ≡ interval_of alaw_starts m
least_value m low =
    elim (cases_lt m 256) [
      | inl first ↦ (least_to 4 m 0 6 6 (omega arith) refl).0 ∙ sym (least-zero 4 m) ∙ sym (first_segment m first)
      | inr other ↦
          let seg = segment_of m (omega arith) low in
          on_its_line m seg.0 other seg.1 ∙ sym (other_segment m seg.0 other seg.1)
    ]

pub interval_low : (m : ℕ) → m < 32768 → interval_of alaw_starts m < 128
interval_low m low =
    elim (cases_lt m 256) [
      | inl first ↦ let e = first_segment m first in omega arith
      | inr other ↦
          let seg = segment_of m (omega arith) low in
          let few : seg.0 ≤ 7 = seg.1.few in
          let e = other_segment m seg.0 other seg.1 in
          omega arith
    ]

-- the byte of a sample, by its sign: all bits of a negative one are inverted to its magnitude
inverted : (n : ℕ) → n < 32768 → nat_abs (to_z w16 (65535 - of_z w16 (negsuc n))) ≡ n
inverted n low =
    let e : 65535 - (65536 - suc n) ≡ n = omega arith in
    ap (λ k. nat_abs (to_z w16 k)) e ∙ ap nat_abs (to_z_pos w16 n low)

pub negative_byte : (x : ℤ) (code k : ℕ) → FitsSigned w16 x → lt_z (to_z w16 (of_z w16 x)) (pos 0) ≡ true → k ≡ interval_of alaw_starts (nat_abs (to_z w16 (65535 - of_z w16 x))) → code ≡ k → bit_xor code 85 ≡ to_alaw x
negative_byte (pos n) code k fits below interval same =
    let e : nat_lt n 0 ≡ true = ap (λ z. lt_z z (pos 0)) (sym (to_z-of_z w16 (pos n) fits)) ∙ below in
    absurd (omega (arith, ltb-true n 0 e))
negative_byte (negsuc n) code k fits below interval same =
    ap (λ i. bit_xor i 85) (same ∙ interval ∙ ap (interval_of alaw_starts) (inverted n fits.sfits))

pub positive_byte : (x : ℤ) (code k : ℕ) → FitsSigned w16 x → lt_z (to_z w16 (of_z w16 x)) (pos 0) ≡ false → k ≡ interval_of alaw_starts (nat_abs (to_z w16 (of_z w16 x))) → code ≡ 128 + k → bit_xor code 85 ≡ to_alaw x
positive_byte (pos n) code k fits above interval same =
    ap (λ i. bit_xor i 85) (same ∙ ap (λ i. 128 + i) (interval ∙ ap (λ z. interval_of alaw_starts (nat_abs z)) (to_z-of_z w16 (pos n) fits)))
positive_byte (negsuc n) code k fits above interval same =
    absurd (true≢false (ap (λ z. lt_z z (pos 0)) (sym (to_z-of_z w16 (negsuc n) fits)) ∙ above))

-- the larger of a sample and its complement: the one that is not negative
pub larger_of_negative : (x r : ℤ) → FitsSigned w16 x → lt_z (to_z w16 (of_z w16 x)) (pos 0) ≡ true →
    r ≡ int_max (to_z w16 (of_z w16 x)) (to_z w16 (65535 - of_z w16 x)) → to_z w16 (of_z w16 r) ≡ to_z w16 (65535 - of_z w16 x)
larger_of_negative x r fits below same =
    let larger : r ≡ to_z w16 (65535 - of_z w16 x) = grind (arith, ints) in
    grind (arith, ints)

pub larger_of_positive : (x r : ℤ) → FitsSigned w16 x → lt_z (to_z w16 (of_z w16 x)) (pos 0) ≡ false →
    r ≡ int_max (to_z w16 (of_z w16 x)) (to_z w16 (65535 - of_z w16 x)) → to_z w16 (of_z w16 r) ≡ to_z w16 (of_z w16 x)
larger_of_positive x r fits above same =
    let larger : r ≡ to_z w16 (of_z w16 x) = grind (arith, ints) in
    grind (arith, ints)

-- the sample of a byte
pub sample_is : (byte : ℕ) → byte < 256 → read (slice_index_or SAMPLES byte (pos 0)) ≡ from_alaw byte
unfolding alaw_samples
sample_is byte low = read_entry SAMPLES alaw_samples byte refl low
