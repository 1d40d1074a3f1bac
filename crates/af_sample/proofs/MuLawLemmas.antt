-- Mu-law: the list of decision values is what the code's shifts make, with a table and by lines.
use Rattle.std.proofs.Common.{◌≡◌, ◌<◌, ◌≤◌, ◌+◌, ◌-◌, ◌*◌, ◌/◌, ◌%◌, ◌^◌, ◌&&◌, ◌||◌, ◌⊎◌, inl, inr, ℕ, Bool, true, nat_eq, slice_index, slice_index_or, refl, sym, ap, ◌∙◌, arith, min, ℤ, pos, negsuc, nat_abs, false}
use Rattle.std.specs.Int.{w16}
use Rattle.std.specs.Prelude.{FitsSigned}
use Rattle.std.proofs.lemmas.Int.{to_z-of_z}
use lib.Signed.{lt_z}
use Rattle.std.proofs.lemmas.Bool.{and_parts, or_cases, eqb-true, cases_lt, ltb-true, true≢false}
use Rattle.af_sample.specs.declared.mu_law.TheConstants.{SAMPLES}
use Rattle.af_sample.specs.G711.{from_mu_law, mu_law_starts, mu_law_decisions, mu_law_samples, interval_of, to_mu_law}
use Rattle.af_sample.proofs.TableLemmas.{read, read_entry}
use Rattle.af_sample.proofs.IntervalLemmas.{IsStartTable, interval_in, interval_is, start_passes}
use Rattle.af_sample.proofs.SegmentLemmas.{InSegment, segment_of, place, code, code_is, from, to}
use Rattle.af_sample.proofs.LineLemmas.{line, least, least_is}

-- a start, biased, is 16 and more steps of its segment, except the first, which is 0
abbrev is_start : ℕ → ℕ → Bool
is_start p start = nat_eq (start + 132) ((16 + p % 16) * 2 ^ (p / 16 + 3)) || (nat_eq p 0 && nat_eq start 0)

table : IsStartTable is_start mu_law_starts
unfolding mu_law_decisions
table = record { up = refl; long = refl; each = refl }

start_zero : slice_index mu_law_starts 0 ≡ 0
unfolding mu_law_decisions
start_zero = refl

start_is : (p : ℕ) → p < 128 → (slice_index mu_law_starts p + 132 ≡ (16 + p % 16) * 2 ^ (p / 16 + 3)) ⊎ ((p ≡ 0) × (slice_index mu_law_starts p ≡ 0))
start_is p low =
    let start : ℕ = slice_index mu_law_starts p in
    let here : is_start p start ≡ true = start_passes is_start mu_law_starts table p low in
    elim (or_cases (nat_eq (start + 132) ((16 + p % 16) * 2 ^ (p / 16 + 3))) (nat_eq p 0 && nat_eq start 0) here) [
      | inl e ↦ inl (eqb-true (start + 132) ((16 + p % 16) * 2 ^ (p / 16 + 3)) e)
      | inr e ↦
          let parts = and_parts (nat_eq p 0) (nat_eq start 0) e in
          inr (eqb-true p 0 parts.0, eqb-true start 0 parts.1)
    ]

-- a start by its segment and step
start_of : (p e m : ℕ) → m < 16 → p ≡ e * 16 + m → p < 128 → 1 ≤ p → slice_index mu_law_starts p + 132 ≡ (16 + m) * 2 ^ (e + 3)
start_of p e m small same low some =
    let step : p % 16 ≡ m = omega arith in
    let segment : p / 16 ≡ e = omega arith in
    elim (start_is p low) [
      | inl formula ↦ formula ∙ ap (λ k. (16 + k) * 2 ^ (p / 16 + 3)) step ∙ ap (λ k. (16 + m) * 2 ^ (k + 3)) segment
      | inr none ↦ absurd (let first : p ≡ 0 = none.0 in omega arith)
    ]

start_at : (m a e : ℕ) → a ≡ m + 132 → InSegment a e → slice_index mu_law_starts (place a e) ≤ m
start_at m a e biased seg =
    elim (cases_lt 0 (place a e)) [
      | inl some ↦ from mu_law_starts 132 1 start_of m a e biased seg (omega arith)
      | inr none ↦
          let first : place a e ≡ 0 = omega arith in
          let e1 : slice_index mu_law_starts (place a e) ≡ slice_index mu_law_starts 0 = ap (slice_index mu_law_starts) first in
          let e2 : slice_index mu_law_starts 0 ≡ 0 = start_zero in
          omega arith
    ]

-- the place of a magnitude's biased value is its interval
pub place_is : (m a e : ℕ) → a ≡ m + 132 → InSegment a e → place a e ≡ interval_of mu_law_starts m
place_is m a e biased seg =
    let few : e ≤ 7 = seg.few in
    sym (interval_in is_start mu_law_starts table m (place a e) (omega arith) (start_at m a e biased seg)
    (λ more. to mu_law_starts 132 1 start_of m a e biased seg (omega arith) more))

-- every magnitude from the last start on is in the last interval
last_interval : (m : ℕ) → 31612 ≤ m → interval_of mu_law_starts m ≡ 127
unfolding mu_law_decisions
last_interval m high = interval_is mu_law_starts m 127 refl (omega arith) high (λ more. absurd (omega arith))

-- the place of a magnitude that is limited and biased is the magnitude's interval
limited_place : (m r e : ℕ) → r ≡ min m 32635 → InSegment (r + 132) e → place (r + 132) e ≡ interval_of mu_law_starts m
limited_place m r e limited seg =
    place_is r (r + 132) e refl seg
    ∙ elim (cases_lt 32635 m) [
      | inl over ↦ last_interval r (omega arith) ∙ sym (last_interval m (omega arith))
      | inr within ↦ ap (interval_of mu_law_starts) (let e : r ≡ m = omega arith in e)
    ]

-- the code's interval
pub code_value : (m r : ℕ) → r ≡ min m 32635 → code (r + 132) ≡ interval_of mu_law_starts m
code_value m r limited =
    let seg = segment_of (r + 132) (omega arith) (omega arith) in
    code_is (r + 132) seg.0 seg.1 ∙ limited_place m r seg.0 limited seg.1

-- the least value of the lines
pub least_value : (m r : ℕ) → r ≡ min m 32635 → least 3 (r + 132) 7 ≡ interval_of mu_law_starts m + 16
least_value m r limited =
    let seg = segment_of (r + 132) (omega arith) (omega arith) in
    let high : 16 ≤ (r + 132) / 2 ^ (seg.0 + 3) = seg.1.least in
    let few : (r + 132) / 2 ^ (seg.0 + 3) < 32 = seg.1.most in
    let here : place (r + 132) seg.0 ≡ interval_of mu_law_starts m = limited_place m r seg.0 limited seg.1 in
    let whole : least 3 (r + 132) 7 ≡ line 3 (r + 132) seg.0 = least_is 3 (r + 132) 7 seg.0 seg.1.few high few in
    omega arith

pub interval_low : (m r : ℕ) → r ≡ min m 32635 → interval_of mu_law_starts m < 128
interval_low m r limited =
    let seg = segment_of (r + 132) (omega arith) (omega arith) in
    let few : seg.0 ≤ 7 = seg.1.few in
    let e : code (r + 132) ≡ place (r + 132) seg.0 = code_is (r + 132) seg.0 seg.1 in
    let e' : code (r + 132) ≡ interval_of mu_law_starts m = code_value m r limited in
    omega arith

-- the byte of a sample, by its sign
negative : (x : ℤ) (k : ℕ) → lt_z x (pos 0) ≡ true → k ≡ interval_of mu_law_starts (nat_abs x) → 127 - k ≡ to_mu_law x
negative (pos n) k below same = absurd (omega (arith, ltb-true n 0 below))
negative (negsuc n) k below same = ap (λ i. 127 - i) same

positive : (x : ℤ) (k : ℕ) → lt_z x (pos 0) ≡ false → k ≡ interval_of mu_law_starts (nat_abs x) → 255 - k ≡ to_mu_law x
positive (pos n) k above same = ap (λ i. 255 - i) same
positive (negsuc n) k above same = absurd (true≢false above)

-- a sample, as the code reads it, is itself
back : (x : ℤ) → FitsSigned w16 x → read x ≡ x
back x fits = to_z-of_z w16 x fits

pub negative_byte : (x : ℤ) (k : ℕ) → FitsSigned w16 x → k ≡ interval_of mu_law_starts (nat_abs x) → lt_z (read x) (pos 0) ≡ true → 127 - k ≡ to_mu_law x
negative_byte x k fits interval below = negative x k (ap (λ z. lt_z z (pos 0)) (sym (back x fits)) ∙ below) interval

pub positive_byte : (x : ℤ) (k : ℕ) → FitsSigned w16 x → k ≡ interval_of mu_law_starts (nat_abs x) → lt_z (read x) (pos 0) ≡ false → 255 - k ≡ to_mu_law x
positive_byte x k fits interval above = positive x k (ap (λ z. lt_z z (pos 0)) (sym (back x fits)) ∙ above) interval

-- the interval of a sample's magnitude
pub sample_interval : (x : ℤ) (m k : ℕ) → FitsSigned w16 x → m ≡ nat_abs (read x) → k ≡ interval_of mu_law_starts m → k ≡ interval_of mu_law_starts (nat_abs x)
sample_interval x m k fits magnitude interval = interval ∙ ap (interval_of mu_law_starts) (magnitude ∙ ap nat_abs (back x fits))

-- the sample of a byte
pub sample_is : (byte : ℕ) → byte < 256 → read (slice_index_or SAMPLES byte (pos 0)) ≡ from_mu_law byte
unfolding mu_law_samples
sample_is byte low = read_entry SAMPLES mu_law_samples byte refl low
