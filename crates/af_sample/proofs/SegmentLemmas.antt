-- A number of 7 to 15 bits, by its highest bit: the segment, and the steps of the segment.
use Rattle.std.proofs.Common.{◌≡◌, ◌<◌, ◌≤◌, ◌+◌, ◌-◌, ◌*◌, ◌/◌, ◌%◌, ◌^◌, inl, inr, ℕ, suc, List, slice_index, bit_and, bit_or, refl, ap, ◌∙◌, arith, rules}
use Rattle.std.specs.Int.Count.{count_leading_zeros}
use Rattle.std.proofs.lemmas.Bool.{cases_lt}
use Rattle.std.proofs.Math.Nat.{div-lt_iff_lt-mul, div-mul-le_self, le-div_iff_mul-le, pow-suc}
use Rattle.std.proofs.Math.Pow.{pow_mono}
use Rattle.std.proofs.lemmas.Nat.{and_mask, leading_length, or_shifted, pow-add, pow_pos}

-- a is 16 to 31 steps of its segment, and a part of a step
pub record InSegment (a segment : ℕ) : Type 0 where
  pub few : segment ≤ 7
  pub zeros : count_leading_zeros 16 a ≡ 8 - segment
  pub least : 16 ≤ a / 2 ^ (segment + 3)
  pub most : a / 2 ^ (segment + 3) < 32
  pub from : a / 2 ^ (segment + 3) * 2 ^ (segment + 3) ≤ a
  pub to : a < a / 2 ^ (segment + 3) * 2 ^ (segment + 3) + 2 ^ (segment + 3)

-- a number of n bits has n - 8 as its segment: its highest bit is worth 16 steps
in_segment : (a n : ℕ) → count_leading_zeros 16 a + n ≡ 16 → a < 2 ^ n → 2 ^ n ≤ 2 * a + 1 → 8 ≤ n → n ≤ 15 → InSegment a (n - 8)
in_segment a n zeros below above least most =
    let d : ℕ = 2 ^ (n - 8 + 3) in
    let some : 0 < d = pow_pos (n - 8 + 3) in
    let whole : 2 ^ n ≡ d * 32 = ap (λ k. 2 ^ k) (let e : n ≡ n - 8 + 3 + 5 = omega arith in e) ∙ pow-add 2 (n - 8 + 3) 5 in
    record {
      few = omega arith;
      zeros = omega arith;
      least = (le-div_iff_mul-le {k = d} {x = 16} {y = a} some).1 (omega arith);
      most = (div-lt_iff_lt-mul {k = d} {x = a} {y = 32} some).1 (omega arith);
      from = div-mul-le_self a d;
      to = omega arith;
    }

-- each number of so many bits has its segment
pub segment_of : (a : ℕ) → 128 ≤ a → a < 32768 → (segment : ℕ) × InSegment a segment
segment_of a low high =
    let top = leading_length 16 a (omega arith) in
    let n : ℕ = top.0 in
    let below : a < 2 ^ n = top.2 in
    let above : 2 ^ n ≤ 2 * a + 1 = top.3 in
    let least : 8 ≤ n = elim (cases_lt n 8) [ inl few ↦ absurd (let p : 2 ^ n ≤ 2 ^ 7 = pow_mono {i = n} {j = 7} (omega arith) in omega arith) | inr enough ↦ enough ] in
    let most : n ≤ 15 = elim (cases_lt 15 n) [ inl many ↦ absurd (let p : 2 ^ 16 ≤ 2 ^ n = pow_mono {i = 16} {j = n} (omega arith) in omega arith) | inr few ↦ few ] in
    (n - 8, in_segment a n top.1 below above least most)

-- the bits of a segment and of a step, side by side
pub joined : (segment step : ℕ) → segment ≤ 7 → bit_or (segment * 16 % 256) (bit_and step 15) ≡ segment * 16 + step % 16
joined segment step few =
    let short : segment * 16 % 256 ≡ segment * 16 = omega arith in
    let masked : bit_and step 15 ≡ step % 16 = and_mask step 4 in
    let low : step % 16 < 16 = omega arith in
    ap (λ s. bit_or s (bit_and step 15)) short ∙ ap (bit_or (segment * 16)) masked ∙ or_shifted segment 4 (step % 16) low

-- the place of a number among the intervals, 16 to a segment
abbrev pub place : ℕ → ℕ → ℕ
place a segment = segment * 16 + a / 2 ^ (segment + 3) % 16

-- the same as the code's shifts and masks make it
abbrev pub code : ℕ → ℕ
code a = bit_or ((8 - count_leading_zeros 16 a) * 16 % 256) (bit_and (a / 2 ^ (8 - count_leading_zeros 16 a + 3)) 15)

pub code_is : (a e : ℕ) → InSegment a e → code a ≡ place a e
code_is a e seg =
    let few : e ≤ 7 = seg.few in
    let zeros : count_leading_zeros 16 a ≡ 8 - e = seg.zeros in
    let segment : 8 - count_leading_zeros 16 a ≡ e = omega arith in
    ap (λ k. bit_or (k * 16 % 256) (bit_and (a / 2 ^ (k + 3)) 15)) segment ∙ joined e (a / 2 ^ (e + 3)) few

-- if each start, from a lowest place on and with a bias, is 16 and more steps of its segment, then the start at a number's place
-- is at most the number, and the next start is above it
module _ (starts : List ℕ) (bias lowest : ℕ) (start_of : (p e m : ℕ) → m < 16 → p ≡ e * 16 + m → p < 128 → lowest ≤ p → slice_index starts p + bias ≡ (16 + m) * 2 ^ (e + 3)) where
  pub from : (m a e : ℕ) → a ≡ m + bias → InSegment a e → lowest ≤ place a e → slice_index starts (place a e) ≤ m
  from m a e biased seg high =
      let q : ℕ = a / 2 ^ (e + 3) in
      let d : ℕ = 2 ^ (e + 3) in
      let few : e ≤ 7 = seg.few in
      let least : 16 ≤ q = seg.least in
      let most : q < 32 = seg.most in
      let e1 = start_of (place a e) e (q % 16) (omega arith) refl (omega arith) high in
      let whole : 16 + q % 16 ≡ q = omega arith in
      let e2 : slice_index starts (place a e) + bias ≡ q * d = e1 ∙ ap (λ k. k * d) whole in
      let e3 : q * d ≤ a = seg.from in
      omega arith

  pub to : (m a e : ℕ) → a ≡ m + bias → InSegment a e → lowest ≤ suc (place a e) → suc (place a e) < 128 → m < slice_index starts (suc (place a e))
  to m a e biased seg high more =
      let q : ℕ = a / 2 ^ (e + 3) in
      let d : ℕ = 2 ^ (e + 3) in
      let few : e ≤ 7 = seg.few in
      let least : 16 ≤ q = seg.least in
      let most : q < 32 = seg.most in
      let top : a < q * d + d = seg.to in
      elim (cases_lt (q % 16) 15) [
        | inl inside ↦
            let e1 = start_of (suc (place a e)) e (suc (q % 16)) (omega arith) (omega arith) more high in
            let whole : 16 + suc (q % 16) ≡ suc q = omega arith in
            let e2 : slice_index starts (suc (place a e)) + bias ≡ suc q * d = e1 ∙ ap (λ k. k * d) whole in
            let e3 : suc q * d ≡ q * d + d = search rules in
            omega arith
        | inr last ↦
            let e1 = start_of (suc (place a e)) (suc e) 0 (omega arith) (omega arith) more high in
            let e2 : slice_index starts (suc (place a e)) + bias ≡ 16 * 2 ^ (suc e + 3) = e1 in
            let e3 : 2 ^ (suc e + 3) ≡ d * 2 = ap (λ k. 2 ^ k) (let k : suc e + 3 ≡ suc (e + 3) = omega arith in k) ∙ pow-suc 2 (e + 3) in
            let full : q ≡ 31 = omega arith in
            let e4 : q * d ≡ 31 * d = ap (λ k. k * d) full in
            omega arith
      ]
