-- One lane, and whole vectors, by the bits that a vector's operations work on.
use Rattle.std.proofs.Common.{◌≡◌, ℕ, ℤ, Bool, true, false, cond, to_z, of_z, w32, List, [], ◌∷◌, map, replicate, length, zero, suc, refl, arith, ap, ap₂, ◌∙◌, ◌+ℤ◌, ◌*ℤ◌, ◌≤◌, pos, negsuc, lit<}
use Rattle.std.specs.Prelude.{int_div}
use Rattle.std.specs.Int.{int_max, int_min}
use Rattle.std.proofs.lemmas.Int.{to_z-of_z, to_z_pos, ints, wrapping_mul_is, int_wrap_fits, quot_fits}
use lib.Lanes.{zip2, sel_l, top, Each1, Each2}
use lib.Signed.{lt_z}
use mir.Syntax.{cast, signed, w16, mask, lt, wrap_add, wrap_mul, div}
use mir.Val.{SFits}
use borrow.Rule.Simd.Lanes.{act1, act2, Asks1, Asks2}
use borrow.Table.Row.{s_int}
use Rattle.af_sample.specs.Gains.{scaled}
use Rattle.af_sample.specs.Mixing.{mixed, saturated}
use Rattle.af_sample.proofs.GainLemmas.{product_fits}

-- ---- saturation of 32 bits to 16

abbrev pub to_16_bits : ℕ → ℕ
to_16_bits = act1 (cast signed signed w16) (s_int w32) (s_int w16)

abbrev pub less_mask : ℕ → ℕ → ℕ
less_mask = act2 (mask (lt signed)) (s_int w32) (s_int w32) (s_int w32)

abbrev pub at_least_lowest : ℕ → ℕ
at_least_lowest p = cond (top 31 (less_mask p 4294934528)) 4294934528 p

abbrev pub at_most_highest : ℕ → ℕ
at_most_highest p = cond (top 31 (less_mask p 32767)) p 32767

raised_is : (p : ℕ) → to_z w32 (at_least_lowest p) ≡ int_max (to_z w32 p) (negsuc 32767)
raised_is p = go (lt_z (to_z w32 p) (negsuc 32767)) refl
  where
    go : (b : Bool) → lt_z (to_z w32 p) (negsuc 32767) ≡ b → to_z w32 (cond (top 31 (cond b 4294967295 0)) 4294934528 p) ≡ int_max (to_z w32 p) (negsuc 32767)
    go true t = grind (arith, ints)
    go false t = grind (arith, ints)

capped_is : (p : ℕ) → to_z w32 (at_most_highest p) ≡ int_min (to_z w32 p) (pos 32767)
capped_is p = go (lt_z (to_z w32 p) (pos 32767)) refl
  where
    go : (b : Bool) → lt_z (to_z w32 p) (pos 32767) ≡ b → to_z w32 (cond (top 31 (cond b 4294967295 0)) p 32767) ≡ int_min (to_z w32 p) (pos 32767)
    go true t = grind (arith, ints)
    go false t = grind (arith, ints)

limits : (z : ℤ) → int_min (int_max z (negsuc 32767)) (pos 32767) ≡ saturated z
limits z = grind (arith, ints)

pub saturated_fits : (z : ℤ) → SFits w16 (saturated z)
saturated_fits z = grind (arith, ints)

limited : (p : ℕ) → to_z w32 (at_most_highest (at_least_lowest p)) ≡ saturated (to_z w32 p)
limited p = capped_is (at_least_lowest p) ∙ ap (λ z. int_min z (pos 32767)) (raised_is p) ∙ limits (to_z w32 p)

narrow : (p : ℕ) (z : ℤ) → to_z w32 p ≡ z → SFits w16 z → Asks1 (cast signed signed w16) (s_int w32) p
narrow p z e h = grind (arith, ints)

abbrev raised_lanes : List ℕ → List ℕ → List ℕ
raised_lanes ps least = sel_l (map (top 31) (zip2 less_mask ps least)) least ps

abbrev capped_lanes : List ℕ → List ℕ → List ℕ
capped_lanes ps most = sel_l (map (top 31) (zip2 less_mask ps most)) ps most

abbrev pub limited_lanes : ℕ → List ℤ → List ℕ
limited_lanes n zs = capped_lanes (raised_lanes (map (of_z w32) zs) (replicate n 4294934528)) (replicate n 32767)

-- what is saturated fits into the narrow lanes
pub narrow_lanes : (n : ℕ) (zs : List ℤ) → length zs ≡ n → Each1 (Asks1 (cast signed signed w16) (s_int w32)) (limited_lanes n zs)
narrow_lanes zero [] e = tt
narrow_lanes zero (z ∷ zs) e = absurd (omega arith)
narrow_lanes (suc n) [] e = absurd (omega arith)
narrow_lanes (suc n) (z ∷ zs) e = (narrow _ _ (limited (of_z w32 z)) (saturated_fits (to_z w32 (of_z w32 z))), narrow_lanes n zs (omega arith))

pub saturated_lanes : (n : ℕ) (zs : List ℤ) → length zs ≡ n → Each1 (SFits w32) zs → map (to_z w16) (map to_16_bits (limited_lanes n zs)) ≡ map saturated zs
saturated_lanes zero [] e h = refl
saturated_lanes zero (z ∷ zs) e h = absurd (omega arith)
saturated_lanes (suc n) [] e h = absurd (omega arith)
saturated_lanes (suc n) (z ∷ zs) e h =
    let lane : to_z w16 (to_16_bits (at_most_highest (at_least_lowest (of_z w32 z)))) ≡ saturated z =
    ap (λ a. to_z w16 (of_z w16 a)) (limited (of_z w32 z)) ∙ to_z-of_z w16 _ (saturated_fits (to_z w32 (of_z w32 z))) ∙ ap saturated (to_z-of_z w32 z h.0) in
    ap₂ (λ (a : ℤ) (l : List ℤ). a ∷ l) lane (saturated_lanes n zs (omega arith) h.1)

-- ---- lanes of 16 bits, widened to 32

abbrev pub to_32_bits : ℕ → ℕ
to_32_bits = act1 (cast signed signed w32) (s_int w16) (s_int w32)

abbrev pub wide_lanes : List ℤ → List ℕ
wide_lanes xs = map to_32_bits (map (of_z w16) xs)

up_is : (x : ℤ) → SFits w16 x → to_32_bits (of_z w16 x) ≡ of_z w32 x
up_is x h = ap (of_z w32) (to_z-of_z w16 x h)

wide_fits : (n : ℕ) → SFits w32 (to_z w32 n)
wide_fits n = grind (arith, ints)

-- what a vector of wide lanes shows fits
pub are_wide : (ps : List ℕ) → Each1 (SFits w32) (map (to_z w32) ps)
are_wide [] = tt
are_wide (p ∷ ps) = (wide_fits p, are_wide ps)

-- ---- sums

abbrev pub sum : ℕ → ℕ → ℕ
sum = act2 wrap_add (s_int w32) (s_int w32) (s_int w32)

added : (x y : ℤ) → SFits w16 x → SFits w16 y → to_z w32 (sum (of_z w32 x) (of_z w32 y)) ≡ x +ℤ y
added x y h k = grind (arith, ints)

sum_is : (x y : ℤ) → SFits w16 x → SFits w16 y → to_z w32 (sum (to_32_bits (of_z w16 x)) (to_32_bits (of_z w16 y))) ≡ x +ℤ y
sum_is x y h k =
    ap (λ p. to_z w32 (sum p (to_32_bits (of_z w16 y)))) (up_is x h) ∙ ap (λ q. to_z w32 (sum (of_z w32 x) q)) (up_is y k) ∙ added x y h k

pub mixed_lanes : (xs ys : List ℤ) → Each1 (SFits w16) xs → Each1 (SFits w16) ys →
    map saturated (map (to_z w32) (zip2 sum (wide_lanes xs) (wide_lanes ys))) ≡ zip2 mixed xs ys
mixed_lanes [] ys h k = refl
mixed_lanes (x ∷ xs) [] h k = refl
mixed_lanes (x ∷ xs) (y ∷ ys) h k = ap₂ (λ (a : ℤ) (l : List ℤ). a ∷ l) (ap saturated (sum_is x y h.0 k.0)) (mixed_lanes xs ys h.1 k.1)

pub mixed_fit : (xs ys : List ℤ) → Each1 (SFits w16) (zip2 mixed xs ys)
mixed_fit [] ys = tt
mixed_fit (x ∷ xs) [] = tt
mixed_fit (x ∷ xs) (y ∷ ys) = (saturated_fits (x +ℤ y), mixed_fit xs ys)

narrow_fits : (n : ℕ) → SFits w16 (to_z w16 n)
narrow_fits n = grind (arith, ints)

-- what a vector of samples shows fits
pub lanes_fit : (ps : List ℕ) → Each1 (SFits w16) (map (to_z w16) ps)
lanes_fit [] = tt
lanes_fit (p ∷ ps) = (narrow_fits p, lanes_fit ps)

-- lanes that fit are what their bits show
pub same_lanes : (xs : List ℤ) → Each1 (SFits w16) xs → map (to_z w16) (map (of_z w16) xs) ≡ xs
same_lanes [] h = refl
same_lanes (x ∷ xs) h = ap₂ (λ (a : ℤ) (l : List ℤ). a ∷ l) (to_z-of_z w16 x h.0) (same_lanes xs h.1)

pub mixed_value : (xs ys result : List ℤ) → Each1 (SFits w16) xs → Each1 (SFits w16) ys →
    result ≡ map saturated (map (to_z w32) (zip2 sum (wide_lanes xs) (wide_lanes ys))) → map (to_z w16) (map (of_z w16) result) ≡ zip2 mixed xs ys
mixed_value xs ys result h k e =
    ap (λ (l : List ℤ). map (to_z w16) (map (of_z w16) l)) (e ∙ mixed_lanes xs ys h k) ∙ same_lanes (zip2 mixed xs ys) (mixed_fit xs ys)

-- ---- products

abbrev pub product : ℕ → ℕ → ℕ
product = act2 wrap_mul (s_int w32) (s_int w32) (s_int w32)

abbrev pub quotient : ℕ → ℕ → ℕ
quotient = act2 (div signed) (s_int w32) (s_int w32) (s_int w32)

divides : (p : ℕ) → Asks2 (div signed) (s_int w32) (s_int w32) p 1024
divides p = (lit< tt, quot_fits w32 (to_z w32 p) (pos 1024) (wide_fits p) (grind (arith, ints)))

-- no division by 1024 leaves 32 bits
pub divides_all : (n : ℕ) (ps : List ℕ) → length ps ≡ n → Each2 (Asks2 (div signed) (s_int w32) (s_int w32)) ps (replicate n 1024)
divides_all zero [] e = tt
divides_all zero (p ∷ ps) e = absurd (omega arith)
divides_all (suc n) [] e = absurd (omega arith)
divides_all (suc n) (p ∷ ps) e = (divides p, divides_all n ps (omega arith))

quotient_is : (p : ℕ) (z : ℤ) → to_z w32 p ≡ z → SFits w32 z → to_z w32 (quotient p 1024) ≡ int_div z (pos 1024)
quotient_is p z e h =
    ap (λ y. to_z w32 (of_z w32 (int_div y (pos 1024)))) e ∙ to_z-of_z w32 (int_div z (pos 1024)) (quot_fits w32 z (pos 1024) h (grind (arith, ints)))

pub scaled_fit : (m : ℕ) (xs : List ℤ) → Each1 (SFits w16) (map (scaled m) xs)
scaled_fit m [] = tt
scaled_fit m (x ∷ xs) = (saturated_fits (int_div (x *ℤ pos m) (pos 1024)), scaled_fit m xs)

module _ (m : ℕ) (most : m ≤ 32381) where
  factor : to_32_bits m ≡ of_z w32 (pos m)
  factor = ap (of_z w32) (to_z_pos w16 m (omega arith))

  product_is : (x : ℤ) → SFits w16 x → to_z w32 (product (to_32_bits (of_z w16 x)) (to_32_bits m)) ≡ x *ℤ pos m
  product_is x h =
      ap (λ p. to_z w32 (product p (to_32_bits m))) (up_is x h)
      ∙ ap (λ q. to_z w32 (product (of_z w32 x) q)) factor
      ∙ wrapping_mul_is w32 x (pos m) (grind (arith, ints)) (grind (arith, ints))
      ∙ int_wrap_fits w32 (x *ℤ pos m) (product_fits x m h most)

  abbrev pub quotients : ℕ → List ℤ → List ℕ
  quotients n xs = zip2 quotient (zip2 product (wide_lanes xs) (replicate n (to_32_bits m))) (replicate n 1024)

  gained_lanes : (n : ℕ) (xs : List ℤ) → length xs ≡ n → Each1 (SFits w16) xs → map saturated (map (to_z w32) (quotients n xs)) ≡ map (scaled m) xs
  gained_lanes zero [] e h = refl
  gained_lanes zero (x ∷ xs) e h = absurd (omega arith)
  gained_lanes (suc n) [] e h = absurd (omega arith)
  gained_lanes (suc n) (x ∷ xs) e h =
      ap₂ (λ (a : ℤ) (l : List ℤ). a ∷ l) (ap saturated (quotient_is _ _ (product_is x h.0) (product_fits x m h.0 most))) (gained_lanes n xs (omega arith) h.1)

  pub gained_value : (n : ℕ) (xs result : List ℤ) → length xs ≡ n → Each1 (SFits w16) xs →
      result ≡ map saturated (map (to_z w32) (quotients n xs)) → map (to_z w16) (map (of_z w16) result) ≡ map (scaled m) xs
  gained_value n xs result size h e =
      ap (λ (l : List ℤ). map (to_z w16) (map (of_z w16) l)) (e ∙ gained_lanes n xs size h) ∙ same_lanes (map (scaled m) xs) (scaled_fit m xs)
