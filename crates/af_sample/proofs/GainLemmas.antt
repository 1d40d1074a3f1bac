-- What a gain makes of a sample, as the code computes it in 32 bits.
use Rattle.std.proofs.Common.{◌≡◌, ◌≤◌, ◌+◌, ◌*◌, ◌/◌, ℕ, ℤ, pos, negsuc, suc, ◌*ℤ◌, refl, sym, ap, ◌∙◌, subst, arith, to_z, of_z, lit<}
use Rattle.std.specs.Int.{w16, w32, int_max, int_min}
use Rattle.std.specs.Prelude.{FitsSigned, int_div, neg_ℤ}
use Rattle.std.proofs.lemmas.Int.{ints, to_z-of_z, fits_signed_mul, quot_fits}
use Rattle.std.proofs.lemmas.Nat.{shl-shr}
use Rattle.af_sample.specs.Mixing.{saturated}
use Rattle.af_sample.specs.Gains.{scaled, gained, multiplier}
use Rattle.af_sample.proofs.MultiplierLemmas.{multiplier_is}

-- no product of a sample and a multiplier leaves 32 bits
pub product_fits : (x : ℤ) (m : ℕ) → FitsSigned w16 x → m ≤ 32381 → FitsSigned w32 (x *ℤ pos m)
product_fits x m fits most = fits_signed_mul w32 x (pos m) 32768 32381 (grind (arith, ints)) (grind (arith, ints)) (lit< tt)

-- the code's widened sample, multiplier and quotient
pub quotient_is : (x y z : ℤ) (m : ℕ) → FitsSigned w16 x → m ≤ 32381 → y ≡ to_z w16 (of_z w16 x) → z ≡ pos m →
    to_z w32 (of_z w32 (int_div (to_z w32 (of_z w32 (to_z w32 (of_z w32 y) *ℤ to_z w32 (of_z w32 z)))) (pos 1024))) ≡ int_div (x *ℤ pos m) (pos 1024)
quotient_is x y z m fits most wide as_int =
    let first : to_z w32 (of_z w32 y) ≡ x = grind (arith, ints) in
    let second : to_z w32 (of_z w32 z) ≡ pos m = grind (arith, ints) in
    let product : FitsSigned w32 (x *ℤ pos m) = product_fits x m fits most in
    let whole : to_z w32 (of_z w32 (to_z w32 (of_z w32 y) *ℤ to_z w32 (of_z w32 z))) ≡ x *ℤ pos m =
    ap (λ a. to_z w32 (of_z w32 (a *ℤ to_z w32 (of_z w32 z)))) first
    ∙ ap (λ b. to_z w32 (of_z w32 (x *ℤ b))) second
    ∙ to_z-of_z w32 (x *ℤ pos m) product in
    ap (λ a. to_z w32 (of_z w32 (int_div a (pos 1024)))) whole
    ∙ to_z-of_z w32 (int_div (x *ℤ pos m) (pos 1024)) (quot_fits w32 (x *ℤ pos m) (pos 1024) product (grind (arith, ints)))

-- the limits of 16 bits are the code's
clamped : (z : ℤ) → int_max (negsuc 32767) (int_min z (pos 32767)) ≡ saturated z
clamped z = grind (arith, ints)

saturated_fits : (z : ℤ) → FitsSigned w16 (saturated z)
saturated_fits z = grind (arith, ints)

-- the code's clamped quotient, as a sample
pub sample_is : (q r z : ℤ) → q ≡ z → r ≡ int_max (negsuc 32767) (int_min q (pos 32767)) →
    to_z w16 (of_z w16 (to_z w32 (of_z w32 r))) ≡ saturated z
sample_is q r z same clamp =
    let e : r ≡ saturated z = clamp ∙ ap (λ a. int_max (negsuc 32767) (int_min a (pos 32767))) same ∙ clamped z in
    let fits : FitsSigned w16 (saturated z) = saturated_fits z in
    let fits' : FitsSigned w16 r = subst (FitsSigned w16) (sym e) fits in
    let back : to_z w16 (of_z w16 (to_z w32 (of_z w32 r))) ≡ r = grind (arith, ints) in
    back ∙ e

-- 1024 / 1024 of a sample is the sample
over_itself : (x : ℤ) → int_div (x *ℤ pos 1024) (pos 1024) ≡ x
over_itself (pos n) = ap pos (shl-shr n 10)
over_itself (negsuc n) =
    let e : suc n * 1024 ≡ suc (n * 1024 + 1023) = omega arith in
    ap (λ k. int_div (neg_ℤ (pos k)) (pos 1024)) e
    ∙ ap (λ k. neg_ℤ (pos (k / 1024))) (sym e)
    ∙ ap (λ k. neg_ℤ (pos k)) (shl-shr (suc n) 10)

pub unity : (x : ℤ) → FitsSigned w16 x → gained x (pos 0) ≡ x
unity x fits =
    let one : multiplier (pos 0) ≡ 1024 = multiplier_is (pos 0) 1024 refl refl in
    let kept : saturated x ≡ x = grind (arith, ints) in
    ap (λ m. scaled m x) one ∙ ap saturated (over_itself x) ∙ kept
