-- What tests that came out true mean.
use Rattle.std.proofs.Common.{◌≡◌, ℕ, zero, suc, Bool, true, false, not, cond, ◌&&◌, ◌==◌, List, [], ◌∷◌, is_none, refl, sym, ap, ◌∙◌, eqb-true, rules}
use Rattle.std.specs.declared.option.Option.{Option}
use Rattle.std.specs.declared.option.Option.TheVariants.{None, Some}
use Rattle.af_world.specs.declared.happening.Why.{Why}
use Rattle.af_world.specs.declared.happening.Why.TheVariants as why
use Rattle.af_world.specs.Outside.{same_bytes}
use Rattle.af_model.specs.Turn.{number_of_why, same_why}

pub cond-some : {A : Type 0} (t : Bool) (x : Option A) (b : A) → cond t x None ≡ Some b → (t ≡ true) × (x ≡ Some b)
cond-some true x b e = (refl, e)
cond-some false x b e = absurd cc

pub cond-true : {A : Type 0} (t : Bool) (x y b : A) → t ≡ true → cond t x y ≡ b → x ≡ b
cond-true true x y b e h = h
cond-true false x y b e h = absurd cc

pub same_number : (k : ℕ) → (k == k) ≡ true
same_number k = search rules

pub both-true : (s t : Bool) → (s && t) ≡ true → (s ≡ true) × (t ≡ true)
both-true true t e = (refl, e)
both-true false t e = absurd cc

pub not_true : (b : Bool) → not b ≡ true → b ≡ false
not_true true e = absurd cc
not_true false e = refl

pub none-true : {A : Type 0} (o : Option A) → is_none o ≡ true → o ≡ None
none-true None e = refl
none-true (Some x) e = absurd cc

pub some_is : {A : Type 0} {a b : A} → Some a ≡ Some b → a ≡ b
some_is e = cc

pub none_some : {A : Type 0} {b : A} → None ≡ Some b → ⊥
none_some e = cc

pub same_bytes-true : (xs ys : List ℕ) → same_bytes xs ys ≡ true → xs ≡ ys
same_bytes-true [] [] e = refl
same_bytes-true [] (y ∷ ys) e = absurd cc
same_bytes-true (x ∷ xs) [] e = absurd cc
same_bytes-true (x ∷ xs) (y ∷ ys) e =
    let t = both-true (x == y) (same_bytes xs ys) e in
    let h : x ≡ y = eqb-true x y t.0 in
    let r : xs ≡ ys = same_bytes-true xs ys t.1 in
    cc

-- the cause with a number
cause_of : ℕ → Why
cause_of zero = why.BadSetup
cause_of (suc zero) = why.Malformed
cause_of (suc (suc zero)) = why.Ended
cause_of (suc (suc (suc zero))) = why.LinkFault
cause_of (suc (suc (suc (suc n)))) = why.Overrun

cause_of-number : (a : Why) → cause_of (number_of_why a) ≡ a
unfolding cause_of
cause_of-number why.BadSetup = refl
cause_of-number why.Malformed = refl
cause_of-number why.Ended = refl
cause_of-number why.LinkFault = refl
cause_of-number why.Overrun = refl

pub same_why-true : (a b : Why) → same_why a b ≡ true → a ≡ b
same_why-true a b e = sym (cause_of-number a) ∙ ap cause_of (eqb-true (number_of_why a) (number_of_why b) e) ∙ cause_of-number b
