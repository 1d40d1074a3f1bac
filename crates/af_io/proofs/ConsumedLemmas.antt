-- Lists that are consumed one piece after another, if they are observable.
use Rattle.std.proofs.Common.{◌≡◌, List, [], ◌++◌, refl, sym, ap, ◌∙◌, append_assoc, IsSome}
use Rattle.std.specs.declared.option.Option.{Option}
use Rattle.std.specs.declared.option.Option.TheVariants.{None, Some}
use Rattle.af_io.specs.Observed.{Consumed}

pub consumed_none : {A : Type 0} (a : Option (List A)) → Consumed a [] a
consumed_none None = tt
consumed_none (Some x) = refl

pub consumed_on : {A : Type 0} (a b c : Option (List A)) (p q : List A) → Consumed a p b → Consumed b q c → Consumed a (p ++ q) c
consumed_on a b None p q h k = tt
consumed_on a None (Some z) p q h k = absurd k
consumed_on None (Some y) (Some z) p q h k = absurd h
consumed_on (Some x) (Some y) (Some z) p q h k = h ∙ ap (λ l. p ++ l) k ∙ sym (append_assoc p q z)

-- the same by another name for all that was given
pub consumed_in_all : {A : Type 0} (a b c : Option (List A)) (p q r : List A) → Consumed a p b → Consumed b q c → r ≡ p ++ q → Consumed a r c
consumed_in_all a b c p q r h k e = rw e (consumed_on a b c p q h k)

-- what is observable in the end was so before
pub consumed_told : {A : Type 0} (a b : Option (List A)) (p : List A) → Consumed a p b → IsSome b → IsSome a
consumed_told a None p h told = cc told
consumed_told None (Some y) p h told = absurd h
consumed_told (Some x) (Some y) p h told = refl

-- what was given from a known list
pub consumed_known : {A : Type 0} (a b : Option (List A)) (x p : List A) → a ≡ Some x → Consumed a p b → IsSome b → (y : List A) × (b ≡ Some y) × (x ≡ p ++ y)
consumed_known a None x p is h told = cc told
consumed_known None (Some y) x p is h told = absurd h
consumed_known {A} (Some z) (Some y) x p is h told = let same : z ≡ x = cc in (y, refl, sym same ∙ h)
