-- Lists that are appended to or unchanged, if they are observable.
use Rattle.std.proofs.Common.{◌≡◌, List, [], ◌∷◌, ◌++◌, refl, sym, ap, ◌∙◌, append_assoc, append-nil, IfSome}
use Rattle.std.proofs.lemmas.List.Sums.{fold-append}
use Rattle.std.specs.List.{fold}
use Rattle.std.specs.declared.option.Option.{Option}
use Rattle.std.specs.declared.option.Option.TheVariants.{None, Some}
use Rattle.af_io.specs.Observed.{Appended, Unchanged}

pub appended_none : {A : Type 0} (a : Option (List A)) → Appended a [] a
appended_none None = tt
appended_none (Some x) = sym (append-nil x)

pub appended_on : {A : Type 0} (a b c : Option (List A)) (p q : List A) → Appended a p b → Appended b q c → Appended a (p ++ q) c
appended_on a b None p q h k = tt
appended_on a None (Some z) p q h k = absurd k
appended_on None (Some y) (Some z) p q h k = absurd h
appended_on (Some x) (Some y) (Some z) p q h k = k ∙ ap (λ l. l ++ q) h ∙ append_assoc x p q

pub appended_by_none : {A : Type 0} (a b c : Option (List A)) (p : List A) → Appended a p b → Appended b [] c → Appended a p c
appended_by_none a b None p h k = tt
appended_by_none a None (Some z) p h k = absurd k
appended_by_none None (Some y) (Some z) p h k = absurd h
appended_by_none (Some x) (Some y) (Some z) p h k = k ∙ append-nil y ∙ h

pub stays_same : {A : Type 0} (a : Option (List A)) → Unchanged a a
stays_same None = tt
stays_same (Some x) = refl

pub stays_stays : {A : Type 0} (a b c : Option (List A)) → Unchanged a b → Unchanged b c → Unchanged a c
stays_stays a b None h k = tt
stays_stays a None (Some z) h k = absurd k
stays_stays None (Some y) (Some z) h k = absurd h
stays_stays (Some x) (Some y) (Some z) h k = k ∙ h

pub stays_appended : {A : Type 0} (a b c : Option (List A)) (p : List A) → Unchanged a b → Appended b p c → Appended a p c
stays_appended a b None p h k = tt
stays_appended a None (Some z) p h k = absurd k
stays_appended None (Some y) (Some z) p h k = absurd h
stays_appended (Some x) (Some y) (Some z) p h k = k ∙ ap (λ l. l ++ p) h

pub appended_stays : {A : Type 0} (a b c : Option (List A)) (p : List A) → Appended a p b → Unchanged b c → Appended a p c
appended_stays a b None p h k = tt
appended_stays a None (Some z) p h k = absurd k
appended_stays None (Some y) (Some z) p h k = absurd h
appended_stays (Some x) (Some y) (Some z) p h k = k ∙ h

-- what is folded out of a list goes on with the element that is appended
pub appended_folds : {A B : Type 0} (step : B → A → B) (start : B) (before after : Option (List A)) (a : A) (b : B) → Appended before (a ∷ []) after →
    IfSome before (λ xs. b ≡ fold step start xs) → IfSome after (λ xs. step b a ≡ fold step start xs)
appended_folds step start before None a b added shown = tt
appended_folds step start None (Some after) a b added shown = absurd added
appended_folds step start (Some before) (Some after) a b added shown = ap (λ x. step x a) shown ∙ sym (fold-append step start before (a ∷ [])) ∙ ap (fold step start) (sym added)
