-- Notes of things that contracts see in another form.
use Rattle.std.proofs.Common.{◌≡◌, List, [], ◌∷◌, ◌++◌, map, sym, ap, ◌∙◌, subst, IfOk, IfSome}
use Rattle.std.proofs.lemmas.List.{map-append}
use Rattle.std.specs.List.{fold}
use Rattle.std.specs.Prelude.{option_map}
use Rattle.std.specs.declared.option.Option.{Option}
use Rattle.std.specs.declared.option.Option.TheVariants.{None, Some}
use Rattle.std.specs.declared.result.Result.{Result}
use Rattle.std.specs.declared.result.Result.TheVariants.{Ok, Err}
use Rattle.af_time.specs.declared.OutOfMemory.{OutOfMemory}
use Rattle.af_io.specs.Observed.{Appended}
use Rattle.af_io.specs.Notes.{Noted}
use Rattle.af_io.proofs.AppendedLemmas.{appended_folds}

-- an entry that is noted is appended in its other form
pub Noted-told : {A B : Type 0} (told : A → B) (before after : Option (List A)) (entry : Result A OutOfMemory) (b : B) → IfOk entry (λ a. told a ≡ b) → Noted before entry after →
    Appended (option_map (map told) before) (b ∷ []) (option_map (map told) after)
Noted-told told before after (Err e) b is noted = subst (λ x. Appended (option_map (map told) before) (b ∷ []) (option_map (map told) x)) (sym noted) tt
Noted-told told before None (Ok a) b is noted = tt
Noted-told told None (Some after) (Ok a) b is noted = absurd noted
Noted-told told (Some before) (Some after) (Ok a) b is noted = ap (map told) noted ∙ map-append told before (a ∷ []) ∙ ap (λ x. map told before ++ x ∷ []) is

-- what is folded out of the entries goes on with one that is noted
pub noted_folds : {A B C : Type 0} (told : A → B) (step : C → B → C) (start : C) (before after : Option (List A)) (entry : Result A OutOfMemory) (b : B) (c : C) →
    IfOk entry (λ a. told a ≡ b) → Noted before entry after → IfSome (option_map (map told) before) (λ xs. c ≡ fold step start xs) →
    IfSome (option_map (map told) after) (λ xs. step c b ≡ fold step start xs)
noted_folds told step start before after entry b c is noted shown = appended_folds step start _ _ b c (Noted-told told before after entry b is noted) shown
