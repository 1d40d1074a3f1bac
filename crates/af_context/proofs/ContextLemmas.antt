-- Lists of contexts in which each number stands once.
use Rattle.std.proofs.Common.{◌≡◌, ◌≢◌, ℕ, zero, suc, ◌+◌, ◌<◌, ◌==◌, nat_lt, Bool, true, false, cond, not, ◌||◌, List, [], ◌∷◌, ◌++◌, length, find, position, take, drop, set, get_or, option_map, length-append, Option, Some, None, Ok, refl, sym, ap, ◌∙◌, subst, arith, rules}
use Rattle.std.proofs.lemmas.Bool.Decides.{nat_tests}
use Rattle.std.specs.List.{list_any, refill, remove, position_or_len, All, AllPairs}
use Rattle.std.proofs.lemmas.List.{get_or-map}
use Rattle.std.proofs.lemmas.List.Folds.{find_at, find-append, list_any_at}
use Rattle.std.proofs.lemmas.List.Edits.{length-remove}
use Rattle.std.proofs.lemmas.List.Quantifiers.{all_pairs_remove}
use Rattle.std.proofs.lemmas.Option.{slice_get-get_or}
use Rattle.std.proofs.Math.Seq.{map-set_same, take-append_seam}
use Rattle.std.proofs.Math.ListN.{length-set}
use Rattle.std.specs.Option.{ok_or, option_or}
use Rattle.af_limits.proofs.ListLemmas.{keep_others}
use Rattle.af_context.specs.declared.Context.{Context}
use Rattle.af_context.specs.declared.ContextFault.TheVariants.{BadAc}
use Rattle.af_context.specs.Contexts.{context_of, is_in_use, with_changed, without_context, AreContexts, IsPlaceOf}

-- the first place that passes a test is in the list if the test passes at all
position_or_len-in : {X : Type 0} (p : X → Bool) (xs : List X) → nat_lt (position_or_len p xs) (length xs) ≡ list_any p xs
position_or_len-in p [] = refl
position_or_len-in p (x ∷ xs) =
    let rest : nat_lt (position_or_len p xs) (length xs) ≡ list_any p xs = position_or_len-in p xs in
    elim (p x) as (λ b. nat_lt (cond (not b) (1 + position_or_len p xs) 0) (suc (length xs)) ≡ (b || list_any p xs))
    [ true ↦ grind (arith, nat_tests) | false ↦ grind (arith, nat_tests) ]

find-none : {X : Type 0} (p : X → Bool) (xs : List X) → list_any p xs ≡ false → find p xs ≡ None
find-none p [] e = refl
find-none p (x ∷ xs) e =
    elim (p x) as (λ b. (b || list_any p xs) ≡ false → cond b (Some x) (find p xs) ≡ None)
    [ true ↦ λ f. absurd cc | false ↦ λ f. find-none p xs f ] e

-- the first place whose context has the number is that of the number's context; if there is none, the number is not in use
pub IsPlaceOf-position : (xs : List Context) (ac : ℕ) → IsPlaceOf xs ac (ok_or (position (λ c. c.ac == ac) xs) BadAc)
IsPlaceOf-position xs ac =
    let within = position_or_len-in (λ c. c.ac == ac) xs in
    elim (nat_lt (position_or_len (λ c. c.ac == ac) xs) (length xs))
    as (λ b. nat_lt (position_or_len (λ c. c.ac == ac) xs) (length xs) ≡ b →
    IsPlaceOf xs ac (ok_or (cond b (Some (position_or_len (λ c. c.ac == ac) xs)) None) BadAc)) [
      | true ↦ λ t. (grind (arith, nat_tests), sym within ∙ t, find_at (λ c. c.ac == ac) xs)
      | false ↦ λ t. (refl, sym within ∙ t, find-none (λ c. c.ac == ac) xs (sym within ∙ t))
    ] refl

find-passes : {X : Type 0} (p : X → Bool) (xs : List X) (x : X) → find p xs ≡ Some x → p x ≡ true
find-passes p [] x e = absurd cc
find-passes p (y ∷ ys) x e =
    elim (p y) as (λ b. p y ≡ b → cond b (Some y) (find p ys) ≡ Some x → p x ≡ true) [
      | true ↦ λ t f. let same : y ≡ x = cc in subst (λ z. p z ≡ true) same t
      | false ↦ λ t f. find-passes p ys x f
    ] refl e

-- what is found has the number
pub found-number : (xs : List Context) (ac at : ℕ) (d : Context) → IsPlaceOf xs ac (Ok at) → (get_or xs at d).ac ≡ ac
found-number xs ac at d place =
    let is : ((get_or xs at d).ac == ac) ≡ true =
    find-passes (λ c. c.ac == ac) xs (get_or xs at d) (place.2 ∙ slice_get-get_or xs at d place.0) in
    grind (arith, nat_tests)

-- a list without contexts
pub AreContexts-nil : (xs : List Context) → xs ≡ [] → AreContexts xs
AreContexts-nil xs e = subst AreContexts (sym e) (record { distinct = λ i j d a b. absurd (omega arith); few = omega arith })

apart : (xs : List Context) (c : Context) → is_in_use xs c.ac ≡ false → (k : ℕ) (d : Context) → k < length xs → (get_or xs k d).ac ≢ c.ac
apart xs c free k d low same =
    let is : ((get_or xs k d).ac == c.ac) ≡ true = grind (arith, nat_tests) in
    let used : is_in_use xs c.ac ≡ true = list_any_at (λ x. x.ac == c.ac) xs k d low is in
    absurd cc

-- the list without one context
pub AreContexts-remove : (xs : List Context) (at : ℕ) → AreContexts xs → at < length xs → AreContexts (remove xs at)
AreContexts-remove xs at h low = record {
  distinct = all_pairs_remove (λ a b. a.ac ≢ b.ac) xs at low h.distinct;
  few = let n = length-remove xs at low in let k = h.few in omega arith;
}

-- a context replaces one with the same number
pub AreContexts-set : (xs : List Context) (at : ℕ) (c d : Context) → AreContexts xs → at < length xs → c.ac ≡ (get_or xs at d).ac → AreContexts (set xs at c)
AreContexts-set xs at c d h low same = record {
  distinct = λ i j e below within.
      let numbers = map-set_same (λ x. x.ac) xs at c d same in
      let n : length (set xs at c) ≡ length xs = length-set xs at c in
      let number_at : (k : ℕ) → k < length xs → (get_or (set xs at c) k e).ac ≡ (get_or xs k e).ac = λ k low'.
      sym (get_or-map (λ x. x.ac) (set xs at c) k e e.ac (omega arith)) ∙ ap (λ l. get_or l k e.ac) numbers
      ∙ get_or-map (λ x. x.ac) xs k e e.ac low' in
      λ same'. h.distinct i j e below (omega arith)
      (sym (number_at i (omega arith)) ∙ same' ∙ number_at j (omega arith));
  few = let n : length (set xs at c) ≡ length xs = length-set xs at c in let k = h.few in omega arith;
}

head_apart : (x : Context) (xs : List Context) → AllPairs (λ a b. a.ac ≢ b.ac) (x ∷ xs) → All (λ c. x.ac ≢ c.ac) xs
head_apart x xs h = λ k d low. h 0 (suc k) d (omega arith) (omega arith)

tail_pairs : (x : Context) (xs : List Context) → AllPairs (λ a b. a.ac ≢ b.ac) (x ∷ xs) → AllPairs (λ a b. a.ac ≢ b.ac) xs
tail_pairs x xs h = λ i j d below low. h (suc i) (suc j) d (omega arith) (omega arith)

leave_others : (xs : List Context) (ac : ℕ) (change : Context → Context) → All (λ c. ac ≢ c.ac) xs → with_changed xs ac change ≡ xs
leave_others [] ac change h = refl
leave_others (x ∷ xs) ac change h =
    let other : (x.ac == ac) ≡ false = let ne = h 0 x (omega arith) in grind (arith, nat_tests) in
    let rest = leave_others xs ac change (λ k d low. h (suc k) d (omega arith)) in
    ap (λ b. cond b (change x) x ∷ with_changed xs ac change) other ∙ ap (λ l. x ∷ l) rest

-- removing the context at a place leaves those with other numbers
pub remove-place : (xs : List Context) (at : ℕ) (d : Context) → AllPairs (λ a b. a.ac ≢ b.ac) xs → at < length xs → remove xs at ≡ without_context xs (get_or xs at d).ac
remove-place [] at d h low = absurd (omega arith)
remove-place (x ∷ xs) zero d h low =
    let here : (x.ac == x.ac) ≡ true = search rules in
    sym (ap (λ b. cond (not b) (x ∷ without_context xs x.ac) (without_context xs x.ac)) here
    ∙ keep_others (λ c. c.ac) x.ac xs (head_apart x xs h))
remove-place (x ∷ xs) (suc at) d h low =
    let low' : at < length xs = omega arith in
    let other : (x.ac == (get_or xs at d).ac) ≡ false = let ne = h 0 (suc at) d (omega arith) low in grind (arith, nat_tests) in
    ap (λ l. x ∷ l) (remove-place xs at d (tail_pairs x xs h) low')
    ∙ sym (ap (λ b. cond (not b) (x ∷ without_context xs (get_or xs at d).ac) (without_context xs (get_or xs at d).ac)) other)

-- changing the context at a place changes that of its number
pub set-place : (xs : List Context) (at : ℕ) (d : Context) (change : Context → Context) → AllPairs (λ a b. a.ac ≢ b.ac) xs → at < length xs → set xs at (change (get_or xs at d)) ≡ with_changed xs (get_or xs at d).ac change
set-place [] at d change h low = absurd (omega arith)
set-place (x ∷ xs) zero d change h low =
    let here : (x.ac == x.ac) ≡ true = search rules in
    sym (ap (λ b. cond b (change x) x ∷ with_changed xs x.ac change) here
    ∙ ap (λ l. change x ∷ l) (leave_others xs x.ac change (head_apart x xs h)))
set-place (x ∷ xs) (suc at) d change h low =
    let low' : at < length xs = omega arith in
    let other : (x.ac == (get_or xs at d).ac) ≡ false = let ne = h 0 (suc at) d (omega arith) low in grind (arith, nat_tests) in
    ap (λ l. x ∷ l) (set-place xs at d change (tail_pairs x xs h) low')
    ∙ sym (ap (λ b. cond b (change x) x ∷ with_changed xs (get_or xs at d).ac change) other)

-- writing an element leaves the list as long as it was
pub refill-set : (xs : List Context) (at : ℕ) (c : Context) → refill (length xs) xs (set xs at c) ≡ set xs at c
refill-set xs at c =
    let n : length (set xs at c) ≡ length xs = length-set xs at c in
    ap (λ k. take k (set xs at c ++ drop (length (set xs at c)) xs)) (sym n) ∙ take-append_seam (set xs at c) (drop (length (set xs at c)) xs)

or_nothing : (o : Option Context) → option_or o None ≡ o
or_nothing None = refl
or_nothing (Some x) = refl

-- what a number means once a context was created
pub context_of-created : (xs : List Context) (c : Context) (n : ℕ) → is_in_use xs c.ac ≡ false → context_of (xs ++ c ∷ []) n ≡ cond (c.ac == n) (Some c) (context_of xs n)
context_of-created xs c n free =
    find-append (λ x. x.ac == n) xs (c ∷ [])
    ∙ (elim (c.ac == n) as (λ b. (c.ac == n) ≡ b → option_or (context_of xs n) (cond b (Some c) None) ≡ cond b (Some c) (context_of xs n)) [
      | true ↦ λ t. let same : c.ac ≡ n = grind (arith, nat_tests) in
          ap (λ o. option_or o (Some c)) (subst (λ k. context_of xs k ≡ None) same (find-none (λ x. x.ac == c.ac) xs free))
      | false ↦ λ t. or_nothing (context_of xs n)
    ] refl)

-- what a number means once the context of a number was changed
pub context_of-changed : (xs : List Context) (ac n : ℕ) (change : Context → Context) → ((c : Context) → (change c).ac ≡ c.ac)
    → context_of (with_changed xs ac change) n ≡ cond (ac == n) (option_map change (context_of xs n)) (context_of xs n)
context_of-changed [] ac n change keeps =
    let none : Option Context = None in elim (ac == n) as (λ b. none ≡ cond b none none) [ true ↦ refl | false ↦ refl ]
context_of-changed (x ∷ xs) ac n change keeps =
    let rest : context_of (with_changed xs ac change) n ≡ cond (ac == n) (option_map change (context_of xs n)) (context_of xs n) =
    context_of-changed xs ac n change keeps in
    let after : Context → Option Context = λ y. cond (y.ac == n) (Some y) (context_of (with_changed xs ac change) n) in
    let meant : Option Context → Option Context = λ o. cond (ac == n) (option_map change o) o in
    elim (x.ac == ac) as (λ b. (x.ac == ac) ≡ b → after (cond b (change x) x) ≡ meant (cond (x.ac == n) (Some x) (context_of xs n))) [
      | true ↦ λ is.
          ap (λ k. cond (k == n) (Some (change x)) (context_of (with_changed xs ac change) n)) (keeps x)
          ∙ (elim (x.ac == n) as (λ b. (x.ac == n) ≡ b → cond b (Some (change x)) (context_of (with_changed xs ac change) n) ≡ meant (cond b (Some x) (context_of xs n))) [
            | true ↦ λ t. let here : (ac == n) ≡ true = grind (arith, nat_tests) in
                sym (ap (λ b. cond b (Some (change x)) (Some x)) here)
            | false ↦ λ _. rest
          ] refl)
      | false ↦ λ other.
          (elim (x.ac == n) as (λ b. (x.ac == n) ≡ b → cond b (Some x) (context_of (with_changed xs ac change) n) ≡ meant (cond b (Some x) (context_of xs n))) [
            | true ↦ λ t. let elsewhere : (ac == n) ≡ false = grind (arith, nat_tests) in
                sym (ap (λ b. cond b (Some (change x)) (Some x)) elsewhere)
            | false ↦ λ _. rest
          ] refl)
    ] refl

-- what a number means once the context of a number was freed
pub context_of-freed : (xs : List Context) (ac n : ℕ) → context_of (without_context xs ac) n ≡ cond (ac == n) None (context_of xs n)
context_of-freed [] ac n = let none : Option Context = None in elim (ac == n) as (λ b. none ≡ cond b none none) [ true ↦ refl | false ↦ refl ]
context_of-freed (x ∷ xs) ac n =
    let rest : context_of (without_context xs ac) n ≡ cond (ac == n) None (context_of xs n) = context_of-freed xs ac n in
    elim (x.ac == ac) as (λ b. (x.ac == ac) ≡ b → context_of (cond (not b) (x ∷ without_context xs ac) (without_context xs ac)) n ≡ cond (ac == n) None (cond (x.ac == n) (Some x) (context_of xs n))) [
      | true ↦ λ is. rest
          ∙ (elim (ac == n) as (λ b. (ac == n) ≡ b → cond b None (context_of xs n) ≡ cond b None (cond (x.ac == n) (Some x) (context_of xs n))) [
            | true ↦ λ _. refl
            | false ↦ λ f. let elsewhere : (x.ac == n) ≡ false = grind (arith, nat_tests) in
                sym (ap (λ b. cond b (Some x) (context_of xs n)) elsewhere)
          ] refl)
      | false ↦ λ other.
          (elim (x.ac == n) as (λ b. (x.ac == n) ≡ b → cond b (Some x) (context_of (without_context xs ac) n) ≡ cond (ac == n) None (cond b (Some x) (context_of xs n))) [
            | true ↦ λ t. let elsewhere : (ac == n) ≡ false = grind (arith, nat_tests) in
                sym (ap (λ b. cond b None (Some x)) elsewhere)
            | false ↦ λ _. rest
          ] refl)
    ] refl

get_or-append_seam : (before : List Context) (c : Context) (after : List Context) → get_or (before ++ c ∷ after) (length before) c ≡ c
get_or-append_seam [] c after = refl
get_or-append_seam (x ∷ before) c after = get_or-append_seam before c after

-- freeing a context leaves those before and after it
pub without_context-one : (before after : List Context) (c : Context) → AllPairs (λ a b. a.ac ≢ b.ac) (before ++ c ∷ after) → without_context (before ++ c ∷ after) c.ac ≡ before ++ after
without_context-one [] after c h =
    let here : (c.ac == c.ac) ≡ true = search rules in
    ap (λ b. cond (not b) (c ∷ without_context after c.ac) (without_context after c.ac)) here ∙ keep_others (λ x. x.ac) c.ac after (head_apart c after h)
without_context-one (x ∷ before) after c h =
    let at : get_or (before ++ c ∷ after) (length before) c ≡ c = get_or-append_seam before c after in
    let low : length before < length (before ++ c ∷ after) = omega (arith, length-append before (c ∷ after)) in
    let other : (x.ac == c.ac) ≡ false =
    let ne : x.ac ≢ c.ac = λ same. h 0 (suc (length before)) c (omega arith) (omega arith) (same ∙ sym (ap (λ (y : Context). y.ac) at)) in
    grind (arith, nat_tests) in
    ap (λ b. cond (not b) (x ∷ without_context (before ++ c ∷ after) c.ac) (without_context (before ++ c ∷ after) c.ac)) other
    ∙ ap (λ l. x ∷ l) (without_context-one before after c (tail_pairs x (before ++ c ∷ after) h))
