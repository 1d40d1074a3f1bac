-- Two logs that go through a phase from one state, and are answered by one outside, go through it alike: their happenings and the
-- states after them are the same.
use Rattle.std.proofs.Common.{◌≡◌, Bool, true, false, List, [], ◌∷◌, refl, sym, ap, ◌∙◌, subst, IsSomeAnd}
use Rattle.std.specs.declared.option.Option.{Option}
use Rattle.std.specs.declared.option.Option.TheVariants.{None, Some}
use Rattle.af_world.specs.declared.happening.Happening.{Happening}
use Rattle.af_world.specs.declared.happening.Happening.TheVariants.{Woke}
use Rattle.af_world.specs.declared.script.Step.{Step}
use Rattle.af_world.specs.Log.{Log}
use Rattle.af_world.specs.Outside.{Outside, outside_after_happening}
use Rattle.af_model.specs.Turn.{Parsed, accept, parse_then, and_then, parse_one}
use Rattle.af_model.specs.Script.{AnswersTo}
use Rattle.af_model.proofs.BoolTestLemmas.{none_some}
use Rattle.af_model.proofs.PhasePartLemmas.{then_inv}

-- two ends of a phase from one state
pub record Agreed {T : Type 0} (steps : List Step) (Q : T → Outside → Type 0) (log1 log2 : Log) (e1 e2 : Outside) (b1 b2 : Parsed T) : Type 0 where
  pub outside : Outside
  pub stands : Q b1.state outside
  pub state : b1.state ≡ b2.state
  pub first : AnswersTo outside b1.log steps e1
  pub second : AnswersTo outside b2.log steps e2
  pub same : b1.log ≡ b2.log → log1 ≡ log2

-- a phase that goes from a property of a state and an outside to a property of the next
abbrev pub GoesAlike : {S T : Type 0} → (S → Log → Option (Parsed T)) → (S → Outside → Type 0) → (T → Outside → Type 0) → Type 0
GoesAlike {S} {T} f P Q = (steps : List Step) (s : S) (o : Outside) (log1 log2 : Log) (b1 b2 : Parsed T) (e1 e2 : Outside) →
    P s o → f s log1 ≡ Some b1 → f s log2 ≡ Some b2 → AnswersTo o log1 steps e1 → AnswersTo o log2 steps e2 → Agreed steps Q log1 log2 e1 e2 b1 b2

module _ {S T R : Type 0} where
  -- one phase after another
  pub alike_then : (f : S → Log → Option (Parsed T)) (g : T → Log → Option (Parsed R)) (P : S → Outside → Type 0) (Q : T → Outside → Type 0) (X : R → Outside → Type 0) →
      GoesAlike f P Q → GoesAlike g Q X → GoesAlike (λ s log. parse_then (f s log) g) P X
  alike_then f g P Q X af ag steps s o log1 log2 b1 b2 e1 e2 p f1 f2 r1 r2 =
      let i1 = then_inv (f s log1) g b1 f1 in
      let i2 = then_inv (f s log2) g b2 f2 in
      let a = af steps s o log1 log2 i1.0 i2.0 e1 e2 p i1.1 i2.1 r1 r2 in
      let g2 : g i1.0.state i2.0.log ≡ Some b2 = subst (λ t. g t i2.0.log ≡ Some b2) (sym a.state) i2.2 in
      let b = ag steps i1.0.state a.outside i1.0.log i2.0.log b1 b2 e1 e2 a.stands i1.2 g2 a.first a.second in
      record { outside = b.outside; stands = b.stands; state = b.state; first = b.first; second = b.second; same = λ e. a.same (b.same e) }

module _ {T : Type 0} where
  at_ends : (steps : List Step) (Q : T → Outside → Type 0) (log1 log2 : Log) (e1 e2 : Outside) (x1 x2 b1 b2 : Parsed T) → x1 ≡ b1 → x2 ≡ b2 → Agreed steps Q log1 log2 e1 e2 x1 x2 → Agreed steps Q log1 log2 e1 e2 b1 b2
  at_ends steps Q log1 log2 e1 e2 x1 x2 b1 b2 s1 s2 a = subst (λ b. Agreed steps Q log1 log2 e1 e2 b1 b) s2 (subst (λ b. Agreed steps Q log1 log2 e1 e2 b x2) s1 a)

module _ {S T : Type 0} where
  -- a phase that takes nothing off
  pub alike_nothing : (n : S → T) (P : S → Outside → Type 0) (Q : T → Outside → Type 0) → ((s : S) (o : Outside) → P s o → Q (n s) o) → GoesAlike (λ s log. accept (n s) log) P Q
  alike_nothing n P Q stands steps s o log1 log2 b1 b2 e1 e2 p f1 f2 r1 r2 =
      let x1 : record { state = n s; log = log1 } ≡ b1 = cc in
      let x2 : record { state = n s; log = log2 } ≡ b2 = cc in
      at_ends steps Q log1 log2 e1 e2 (record { state = n s; log = log1 }) (record { state = n s; log = log2 }) b1 b2 x1 x2
      (record { outside = o; stands = stands s o p; state = refl; first = r1; second = r2; same = λ e. e })

-- Phases that take one happening off

abbrev pub is_quiet : Happening → Bool
is_quiet (Woke wake) = false
is_quiet _ = true

some_and : (x : Option Outside) (P : Outside → Type 0) → IsSomeAnd x P → (o : Outside) × (x ≡ Some o) × P o
some_and None P h = absurd h
some_and (Some o) P h = (o, refl, h)

-- what a happening is answered with, and what is answered after it
pub answered_first : (o : Outside) (h : Happening) (log : Log) (steps : List Step) (e : Outside) → is_quiet h ≡ true → AnswersTo o (h ∷ log) steps e →
    (o' : Outside) × (outside_after_happening o h ≡ Some o') × AnswersTo o' log steps e
answered_first o (Woke wake) log steps e q a = absurd cc
answered_first o h log steps e q a = some_and (outside_after_happening o h) (λ o. AnswersTo o log steps e) a

-- The one happening that may come, by the state and the outside: if a happening is taken and answered, it is that one, and what
-- has to hold after it holds.
pub record TakesOne {S T : Type 0} (f : S → Happening → Option T) (P : S → Outside → Type 0) (Q : T → Outside → Type 0) (s : S) (o : Outside) (h : Happening) (want : Happening) : Type 0 where
  pub quiet : is_quiet h ≡ true
  pub is : (o' : Outside) → outside_after_happening o h ≡ Some o' → h ≡ want
  pub stands : (t : T) (o' : Outside) → P s o → f s h ≡ Some t → outside_after_happening o h ≡ Some o' → Q t o'

module _ {S T : Type 0} where
  pub go_inv : (x : Option S) (g : S → Option T) (b : T) → and_then x g ≡ Some b → (c : S) × (x ≡ Some c) × (g c ≡ Some b)
  go_inv None g b e = absurd cc
  go_inv (Some c) g b e = (c, refl, e)

-- both logs begin with one happening
pub record Headed {T : Type 0} (steps : List Step) (Q : T → Outside → Type 0) (o : Outside) (h1 h2 : Happening) (rest1 rest2 : Log) (e1 e2 : Outside) (t1 t2 : T) : Type 0 where
  pub outside : Outside
  pub stands : Q t1 outside
  pub state : t1 ≡ t2
  pub first : AnswersTo outside rest1 steps e1
  pub second : AnswersTo outside rest2 steps e2
  pub happening : h1 ≡ h2

module _ {S T : Type 0} where
  pub headed : (f : S → Happening → Option T) (P : S → Outside → Type 0) (Q : T → Outside → Type 0) (want : S → Outside → Happening) →
      ((s : S) (o : Outside) (h : Happening) (t : T) → f s h ≡ Some t → TakesOne f P Q s o h (want s o)) →
      (steps : List Step) (s : S) (o : Outside) (h1 h2 : Happening) (rest1 rest2 : Log) (e1 e2 : Outside) (t1 t2 : T) → P s o → f s h1 ≡ Some t1 → f s h2 ≡ Some t2 →
      AnswersTo o (h1 ∷ rest1) steps e1 → AnswersTo o (h2 ∷ rest2) steps e2 → Headed steps Q o h1 h2 rest1 rest2 e1 e2 t1 t2
  headed f P Q want one steps s o h1 h2 rest1 rest2 e1 e2 t1 t2 p f1 f2 r1 r2 =
      let w1 = one s o h1 t1 f1 in
      let w2 = one s o h2 t2 f2 in
      let a1 = answered_first o h1 rest1 steps e1 w1.quiet r1 in
      let a2 = answered_first o h2 rest2 steps e2 w2.quiet r2 in
      let h : h1 ≡ h2 = w1.is a1.0 a1.1 ∙ sym (w2.is a2.0 a2.1) in
      let both : Some a1.0 ≡ Some a2.0 = sym a1.1 ∙ ap (outside_after_happening o) h ∙ a2.1 in
      let same : a2.0 ≡ a1.0 = cc in
      let states : Some t1 ≡ Some t2 = sym f1 ∙ ap (f s) h ∙ f2 in
      record {
        outside = a1.0;
        stands = w1.stands t1 a1.0 p f1 a1.1;
        state = cc;
        first = a1.2;
        second = subst (λ x. AnswersTo x rest2 steps e2) same a2.2;
        happening = h;
      }

  pub alike_one : (f : S → Happening → Option T) (P : S → Outside → Type 0) (Q : T → Outside → Type 0) (want : S → Outside → Happening) →
      ((s : S) (o : Outside) (h : Happening) (t : T) → f s h ≡ Some t → TakesOne f P Q s o h (want s o)) → GoesAlike (λ s log. parse_one (f s) log) P Q
  alike_one f P Q want one steps s o [] log2 b1 b2 e1 e2 p f1 f2 r1 r2 = absurd (none_some f1)
  alike_one f P Q want one steps s o (h1 ∷ rest1) [] b1 b2 e1 e2 p f1 f2 r1 r2 = absurd (none_some f2)
  alike_one f P Q want one steps s o (h1 ∷ rest1) (h2 ∷ rest2) b1 b2 e1 e2 p f1 f2 r1 r2 =
      let i1 = go_inv (f s h1) (λ t. accept t rest1) b1 f1 in
      let i2 = go_inv (f s h2) (λ t. accept t rest2) b2 f2 in
      let g1 = i1.2 in
      let g2 = i2.2 in
      let x1 : record { state = i1.0; log = rest1 } ≡ b1 = cc in
      let x2 : record { state = i2.0; log = rest2 } ≡ b2 = cc in
      let h = headed f P Q want one steps s o h1 h2 rest1 rest2 e1 e2 i1.0 i2.0 p i1.1 i2.1 r1 r2 in
      at_ends steps Q (h1 ∷ rest1) (h2 ∷ rest2) e1 e2 (record { state = i1.0; log = rest1 }) (record { state = i2.0; log = rest2 }) b1 b2 x1 x2
      (record { outside = h.outside; stands = h.stands; state = h.state; first = h.first; second = h.second; same = λ e. ap (λ x. x ∷ rest1) h.happening ∙ ap (λ r. h2 ∷ r) e })
