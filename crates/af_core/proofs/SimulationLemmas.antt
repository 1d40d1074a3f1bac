-- Parts of a turn, one after another.
use Rattle.std.proofs.Common.{◌≡◌, [], ◌∷◌, ◌++◌, refl, ap, ◌∙◌, append_assoc}
use Rattle.std.specs.declared.option.Option.{Option}
use Rattle.af_world.specs.declared.happening.Happening.{Happening}
use Rattle.af_io.specs.Observed.{Appended}
use Rattle.af_world.specs.Log.{Log}
use Rattle.af_io.proofs.AppendedLemmas.{appended_none, appended_on}
use Rattle.af_model.specs.Turn.{Parsed, accept, parse_then}
use Rattle.af_model.specs.Run.{wakes}
use Rattle.af_model.proofs.RunLemmas.{wakes-append-none}
use Rattle.af_core.specs.Simulates.{Simulates}

module _ {S T R : Type 0} where
  -- nothing happened
  pub simulates_nothing : (t : Option Log) (P : S → Type 0) (Q : T → Type 0) (f : S → Log → Option (Parsed R)) (g : T → Log → Option (Parsed R)) (next : S → T) →
      ((s : S) → P s → Q (next s)) → ((s : S) → P s → (log : Log) → f s log ≡ g (next s) log) → Simulates t t P Q f g
  simulates_nothing t P Q f g next stands same = record {
    part = [];
    told = appended_none t;
    quiet = refl;
    each = λ s p. record { state = next s; stands = stands s p; same = λ more. same s p more };
  }

  -- one thing happened, which was no wake
  pub simulates_one : {a b : Option Log} (h : Happening) (P : S → Type 0) (Q : T → Type 0) (f : S → Log → Option (Parsed R)) (g : T → Log → Option (Parsed R)) (next : S → T) →
      wakes (h ∷ []) ≡ 0 → Appended a (h ∷ []) b → ((s : S) → P s → Q (next s)) → ((s : S) → P s → (log : Log) → f s (h ∷ log) ≡ g (next s) log) → Simulates a b P Q f g
  simulates_one h P Q f g next quiet told stands same = record {
    part = h ∷ [];
    told = told;
    quiet = quiet;
    each = λ s p. record { state = next s; stands = stands s p; same = λ more. same s p more };
  }

module _ {S T U R : Type 0} where
  -- one part after another
  pub simulates_more : {a b c : Option Log} {P : S → Type 0} {Q : T → Type 0} {X : U → Type 0} {f : S → Log → Option (Parsed R)} {g : T → Log → Option (Parsed R)} {h : U → Log → Option (Parsed R)} →
      Simulates a b P Q f g → Simulates b c Q X g h → Simulates a c P X f h
  simulates_more {a} {b} {c} {P} {Q} {X} {f} {g} {h} d e = record {
    part = d.part ++ e.part;
    told = appended_on a b c d.part e.part d.told e.told;
    quiet = wakes-append-none d.part e.part d.quiet e.quiet;
    each = λ s p.
        let first = d.each s p in
        let second = e.each first.state first.stands in
        record {
          state = second.state;
          stands = second.stands;
          same = λ more. rw append_assoc (first.same (e.part ++ more) ∙ second.same more);
        };
  }

module _ {S T R U V W : Type 0} where
  -- The same part, for the whole that it is a part of: the outer state gives the inner one, and receives where it leads.
  pub simulates_within : {a b : Option Log} {P : S → Type 0} {Q : T → Type 0} {f : S → Log → Option (Parsed R)} {g : T → Log → Option (Parsed R)} {P' : U → Type 0} {Q' : V → Type 0} {f' : U → Log → Option (Parsed W)} {g' : V → Log → Option (Parsed W)} →
      Simulates a b P Q f g → (from : U → S) (to : U → T → V) → ((u : U) → P' u → P (from u)) → ((u : U) → P' u → (t : T) → Q t → Q' (to u t)) →
      ((u : U) → P' u → (t : T) (log more : Log) → f (from u) log ≡ g t more → f' u log ≡ g' (to u t) more) → Simulates a b P' Q' f' g'
  simulates_within d from to stood stands same = record {
    part = d.part;
    told = d.told;
    quiet = d.quiet;
    each = λ u p.
        let inner = d.each (from u) (stood u p) in
        record { state = to u inner.state; stands = stands u p inner.state inner.stands; same = λ more. same u p inner.state (d.part ++ more) more (inner.same more) };
  }

module _ {S T R : Type 0} where
  -- a part is the first of two
  pub simulates_then : {a b : Option Log} {P : S → Type 0} {Q : T → Type 0} {f : S → Log → Option (Parsed T)} (h : T → Log → Option (Parsed R)) →
      Simulates a b P Q f accept → Simulates a b P Q (λ s log. parse_then (f s log) h) h
  simulates_then h d = simulates_within d (λ s. s) (λ s t. t) (λ s p. p) (λ s p t q. q) (λ s p t log more e. ap (λ o. parse_then o h) e)
