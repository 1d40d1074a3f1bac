-- The front of a setup, and what the bytes begin with: each holds exactly if the other does.
use Rattle.std.proofs.Common.{◌≡◌, ◌≢◌, ◌<◌, ◌↔◌, ◌==◌, inl, inr, ℕ, Bool, true, false, List, [], ◌∷◌, ◌++◌, length, refl, sym, ap, ◌∙◌, subst, arith}
use Rattle.std.specs.Prelude.{if◌then◌else◌}
use Rattle.std.proofs.lemmas.Bool.Decides.{nat_tests}
use Rattle.af_wire.specs.declared.order.Order.{Order}
use Rattle.af_wire.specs.declared.order.Order.TheVariants.{Big, Little}
use Rattle.af_wire.specs.declared.front.SetupFront.{SetupFront}
use Rattle.af_wire.specs.declared.front.SetupFront.TheVariants as setup
use Rattle.af_wire.specs.Front.{setup_front, setup_with, setup_of_version}
use Rattle.af_wire.specs.Order.{magic, u16_of, u32_of}
use Rattle.af_wire.specs.Begins.{StatesSetup, HasSetupFront}

-- the first 8 bytes, with their version in a byte order
fields : (order : Order) (a b c d e f g h : ℕ) (rest : List ℕ) →
    StatesSetup order (u32_of Big (a ∷ b ∷ c ∷ d ∷ [])) (u16_of order (e ∷ f ∷ [])) (a ∷ b ∷ c ∷ d ∷ e ∷ f ∷ g ∷ h ∷ rest)
fields order a b c d e f g h rest = record {
  name_field = a ∷ b ∷ c ∷ d ∷ [];
  major_field = e ∷ f ∷ [];
  minor_field = g ∷ h ∷ [];
  rest = rest;
  is = refl;
  is_name = record { size = refl; is = refl };
  is_major = record { size = refl; is = refl };
  is_minor = refl;
}

-- the front of a setup of a byte order
by_version : (order : Order) (name major : ℕ) (bytes : List ℕ) → name ≡ magic order → StatesSetup order name major bytes → HasSetupFront bytes (setup_of_version order major)
unfolding HasSetupFront
by_version order name major bytes is s = by (major == 1) refl where
  named : StatesSetup order (magic order) major bytes
  named = subst (λ (x : ℕ). StatesSetup order x major bytes) is s

  by : (b : Bool) → (major == 1) ≡ b → HasSetupFront bytes (if b then setup.Setup order else setup.BadSetup order major)
  by true e =
      let one : major ≡ 1 = grind (arith, nat_tests) in
      subst (λ (x : ℕ). StatesSetup order (magic order) x bytes) one named
  by false e = inr (named, grind (arith, nat_tests))

-- the front of the fields
by_fields : (a b c d e f g h : ℕ) (rest : List ℕ) →
    HasSetupFront (a ∷ b ∷ c ∷ d ∷ e ∷ f ∷ g ∷ h ∷ rest) (setup_with (u32_of Big (a ∷ b ∷ c ∷ d ∷ [])) (e ∷ f ∷ []))
unfolding HasSetupFront
by_fields a b c d e f g h rest = by (name == magic Big) (name == magic Little) refl refl where
  name : ℕ
  name = u32_of Big (a ∷ b ∷ c ∷ d ∷ [])

  bytes : List ℕ
  bytes = a ∷ b ∷ c ∷ d ∷ e ∷ f ∷ g ∷ h ∷ rest

  by : (big little : Bool) → (name == magic Big) ≡ big → (name == magic Little) ≡ little →
      HasSetupFront bytes (if big then setup_of_version Big (u16_of Big (e ∷ f ∷ [])) else if little then setup_of_version Little (u16_of Little (e ∷ f ∷ [])) else setup.BadSetup Big name)
  by true little is _ = by_version Big name (u16_of Big (e ∷ f ∷ [])) bytes (grind (arith, nat_tests)) (fields Big a b c d e f g h rest)
  by false true _ is = by_version Little name (u16_of Little (e ∷ f ∷ [])) bytes (grind (arith, nat_tests)) (fields Little a b c d e f g h rest)
  by false false not_big not_little =
      let first : name ≢ magic Big = grind (arith, nat_tests) in
      let second : name ≢ magic Little = grind (arith, nat_tests) in
      inl (u16_of Big (e ∷ f ∷ []), fields Big a b c d e f g h rest, refl, first, second)

-- bytes have the front that is answered
has_own : (bytes : List ℕ) → HasSetupFront bytes (setup_front bytes)
unfolding HasSetupFront
has_own (a ∷ b ∷ c ∷ d ∷ e ∷ f ∷ g ∷ h ∷ rest) = by_fields a b c d e f g h rest
has_own _ = omega arith

-- fields of their sizes have the front of their numbers
of_fields : (name major minor rest : List ℕ) → length name ≡ 4 → length major ≡ 2 → length minor ≡ 2 →
    setup_front (name ++ (major ++ (minor ++ rest))) ≡ setup_with (u32_of Big name) major
of_fields (a ∷ b ∷ c ∷ d ∷ []) (e ∷ f ∷ []) (g ∷ h ∷ []) rest four two too = refl
of_fields _ _ _ rest four two too = absurd (omega arith)

stated : (order : Order) (name major : ℕ) (bytes : List ℕ) (s : StatesSetup order name major bytes) → setup_front bytes ≡ setup_with name s.major_field
stated order name major bytes s =
    ap setup_front s.is ∙ of_fields s.name_field s.major_field s.minor_field s.rest s.is_name.size s.is_major.size s.is_minor
    ∙ ap (λ n. setup_with n s.major_field) s.is_name.is

short : (bytes : List ℕ) → length bytes < 8 → setup_front bytes ≡ setup.NeedMore
short (a ∷ b ∷ c ∷ d ∷ e ∷ f ∷ g ∷ h ∷ rest) less = absurd (omega (arith, less))
short _ less = refl

-- the setup of a byte order, whatever its version
of_order : (order : Order) (major : ℕ) (bytes : List ℕ) → StatesSetup order (magic order) major bytes → setup_front bytes ≡ setup_of_version order major
of_order Big major bytes s = stated Big (magic Big) major bytes s ∙ ap (setup_of_version Big) s.is_major.is
of_order Little major bytes s = stated Little (magic Little) major bytes s ∙ ap (setup_of_version Little) s.is_major.is

another_name : (value : ℕ) (version : List ℕ) → value ≢ magic Big → value ≢ magic Little → setup_with value version ≡ setup.BadSetup Big value
another_name value version not_big not_little = grind (arith, nat_tests)

another_version : (order : Order) (value : ℕ) → value ≢ 1 → setup_of_version order value ≡ setup.BadSetup order value
another_version order value other = grind (arith, nat_tests)

-- and no other front
only_one : (bytes : List ℕ) (front : SetupFront) → HasSetupFront bytes front → setup_front bytes ≡ front
unfolding HasSetupFront
only_one bytes setup.NeedMore less = short bytes less
only_one bytes (setup.Setup order) s = of_order order 1 bytes s
only_one bytes (setup.BadSetup order value) (inl h) =
    stated Big value h.0 bytes h.1 ∙ another_name value h.1.major_field h.3 h.4 ∙ ap (λ o. setup.BadSetup o value) (sym h.2)
only_one bytes (setup.BadSetup order value) (inr h) = of_order order value bytes h.0 ∙ another_version order value h.1

pub setup_exactly : (bytes : List ℕ) (answer front : SetupFront) → answer ≡ setup_front bytes → (answer ≡ front) ↔ HasSetupFront bytes front
unfolding HasSetupFront
setup_exactly bytes answer front is =
    ((λ e. subst (λ (f : SetupFront). HasSetupFront bytes f) (sym is ∙ e) (has_own bytes)), λ h. is ∙ only_one bytes front h)
