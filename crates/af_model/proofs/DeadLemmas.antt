-- What a log shows of dead devices and lines, and what of it stays.
use Rattle.std.proofs.Common.{◌≡◌, ℕ, ◌==◌, ◌||◌, Bool, true, false, List, [], ◌∷◌, ◌++◌, option_map, slice_get, refl, sym, ap, ◌∙◌, subst, eqb-true, IfSome}
use Rattle.std.proofs.lemmas.List.Sums.{fold-append}
use Rattle.std.specs.List.{fold, list_any}
use Rattle.std.specs.declared.option.Option.{Option}
use Rattle.std.specs.declared.option.Option.TheVariants.{None, Some}
use Rattle.af_request.specs.declared.reply.Phone.{Phone}
use Rattle.af_world.specs.declared.happening.Happening.{Happening}
use Rattle.af_world.specs.Log.{Log}
use Rattle.af_model.specs.State.{DeviceState, State, with_device}
use Rattle.af_model.specs.Dead.{fails_device, fails_line}
use Rattle.af_model.proofs.BoolTestLemmas.{some_is}
use Rattle.af_model.proofs.DeviceHistoryLemmas.{AllLive, all_live, with_other, with_same}

-- whether a happening fails, or an earlier one did
abbrev pub died : (Happening → Bool) → Bool → Happening → Bool
died fails sofar h = fails h || sofar

abbrev pub died_device : ℕ → Bool → Log → Bool
died_device d sofar log = fold (died (fails_device d)) sofar log

abbrev pub died_line : ℕ → Bool → Log → Bool
died_line d sofar log = fold (died (fails_line d)) sofar log

any_died : (fails : Happening → Bool) (sofar : Bool) (log : Log) → fold (died fails) sofar log ≡ (list_any fails log || sofar)
any_died fails sofar [] = refl
any_died fails sofar (h ∷ log) = any_died fails (fails h || sofar) log ∙ turn (list_any fails log) (fails h) sofar
  where
    turn : (a b c : Bool) → (a || (b || c)) ≡ ((b || a) || c)
    turn true true c = refl
    turn true false c = refl
    turn false true c = refl
    turn false false c = refl

pub died_any : (fails : Happening → Bool) (log : Log) → fold (died fails) false log ≡ list_any fails log
died_any fails log = any_died fails false log ∙ nothing (list_any fails log)
  where
    nothing : (a : Bool) → (a || false) ≡ a
    nothing true = refl
    nothing false = refl

-- nothing fails in a part of a log
abbrev pub NoneFails : Log → Type 0
NoneFails part = (d : ℕ) (sofar : Bool) → (died_device d sofar part ≡ sofar) × (died_line d sofar part ≡ sofar)

pub none_fails-append : (p q : Log) → NoneFails p → NoneFails q → NoneFails (p ++ q)
none_fails-append p q a b d sofar = (
  fold-append (died (fails_device d)) sofar p q ∙ ap (λ x. died_device d x q) (a d sofar).0 ∙ (b d sofar).0,
  fold-append (died (fails_line d)) sofar p q ∙ ap (λ x. died_line d x q) (a d sofar).1 ∙ (b d sofar).1,
)

-- the device at a number is dead or alive like this one, and so is its line
abbrev pub IsAsDead : Bool → Bool → DeviceState → Type 0
IsAsDead x y device = (device.is_dead ≡ x) × IfSome device.line (λ line. line.dead ≡ y)

abbrev pub DeadIn : ℕ → Bool → Bool → List DeviceState → Type 0
DeadIn d x y devices = (device : DeviceState) → slice_get devices d ≡ Some device → IsAsDead x y device

abbrev pub DeadAs : ℕ → Bool → Bool → State → Type 0
DeadAs d x y s = DeadIn d x y s.devices

-- a line is dead or alive like another
line_alike : (a b : Option Phone) (y : Bool) → option_map (λ line. line.dead) b ≡ option_map (λ line. line.dead) a → IfSome a (λ line. line.dead ≡ y) → IfSome b (λ line. line.dead ≡ y)
line_alike None None y e h = tt
line_alike None (Some l) y e h = absurd cc
line_alike (Some l) None y e h = tt
line_alike (Some l) (Some m) y e h = some_is e ∙ h

pub lives_dead : (d : ℕ) (x y : Bool) (ds es : List DeviceState) → AllLive ds es → DeadIn d x y ds → DeadIn d x y es
lives_dead d x y ds es l h e there =
    let got = all_live.back ds es d e l there in
    let was = h got.0 got.1 in
    (got.2.dead ∙ was.0, line_alike got.0.line e.line y got.2.line_dead was.1)

-- the device at a number becomes another
module _ (d : ℕ) (f : DeviceState → DeviceState) (devices : List DeviceState) where
  pub with_dead : (c : ℕ) (x y u v : Bool) → ((device : DeviceState) → (d == c) ≡ true → IsAsDead x y device → IsAsDead u v (f device)) → ((d == c) ≡ false → (x ≡ u) × (y ≡ v)) →
      DeadIn c x y devices → DeadIn c u v (with_device d f devices)
  with_dead c x y u v here elsewhere h e there =
      elim (d == c) as (λ t. (d == c) ≡ t → IsAsDead u v e) [
        | true ↦ λ t.
            let got = with_same d f devices e (subst (λ n. slice_get (with_device d f devices) n ≡ Some e) (sym (eqb-true d c t)) there) in
            subst (λ z. IsAsDead u v z) got.2 (here got.0 t (h got.0 (subst (λ n. slice_get devices n ≡ Some got.0) (eqb-true d c t) got.1)))
        | false ↦ λ t.
            let same = elsewhere t in
            subst (λ z. IsAsDead z v e) same.0 (subst (λ z. IsAsDead x z e) same.1 (h e (sym (with_other d f devices c t) ∙ there)))
      ] refl
