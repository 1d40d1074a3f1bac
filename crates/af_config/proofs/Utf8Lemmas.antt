-- What the test of UTF-8 means.
use Rattle.std.proofs.Common.{◌≡◌, ℕ, true, false, List, refl, sym}
use Rattle.std.specs.Prelude.{Result, Ok, Err, is_ok, MatchResult}
use Rattle.std.specs.Str.{IsUtf8, is_utf8}
use Rattle.std.proofs.lemmas.Str.{IsUtf8-from_is_utf8, is_utf8-from_IsUtf8}

not_text : (line : List ℕ) → ¬ (IsUtf8 line) → false ≡ is_utf8 line
not_text line other =
    elim (is_utf8 line) as (λ b. is_utf8 line ≡ b → false ≡ b) [
      | true ↦ λ e. absurd (other (IsUtf8-from_is_utf8 line e))
      | false ↦ λ e. refl
    ] refl

-- a check that exactly texts pass is passed exactly if the test holds
pub passes_text : {A E : Type 0} (P : A → Type 0) (Q : E → Type 0) (line : List ℕ) (r : Result A E) → MatchResult r (λ x. P x × IsUtf8 line) (λ e. ¬ (IsUtf8 line) × Q e) → is_ok r ≡ is_utf8 line
passes_text P Q line (Ok x) m = sym (is_utf8-from_IsUtf8 line m.1)
passes_text P Q line (Err e) m = not_text line m.0
