use Rattle.std.proofs.Common.{◌≡◌, ◌||◌, ap, refl, inl, inr, ℕ, Bool, true, nat_eq, [], ◌∷◌}
use Rattle.std.proofs.lemmas.Bool.{agree_below, agree_below_at, eqb-true, or_cases}
use Rattle.af_sample.specs.G711.{alaw_samples, alaw_starts, from_alaw, to_alaw, mu_law_samples, mu_law_decisions, from_mu_law, to_mu_law}
use Rattle.af_sample.proofs.laws.bytes_round_trip.Goals as goal

abbrev alaw_returns : ℕ → Bool
alaw_returns byte = nat_eq (to_alaw (from_alaw byte)) byte

alaw_all : agree_below alaw_returns (λ _. true) 256 ≡ true
unfolding alaw_samples alaw_starts
alaw_all = refl

pub returns-clause-alaw : goal.returns-clause-alaw
returns-clause-alaw c = λ byte low.
    ap (λ (n : ℕ). n ∷ []) (eqb-true (to_alaw (from_alaw byte)) byte (agree_below_at alaw_returns (λ _. true) 256 byte alaw_all low))

abbrev mu_law_returns : ℕ → Bool
mu_law_returns byte = nat_eq byte 127 || nat_eq (to_mu_law (from_mu_law byte)) byte

mu_law_all : agree_below mu_law_returns (λ _. true) 256 ≡ true
unfolding mu_law_samples mu_law_decisions
mu_law_all = refl

pub returns-clause-mu_law : goal.returns-clause-mu_law
returns-clause-mu_law c = λ byte low other.
    ap (λ (n : ℕ). n ∷ []) (elim (or_cases (nat_eq byte 127) (nat_eq (to_mu_law (from_mu_law byte)) byte) (agree_below_at mu_law_returns (λ _. true) 256 byte mu_law_all low)) [
      | inl second ↦ absurd (other (eqb-true byte 127 second))
      | inr same ↦ eqb-true (to_mu_law (from_mu_law byte)) byte same
    ])

pub returns-clause-second_zero : goal.returns-clause-second_zero
unfolding mu_law_samples mu_law_decisions
returns-clause-second_zero c = refl
