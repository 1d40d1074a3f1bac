-- Whether any link is to be read, written or closed.
use Rattle.std.proofs.Common.{◌≡◌, ℕ, ◌+◌, ◌||◌, Bool, List, [], ◌∷◌, slice_get, option_and_then, refl, sym, ap, ◌∙◌}
use Rattle.std.specs.declared.option.Option.{Option}
use Rattle.std.specs.declared.option.Option.TheVariants.{None, Some}
use Rattle.af_model.specs.State.{LinkState, State}
use Rattle.af_model.specs.Waiting.{has_deferral}
use Rattle.af_model.specs.More.{any_wants, has_more, open_wants}
use Rattle.af_state.specs.Deferrals.{has_waiting}
use Rattle.af_state.proofs.DeferralLemmas.{same_waiting}
use Rattle.af_core.specs.Stands.{Kept, StandsFor}

want_same : (k : ℕ) (f g : ℕ → Bool) (links : List (Option LinkState)) → ((n : ℕ) → f n ≡ g n) → any_wants k f links ≡ any_wants k g links
want_same k f g [] same = refl
want_same k f g (link ∷ links) same = ap (λ b. open_wants b link || any_wants (k + 1) f links) (same k) ∙ ap (λ b. open_wants (g k) link || b) (want_same (k + 1) f g links same)

-- what is kept says so of each state that it stands for
pub more_same : (kept : Kept) (s : State) → StandsFor kept s → any_wants 0 (has_waiting kept.waits) kept.links ≡ has_more s
more_same kept s h =
    want_same 0 (has_waiting kept.waits) (has_deferral s.waiting) kept.links (λ k. same_waiting s.devices kept.waits s.waiting k h.waiting) ∙ ap (any_wants 0 (has_deferral s.waiting)) (sym h.links)

-- the link at a number
pub kept_open : (links : List (Option LinkState)) (k : ℕ) (l : LinkState) → option_and_then (λ link. link) (slice_get links k) ≡ Some l → slice_get links k ≡ Some (Some l)
kept_open links k l e =
    elim (slice_get links k) as (λ o. option_and_then (λ (link : Option LinkState). link) o ≡ Some l → o ≡ Some (Some l)) [
      | None ↦ λ e. absurd cc
      | Some link ↦ λ e. ap (λ o. Some o) e
    ] e
