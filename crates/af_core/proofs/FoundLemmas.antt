-- The bounds of the links that want more, as one link after another is served.
use Rattle.std.proofs.Common.{◌≡◌, ◌≢◌, ℕ, ◌≤◌, ◌<◌, ◌+◌, ◌∙◌, ap, subst, arith, refl, inl, inr, min, true, false, List, slice_get, slice_set, option_and_then}
use Rattle.std.proofs.lemmas.Bool.{cases_lt}
use Rattle.std.specs.declared.option.Option.{Option}
use Rattle.std.specs.declared.option.Option.TheVariants.{Some}
use Rattle.af_limits.specs.Limits.{most_links}
use Rattle.af_model.specs.State.{LinkState}
use Rattle.af_model.specs.More.{open_wants}
use Rattle.af_model.proofs.ListLemmas.{get-set_same}
use Rattle.af_state.specs.Deferrals.{KeptDeferral, has_waiting}
use Rattle.af_core.specs.declared.wanting_span.WantingSpan.{WantingSpan}
use Rattle.af_core.specs.Stands.{AreBounds, AreExact, NoneOpenFrom, WantsWithin, bounds_of_none, bounds_with, wants_at}
use Rattle.af_core.proofs.WantsWithinLemmas.{others_same}

-- Of the links below a number, all that want something are between the bounds, and the first bound is that of one of them.
pub record FoundBelow (n : ℕ) (b : WantingSpan) (ks : List KeptDeferral) (links : List (Option LinkState)) : Type 0 where
  pub before : (k : ℕ) → k < n → k < b.wants_from → wants_at ks links k ≡ false
  pub after : (k : ℕ) → k < n → b.wants_below ≤ k → wants_at ks links k ≡ false
  pub exact : AreExact b ks links
  pub from : b.wants_from ≤ most_links
  pub below : b.wants_below ≤ n
  pub within : b.wants_below ≤ b.open_below
  pub none : b.wants_below ≤ b.wants_from → b.wants_from ≡ most_links

-- none of them wants anything
pub found_none : (n : ℕ) (b : WantingSpan) (ks : List KeptDeferral) (links : List (Option LinkState)) → ((k : ℕ) → k < n → wants_at ks links k ≡ false) →
    FoundBelow n (bounds_of_none b) ks links
found_none n b ks links quiet = record {
  before = λ k less low. quiet k less;
  after = λ k less high. quiet k less;
  exact = λ some. absurd (omega (arith, some));
  from = omega arith;
  below = omega arith;
  within = omega arith;
  none = λ empty. refl;
}

-- what the link wants that was served just now
pub served_wants : (ks : List KeptDeferral) (links : List (Option LinkState)) (k : ℕ) (link link' : Option LinkState) → slice_get links k ≡ Some link →
    wants_at ks (slice_set links k link') k ≡ open_wants (has_waiting ks k) link'
served_wants ks links k link link' there = ap (λ (o : Option (Option LinkState)). open_wants (has_waiting ks k) (option_and_then (λ l. l) o)) (get-set_same links k link link' there)

-- one link more was served, and wants nothing more, or something
pub found_idle : (n : ℕ) (b : WantingSpan) (ks ks' : List KeptDeferral) (links : List (Option LinkState)) (link : Option LinkState) →
    ((j : ℕ) → j ≢ n → has_waiting ks' j ≡ has_waiting ks j) → wants_at ks' (slice_set links n link) n ≡ false → FoundBelow n b ks links →
    FoundBelow (n + 1) b ks' (slice_set links n link)
found_idle n b ks ks' links link others here h =
    let same : (k : ℕ) → k ≢ n → wants_at ks' (slice_set links n link) k ≡ wants_at ks links k = others_same ks ks' links n link others in
    let small = h.below in record {
      before = λ k less low. elim (cases_lt k n) [
        | inl lower ↦ same k (λ e. absurd (omega (arith, e, lower))) ∙ h.before k lower low
        | inr more ↦ let e : n ≡ k = omega (arith, less, more) in subst (λ i. wants_at ks' (slice_set links n link) i ≡ false) e here
      ];
      after = λ k less high. elim (cases_lt k n) [
        | inl lower ↦ same k (λ e. absurd (omega (arith, e, lower))) ∙ h.after k lower high
        | inr more ↦ let e : n ≡ k = omega (arith, less, more) in subst (λ i. wants_at ks' (slice_set links n link) i ≡ false) e here
      ];
      exact = λ some. same b.wants_from (λ e. absurd (omega (arith, e, some, small))) ∙ h.exact some;
      from = h.from;
      below = omega (arith, small);
      within = h.within;
      none = h.none;
    }

pub found_one : (n : ℕ) (b : WantingSpan) (ks ks' : List KeptDeferral) (links : List (Option LinkState)) (link : Option LinkState) → n < most_links → n < b.open_below →
    ((j : ℕ) → j ≢ n → has_waiting ks' j ≡ has_waiting ks j) → wants_at ks' (slice_set links n link) n ≡ true → FoundBelow n b ks links →
    FoundBelow (n + 1) (bounds_with n b) ks' (slice_set links n link)
found_one n b ks ks' links link few opened others here h =
    let same : (k : ℕ) → k ≢ n → wants_at ks' (slice_set links n link) k ≡ wants_at ks links k = others_same ks ks' links n link others in
    let small = h.below in
    let low = h.from in
    let within = h.within in record {
      before = λ k less first. same k (λ e. absurd (omega (arith, e, first))) ∙ h.before k (omega (arith, first)) (omega (arith, first));
      after = λ k less high. absurd (omega (arith, less, high));
      exact = λ some. elim (cases_lt b.wants_from b.wants_below) [
        | inl less ↦
            let e : b.wants_from ≡ min b.wants_from n = omega (arith, less, small) in
            subst (λ i. wants_at ks' (slice_set links n link) i ≡ true) e (same b.wants_from (λ e. absurd (omega (arith, e, less, small))) ∙ h.exact less)
        | inr more ↦
            let none = h.none more in
            let e : n ≡ min b.wants_from n = omega (arith, none, few) in
            subst (λ i. wants_at ks' (slice_set links n link) i ≡ true) e here
      ];
      from = omega (arith, low);
      below = omega (arith, small);
      within = omega (arith, within, opened);
      none = λ empty. absurd (omega (arith, empty));
    }

-- once all links between two bounds were served, outside of which none wants anything
pub found_bounds : (n from below : ℕ) (b : WantingSpan) (ks : List KeptDeferral) (links : List (Option LinkState)) → below ≤ n → b.open_below ≤ most_links → NoneOpenFrom b.open_below links →
    WantsWithin from below ks links → FoundBelow n b ks links → AreBounds b ks links
found_bounds n from below b ks links past most none wants h = record {
  most = most;
  none_open = none;
  from = h.from;
  within = h.within;
  wants = record {
    before = λ k first. elim (cases_lt k n) [
      | inl less ↦ h.before k less first
      | inr more ↦ wants.after k (omega (arith, past, more))
    ];
    after = λ k high. elim (cases_lt k n) [
      | inl less ↦ h.after k less high
      | inr more ↦ wants.after k (omega (arith, past, more))
    ];
  };
}
