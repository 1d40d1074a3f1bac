-- The flags beside a list of waits, which say for each link whether it is in the list.
use Rattle.std.proofs.Common.{◌≡◌, ◌≢◌, ℕ, ◌<◌, ◌==◌, ◌||◌, inl, inr, Bool, true, false, not, List, [], ◌∷◌, ◌++◌, length, map, get_or, set, replicate, refl, sym, ap, ◌∙◌, arith}
use Rattle.std.proofs.Math.Bool.{or-false, or-true}
use Rattle.std.proofs.lemmas.Bool.{cases_eq, cases_lt}
use Rattle.std.proofs.lemmas.Bool.Decides.{nat_tests}
use Rattle.std.proofs.lemmas.List.{get_or_past, get_or-replicate, get_or-set_other, get_or-set_same, length-replicate, length-set}
use Rattle.std.proofs.lemmas.List.Folds.{list_any-append}
use Rattle.std.proofs.lemmas.Map.Views.{any-filter_same}
use Rattle.af_limits.specs.Limits.{most_links}
use Rattle.af_wait.specs.declared.Wait.{Wait}
use Rattle.af_wait.specs.Waits.{is_waiting, wait_after_frames, without_link, AreFlags}
use Rattle.af_wait.proofs.WaitLemmas.{wait_after_frames-link}

-- nothing waits, and no flag is set
pub AreFlags-none : AreFlags (replicate most_links false) []
AreFlags-none = record {
  count = length-replicate most_links false;
  fits = λ k. elim (cases_lt k most_links) [ inl low ↦ get_or-replicate most_links k false false low | inr past ↦ get_or_past (replicate most_links false) k false past ];
}

waiting-push : (ws : List Wait) (w : Wait) (k : ℕ) → is_waiting (ws ++ w ∷ []) k ≡ (is_waiting ws k || ((w.link == k) || false))
waiting-push ws w k = list_any-append (λ x. x.link == k) ws (w ∷ [])

flag-push : (flags : List Bool) (ws : List Wait) (w : Wait) → AreFlags flags ws → w.link < most_links → (k : ℕ) → get_or (set flags w.link true) k false ≡ is_waiting (ws ++ w ∷ []) k
flag-push flags ws w h low k =
    let count = h.count in
    elim (cases_eq k w.link) [
      | inl same ↦
          let is : (w.link == k) ≡ true = grind (arith, nat_tests) in
          ap (λ i. get_or (set flags w.link true) i false) same ∙ get_or-set_same flags w.link true false (omega arith)
          ∙ sym (waiting-push ws w k ∙ ap (λ b. is_waiting ws k || (b || false)) is ∙ or-true (is_waiting ws k))
      | inr other ↦
          let is : (w.link == k) ≡ false = grind (arith, nat_tests) in
          get_or-set_other flags w.link k true false other ∙ h.fits k
          ∙ sym (waiting-push ws w k ∙ ap (λ b. is_waiting ws k || (b || false)) is ∙ or-false (is_waiting ws k))
    ]

-- one wait more sets the flag of its link
pub AreFlags-push : (flags : List Bool) (ws : List Wait) (w : Wait) → AreFlags flags ws → w.link < most_links → AreFlags (set flags w.link true) (ws ++ w ∷ [])
AreFlags-push flags ws w h low = record {
  count = length-set flags w.link true ∙ h.count;
  fits = flag-push flags ws w h low;
}

gone : (ws : List Wait) (link : ℕ) → is_waiting (without_link ws link) link ≡ false
gone ws link = any-filter_same (λ w. w.link == link) (λ w. not (w.link == link)) false (λ w is. ap not is) ws

others-stay : (ws : List Wait) (link k : ℕ) → k ≢ link → is_waiting (without_link ws link) k ≡ is_waiting ws k
others-stay ws link k other =
    any-filter_same (λ w. w.link == k) (λ w. not (w.link == link)) true
    (λ w is. let apart : (w.link == link) ≡ false = grind (arith, nat_tests) in ap not apart) ws

cleared : (flags : List Bool) (link : ℕ) → get_or (set flags link false) link false ≡ false
cleared flags link = elim (cases_lt link (length flags)) [
  | inl low ↦ get_or-set_same flags link false false low
  | inr past ↦ get_or_past (set flags link false) link false (let n = length-set flags link false in omega arith)
]

-- once a link is taken out, its flag is clear
pub AreFlags-without_link : (flags : List Bool) (ws : List Wait) (link : ℕ) → AreFlags flags ws → AreFlags (set flags link false) (without_link ws link)
AreFlags-without_link flags ws link h = record {
  count = length-set flags link false ∙ h.count;
  fits = λ k. elim (cases_eq k link) [
    | inl same ↦ ap (λ i. get_or (set flags link false) i false) same ∙ cleared flags link ∙ sym (ap (is_waiting (without_link ws link)) same ∙ gone ws link)
    | inr other ↦ get_or-set_other flags link k false false other ∙ h.fits k ∙ sym (others-stay ws link k other)
  ];
}

waiting-wait_after_frames : (ws : List Wait) (device n k : ℕ) → is_waiting (map (wait_after_frames device n) ws) k ≡ is_waiting ws k
waiting-wait_after_frames [] device n k = refl
waiting-wait_after_frames (w ∷ ws) device n k = ap (λ link. (link == k) || is_waiting (map (wait_after_frames device n) ws) k) (wait_after_frames-link device n w) ∙ ap (λ b. (w.link == k) || b) (waiting-wait_after_frames ws device n k)

-- after frames have passed, the same links wait
pub AreFlags-wait_after_frames : (flags : List Bool) (ws : List Wait) (device n : ℕ) → AreFlags flags ws → AreFlags flags (map (wait_after_frames device n) ws)
AreFlags-wait_after_frames flags ws device n h = record {
  count = h.count;
  fits = λ k. h.fits k ∙ sym (waiting-wait_after_frames ws device n k);
}
