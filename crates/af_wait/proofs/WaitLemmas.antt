-- Lists of waits with each link at most once.
use Rattle.std.proofs.Common.{◌≡◌, ◌≢◌, ℕ, suc, ◌+◌, ◌-◌, ◌<◌, ◌≤◌, ◌==◌, ◌||◌, Bool, true, false, cond, not, eqb, List, [], ◌∷◌, ◌++◌, length, map, find, get_or, option_map, IfSome, Option, Some, None, refl, sym, ap, ◌∙◌, subst, arith, rules}
use Rattle.std.proofs.lemmas.Bool.Decides.{nat_tests}
use Rattle.std.specs.List.{list_any, All, AllPairs}
use Rattle.std.proofs.lemmas.List.{length_push, length-map, get_or-map}
use Rattle.std.proofs.lemmas.List.Folds.{list_any_at}
use Rattle.std.proofs.lemmas.List.Elements.{All-filter, All-head, All-map, All-push, All-tail, All-weaker}
use Rattle.std.proofs.lemmas.List.Kept.{AllPairs-filter}
use Rattle.std.proofs.lemmas.List.Quantifiers.{all_pairs_push}
use Rattle.std.proofs.lemmas.Map.Keys.{IsDistinct-from_apart}
use Rattle.std.proofs.lemmas.Map.Steps.{length-le_from_distinct_below}
use Rattle.af_limits.specs.Limits.{most_links}
use Rattle.af_limits.proofs.ListLemmas.{keep_others}
use Rattle.af_wait.specs.declared.Wait.{Wait}
use Rattle.af_wait.specs.Waits.{is_waiting, wait_after_frames, without_first, without_link, without_taken, AreWaits}

apart : (ws : List Wait) (link : ℕ) → is_waiting ws link ≡ false → (k : ℕ) (d : Wait) → k < length ws → (get_or ws k d).link ≢ link
apart ws link free k d low same =
    let is : ((get_or ws k d).link == link) ≡ true = grind (arith, nat_tests) in
    let waits : is_waiting ws link ≡ true = list_any_at (λ w. w.link == link) ws k d low is in
    absurd cc

-- one more wait, for a link that has none
pub AreWaits-push : (ws : List Wait) (w : Wait) → AreWaits ws → w.link < most_links → is_waiting ws w.link ≡ false → AreWaits (ws ++ w ∷ [])
AreWaits-push ws w h low free = record {
  distinct = all_pairs_push (λ a b. a.link ≢ b.link) ws w h.distinct (apart ws w.link free);
  links = All-push (λ x. x.link < most_links) ws w h.links low;
}

any_below : (ws : List Wait) (q : ℕ) → All (λ w. w.link < most_links) ws → list_any (eqb q) (map (λ w. w.link) ws) ≡ true → q < most_links
any_below [] q h e = absurd cc
any_below (w ∷ ws) q h e =
    let here : w.link < most_links = h 0 w (omega arith) in
    elim (eqb q w.link) as (λ b. eqb q w.link ≡ b → (b || list_any (eqb q) (map (λ x. x.link) ws)) ≡ true → q < most_links) [
      | true ↦ λ t f. grind (arith, nat_tests)
      | false ↦ λ t f. any_below ws q (λ k d low. h (suc k) d (omega arith)) f
    ] refl e

link_apart : (ws : List Wait) (i j d : ℕ) → AreWaits ws → i < j → j < length ws → get_or (map (λ w. w.link) ws) i d ≢ get_or (map (λ w. w.link) ws) j d
link_apart ws i j d h below low same =
    let x : Wait = record { link = 0; device = 0; left = 0 } in
    h.distinct i j x below low
    (sym (get_or-map (λ w. w.link) ws i x d (omega arith)) ∙ same ∙ get_or-map (λ w. w.link) ws j x d low)

-- a list with each link at most once has at most as many entries as there are links
length-AreWaits : (ws : List Wait) → AreWaits ws → length ws ≤ most_links
length-AreWaits ws h =
    let links : List ℕ = map (λ w. w.link) ws in
    let n : length links ≡ length ws = length-map ws (λ w. w.link) in
    let distinct = IsDistinct-from_apart eqb links (λ i j d below low.
    let ne : get_or links i d ≢ get_or links j d = link_apart ws i j d h below (omega arith) in grind (arith, nat_tests)) in
    let m = length-le_from_distinct_below links most_links distinct (λ q e. any_below ws q h.links e) in omega arith

-- so there is room for a link that has none
pub room-AreWaits : (ws : List Wait) (w : Wait) → AreWaits ws → w.link < most_links → is_waiting ws w.link ≡ false → length ws < most_links
room-AreWaits ws w h low free =
    let m = length-AreWaits (ws ++ w ∷ []) (AreWaits-push ws w h low free) in
    let n : length (ws ++ w ∷ []) ≡ length ws + 1 = length_push ws w in omega arith

-- once a link is taken out, they are still waits
pub AreWaits-without_link : (ws : List Wait) (link : ℕ) → AreWaits ws → AreWaits (without_link ws link)
AreWaits-without_link ws link h = record {
  distinct = AllPairs-filter (λ a b. a.link ≢ b.link) (λ w. not (w.link == link)) ws h.distinct;
  links = All-filter (λ w. not (w.link == link)) (λ w. w.link < most_links) ws h.links;
}

find-apart : (p : Wait → Bool) (ws : List Wait) (x w : Wait) → find p ws ≡ Some x → All (λ y. w.link ≢ y.link) ws → w.link ≢ x.link
find-apart p [] x w e h = absurd cc
find-apart p (y ∷ ys) x w e h =
    elim (p y) as (λ b. cond b (Some y) (find p ys) ≡ Some x → w.link ≢ x.link) [
      | true ↦ λ f. let same : y ≡ x = cc in subst (λ z. w.link ≢ z.link) same (All-head (λ z. w.link ≢ z.link) y ys h)
      | false ↦ λ f. find-apart p ys x w f (All-tail (λ z. w.link ≢ z.link) y ys h)
    ] e

later_kept : (p : Wait → Bool) (w : Wait) (ws : List Wait) (o : Option Wait) → find p ws ≡ o → All (λ x. w.link ≢ x.link) ws
    → without_taken (w ∷ ws) (option_map (λ x. x.link) o) ≡ w ∷ without_taken ws (option_map (λ x. x.link) o)
later_kept p w ws None e h = refl
later_kept p w ws (Some x) e h =
    let other : (w.link == x.link) ≡ false = let ne = find-apart p ws x w e h in grind (arith, nat_tests) in
    ap (λ b. cond (not b) (w ∷ without_link ws x.link) (without_link ws x.link)) other

-- taking out the link of the first that passes a test takes out that one
pub without_taken-find : (p : Wait → Bool) (ws : List Wait) → AllPairs (λ a b. a.link ≢ b.link) ws
    → without_taken ws (option_map (λ w. w.link) (find p ws)) ≡ without_first p ws
without_taken-find p [] h = refl
without_taken-find p (w ∷ ws) h =
    let tail : AllPairs (λ a b. a.link ≢ b.link) ws = λ i j d below low. h (suc i) (suc j) d (omega arith) (omega arith) in
    let head : All (λ x. w.link ≢ x.link) ws = λ k d low. h 0 (suc k) d (omega arith) (omega arith) in
    let here : (w.link == w.link) ≡ true = search rules in
    elim (p w) as (λ b. without_taken (w ∷ ws) (option_map (λ x. x.link) (cond b (Some w) (find p ws))) ≡ cond b ws (w ∷ without_first p ws)) [
      | true ↦ ap (λ b. cond (not b) (w ∷ without_link ws w.link) (without_link ws w.link)) here ∙ keep_others (λ x. x.link) w.link ws head
      | false ↦ later_kept p w ws (find p ws) refl head ∙ ap (λ l. w ∷ l) (without_taken-find p ws tail)
    ]

pub wait_after_frames-link : (device n : ℕ) (w : Wait) → (wait_after_frames device n w).link ≡ w.link
wait_after_frames-link device n w = elim (w.device == device) as (λ b. (cond b (record w { left = w.left - n }) w).link ≡ w.link) [ true ↦ refl | false ↦ refl ]

link_at : (ws : List Wait) (device n k : ℕ) (d : Wait) → k < length ws → (get_or (map (wait_after_frames device n) ws) k d).link ≡ (get_or ws k d).link
link_at ws device n k d low =
    ap (λ (w : Wait). w.link) (get_or-map (wait_after_frames device n) ws k d d low) ∙ wait_after_frames-link device n (get_or ws k d)

-- after frames have passed, they are still waits
pub AreWaits-wait_after_frames : (ws : List Wait) (device n : ℕ) → AreWaits ws → AreWaits (map (wait_after_frames device n) ws)
AreWaits-wait_after_frames ws device n h = record {
  distinct = λ i j d below low same.
      let k : length (map (wait_after_frames device n) ws) ≡ length ws = length-map ws (wait_after_frames device n) in
      h.distinct i j d below (omega arith)
      (sym (link_at ws device n i d (omega arith)) ∙ same ∙ link_at ws device n j d (omega arith));
  links = All-map (λ w. w.link < most_links) (wait_after_frames device n) ws (All-weaker (λ w. w.link < most_links) (λ w. (wait_after_frames device n w).link < most_links) (λ w low. subst (λ k. k < most_links) (sym (wait_after_frames-link device n w)) low) ws h.links);
}

-- the link of one that is found is a link's number
pub find-below : (p : Wait → Bool) (ws : List Wait) → All (λ w. w.link < most_links) ws → IfSome (option_map (λ w. w.link) (find p ws)) (λ link. link < most_links)
find-below p [] h = tt
find-below p (w ∷ ws) h =
    elim (p w) as (λ b. IfSome (option_map (λ (w : Wait). w.link) (cond b (Some w) (find p ws))) (λ link. link < most_links))
    [ true ↦ h 0 w (omega arith) | false ↦ find-below p ws (All-tail (λ w. w.link < most_links) w ws h) ]
