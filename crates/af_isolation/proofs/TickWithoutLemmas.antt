-- Sample periods go by with link k and without it: the same requests of all others complete.
use Rattle.std.proofs.Common.{◌≡◌, ℕ, zero, suc, ◌≤◌, ◌==◌, Bool, true, false, not, cond, ℤ, List, [], ◌∷◌, length, find, option_map, option_and_then, slice_get, refl, sym, ap, ◌∙◌, subst, eqb-true, arith, inl, inr}
use Rattle.std.specs.declared.option.Option.{Option}
use Rattle.std.specs.declared.option.Option.TheVariants.{None, Some}
use Rattle.af_wait.specs.Waits.{without_first}
use Rattle.af_model.specs.State.{DeviceState, Deferral, EnvironmentState, LinkState, link_in_slot, open_link, SlotLink, State, slot_link_at, with_device, with_slot_link}
use Rattle.af_model.specs.Waiting.{falls_due}
use Rattle.af_model.specs.Tick.{complete, complete_at, complete_by, complete_due, complete_first, complete_for, complete_step, enter, device_after, tick}
use Rattle.af_model.specs.Advance.{or_else}
use Rattle.af_model.specs.Events.{without_waiter}
use Rattle.af_model.proofs.BoolTestLemmas.{none_some, some_is}
use Rattle.af_model.proofs.CompletionLemmas.{Few, count_alike, count_due, count_left, count_most, few_completed, same_due}
use Rattle.af_model.proofs.DeviceHistoryLemmas.{with_there}
use Rattle.af_model.proofs.SafeLemmas.{SameClock}
use Rattle.af_model.proofs.WakeLemmas.{by_goes}
use Rattle.af_isolation.specs.Without.{acted_on, device_without, state_without}
use Rattle.af_isolation.proofs.OtherLinkLemmas.{complete_other, device_at_without, environment_without, slot_without}
use Rattle.af_isolation.proofs.OwnLinkLemmas.{Unmoved, complete_own, laters_acted}
use Rattle.af_isolation.proofs.SlotWithoutLemmas.{device_changes_without, other_link_at, other_put, own_put}

-- Who never acted had not acted before either

pub still_silent : (k : ℕ) (s t : State) → (acted_on k s.devices ≡ true → acted_on k t.devices ≡ true) → acted_on k t.devices ≡ false → acted_on k s.devices ≡ false
still_silent k s t stays silent =
    elim (acted_on k s.devices) as (λ b. acted_on k s.devices ≡ b → b ≡ false) [
      | true ↦ λ e. absurd (none_true (sym (stays e) ∙ silent))
      | false ↦ λ e. refl
    ] refl
  where
    none_true : true ≡ false → ⊥
    none_true e = absurd cc

-- The first that is due, with link k and without it

module _ (k : ℕ) (passes : Deferral → Bool) where
  none_due : (ws : List Deferral) → find passes ws ≡ None → find passes (without_waiter k ws) ≡ None
  none_due [] e = refl
  none_due (w ∷ ws) e =
      elim (passes w) as (λ t. passes w ≡ t → cond t (Some w) (find passes ws) ≡ None → find passes (without_waiter k (w ∷ ws)) ≡ None) [
        | true ↦ λ due e. absurd (none_some (sym e))
        | false ↦ λ due e. elim (not (w.link == k)) as (λ b. find passes (cond b (w ∷ without_waiter k ws) (without_waiter k ws)) ≡ None) [
          | true ↦ ap (λ t. cond t (Some w) (find passes (without_waiter k ws))) due ∙ none_due ws e
          | false ↦ none_due ws e
        ]
      ] refl e

  -- it is another's, and it is the first without link k too
  other_due : (ws : List Deferral) (w : Deferral) → (w.link == k) ≡ false → find passes ws ≡ Some w → (find passes (without_waiter k ws) ≡ Some w) × (without_first passes (without_waiter k ws) ≡ without_waiter k (without_first passes ws))
  other_due [] w other e = absurd (none_some e)
  other_due (v ∷ ws) w other e =
      elim (passes v) as (λ t. passes v ≡ t → cond t (Some v) (find passes ws) ≡ Some w →
      (find passes (without_waiter k (v ∷ ws)) ≡ Some w) × (without_first passes (without_waiter k (v ∷ ws)) ≡ without_waiter k (cond t ws (v ∷ without_first passes ws)))) [
        | true ↦ λ due e.
            let kept : without_waiter k (v ∷ ws) ≡ v ∷ without_waiter k ws = ap (λ b. cond (not b) (v ∷ without_waiter k ws) (without_waiter k ws)) (ap (λ (u : Deferral). u.link == k) (some_is e) ∙ other) in
            subst (λ l. (find passes l ≡ Some w) × (without_first passes l ≡ without_waiter k ws)) (sym kept)
            (ap (λ t. cond t (Some v) (find passes (without_waiter k ws))) due ∙ e, ap (λ t. cond t (without_waiter k ws) (v ∷ without_first passes (without_waiter k ws))) due)
        | false ↦ λ due e.
            let more = other_due ws w other e in
            elim (not (v.link == k)) as (λ b. (find passes (cond b (v ∷ without_waiter k ws) (without_waiter k ws)) ≡ Some w) × (without_first passes (cond b (v ∷ without_waiter k ws) (without_waiter k ws)) ≡ cond b (v ∷ without_waiter k (without_first passes ws)) (without_waiter k (without_first passes ws)))) [
              | true ↦ (ap (λ t. cond t (Some v) (find passes (without_waiter k ws))) due ∙ more.0, ap (λ t. cond t (without_waiter k ws) (v ∷ without_first passes (without_waiter k ws))) due ∙ ap (λ l. v ∷ l) more.1)
              | false ↦ more
            ]
      ] refl e

  -- it is link k's, and not there without it
  own_due : (ws : List Deferral) (w : Deferral) → (w.link == k) ≡ true → find passes ws ≡ Some w → without_waiter k (without_first passes ws) ≡ without_waiter k ws
  own_due [] w own e = absurd (none_some e)
  own_due (v ∷ ws) w own e =
      elim (passes v) as (λ t. cond t (Some v) (find passes ws) ≡ Some w → without_waiter k (cond t ws (v ∷ without_first passes ws)) ≡ without_waiter k (v ∷ ws)) [
        | true ↦ λ e. sym (ap (λ b. cond (not b) (v ∷ without_waiter k ws) (without_waiter k ws)) (ap (λ (u : Deferral). u.link == k) (some_is e) ∙ own))
        | false ↦ λ e. ap (λ l. cond (not (v.link == k)) (v ∷ l) l) (own_due ws w own e)
      ] e

-- A deferred request completes

-- a request of link k: without link k there is none
own_completes : (k : ℕ) (w : Deferral) (s : State) → w.link ≡ k → acted_on k (complete w s).devices ≡ false → state_without k (complete w s) ≡ state_without k s
own_completes k w s own silent =
    let v : Deferral = record { link = k; device = w.device; deferred = w.deferred } in
    let same : w ≡ v = ap (λ n. record { link = n; device = w.device; deferred = w.deferred }) own in
    subst (λ u. state_without k (complete u s) ≡ state_without k s) (sym same) (put (slot_link_at k s).link refl (subst (λ u. acted_on k (complete u s).devices ≡ false) same silent))
  where
    v : Deferral
    v = record { link = k; device = w.device; deferred = w.deferred }

    a : EnvironmentState
    a = (slot_link_at k s).environment

    moved : (l : LinkState) → Unmoved k a (complete_for v (slice_get a.devices w.device) (open_link a l)).environment → acted_on k (complete_for v (slice_get a.devices w.device) (open_link a l)).environment.devices ≡ false →
        state_without k (with_slot_link k s (enter (complete_for v (slice_get a.devices w.device) (open_link a l)))) ≡ state_without k s
    moved l (inl acted) silent = absurd (let no : true ≡ false = sym acted ∙ silent in cc)
    moved l (inr same) silent = own_put k s (enter (complete_for v (slice_get a.devices w.device) (open_link a l))) same.0 same.1

    put : (o : Option LinkState) → (slot_link_at k s).link ≡ o → acted_on k (with_slot_link k s (complete_at v a (slot_link_at k s).link)).devices ≡ false → state_without k (with_slot_link k s (complete_at v a (slot_link_at k s).link)) ≡ state_without k s
    put None is silent = ap (λ o. state_without k (with_slot_link k s (complete_at v a o))) is ∙ own_put k s (link_in_slot a None) refl refl
    put (Some l) is silent =
        ap (λ o. state_without k (with_slot_link k s (complete_at v a o))) is
        ∙ moved l (complete_own k w.device w.deferred (open_link a l)) (subst (λ o. acted_on k (with_slot_link k s (complete_at v a o)).devices ≡ false) is silent)

-- a request of another link: the same
other_completes : (k : ℕ) (w : Deferral) (s : State) → (w.link == k) ≡ false → complete w (state_without k s) ≡ state_without k (complete w s)
other_completes k w s other =
    ap (λ (d : SlotLink). with_slot_link w.link (state_without k s) (complete_at w d.environment d.link)) (other_link_at k w.link s other)
    ∙ ap (with_slot_link w.link (state_without k s)) (by_link (slot_link_at w.link s).link)
    ∙ other_put k w.link s (complete_at w (slot_link_at w.link s).environment (slot_link_at w.link s).link) other
  where
    a : EnvironmentState
    a = (slot_link_at w.link s).environment

    by_link : (o : Option LinkState) → complete_at w (environment_without k a) o ≡ slot_without k (complete_at w a o)
    by_link None = refl
    by_link (Some l) = ap enter (complete_other k w other (open_link a l))

-- All that are due complete

none_count : (passes : Deferral → Bool) (ws : List Deferral) → count_due passes ws ≤ 0 → find passes ws ≡ None
none_count passes [] few = refl
none_count passes (w ∷ ws) few =
    elim (passes w) as (λ t. cond t (suc (count_due passes ws)) (count_due passes ws) ≤ 0 → cond t (Some w) (find passes ws) ≡ None) [
      | true ↦ λ few. absurd (omega (arith, few))
      | false ↦ λ few. none_count passes ws few
    ] few

-- what a step comes to
step_is : (d : ℕ) (s : State) (x : DeviceState) (o : Option Deferral) → slice_get s.devices d ≡ Some x → find (falls_due d x) s.waiting ≡ o → complete_step d s ≡ option_map (λ w. complete w (record s { waiting = without_first (falls_due d x) s.waiting })) o
step_is d s x o there found =
    ap (option_and_then (complete_first d s)) there ∙ ap (option_map (λ w. complete w (record s { waiting = without_first (falls_due d x) s.waiting }))) found

stops : (n d : ℕ) (s : State) (x : DeviceState) → slice_get s.devices d ≡ Some x → find (falls_due d x) s.waiting ≡ None → complete_by n d s ≡ s
stops zero d s x there found = refl
stops (suc n) d s x there found = ap (or_else s (complete_by n d)) (step_is d s x None there found)

goes_on : (n d : ℕ) (s : State) (x : DeviceState) (w : Deferral) → slice_get s.devices d ≡ Some x → find (falls_due d x) s.waiting ≡ Some w → complete_by (suc n) d s ≡ complete_by n d (complete w (record s { waiting = without_first (falls_due d x) s.waiting }))
goes_on n d s x w there found = ap (or_else s (complete_by n d)) (step_is d s x (Some w) there found)

-- the device at a number, without link k
there_without : (k d : ℕ) (s : State) (x : DeviceState) → slice_get s.devices d ≡ Some x → slice_get (state_without k s).devices d ≡ Some (device_without k x)
there_without k d s x there = device_at_without k s.devices d ∙ ap (option_map (device_without k)) there

-- the requests that are due for a device are due also for any device at its time, with its rate
few_due_alike : (n d : ℕ) (device x : DeviceState) (ws : List Deferral) → SameClock device x → count_due (falls_due d device) ws ≤ n → count_due (falls_due d x) ws ≤ n
few_due_alike n d device x ws same few = subst (λ m. m ≤ n) (sym (count_alike (falls_due d device) (falls_due d x) ws (λ w. same_due d device x w same))) few

-- the first that is due completes, and then the rest
module _ (n k d : ℕ) (device : DeviceState) (s : State) (x : DeviceState) (w : Deferral) (there : slice_get s.devices d ≡ Some x) (clock : SameClock device x) (found : find (falls_due d x) s.waiting ≡ Some w)
    (h : Few (suc n) d device s.devices s.waiting)
    (more : (m : ℕ) (t : State) → Few n d device t.devices t.waiting → Few m d device (state_without k t).devices (state_without k t).waiting → acted_on k (complete_by n d t).devices ≡ false → state_without k (complete_by n d t) ≡ complete_by m d (state_without k t)) where
  abbrev after : State
  after = complete w (record s { waiting = without_first (falls_due d x) s.waiting })

  few_after : Few n d device after.devices after.waiting
  few_after = few_completed n d device x s w clock found h

  -- it is link k's
  first_own : (m : ℕ) → (w.link == k) ≡ true → Few m d device (state_without k s).devices (state_without k s).waiting → acted_on k (complete_by n d after).devices ≡ false → state_without k (complete_by n d after) ≡ complete_by m d (state_without k s)
  first_own m own i silent =
      let quiet : acted_on k after.devices ≡ false = still_silent k after (complete_by n d after) (λ acted. laters_acted k after.devices (complete_by n d after).devices (by_goes n d after).devices acted) silent in
      let same : state_without k after ≡ state_without k s =
      own_completes k w (record s { waiting = without_first (falls_due d x) s.waiting }) (eqb-true w.link k own) quiet ∙ ap (λ ws. record (state_without k s) { waiting = ws }) (own_due k (falls_due d x) s.waiting w own found) in
      more m after few_after (subst (λ (u : State). Few m d device u.devices u.waiting) (sym same) i) silent ∙ ap (complete_by m d) same

  -- it is another's
  first_other : (m : ℕ) → (w.link == k) ≡ false → Few m d device (state_without k s).devices (state_without k s).waiting → acted_on k (complete_by n d after).devices ≡ false → state_without k (complete_by n d after) ≡ complete_by m d (state_without k s)
  first_other zero other i silent =
      let first = other_due k (falls_due d x) s.waiting w other found in
      let left = count_left (falls_due d x) (without_waiter k s.waiting) w first.0 in
      let none = few_due_alike 0 d device x (without_waiter k s.waiting) clock i.few in
      absurd (omega (arith, left, none))
  first_other (suc m) other i silent =
      let first = other_due k (falls_due d x) s.waiting w other found in
      let same : complete w (record (state_without k s) { waiting = without_first (falls_due d x) (without_waiter k s.waiting) }) ≡ state_without k after =
      ap (λ ws. complete w (record (state_without k s) { waiting = ws })) first.1 ∙ other_completes k w (record s { waiting = without_first (falls_due d x) s.waiting }) other in
      more m after few_after (subst (λ (u : State). Few m d device u.devices u.waiting) same (few_completed m d device (device_without k x) (state_without k s) w clock first.0 i)) silent
      ∙ sym (goes_on m d (state_without k s) (device_without k x) w (there_without k d s x there) first.0 ∙ ap (complete_by m d) same)

  first_completes : (m : ℕ) → Few m d device (state_without k s).devices (state_without k s).waiting → acted_on k (complete_by n d after).devices ≡ false → state_without k (complete_by n d after) ≡ complete_by m d (state_without k s)
  first_completes m i silent =
      elim (w.link == k) as (λ b. (w.link == k) ≡ b → state_without k (complete_by n d after) ≡ complete_by m d (state_without k s)) [
        | true ↦ λ own. first_own m own i silent
        | false ↦ λ other. first_other m other i silent
      ] refl

-- none is due, with link k and without it
none_completes : (n m k d : ℕ) (s : State) (x : DeviceState) → slice_get s.devices d ≡ Some x → find (falls_due d x) s.waiting ≡ None → state_without k (complete_by n d s) ≡ complete_by m d (state_without k s)
none_completes n m k d s x there found =
    ap (state_without k) (stops n d s x there found) ∙ sym (stops m d (state_without k s) (device_without k x) (there_without k d s x there) (none_due k (falls_due d x) s.waiting found))

-- What completes with link k, as long as one is due, completes also without it, except its own requests.
completes_without : (n m k d : ℕ) (device : DeviceState) (s : State) → Few n d device s.devices s.waiting → Few m d device (state_without k s).devices (state_without k s).waiting → acted_on k (complete_by n d s).devices ≡ false →
    state_without k (complete_by n d s) ≡ complete_by m d (state_without k s)
completes_without zero m k d device s h i silent =
    none_completes zero m k d s h.is h.there (none_count (falls_due d h.is) s.waiting (few_due_alike 0 d device h.is s.waiting h.clock h.few))
completes_without (suc n) m k d device s h i silent =
    elim (find (falls_due d h.is) s.waiting) as (λ o. find (falls_due d h.is) s.waiting ≡ o → state_without k (complete_by (suc n) d s) ≡ complete_by m d (state_without k s)) [
      | None ↦ λ found. none_completes (suc n) m k d s h.is h.there found
      | Some w ↦ λ found.
          let on = goes_on n d s h.is w h.there found in
          ap (state_without k) on
          ∙ first_completes n k d device s h.is w h.there h.clock found h (λ m t h i silent. completes_without n m k d device t h i silent) m i (ap (λ (t : State). acted_on k t.devices) (sym on) ∙ silent)
    ] refl

-- Sample periods go by
pub tick_without : (k d n : ℕ) (captured : List ℤ) (is_dead : Bool) (s : State) (device : DeviceState) → slice_get s.devices d ≡ Some device → acted_on k (tick d n captured is_dead s).devices ≡ false → tick d n captured is_dead (state_without k s) ≡ state_without k (tick d n captured is_dead s)
unfolding complete_due
tick_without k d n captured is_dead s device there silent =
    let f = device_after n captured is_dead in
    let t : State = record s { devices = with_device d f s.devices } in
    let x = f device in
    let here = with_there d f s.devices device there in
    let first : Few (length s.waiting) d x t.devices t.waiting = record { is = x; there = here; clock = (refl, refl, refl); few = count_most (falls_due d x) s.waiting } in
    let second : Few (length (without_waiter k s.waiting)) d x (state_without k t).devices (state_without k t).waiting =
    record { is = device_without k x; there = there_without k d t x here; clock = (refl, refl, refl); few = count_most (falls_due d x) (without_waiter k s.waiting) } in
    ap (complete_by (length (without_waiter k s.waiting)) d) (device_changes_without k d f s (λ device. refl))
    ∙ sym (completes_without (length s.waiting) (length (without_waiter k s.waiting)) k d x t first second silent)
