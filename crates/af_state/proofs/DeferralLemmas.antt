-- What is kept of deferred requests goes on standing for them.
use Rattle.std.proofs.Common.{◌≡◌, ◌≢◌, ℕ, zero, suc, ℤ, ◌+◌, ◌-◌, ◌*◌, ◌<◌, ◌≤◌, ◌==◌, ◌&&◌, ◌||◌, nat_le, Bool, true, false, not, cond, eqb-true, List, [], ◌∷◌, ◌++◌, length, map, find, slice_get, slice_set, refl, sym, ap, ◌∙◌, subst, arith, append_assoc, append-nil}
use Rattle.std.proofs.lemmas.Bool.Decides.{nat_tests}
use Rattle.std.specs.declared.option.Option.TheVariants.{None, Some}
use Rattle.std.proofs.Math.Nat.{div-le_self}
use Rattle.af_limits.specs.Limits.{longest_tick, longest_play, longest_record}
use Rattle.af_wait.specs.declared.Wait.{Wait}
use Rattle.af_wait.specs.Waits.{without_first}
use Rattle.af_wait.proofs.WaitLemmas.{wait_after_frames-link}
use Rattle.af_model.specs.State.{DeviceState, Deferred, deferred_play, deferred_record, Deferral}
use Rattle.af_model.specs.Reply.{horizon_of}
use Rattle.af_model.specs.Waiting.{due_time, falls_due, has_deferral}
use Rattle.af_model.specs.Tick.{device_after}
use Rattle.af_model.specs.Events.{without_waiter}
use Rattle.af_model.proofs.ListLemmas.{get-set_other, get-set_same}
use Rattle.af_state.specs.Deferrals.{KeptDeferral, has_waiting, kept_due, deferral_after_frames, kept_without, AreLater, AreLaterBut, AreNew, OnlyQueues, LeavesOthers, IsNear, IsShort, StandsForDeferral, StandForDeferrals}

-- Devices change

-- the device at a number when one device has changed
record Found (devices : List DeviceState) (e : ℕ) (t : DeviceState) : Type 0 where
  state : DeviceState
  here : slice_get devices e ≡ Some state
  now : state.now ≡ t.now
  rate : state.rate ≡ t.rate
  channels : state.channels ≡ t.channels

found : (devices : List DeviceState) (d e : ℕ) (s s' t : DeviceState) → slice_get devices d ≡ Some s → slice_get devices e ≡ Some t → s'.now ≡ s.now → s'.rate ≡ s.rate → s'.channels ≡ s.channels → Found (slice_set devices d s') e t
found [] d e s s' t here there now rate channels = absurd cc
found (x ∷ devices) zero zero s s' t here there now rate channels =
    let same : s ≡ t = let both : Some s ≡ Some t = sym here ∙ there in cc in
    record { state = s'; here = refl; now = now ∙ ap (λ (y : DeviceState). y.now) same; rate = rate ∙ ap (λ (y : DeviceState). y.rate) same; channels = channels ∙ ap (λ (y : DeviceState). y.channels) same }
found (x ∷ devices) zero (suc e) s s' t here there now rate channels = record { state = t; here = there; now = refl; rate = refl; channels = refl }
found (x ∷ devices) (suc d) zero s s' t here there now rate channels = record { state = t; here = there; now = refl; rate = refl; channels = refl }
found (x ∷ devices) (suc d) (suc e) s s' t here there now rate channels =
    let r = found devices d e s s' t here there now rate channels in record { state = r.state; here = r.here; now = r.now; rate = r.rate; channels = r.channels }

wait_after : (devices devices' : List DeviceState) (k : KeptDeferral) (w : Deferral) (h : StandsForDeferral devices k w) → Found devices' w.device h.state → StandsForDeferral devices' k w
wait_after devices devices' k w h r =
    let at : ℕ → ℕ → ℕ → Type 0 = λ channels rate now. (k.wait.left ≡ due_time channels (rate * 4) w.deferred - now) × IsNear (rate * 4) now w.deferred × IsShort channels w.deferred in
    let all = subst (λ now. at r.state.channels r.state.rate now) (sym r.now)
    (subst (λ rate. at r.state.channels rate h.state.now) (sym r.rate) (subst (λ channels. at channels h.state.rate h.state.now) (sym r.channels) (h.left, h.near, h.short))) in
    record { link = h.link; device = h.device; deferred = h.deferred; state = r.state; here = r.here; left = all.0; near = all.1; short = all.2 }

-- a device changes, but not its time, its rate or its channels
pub waits_set : (devices : List DeviceState) (d : ℕ) (s s' : DeviceState) (ks : List KeptDeferral) (ws : List Deferral) → slice_get devices d ≡ Some s → s'.now ≡ s.now → s'.rate ≡ s.rate → s'.channels ≡ s.channels →
    StandForDeferrals devices ks ws → StandForDeferrals (slice_set devices d s') ks ws
waits_set devices d s s' [] [] here now rate channels h = tt
waits_set devices d s s' [] (w ∷ ws) here now rate channels h = absurd h
waits_set devices d s s' (k ∷ ks) [] here now rate channels h = absurd h
waits_set devices d s s' (k ∷ ks) (w ∷ ws) here now rate channels h =
    (wait_after devices (slice_set devices d s') k w h.0 (found devices d w.device s s' h.0.state here h.0.here now rate channels), waits_set devices d s s' ks ws here now rate channels h.1)

-- Time goes on

near_later : (channels horizon now n : ℕ) (deferred : Deferred) → 32000 ≤ horizon → n ≤ longest_tick → IsShort channels deferred → now < due_time channels horizon deferred → IsNear horizon now deferred → IsNear horizon (now + n) deferred
near_later channels horizon now n (deferred_play quiet start sound preempt) far few short before near =
    let a = near.0 in
    let b = near.1 in
    let most : length sound ≤ longest_play = short.0 in
    let frames = div-le_self (length sound) channels in
    (omega arith, omega arith)
near_later channels horizon now n (deferred_record context start frames) far few short before near =
    let a = near.0 in
    let b = near.1 in
    let most : frames ≤ longest_record = short.0 in
    (omega arith, omega arith)

wait_passed : (devices : List DeviceState) (d n : ℕ) (s : DeviceState) (captured : List ℤ) (is_dead : Bool) (k : KeptDeferral) (w : Deferral) → slice_get devices d ≡ Some s → n ≤ longest_tick → 32000 ≤ s.rate * 4 →
    0 < k.wait.left → StandsForDeferral devices k w → StandsForDeferral (slice_set devices d (device_after n captured is_dead s)) (deferral_after_frames d n k) w
wait_passed devices d n s captured is_dead k w here few far some h =
    elim (w.device == d) as (λ b. (w.device == d) ≡ b → StandsForDeferral (slice_set devices d (device_after n captured is_dead s)) (deferral_after_frames d n k) w) [
      | true ↦ λ same.
          let number : w.device ≡ d = grind (arith, nat_tests) in
          let is : h.state ≡ s = let both : Some h.state ≡ Some s = sym h.here ∙ ap (slice_get devices) number ∙ here in cc in
          let left : k.wait.left ≡ due_time s.channels (s.rate * 4) w.deferred - s.now = h.left ∙ ap (λ (t : DeviceState). due_time t.channels (t.rate * 4) w.deferred - t.now) is in
          let near : IsNear (s.rate * 4) s.now w.deferred = subst (λ (t : DeviceState). IsNear (t.rate * 4) t.now w.deferred) is h.near in
          let short : IsShort s.channels w.deferred = subst (λ (t : DeviceState). IsShort t.channels w.deferred) is h.short in
          let test : (k.wait.device == d) ≡ true = ap (λ m. m == d) h.device ∙ same in
          let on : deferral_after_frames d n k ≡ record k { wait = record k.wait { left = k.wait.left - n } } = ap (λ b. record k { wait = cond b (record k.wait { left = k.wait.left - n }) k.wait }) test in
          subst (λ (x : KeptDeferral). StandsForDeferral (slice_set devices d (device_after n captured is_dead s)) x w) (sym on)
          (record {
            link = h.link;
            device = h.device;
            deferred = h.deferred;
            state = device_after n captured is_dead s;
            here = ap (slice_get (slice_set devices d (device_after n captured is_dead s))) number ∙ get-set_same devices d s (device_after n captured is_dead s) here;
            left = omega arith;
            near = near_later s.channels (s.rate * 4) s.now n w.deferred far few short (omega arith) near;
            short = short;
          })
      | false ↦ λ apart.
          let test : (k.wait.device == d) ≡ false = ap (λ m. m == d) h.device ∙ apart in
          let on : deferral_after_frames d n k ≡ k = ap (λ b. record k { wait = cond b (record k.wait { left = k.wait.left - n }) k.wait }) test in
          subst (λ (x : KeptDeferral). StandsForDeferral (slice_set devices d (device_after n captured is_dead s)) x w) (sym on)
          (record {
            link = h.link;
            device = h.device;
            deferred = h.deferred;
            state = h.state;
            here = get-set_other devices d w.device (device_after n captured is_dead s) (let other : w.device ≢ d = grind (arith, nat_tests) in other) ∙ h.here;
            left = h.left;
            near = h.near;
            short = h.short;
          })
    ] refl

-- n frames of a device go by
pub waits_passed : (devices : List DeviceState) (d n : ℕ) (s : DeviceState) (captured : List ℤ) (is_dead : Bool) (ks : List KeptDeferral) (ws : List Deferral) → slice_get devices d ≡ Some s → n ≤ longest_tick → 32000 ≤ s.rate * 4 →
    AreLater ks → StandForDeferrals devices ks ws → StandForDeferrals (slice_set devices d (device_after n captured is_dead s)) (map (deferral_after_frames d n) ks) ws
waits_passed devices d n s captured is_dead [] [] here few far l h = tt
waits_passed devices d n s captured is_dead [] (w ∷ ws) here few far l h = absurd h
waits_passed devices d n s captured is_dead (k ∷ ks) [] here few far l h = absurd h
waits_passed devices d n s captured is_dead (k ∷ ks) (w ∷ ws) here few far l h =
    (wait_passed devices d n s captured is_dead k w here few far l.0 h.0, waits_passed devices d n s captured is_dead ks ws here few far l.1 h.1)

-- then each that is not due waits for at least one more frame
pub later_passed : (d n : ℕ) (ks : List KeptDeferral) → AreLater ks → AreLaterBut d (map (deferral_after_frames d n) ks)
later_passed d n [] l = tt
later_passed d n (k ∷ ks) l = (
  elim (k.wait.device == d) as (λ b. let w : Wait = cond b (record k.wait { left = k.wait.left - n }) k.wait in (k.wait.device == d) ≡ b → ((w.device == d) && (w.left == 0)) ≡ false → 0 < w.left) [
    | true ↦ λ e f. let g : (k.wait.left - n == 0) ≡ false = ap (λ b. b && (k.wait.left - n == 0)) (sym e) ∙ f in grind (arith, nat_tests)
    | false ↦ λ e f. l.0
  ] refl,
  later_passed d n ks l.1,
)

-- The first that is due

same_due : (devices : List DeviceState) (d : ℕ) (s : DeviceState) (k : KeptDeferral) (w : Deferral) → slice_get devices d ≡ Some s → StandsForDeferral devices k w → kept_due d k ≡ falls_due d s w
same_due devices d s k w here h =
    ap (λ m. m == d && k.wait.left == 0) h.device
    ∙ elim (w.device == d) as (λ b. (w.device == d) ≡ b → (b && k.wait.left == 0) ≡ (b && nat_le (due_time s.channels (horizon_of s) w.deferred) s.now)) [
      | true ↦ λ same.
          let number : w.device ≡ d = grind (arith, nat_tests) in
          let is : h.state ≡ s = let both : Some h.state ≡ Some s = sym h.here ∙ ap (slice_get devices) number ∙ here in cc in
          let left : k.wait.left ≡ due_time s.channels (s.rate * 4) w.deferred - s.now = h.left ∙ ap (λ (t : DeviceState). due_time t.channels (t.rate * 4) w.deferred - t.now) is in
          grind (arith, nat_tests)
      | false ↦ λ apart. refl
    ] refl

-- if a kept request is due, it stands for the first one that is due
pub record FirstDue (devices : List DeviceState) (d : ℕ) (s : DeviceState) (ks : List KeptDeferral) (ws : List Deferral) (k : KeptDeferral) : Type 0 where
  pub waiter : Deferral
  pub first : find (falls_due d s) ws ≡ Some waiter
  pub stands : StandsForDeferral devices k waiter
  pub rest : StandForDeferrals devices (without_first (kept_due d) ks) (without_first (falls_due d s) ws)

pub first_due : (devices : List DeviceState) (d : ℕ) (s : DeviceState) (ks : List KeptDeferral) (ws : List Deferral) (k : KeptDeferral) → slice_get devices d ≡ Some s → StandForDeferrals devices ks ws → find (kept_due d) ks ≡ Some k → FirstDue devices d s ks ws k
first_due devices d s [] ws k here h e = absurd cc
first_due devices d s (x ∷ ks) [] k here h e = absurd h
first_due devices d s (x ∷ ks) (w ∷ ws) k here h e =
    elim (falls_due d s w) as (λ b. falls_due d s w ≡ b → FirstDue devices d s (x ∷ ks) (w ∷ ws) k) [
      | true ↦ λ t.
          let t' : kept_due d x ≡ true = same_due devices d s x w here h.0 ∙ t in
          let is : x ≡ k = let g : Some x ≡ Some k = ap (λ b. cond b (Some x) (find (kept_due d) ks)) (sym t') ∙ e in cc in
          record {
            waiter = w;
            first = ap (λ b. cond b (Some w) (find (falls_due d s) ws)) t;
            stands = subst (λ (y : KeptDeferral). StandsForDeferral devices y w) is h.0;
            rest = subst (λ b. StandForDeferrals devices (cond b ks (x ∷ without_first (kept_due d) ks)) (without_first (falls_due d s) (w ∷ ws))) (sym t')
                (subst (λ b. StandForDeferrals devices ks (cond b ws (w ∷ without_first (falls_due d s) ws))) (sym t) h.1);
          }
      | false ↦ λ t.
          let t' : kept_due d x ≡ false = same_due devices d s x w here h.0 ∙ t in
          let g : find (kept_due d) ks ≡ Some k = ap (λ b. cond b (Some x) (find (kept_due d) ks)) (sym t') ∙ e in
          let r = first_due devices d s ks ws k here h.1 g in
          record {
            waiter = r.waiter;
            first = ap (λ b. cond b (Some w) (find (falls_due d s) ws)) t ∙ r.first;
            stands = r.stands;
            rest = subst (λ b. StandForDeferrals devices (cond b ks (x ∷ without_first (kept_due d) ks)) (without_first (falls_due d s) (w ∷ ws))) (sym t')
                (subst (λ b. StandForDeferrals devices (x ∷ without_first (kept_due d) ks) (cond b ws (w ∷ without_first (falls_due d s) ws))) (sym t) (h.0, r.rest));
          }
    ] refl

pub none_due : (devices : List DeviceState) (d : ℕ) (s : DeviceState) (ks : List KeptDeferral) (ws : List Deferral) → slice_get devices d ≡ Some s → StandForDeferrals devices ks ws → find (kept_due d) ks ≡ None → find (falls_due d s) ws ≡ None
none_due devices d s [] [] here h e = refl
none_due devices d s [] (w ∷ ws) here h e = absurd h
none_due devices d s (x ∷ ks) [] here h e = absurd h
none_due devices d s (x ∷ ks) (w ∷ ws) here h e =
    elim (falls_due d s w) as (λ b. falls_due d s w ≡ b → find (falls_due d s) (w ∷ ws) ≡ None) [
      | true ↦ λ t.
          let t' : kept_due d x ≡ true = same_due devices d s x w here h.0 ∙ t in
          let g : Some x ≡ None = ap (λ b. cond b (Some x) (find (kept_due d) ks)) (sym t') ∙ e in absurd cc
      | false ↦ λ t.
          let t' : kept_due d x ≡ false = same_due devices d s x w here h.0 ∙ t in
          ap (λ b. cond b (Some w) (find (falls_due d s) ws)) t ∙ none_due devices d s ks ws here h.1 (ap (λ b. cond b (Some x) (find (kept_due d) ks)) (sym t') ∙ e)
    ] refl

-- Which links have one

pub same_waiting : (devices : List DeviceState) (ks : List KeptDeferral) (ws : List Deferral) (link : ℕ) → StandForDeferrals devices ks ws → has_waiting ks link ≡ has_deferral ws link
same_waiting devices [] [] link h = refl
same_waiting devices [] (w ∷ ws) link h = absurd h
same_waiting devices (k ∷ ks) [] link h = absurd h
same_waiting devices (k ∷ ks) (w ∷ ws) link h =
    ap (λ m. m == link || has_waiting ks link) h.0.link ∙ ap (λ b. w.link == link || b) (same_waiting devices ks ws link h.1)

pub passed_waiting : (d n : ℕ) (ks : List KeptDeferral) (link : ℕ) → has_waiting (map (deferral_after_frames d n) ks) link ≡ has_waiting ks link
passed_waiting d n [] link = refl
passed_waiting d n (k ∷ ks) link = ap (λ m. m == link || has_waiting (map (deferral_after_frames d n) ks) link) (wait_after_frames-link d n k.wait) ∙ ap (λ b. k.wait.link == link || b) (passed_waiting d n ks link)

pub waits_push : (devices : List DeviceState) (ks : List KeptDeferral) (ws : List Deferral) (k : KeptDeferral) (w : Deferral) → StandForDeferrals devices ks ws → StandsForDeferral devices k w → StandForDeferrals devices (ks ++ k ∷ []) (ws ++ w ∷ [])
waits_push devices [] [] k w h one = (one, tt)
waits_push devices [] (x ∷ ws) k w h one = absurd h
waits_push devices (x ∷ ks) [] k w h one = absurd h
waits_push devices (x ∷ ks) (y ∷ ws) k w h one = (h.0, waits_push devices ks ws k w h.1 one)

pub length-waits : (devices : List DeviceState) (ks : List KeptDeferral) (ws : List Deferral) → StandForDeferrals devices ks ws → length ws ≡ length ks
length-waits devices [] [] h = refl
length-waits devices [] (w ∷ ws) h = absurd h
length-waits devices (k ∷ ks) [] h = absurd h
length-waits devices (k ∷ ks) (w ∷ ws) h = ap suc (length-waits devices ks ws h.1)

-- Dropping

pub without_waits : (devices : List DeviceState) (link : ℕ) (ks : List KeptDeferral) (ws : List Deferral) → StandForDeferrals devices ks ws → StandForDeferrals devices (kept_without link ks) (without_waiter link ws)
without_waits devices link [] [] h = tt
without_waits devices link [] (w ∷ ws) h = absurd h
without_waits devices link (k ∷ ks) [] h = absurd h
without_waits devices link (k ∷ ks) (w ∷ ws) h =
    subst (λ m. StandForDeferrals devices (cond (not (m == link)) (k ∷ kept_without link ks) (kept_without link ks)) (without_waiter link (w ∷ ws))) (sym h.0.link)
    (elim (w.link == link) as (λ b. StandForDeferrals devices (cond (not b) (k ∷ kept_without link ks) (kept_without link ks)) (cond (not b) (w ∷ without_waiter link ws) (without_waiter link ws))) [
      | true ↦ without_waits devices link ks ws h.1
      | false ↦ (h.0, without_waits devices link ks ws h.1)
    ])

pub without_later : (link : ℕ) (ks : List KeptDeferral) → AreLater ks → AreLater (kept_without link ks)
without_later link [] l = tt
without_later link (k ∷ ks) l = elim (k.wait.link == link) as (λ b. AreLater (cond (not b) (k ∷ kept_without link ks) (kept_without link ks))) [ true ↦ without_later link ks l.1 | false ↦ (l.0, without_later link ks l.1) ]

pub without_others : (link j : ℕ) (ks : List KeptDeferral) → j ≢ link → has_waiting (kept_without link ks) j ≡ has_waiting ks j
without_others link j [] apart = refl
without_others link j (k ∷ ks) apart =
    elim (k.wait.link == link) as (λ b. (k.wait.link == link) ≡ b → has_waiting (cond (not b) (k ∷ kept_without link ks) (kept_without link ks)) j ≡ (k.wait.link == j || has_waiting ks j)) [
      | true ↦ λ t.
          let other : (k.wait.link == j) ≡ false = let is : k.wait.link ≡ link = eqb-true k.wait.link link t in grind (arith, nat_tests) in
          without_others link j ks apart ∙ ap (λ b. b || has_waiting ks j) (sym other)
      | false ↦ λ t. ap (λ b. k.wait.link == j || b) (without_others link j ks apart)
    ] refl

-- Growing

pub only_queues_nothing : (link : ℕ) (ks : List KeptDeferral) → OnlyQueues link ks ks
only_queues_nothing link ks = record { more = []; is = sym (append-nil ks); are_new = tt }

new_append : (link : ℕ) (xs ys : List KeptDeferral) → AreNew link xs → AreNew link ys → AreNew link (xs ++ ys)
new_append link [] ys a b = b
new_append link (x ∷ xs) ys a b = (a.0, a.1, new_append link xs ys a.2 b)

pub only_queues_on : (link : ℕ) (a b c : List KeptDeferral) → OnlyQueues link a b → OnlyQueues link b c → OnlyQueues link a c
only_queues_on link a b c g h = record {
  more = g.more ++ h.more;
  is = h.is ∙ ap (λ l. l ++ h.more) g.is ∙ append_assoc a g.more h.more;
  are_new = new_append link g.more h.more g.are_new h.are_new;
}

later_append : (link : ℕ) (xs ys : List KeptDeferral) → AreLater xs → AreNew link ys → AreLater (xs ++ ys)
later_append link [] [] a b = tt
later_append link [] (y ∷ ys) a b = (b.1, later_append link [] ys tt b.2)
later_append link (x ∷ xs) ys a b = (a.0, later_append link xs ys a.1 b)

pub only_queues_later : (link : ℕ) (old new : List KeptDeferral) → OnlyQueues link old new → AreLater old → AreLater new
only_queues_later link old new g l = subst AreLater (sym g.is) (later_append link old g.more l g.are_new)

but_append : (link d : ℕ) (xs ys : List KeptDeferral) → AreLaterBut d xs → AreNew link ys → AreLaterBut d (xs ++ ys)
but_append link d [] [] a b = tt
but_append link d [] (y ∷ ys) a b = (λ e. b.1, but_append link d [] ys tt b.2)
but_append link d (x ∷ xs) ys a b = (a.0, but_append link d xs ys a.1 b)

pub only_queues_but : (link d : ℕ) (old new : List KeptDeferral) → OnlyQueues link old new → AreLaterBut d old → AreLaterBut d new
only_queues_but link d old new g l = subst (AreLaterBut d) (sym g.is) (but_append link d old g.more l g.are_new)

others_append : (link j : ℕ) (xs ys : List KeptDeferral) → j ≢ link → AreNew link ys → has_waiting (xs ++ ys) j ≡ has_waiting xs j
others_append link j [] [] apart n = refl
others_append link j [] (y ∷ ys) apart n =
    let other : (y.wait.link == j) ≡ false = let e : y.wait.link ≡ link = n.0 in grind (arith, nat_tests) in
    ap (λ b. b || has_waiting ys j) other ∙ others_append link j [] ys apart n.2
others_append link j (x ∷ xs) ys apart n = ap (λ b. x.wait.link == j || b) (others_append link j xs ys apart n)

-- no other link gets a deferred request
pub only_queues_others : (link j : ℕ) (old new : List KeptDeferral) → OnlyQueues link old new → j ≢ link → has_waiting new j ≡ has_waiting old j
only_queues_others link j old new g apart = ap (λ ks. has_waiting ks j) g.is ∙ others_append link j old g.more apart g.are_new

-- Touching

pub leaves_others_grown : (link : ℕ) (old new : List KeptDeferral) → OnlyQueues link old new → LeavesOthers link old new
leaves_others_grown link old new g = record { later = only_queues_later link old new g; others = λ j apart. only_queues_others link j old new g apart }

pub leaves_others_nothing : (link : ℕ) (ks : List KeptDeferral) → LeavesOthers link ks ks
leaves_others_nothing link ks = record { later = λ l. l; others = λ j apart. refl }

pub leaves_others_dropped : (link : ℕ) (old new : List KeptDeferral) → new ≡ kept_without link old → LeavesOthers link old new
leaves_others_dropped link old new is = record {
  later = λ l. subst AreLater (sym is) (without_later link old l);
  others = λ j apart. ap (λ ks. has_waiting ks j) is ∙ without_others link j old apart;
}

pub leaves_others_on : (link : ℕ) (a b c : List KeptDeferral) → LeavesOthers link a b → LeavesOthers link b c → LeavesOthers link a c
leaves_others_on link a b c t u = record { later = λ l. u.later (t.later l); others = λ j apart. u.others j apart ∙ t.others j apart }

-- How many are due

pub dues : ℕ → List KeptDeferral → ℕ
dues d [] = 0
dues d (k ∷ ks) = cond (kept_due d k) (suc (dues d ks)) (dues d ks)

pub dues_few : (d : ℕ) (ks : List KeptDeferral) → dues d ks ≤ length ks
unfolding dues
dues_few d [] = omega arith
dues_few d (k ∷ ks) = let less = dues_few d ks in elim (kept_due d k) as (λ b. cond b (suc (dues d ks)) (dues d ks) ≤ suc (length ks)) [ true ↦ omega arith | false ↦ omega arith ]

pub dues_taken : (d : ℕ) (ks : List KeptDeferral) (k : KeptDeferral) → find (kept_due d) ks ≡ Some k → dues d ks ≡ suc (dues d (without_first (kept_due d) ks))
unfolding dues
dues_taken d [] k e = absurd cc
dues_taken d (x ∷ ks) k e =
    elim (kept_due d x) as (λ b. kept_due d x ≡ b → cond b (Some x) (find (kept_due d) ks) ≡ Some k → cond b (suc (dues d ks)) (dues d ks) ≡ suc (dues d (cond b ks (x ∷ without_first (kept_due d) ks)))) [
      | true ↦ λ t e. refl
      | false ↦ λ t e. dues_taken d ks k e ∙ ap (λ b. suc (cond b (suc (dues d (without_first (kept_due d) ks))) (dues d (without_first (kept_due d) ks)))) (sym t)
    ] refl e

not_due : (d : ℕ) (k : KeptDeferral) → 0 < k.wait.left → kept_due d k ≡ false
not_due d k some = elim (k.wait.device == d) as (λ b. (b && k.wait.left == 0) ≡ false) [ true ↦ grind (arith, nat_tests) | false ↦ refl ]

dues_append : (link d : ℕ) (xs ys : List KeptDeferral) → AreNew link ys → dues d (xs ++ ys) ≡ dues d xs
unfolding dues
dues_append link d [] [] n = refl
dues_append link d [] (y ∷ ys) n = ap (λ b. cond b (suc (dues d ys)) (dues d ys)) (not_due d y n.1) ∙ dues_append link d [] ys n.2
dues_append link d (x ∷ xs) ys n = ap (λ m. cond (kept_due d x) (suc m) m) (dues_append link d xs ys n)

pub dues_grown : (link d : ℕ) (old new : List KeptDeferral) → OnlyQueues link old new → dues d new ≡ dues d old
dues_grown link d old new g = ap (dues d) g.is ∙ dues_append link d old g.more g.are_new

pub later_but : (d : ℕ) (ks : List KeptDeferral) → AreLaterBut d ks → AreLaterBut d (without_first (kept_due d) ks)
later_but d [] l = tt
later_but d (k ∷ ks) l = elim (kept_due d k) as (λ b. AreLaterBut d (cond b ks (k ∷ without_first (kept_due d) ks))) [ true ↦ l.1 | false ↦ (l.0, later_but d ks l.1) ]

-- if none is due, each waits for at least one more frame
pub all_later : (d : ℕ) (ks : List KeptDeferral) → find (kept_due d) ks ≡ None → AreLaterBut d ks → AreLater ks
all_later d [] e l = tt
all_later d (k ∷ ks) e l =
    elim (kept_due d k) as (λ b. kept_due d k ≡ b → AreLater (k ∷ ks)) [
      | true ↦ λ t. let g : Some k ≡ None = ap (λ b. cond b (Some k) (find (kept_due d) ks)) (sym t) ∙ e in absurd cc
      | false ↦ λ t. (l.0 t, all_later d ks (ap (λ b. cond b (Some k) (find (kept_due d) ks)) (sym t) ∙ e) l.1)
    ] refl
