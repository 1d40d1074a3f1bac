-- The requests that are due for a device complete.
use Rattle.std.proofs.Common.{◌≡◌, ◌≢◌, ℕ, zero, suc, ◌*◌, ◌%◌, ◌^◌, ◌<◌, ◌≤◌, ◌==◌, ◌||◌, nat_le, Bool, true, false, cond, List, [], ◌∷◌, length, find, slice_get, slice_set, option_map, option_and_then, refl, sym, ap, ◌∙◌, subst, arith, eqb-true}
use Rattle.std.proofs.lemmas.Bool.Decides.{nat_tests}
use Rattle.std.proofs.lemmas.List.Elements.{All-head, All-tail}
use Rattle.std.specs.List.{All}
use Rattle.std.specs.declared.option.Option.{Option}
use Rattle.std.specs.declared.option.Option.TheVariants.{None, Some}
use Rattle.af_buffers.specs.PlayBuffer.{frames_within}
use Rattle.af_sample.specs.Channels.{frame_count}
use Rattle.af_wait.specs.Waits.{without_first}
use Rattle.af_model.specs.State.{State, DeviceState, Deferred, deferred_play, deferred_record, LinkState, Deferral, EnvironmentState, OpenLink, open_link, slot_link_at}
use Rattle.af_model.specs.Reply.{horizon_of}
use Rattle.af_model.specs.Waiting.{due_time, falls_due}
use Rattle.af_model.specs.Play.{in_devices}
use Rattle.af_model.specs.Advance.{advance, or_else}
use Rattle.af_model.specs.Tick.{answer_deferred, complete, complete_at, complete_by, complete_due, complete_first, complete_for, complete_step, complete_deferred}
use Rattle.af_model.proofs.BoolTestLemmas.{both-true}
use Rattle.af_model.proofs.SlotLemmas.{some_link, slot_link, links_of-set}
use Rattle.af_state.specs.Kept.{KeptDevice, StandsForDevice, StandForDevices}
use Rattle.af_state.specs.Deferrals.{KeptDeferral, has_waiting, kept_due, with_start_word, CanComplete, OnlyQueues, IsNear, IsShort, StandForDeferrals}
use Rattle.af_state.specs.SharedState.{StandsForLink, KeptSharedState, StepsLink, StandsForSharedState}
use Rattle.af_perform.specs.Sounds.{CompletesDeferred}
use Rattle.af_state.proofs.DeferralLemmas.{dues, dues_few, dues_grown, dues_taken, first_due, only_queues_others, length-waits, none_due}
use Rattle.af_perform.proofs.LinkRequestLemmas.{stands_here}
use Rattle.af_state.proofs.PlayLemmas.{near_start, within-same}
use Rattle.af_core.specs.Stands.{StandsForSlot, CompletesTo, Kept, StandsFor, kept_of}

-- The first that is due

pub some_due : (d n : ℕ) (o : Option KeptDeferral) → option_map (λ k. k.wait.link) o ≡ Some n → (k : KeptDeferral) × (o ≡ Some k) × (k.wait.link ≡ n)
some_due d n None e = absurd cc
some_due d n (Some k) e = (k, refl, cc)

-- what holds of each holds of one that is found
found_all : (P : KeptDeferral → Type 0) (p : KeptDeferral → Bool) (ks : List KeptDeferral) (k : KeptDeferral) → All P ks → find p ks ≡ Some k → P k
found_all P p [] k h e = absurd cc
found_all P p (x ∷ ks) k h e =
    elim (p x) as (λ b. cond b (Some x) (find p ks) ≡ Some k → P k) [
      | true ↦ λ f. let same : x ≡ k = cc in subst P same (All-head P x ks h)
      | false ↦ λ f. found_all P p ks k (All-tail P x ks h) f
    ] e

found_test : (p : Deferral → Bool) (ws : List Deferral) (w : Deferral) → find p ws ≡ Some w → p w ≡ true
found_test p [] w e = absurd cc
found_test p (x ∷ ws) w e =
    elim (p x) as (λ b. p x ≡ b → cond b (Some x) (find p ws) ≡ Some w → p w ≡ true) [
      | true ↦ λ t f. let same : x ≡ w = cc in subst (λ y. p y ≡ true) same t
      | false ↦ λ t f. found_test p ws w f
    ] refl e

-- a device for which one is due exists
due_state : (devices : List DeviceState) (d number : ℕ) (ks : List KeptDeferral) (ws : List Deferral) → StandForDeferrals devices ks ws → option_map (λ k. k.wait.link) (find (kept_due d) ks) ≡ Some number → (s : DeviceState) × (slice_get devices d ≡ Some s)
due_state devices d number [] ws h e = absurd cc
due_state devices d number (x ∷ ks) [] h e = absurd h
due_state devices d number (x ∷ ks) (w ∷ ws) h e =
    elim (kept_due d x) as (λ b. kept_due d x ≡ b → option_map (λ (k : KeptDeferral). k.wait.link) (cond b (Some x) (find (kept_due d) ks)) ≡ Some number → (s : DeviceState) × (slice_get devices d ≡ Some s)) [
      | true ↦ λ t f.
          let same : x.wait.device ≡ d = eqb-true x.wait.device d (both-true (x.wait.device == d) (x.wait.left == 0) t).0 in
          (h.0.state, subst (λ n. slice_get devices n ≡ Some h.0.state) (sym h.0.device ∙ same) h.0.here)
      | false ↦ λ t f. due_state devices d number ks ws h.1 f
    ] refl e

kept_there : (ds : List KeptDevice) (ss : List DeviceState) (d : ℕ) (s : DeviceState) → slice_get ss d ≡ Some s → StandForDevices ds ss → d < length ds
kept_there [] [] d s e h = absurd cc
kept_there [] (y ∷ ss) d s e h = absurd h
kept_there (x ∷ ds) [] d s e h = absurd h
kept_there (x ∷ ds) (y ∷ ss) zero s e h = omega arith
kept_there (x ∷ ds) (y ∷ ss) (suc d) s e h = let low = kept_there ds ss d s e h.1 in omega (arith, low)

pub due_there : (env : KeptSharedState) (a : EnvironmentState) (d number : ℕ) → StandsForSharedState env a → option_map (λ k. k.wait.link) (find (kept_due d) env.waits) ≡ Some number → d < length env.devices
due_there env a d number h due_link = let s = due_state a.devices d number env.waits a.waiting h.1 due_link in kept_there env.devices a.devices d s.0 s.1 h.0

-- the first request that is due for a device, with what the room of its link holds
record DueFirst (d : ℕ) (s : DeviceState) (a : EnvironmentState) (ks : List KeptDeferral) (number : ℕ) (deferred : Deferred) : Type 0 where
  waiter : Deferral
  first : find (falls_due d s) a.waiting ≡ Some waiter
  link : waiter.link ≡ number
  device : waiter.device ≡ d
  is : deferred ≡ with_start_word waiter.deferred
  near : IsNear (s.rate * 4) s.now waiter.deferred
  short : IsShort s.channels waiter.deferred
  now : due_time s.channels (s.rate * 4) waiter.deferred ≤ s.now
  rest : StandForDeferrals a.devices (without_first (kept_due d) ks) (without_first (falls_due d s) a.waiting)

due_first : (env : KeptSharedState) (d : ℕ) (s : DeviceState) (a : EnvironmentState) (number : ℕ) (deferred : Deferred) → StandsForSharedState env a → slice_get a.devices d ≡ Some s → option_map (λ k. k.wait.link) (find (kept_due d) env.waits) ≡ Some number →
    All (λ k. k.wait.link ≡ number → deferred ≡ k.deferred) env.waits → DueFirst d s a env.waits number deferred
due_first env d s a number deferred h here due_link room =
    let k = some_due d number (find (kept_due d) env.waits) due_link in
    let r = first_due a.devices d s env.waits a.waiting k.0 here h.1 k.1 in
    let test = both-true (r.waiter.device == d) (nat_le (due_time s.channels (horizon_of s) r.waiter.deferred) s.now) (found_test (falls_due d s) a.waiting r.waiter r.first) in
    let device : r.waiter.device ≡ d = eqb-true r.waiter.device d test.0 in
    let past = test.1 in
    let state : r.stands.state ≡ s = let both : Some r.stands.state ≡ Some s = sym r.stands.here ∙ ap (slice_get a.devices) device ∙ here in cc in
    record {
      waiter = r.waiter;
      first = r.first;
      link = sym r.stands.link ∙ k.2;
      device = device;
      is = found_all (λ k. k.wait.link ≡ number → deferred ≡ k.deferred) (kept_due d) env.waits k.0 room k.1 k.2 ∙ r.stands.deferred;
      near = subst (λ (t : DeviceState). IsNear (t.rate * 4) t.now r.waiter.deferred) state r.stands.near;
      short = subst (λ (t : DeviceState). IsShort t.channels r.waiter.deferred) state r.stands.short;
      now = grind (arith, nat_tests);
      rest = r.rest;
    }

-- a play that is due ends within the horizon, and each request is as short as it was
can_complete : (x : KeptDevice) (s : DeviceState) (deferred : Deferred) → StandsForDevice x s → IsNear (s.rate * 4) s.now deferred → IsShort s.channels deferred → due_time s.channels (s.rate * 4) deferred ≤ s.now → CanComplete x (with_start_word deferred)
can_complete x s (deferred_play quiet whole sound preempt) stands near short now =
    let early = near.0 in
    let word : whole % 2 ^ 32 < 2 ^ 32 = omega arith in
    let means = near_start x s (whole % 2 ^ 32) whole stands refl (omega arith) near.1 in
    let same = within-same x s (whole % 2 ^ 32) word stands in
    let ends : frame_count s.channels sound ≤ frames_within x.next (whole % 2 ^ 32) = omega (arith, means, same, now) in
    subst (λ c. CanComplete (record x { next = record x.next { channels = c } }) (deferred_play quiet (whole % 2 ^ 32) sound preempt)) (sym stands.hears.channels) (short, ends)
can_complete x s (deferred_record c whole frames) stands near short now =
    (subst (λ n. IsShort n (deferred_record c whole frames)) (sym stands.hears.channels) short, tt)

pub fits_now : (env : KeptSharedState) (d : ℕ) (x : KeptDevice) (a : EnvironmentState) (number : ℕ) (deferred : Deferred) → StandsForSharedState env a → slice_get env.devices d ≡ Some x → option_map (λ k. k.wait.link) (find (kept_due d) env.waits) ≡ Some number →
    All (λ k. k.wait.link ≡ number → deferred ≡ k.deferred) env.waits → CanComplete x deferred
fits_now env d x a number deferred h kept due_link room =
    let s = due_state a.devices d number env.waits a.waiting h.1 due_link in
    let f = due_first env d s.0 a number deferred h s.1 due_link room in
    subst (CanComplete x) (sym f.is) (can_complete x s.0 f.waiter.deferred (stands_here env.devices env.waits a d x s.0 h kept s.1) f.near f.short f.now)

-- it completes, and its link goes on
pub completes_link : (env env' : KeptSharedState) (ds1 : List KeptDevice) (ks1 : List KeptDeferral) (l l1 l2 : LinkState) (number d : ℕ) (deferred : Deferred) (a : EnvironmentState) (s : DeviceState) (w : Deferral) → StandsForSharedState env a → slice_get a.devices d ≡ Some s →
    find (falls_due d s) a.waiting ≡ Some w → option_map (λ k. k.wait.link) (find (kept_due d) env.waits) ≡ Some number → All (λ k. k.wait.link ≡ number → deferred ≡ k.deferred) env.waits → ks1 ≡ without_first (kept_due d) env.waits →
    CompletesDeferred deferred d env.devices l ds1 l1 → StepsLink (advance number) (record { devices = ds1; waits = ks1 }) l1 env' l2 →
    StandsForLink env' l2 (complete_for w (slice_get a.devices w.device) (open_link (record a { waiting = without_first (falls_due d s) a.waiting }) l))
completes_link env env' ds1 ks1 l l1 l2 number d deferred a s w h here first due_link room taken complete_now on =
    let f = due_first env d s a number deferred h here due_link room in
    let same : f.waiter ≡ w = let both : Some f.waiter ≡ Some w = sym f.first ∙ first in cc in
    let left : EnvironmentState = record a { waiting = without_first (falls_due d s) a.waiting } in
    let q : ℕ → OpenLink = λ e. answer_deferred f.waiter.deferred s (in_devices e (complete_deferred f.waiter.link f.waiter.deferred) (open_link left l)) in
    let done : StandsForLink (record { devices = ds1; waits = ks1 }) l1 (q d) = subst (λ ks'. StandsForLink (record { devices = ds1; waits = ks' }) l1 (q d)) (sym taken) (complete_now f.waiter.link (without_first (kept_due d) env.waits) left s f.waiter.deferred (h.0, f.rest) here f.is f.near) in
    let goes : StandsForLink env' l2 (advance number (q d)) = subst (λ m. StandsForLink env' l2 (advance number (open_link (q d).environment m))) (sym done.1) (on (q d).environment done.0) in
    let there : slice_get a.devices f.waiter.device ≡ Some s = ap (slice_get a.devices) f.device ∙ here in
    subst (λ (v : Deferral). StandsForLink env' l2 (complete_for v (slice_get a.devices v.device) (open_link left l))) same
    (subst (λ o. StandsForLink env' l2 (complete_for f.waiter o (open_link left l))) (sym there)
    (subst (λ n. StandsForLink env' l2 (advance n (q f.waiter.device))) (sym f.link) (subst (λ e. StandsForLink env' l2 (advance number (q e))) (sym f.device) goes)))

-- a slot with no open link
pub completes_closed : (env : KeptSharedState) (ks' : List KeptDeferral) (d : ℕ) (old : Option LinkState) (s : DeviceState) (w : Deferral) (number : ℕ) (a : EnvironmentState) → StandsForSharedState env a → slice_get a.devices d ≡ Some s → old ≡ None →
    option_map (λ k. k.wait.link) (find (kept_due d) env.waits) ≡ Some number → ks' ≡ without_first (kept_due d) env.waits →
    StandsForSlot (record env { waits = ks' }) old (complete_at w (record a { waiting = without_first (falls_due d s) a.waiting }) old)
completes_closed env ks' d old s w number a h here is due_link taken =
    let k = some_due d number (find (kept_due d) env.waits) due_link in
    let r = first_due a.devices d s env.waits a.waiting k.0 here h.1 k.1 in
    subst (λ o. StandsForSlot (record env { waits = ks' }) o (complete_at w (record a { waiting = without_first (falls_due d s) a.waiting }) o)) (sym is)
    ((h.0, subst (λ qs. StandForDeferrals a.devices qs (without_first (falls_due d s) a.waiting)) (sym taken) r.rest), refl)

-- The first that is due of all

pub completes_first : (env env' : KeptSharedState) (links : List (Option LinkState)) (link link' : Option LinkState) (d number : ℕ) → option_map (λ k. k.wait.link) (find (kept_due d) env.waits) ≡ Some number → some_link (slice_get links number) ≡ link →
    ((a : EnvironmentState) (s : DeviceState) (w : Deferral) → StandsForSharedState env a → slice_get a.devices d ≡ Some s → find (falls_due d s) a.waiting ≡ Some w → StandsForSlot env' link' (complete_at w (record a { waiting = without_first (falls_due d s) a.waiting }) link)) →
    (s : State) → StandsFor (kept_of env links) s → CompletesTo true (complete_step d s) (kept_of env' (slice_set links number link'))
completes_first env env' links link link' d number due_link here step s h =
    let t = due_state s.devices d number env.waits s.waiting h.waiting due_link in
    let k = some_due d number (find (kept_due d) env.waits) due_link in
    let r = first_due s.devices d t.0 env.waits s.waiting k.0 t.1 h.waiting k.1 in
    let n : r.waiter.link ≡ number = sym r.stands.link ∙ k.2 in
    let left : State = record s { waiting = without_first (falls_due d t.0) s.waiting } in
    let environment = (slot_link_at r.waiter.link s).environment in
    let link_is : (slot_link_at r.waiter.link left).link ≡ link = slot_link s.slots r.waiter.link ∙ ap (λ ls. some_link (slice_get ls r.waiter.link)) h.links ∙ ap (λ i. some_link (slice_get links i)) n ∙ here in
    let at : StandsForSlot env' link' (complete_at r.waiter (slot_link_at r.waiter.link left).environment (slot_link_at r.waiter.link left).link) =
    subst (λ o. StandsForSlot env' link' (complete_at r.waiter (slot_link_at r.waiter.link left).environment o)) (sym link_is) (step environment t.0 r.waiter (h.devices, h.waiting) t.1 r.first) in
    let end : StandsFor (kept_of env' (slice_set links number link')) (complete r.waiter left) = record {
      devices = at.0.0;
      waiting = at.0.1;
      links = links_of-set s.slots r.waiter.link (record { link = (complete_at r.waiter (slot_link_at r.waiter.link left).environment (slot_link_at r.waiter.link left).link).link; said = (complete_at r.waiter (slot_link_at r.waiter.link left).environment (slot_link_at r.waiter.link left).link).environment.said })
          ∙ ap (λ ls. slice_set ls r.waiter.link (complete_at r.waiter (slot_link_at r.waiter.link left).environment (slot_link_at r.waiter.link left).link).link) h.links
          ∙ ap (λ i. slice_set links i (complete_at r.waiter (slot_link_at r.waiter.link left).environment (slot_link_at r.waiter.link left).link).link) n ∙ ap (λ o. slice_set links number o) at.1;
    } in
    subst (λ o. CompletesTo true (option_and_then (complete_first d s) o) (kept_of env' (slice_set links number link'))) (sym t.1)
    (subst (λ o. CompletesTo true (option_map (λ w. complete w left) o) (kept_of env' (slice_set links number link'))) (sym r.first) end)

-- none is due
pub completes_none : (kept : Kept) (d : ℕ) → find (kept_due d) kept.waits ≡ None → (s : State) → StandsFor kept s → CompletesTo false (complete_step d s) kept
completes_none kept d none s h =
    elim (slice_get s.devices d) as (λ o. slice_get s.devices d ≡ o → CompletesTo false (option_and_then (complete_first d s) o) kept) [
      | None ↦ λ here. tt
      | Some t ↦ λ here.
          subst (λ o. CompletesTo false (option_map (λ w. complete w (record s { waiting = without_first (falls_due d t) s.waiting })) o) kept)
          (sym (none_due s.devices d t kept.waits s.waiting here h.waiting none)) tt
    ] refl

pub none_link : (d : ℕ) (o : Option KeptDeferral) → option_map (λ k. k.wait.link) o ≡ None → o ≡ None
none_link d None e = refl
none_link d (Some k) e = absurd cc

-- no other link's deferred request changes
taken_others : (d j number : ℕ) (ks : List KeptDeferral) → option_map (λ k. k.wait.link) (find (kept_due d) ks) ≡ Some number → j ≢ number → has_waiting (without_first (kept_due d) ks) j ≡ has_waiting ks j
taken_others d j number [] e apart = absurd cc
taken_others d j number (k ∷ ks) e apart =
    elim (kept_due d k) as (λ b. option_map (λ (k : KeptDeferral). k.wait.link) (cond b (Some k) (find (kept_due d) ks)) ≡ Some number → has_waiting (cond b ks (k ∷ without_first (kept_due d) ks)) j ≡ has_waiting (k ∷ ks) j) [
      | true ↦ λ f. let is : k.wait.link ≡ number = cc in let other : (k.wait.link == j) ≡ false = grind (arith, nat_tests) in ap (λ b. b || has_waiting ks j) (sym other)
      | false ↦ λ f. ap (λ b. k.wait.link == j || b) (taken_others d j number ks f apart)
    ] e

pub others_stay : (d j number : ℕ) (ks ks' : List KeptDeferral) → option_map (λ k. k.wait.link) (find (kept_due d) ks) ≡ Some number → OnlyQueues number (without_first (kept_due d) ks) ks' → j ≢ number → has_waiting ks' j ≡ has_waiting ks j
others_stay d j number ks ks' due_link g apart = only_queues_others number j (without_first (kept_due d) ks) ks' g apart ∙ taken_others d j number ks due_link apart

-- one less is due
pub one_less : (d number : ℕ) (ks ks' : List KeptDeferral) → option_map (λ k. k.wait.link) (find (kept_due d) ks) ≡ Some number → OnlyQueues number (without_first (kept_due d) ks) ks' → dues d ks ≡ suc (dues d ks')
one_less d number ks ks' due_link g =
    let k = some_due d number (find (kept_due d) ks) due_link in
    dues_taken d ks k.0 k.1 ∙ ap suc (sym (dues_grown number d (without_first (kept_due d) ks) ks' g))

-- All that are due

pub completes_state : (o : Option State) (kept : Kept) → CompletesTo true o kept → (s : State) × StandsFor kept s
completes_state None kept c = absurd c
completes_state (Some s) kept c = (s, c)

pub completes_false : (o : Option State) (kept kept' : Kept) → CompletesTo false o kept → CompletesTo false o kept'
completes_false None kept kept' c = tt
completes_false (Some s) kept kept' c = absurd c

-- what is left to complete from a state that is stood for
pub record CompletesOn (kept : Kept) (d : ℕ) (s : State) : Type 0 where
  pub state : State
  pub bound : ℕ
  pub stands : StandsFor kept state
  pub same : complete_due d s ≡ complete_by bound d state
  pub few : dues d kept.waits ≤ bound

pub completes_begin : (kept : Kept) (d : ℕ) (s : State) → StandsFor kept s → CompletesOn kept d s
unfolding complete_due
completes_begin kept d s h =
    let few = dues_few d kept.waits in
    let all = length-waits s.devices kept.waits s.waiting h.waiting in
    record { state = s; bound = length s.waiting; stands = h; same = refl; few = omega (arith, few, all) }

step_on : (kept' : Kept) (d m : ℕ) (s t : State) (o : Option State) → complete_due d s ≡ or_else t (complete_by m d) o → CompletesTo true o kept' → dues d kept'.waits ≤ m → CompletesOn kept' d s
step_on kept' d m s t None e c few = absurd c
step_on kept' d m s t (Some u) e c few = record { state = u; bound = m; stands = c; same = e; few = few }

pub completes_more : (kept kept' : Kept) (d : ℕ) (s : State) → CompletesOn kept d s → dues d kept.waits ≡ suc (dues d kept'.waits) → ((t : State) → StandsFor kept t → CompletesTo true (complete_step d t) kept') → CompletesOn kept' d s
completes_more kept kept' d s c less step = go c.bound c.same c.few
  where
    go : (bound : ℕ) → complete_due d s ≡ complete_by bound d c.state → dues d kept.waits ≤ bound → CompletesOn kept' d s
    go zero e few = absurd (omega (arith, few, less))
    go (suc m) e few = step_on kept' d m s c.state (complete_step d c.state) e (step c.state c.stands) (omega (arith, few, less))

end_at : (kept : Kept) (n d : ℕ) (t : State) → CompletesTo false (complete_step d t) kept → complete_by n d t ≡ t
end_at kept zero d t c = refl
end_at kept (suc n) d t c = elim (complete_step d t) as (λ o. CompletesTo false o kept → or_else t (complete_by n d) o ≡ t) [ None ↦ λ c. refl | Some u ↦ λ c. absurd c ] c

pub completes_end : (kept : Kept) (d : ℕ) (s : State) → CompletesOn kept d s → ((t : State) → StandsFor kept t → CompletesTo false (complete_step d t) kept) → StandsFor kept (complete_due d s)
completes_end kept d s c none = subst (StandsFor kept) (sym (c.same ∙ end_at kept c.bound d c.state (none c.state c.stands))) c.stands
