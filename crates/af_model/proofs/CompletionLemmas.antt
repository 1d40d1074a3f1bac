-- The completions of a tick lose nothing, and after them no request is due.
use Rattle.std.proofs.Common.{◌≡◌, ℕ, zero, suc, ◌+◌, ◌==◌, ◌&&◌, ◌<◌, ◌≤◌, Bool, true, false, cond, ℤ, List, [], ◌∷◌, ◌++◌, length, find, nat_le, option_map, option_and_then, slice_get, refl, sym, ap, ◌∙◌, subst, arith, eqb-true}
use Rattle.std.specs.List.{All}
use Rattle.std.proofs.lemmas.List.Elements.{All-cons, All-head, All-nil, All-tail, All-weaker}
use Rattle.std.specs.declared.option.Option.TheVariants.{None, Some}
use Rattle.af_limits.specs.Limits.{longest_tick, longest_frame}
use Rattle.af_wait.specs.Waits.{without_first}
use Rattle.af_model.specs.State.{DeviceState, Deferral, Deferred, State, open_link, slot_link_at, with_device, with_slot_link}
use Rattle.af_model.specs.Reply.{horizon_of}
use Rattle.af_model.specs.Waiting.{due_time, falls_due}
use Rattle.af_model.specs.Advance.{or_else}
use Rattle.af_model.specs.Tick.{complete, complete_at, complete_by, complete_due, complete_first, complete_deferred, device_after, tick}
use Rattle.af_model.proofs.BoolTestLemmas.{none_some, same_number, some_is}
use Rattle.af_model.proofs.DeviceHistoryLemmas.{AllLive, all_live, lives_completing, with_other, with_same, with_there}
use Rattle.af_model.proofs.DueLemmas.{IsToWait}
use Rattle.af_model.proofs.LinkInvariantLemmas.{Keeps, complete_keeps, environment_keeps}
use Rattle.af_model.proofs.SafeLemmas.{AwaitedIn, IsAwaited, Safe, SafeState, SameClock, all_without_first, due_alike, loses_alike, safe_completing, safe_fewer, safe_keeps, safe_with, slack_for}

-- the one that is found is among them
pub found_all : (passes : Deferral → Bool) (ws : List Deferral) (w : Deferral) (P : Deferral → Type 0) → find passes ws ≡ Some w → All P ws → P w
found_all passes [] w P e h = absurd (none_some e)
found_all passes (v ∷ ws) w P e h =
    elim (passes v) as (λ t. cond t (Some v) (find passes ws) ≡ Some w → P w) [
      | true ↦ λ e. subst P (some_is e) (All-head P v ws h)
      | false ↦ λ e. found_all passes ws w P e (All-tail P v ws h)
    ] e

-- a completion keeps of devices and of deferred requests what all moves of its link keep
completed_keeps : (E : List DeviceState → List Deferral → Type 0) (w : Deferral) (s : State) → Keeps w.link (λ closing. Unit {0}) (λ p. E p.environment.devices p.environment.waiting) →
    (E s.devices s.waiting → E (with_device w.device (complete_deferred w.link w.deferred) s.devices) s.waiting) → E s.devices s.waiting → E (complete w s).devices (complete w s).waiting
completed_keeps E w s kept completes h =
    let a = (slot_link_at w.link s).environment in
    elim (slot_link_at w.link s).link as (λ o. E (with_slot_link w.link s (complete_at w a o)).devices (with_slot_link w.link s (complete_at w a o)).waiting) [
      | None ↦ h
      | Some l ↦ complete_keeps w.link (λ closing. Unit {0}) (λ p. E p.environment.devices p.environment.waiting) kept w.device w.deferred (slice_get s.devices w.device) (open_link a l) refl (λ x there h. completes h) tt h
    ]

-- Nothing is lost

pub completed_safe : (slack c : ℕ) (passes : Deferral → Bool) (s : State) (w : Deferral) → slack ≤ longest_tick → find passes s.waiting ≡ Some w → SafeState slack c s → SafeState slack c (complete w (record s { waiting = without_first passes s.waiting }))
completed_safe slack c passes s w few found h =
    let fewer : State = record s { waiting = without_first passes s.waiting } in
    let one : AwaitedIn slack c s.devices w = found_all passes s.waiting w (λ v. AwaitedIn slack c s.devices v) found h.waiting in
    completed_keeps (Safe slack c) w fewer (safe_keeps w.link slack c) (λ h. safe_completing slack c w s.devices fewer.waiting few one h)
    (safe_fewer slack c s.devices s.waiting fewer.waiting (λ P all. all_without_first P passes s.waiting all) h)

-- How many are due

abbrev pub count_due : (Deferral → Bool) → List Deferral → ℕ
count_due passes [] = 0
count_due passes (w ∷ ws) = cond (passes w) (suc (count_due passes ws)) (count_due passes ws)

pub count_most : (passes : Deferral → Bool) (ws : List Deferral) → count_due passes ws ≤ length ws
count_most passes [] = omega arith
count_most passes (w ∷ ws) =
    let le = count_most passes ws in
    elim (passes w) as (λ t. cond t (suc (count_due passes ws)) (count_due passes ws) ≤ suc (length ws)) [ true ↦ omega (arith, le) | false ↦ omega (arith, le) ]

count_none : (passes : Deferral → Bool) (ws : List Deferral) → find passes ws ≡ None → count_due passes ws ≡ 0
count_none passes [] e = refl
count_none passes (w ∷ ws) e =
    elim (passes w) as (λ t. cond t (Some w) (find passes ws) ≡ None → cond t (suc (count_due passes ws)) (count_due passes ws) ≡ 0) [
      | true ↦ λ e. absurd (none_some (sym e))
      | false ↦ λ e. count_none passes ws e
    ] e

pub count_left : (passes : Deferral → Bool) (ws : List Deferral) (w : Deferral) → find passes ws ≡ Some w → suc (count_due passes (without_first passes ws)) ≡ count_due passes ws
count_left passes [] w e = absurd (none_some e)
count_left passes (v ∷ ws) w e =
    elim (passes v) as (λ t. passes v ≡ t → cond t (Some v) (find passes ws) ≡ Some w → suc (count_due passes (cond t ws (v ∷ without_first passes ws))) ≡ cond t (suc (count_due passes ws)) (count_due passes ws)) [
      | true ↦ λ is e. refl
      | false ↦ λ is e. ap (λ t. suc (cond t (suc (count_due passes (without_first passes ws))) (count_due passes (without_first passes ws)))) is ∙ count_left passes ws w e
    ] refl e

count_push : (passes : Deferral → Bool) (ws : List Deferral) (w : Deferral) → passes w ≡ false → count_due passes (ws ++ w ∷ []) ≡ count_due passes ws
count_push passes [] w e = ap (λ t. cond t 1 0) e
count_push passes (v ∷ ws) w e = ap (λ n. cond (passes v) (suc n) n) (count_push passes ws w e)

pub count_alike : (passes other : Deferral → Bool) (ws : List Deferral) → ((w : Deferral) → other w ≡ passes w) → count_due other ws ≡ count_due passes ws
count_alike passes other [] same = refl
count_alike passes other (w ∷ ws) same = ap (λ n. cond (other w) (suc n) n) (count_alike passes other ws same) ∙ ap (λ t. cond t (suc (count_due passes ws)) (count_due passes ws)) (same w)

-- At most n of the deferred requests are due for device d, whose time, rate and channels are those of this one.
pub record Few (n d : ℕ) (device : DeviceState) (ds : List DeviceState) (ws : List Deferral) : Type 0 where
  pub is : DeviceState
  pub there : slice_get ds d ≡ Some is
  pub clock : SameClock device is
  pub few : count_due (falls_due d device) ws ≤ n

pub same_due : (d : ℕ) (a b : DeviceState) (w : Deferral) → SameClock a b → falls_due d b w ≡ falls_due d a w
same_due d a b w same =
    ap (λ n. w.device == d && nat_le n b.now) (due_alike a b w.deferred same.1 same.2) ∙ ap (λ n. w.device == d && nat_le (due_time a.channels (horizon_of a) w.deferred) n) same.0

not_due : (a b : ℕ) → a < b → nat_le b a ≡ false
not_due a b lt = grind arith

pub few_lives : (n d : ℕ) (device : DeviceState) (ds es : List DeviceState) (ws : List Deferral) → AllLive ds es → Few n d device ds ws → Few n d device es ws
few_lives n d device ds es ws l h = let got = all_live.get ds es d h.is l h.there in record { is = got.0; there = got.1; clock = (got.2.now ∙ h.clock.0, got.2.rate ∙ h.clock.1, got.2.channels ∙ h.clock.2); few = h.few }

-- a request that is deferred now is not due
not_due_yet : (d : ℕ) (device is : DeviceState) (k e : ℕ) (deferred : Deferred) → SameClock device is → ((e == d) ≡ true → IsToWait longest_frame is deferred) → falls_due d device (record { link = k; device = e; deferred = deferred }) ≡ false
not_due_yet d device is k e deferred same_clock w =
    elim (e == d) as (λ t. (e == d) ≡ t → (t && nat_le (due_time device.channels (horizon_of device) deferred) device.now) ≡ false) [
      | true ↦ λ same.
          let later : device.now < due_time device.channels (horizon_of device) deferred =
          subst (λ n. n < due_time device.channels (horizon_of device) deferred) same_clock.0 (subst (λ n. is.now < n) (due_alike device is deferred same_clock.1 same_clock.2) (w same).later) in
          not_due device.now (due_time device.channels (horizon_of device) deferred) later
      | false ↦ λ same. refl
    ] refl

few_keeps : (k n d : ℕ) (device : DeviceState) → Keeps k (λ closing. Unit {0}) (λ p. Few n d device p.environment.devices p.environment.waiting)
few_keeps k n d device =
    environment_keeps k (Few n d device) (λ ds ws e x f there l h. few_lives n d device ds (with_device e f ds) ws (all_live.change e f ds (λ y is. (l y is).lives)) h)
    (λ ds ws e deferred w h.
    let not_yet = not_due_yet d device h.is k e deferred h.clock (λ same. w h.is (ap (slice_get ds) (eqb-true e d same) ∙ h.there)) in
    record { is = h.is; there = h.there; clock = h.clock; few = subst (λ m. m ≤ n) (sym (count_push (falls_due d device) ws (record { link = k; device = e; deferred = deferred }) not_yet)) h.few })

-- one fewer is due after a completion
pub few_completed : (n d : ℕ) (device x : DeviceState) (s : State) (w : Deferral) → SameClock device x → find (falls_due d x) s.waiting ≡ Some w → Few (suc n) d device s.devices s.waiting →
    Few n d device (complete w (record s { waiting = without_first (falls_due d x) s.waiting })).devices (complete w (record s { waiting = without_first (falls_due d x) s.waiting })).waiting
few_completed n d device x s w same found h =
    let passes = falls_due d x in
    let fewer : State = record s { waiting = without_first passes s.waiting } in
    let alike = count_alike (falls_due d device) passes s.waiting (λ v. same_due d device x v same) in
    let alike' = count_alike (falls_due d device) passes fewer.waiting (λ v. same_due d device x v same) in
    let left = count_left passes s.waiting w found in
    let one : count_due (falls_due d device) fewer.waiting ≤ n = let all = h.few in omega (arith, alike, alike', left, all) in
    completed_keeps (Few n d device) w fewer (few_keeps w.link n d device)
    (λ g. few_lives n d device s.devices (with_device w.device (complete_deferred w.link w.deferred) s.devices) fewer.waiting (all_live.change w.device (complete_deferred w.link w.deferred) s.devices (λ y is. lives_completing w.link y w.deferred)) g)
    (record { is = h.is; there = h.there; clock = h.clock; few = one })

-- as long as one is due
record Completed (slack d : ℕ) (device : DeviceState) (s : State) : Type 0 where
  safe : SafeState slack d s
  none : Few 0 d device s.devices s.waiting

completes_first : (n slack d : ℕ) (device x : DeviceState) (s : State) → slack ≤ longest_tick → SameClock device x → SafeState slack d s → Few (suc n) d device s.devices s.waiting →
    ((t : State) → SafeState slack d t → Few n d device t.devices t.waiting → Completed slack d device (complete_by n d t)) → Completed slack d device (or_else s (complete_by n d) (complete_first d s x))
completes_first n slack d device x s few same safe h more =
    elim (find (falls_due d x) s.waiting) as (λ o. find (falls_due d x) s.waiting ≡ o → Completed slack d device (or_else s (complete_by n d) (option_map (λ w. complete w (record s { waiting = without_first (falls_due d x) s.waiting })) o))) [
      | None ↦ λ found.
          let alike = count_alike (falls_due d device) (falls_due d x) s.waiting (λ v. same_due d device x v same) in
          record { safe = safe; none = record { is = h.is; there = h.there; clock = h.clock; few = omega (arith, alike, count_none (falls_due d x) s.waiting found) } }
      | Some w ↦ λ found. more _ (completed_safe slack d (falls_due d x) s w few found safe) (few_completed n d device x s w same found h)
    ] refl

completes_by : (n slack d : ℕ) (device : DeviceState) (s : State) → slack ≤ longest_tick → SafeState slack d s → Few n d device s.devices s.waiting → Completed slack d device (complete_by n d s)
completes_by zero slack d device s few safe h = record { safe = safe; none = h }
completes_by (suc n) slack d device s few safe h =
    subst (λ o. Completed slack d device (or_else s (complete_by n d) (option_and_then (complete_first d s) o))) (sym h.there)
    (completes_first n slack d device h.is s few h.clock safe h (λ t safe h. completes_by n slack d device t few safe h))

-- after them each is due later
no_slack : (slack d : ℕ) (device : DeviceState) (ds : List DeviceState) (w : Deferral) → (x : DeviceState) → slice_get ds d ≡ Some x → SameClock device x → falls_due d device w ≡ false → AwaitedIn slack d ds w → AwaitedIn 0 0 ds w
no_slack slack d device ds w x there same_clock late one y is =
    let h = one y is in
    record { soon = subst (λ n. y.now < due_time y.channels (horizon_of y) w.deferred + n) (sym (nothing (w.device == 0) 0)) (soon (w.device == d) refl late h.soon); ever = h.ever; short = h.short }
  where
    nothing : (b : Bool) (n : ℕ) → cond b n n ≡ n
    nothing true n = refl
    nothing false n = refl

    due_later : (a b : ℕ) → nat_le b a ≡ false → a < b + 0
    due_later a b e = grind arith

    soon : (b : Bool) → (w.device == d) ≡ b → (b && nat_le (due_time device.channels (horizon_of device) w.deferred) device.now) ≡ false →
        y.now < due_time y.channels (horizon_of y) w.deferred + cond b slack 0 → y.now < due_time y.channels (horizon_of y) w.deferred + 0
    soon true same late h =
        let one : x ≡ y = some_is (sym there ∙ ap (slice_get ds) (sym (eqb-true w.device d same)) ∙ is) in
        subst (λ z. z.now < due_time z.channels (horizon_of z) w.deferred + 0) one
        (subst (λ n. n < due_time x.channels (horizon_of x) w.deferred + 0) (sym same_clock.0)
        (subst (λ n. device.now < n + 0) (sym (due_alike device x w.deferred same_clock.1 same_clock.2)) (due_later device.now (due_time device.channels (horizon_of device) w.deferred) late)))
    soon false same late h = h

all_later : (slack d : ℕ) (device : DeviceState) (ds : List DeviceState) (ws : List Deferral) → (x : DeviceState) → slice_get ds d ≡ Some x → SameClock device x → count_due (falls_due d device) ws ≤ 0 →
    All (λ w. AwaitedIn slack d ds w) ws → All (λ w. AwaitedIn 0 0 ds w) ws
all_later slack d device ds [] x there same none h = All-nil (λ w. AwaitedIn 0 0 ds w)
all_later slack d device ds (w ∷ ws) x there same none h =
    elim (falls_due d device w) as (λ t. falls_due d device w ≡ t → cond t (suc (count_due (falls_due d device) ws)) (count_due (falls_due d device) ws) ≤ 0 → All (λ w. AwaitedIn 0 0 ds w) (w ∷ ws)) [
      | true ↦ λ late none. absurd (omega (arith, none))
      | false ↦ λ late none.
          All-cons (λ w. AwaitedIn 0 0 ds w) w ws (no_slack slack d device ds w x there same late (All-head (λ w. AwaitedIn slack d ds w) w ws h))
          (all_later slack d device ds ws x there same none (All-tail (λ w. AwaitedIn slack d ds w) w ws h))
    ] refl none

-- A tick of at most 4096 frames leaves nothing due, and loses nothing

-- after a tick, a request for its device has been due for less than the longest tick
passed_awaited : (d n : ℕ) (captured : List ℤ) (is_dead : Bool) (ds : List DeviceState) (device : DeviceState) (w : Deferral) → n ≤ longest_tick → slice_get ds d ≡ Some device → AwaitedIn 0 0 ds w →
    AwaitedIn longest_tick d (with_device d (device_after n captured is_dead) ds) w
passed_awaited d n captured is_dead ds device w few there one x is =
    elim (d == w.device) as (λ t. (d == w.device) ≡ t → IsAwaited (slack_for longest_tick d w) x w.deferred) [
      | true ↦ λ same.
          let here = with_same d (device_after n captured is_dead) ds x (subst (λ m. slice_get (with_device d (device_after n captured is_dead) ds) m ≡ Some x) (sym (eqb-true d w.device same)) is) in
          let h = one here.0 (subst (λ n. slice_get ds n ≡ Some here.0) (eqb-true d w.device same) here.1) in
          let own : slack_for longest_tick d w ≡ longest_tick = ap (λ n. cond (n == d) longest_tick 0) (sym (eqb-true d w.device same)) ∙ ap (λ t. cond t longest_tick 0) (same_number d) in
          subst (λ n. IsAwaited n x w.deferred) (sym own) (subst (λ y. IsAwaited longest_tick y w.deferred) here.2 (record { soon = rises here.0 h.soon; ever = h.ever; short = h.short }))
      | false ↦ λ other.
          let h = one x (sym (with_other d (device_after n captured is_dead) ds w.device other) ∙ is) in
          record { soon = stays h.soon; ever = h.ever; short = h.short }
    ] refl
  where
    nothing : (b : Bool) (n : ℕ) → cond b n n ≡ n
    nothing true n = refl
    nothing false n = refl

    rises : (y : DeviceState) → y.now < due_time y.channels (horizon_of y) w.deferred + slack_for 0 0 w → y.now + n < due_time y.channels (horizon_of y) w.deferred + longest_tick
    rises y h = let z : slack_for 0 0 w ≡ 0 = nothing (w.device == 0) 0 in omega (arith, h, z, few)

    stays : x.now < due_time x.channels (horizon_of x) w.deferred + slack_for 0 0 w → x.now < due_time x.channels (horizon_of x) w.deferred + slack_for longest_tick d w
    stays h = let z : slack_for 0 0 w ≡ 0 = nothing (w.device == 0) 0 in omega (arith, h, z)

pub ticks_safe : (d n : ℕ) (captured : List ℤ) (is_dead : Bool) (s : State) (device : DeviceState) → n ≤ longest_tick → slice_get s.devices d ≡ Some device → SafeState 0 0 s → SafeState 0 0 (tick d n captured is_dead s)
unfolding complete_due
ticks_safe d n captured is_dead s device few there h =
    let f = device_after n captured is_dead in
    let t : State = record s { devices = with_device d f s.devices } in
    let safe : SafeState longest_tick d t = record {
      devices = safe_with d f s.devices (λ x is safe. loses_alike x (f x) refl refl safe) h.devices;
      waiting = All-weaker (λ w. AwaitedIn 0 0 s.devices w) (λ w. AwaitedIn longest_tick d t.devices w) (λ w one. passed_awaited d n captured is_dead s.devices device w few there one) s.waiting h.waiting;
    } in
    let first : Few (length s.waiting) d (f device) t.devices t.waiting = record { is = f device; there = with_there d f s.devices device there; clock = (refl, refl, refl); few = count_most (falls_due d (f device)) s.waiting } in
    let c = completes_by (length s.waiting) longest_tick d (f device) t (omega arith) safe first in
    record { devices = c.safe.devices; waiting = all_later longest_tick d (f device) (complete_due d t).devices (complete_due d t).waiting c.none.is c.none.there c.none.clock c.none.few c.safe.waiting }
