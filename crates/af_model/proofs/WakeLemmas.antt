-- What a wake makes of a state, and a whole turn.
use Rattle.std.proofs.Common.{◌≡◌, ℕ, zero, suc, ◌+◌, ◌≤◌, ◌==◌, ◌&&◌, ◌||◌, ◌⊎◌, inl, inr, Bool, true, false, not, cond, ℤ, List, [], ◌∷◌, ◌++◌, length, map, nat_lt, find, is_some, option_map, option_and_then, slice_get, slice_set, refl, sym, ap, ◌∙◌, subst, eqb-true, arith, IfSome, nat_le}
use Rattle.std.specs.declared.option.Option.{Option}
use Rattle.std.specs.declared.option.Option.TheVariants.{None, Some}
use Rattle.af_limits.specs.Limits.{longest_tick, event_limit}
use Rattle.af_wire.specs.declared.event.Event.{Event}
use Rattle.af_wire.specs.declared.event.EventKind.{EventKind}
use Rattle.af_wire.specs.declared.event.EventKind.TheVariants as kind
use Rattle.af_wire.specs.Event.{event_bytes}
use Rattle.af_request.specs.declared.reply.Phone.{Phone}
use Rattle.af_phone.specs.declared.line.LineChange.{LineChange}
use Rattle.af_phone.specs.declared.line.LineChange.TheVariants.{Ring, Current, Digit}
use Rattle.af_phone.specs.Lines.{line_after_change, flag_value, line_after_hook, event_kind_of, selects, value_of}
use Rattle.af_world.specs.declared.happening.Happening.TheVariants.{Woke, Captured, Emitted, Hooked}
use Rattle.af_world.specs.declared.happening.Why.TheVariants as why
use Rattle.af_world.specs.declared.happening.Wake.{Wake}
use Rattle.af_world.specs.declared.happening.Wake.TheVariants.{Opened, Readable, Writable, Ticked, Line, Idle, Stop}
use Rattle.af_world.specs.Log.{Log}
use Rattle.af_wait.specs.Waits.{without_first}
use Rattle.af_model.specs.State.{State, DeviceState, SlotState, LinkState, OpenLink, Deferral, link_in_slot, slot_link_at, lines_of, links_of, new_link_state, outline, open_link, say, slot_at, some_slot, with_slot_link, with_device, with_slot}
use Rattle.af_model.specs.Waiting.{due_time, falls_due}
use Rattle.af_model.specs.Reply.{horizon_of}
use Rattle.af_model.specs.Advance.{or_else}
use Rattle.af_model.specs.Tick.{captured_samples, complete, complete_at, complete_by, complete_due, complete_first, complete_for, complete_step, complete_deferred, enter, device_after, sound, tick}
use Rattle.af_model.specs.Events.{drop_link, event_at, after_hook, after_hook_failure, line_becomes, line_changes, mask_of, tell, tell_at, tell_from, tell_link, tell_open, tell_selected}
use Rattle.af_model.specs.Turn.{Parsed, accept, parse_then, parse_one, capture_by, after_capture, tick_phase, line_phase, wake_phase, mark_readable, mark_writable, in_open, in_slot, is_closed_at, fits, hook_at, hook_from, hook_all, serve_all, serve_and_hook, turn}
use Rattle.af_model.specs.LinkHistory.{LinkHistory, no_history, note_happening}
use Rattle.af_model.specs.Prefix.{is_dropped}
use Rattle.af_model.proofs.BoolTestLemmas.{both-true, cond-some, none_some, some_is}
use Rattle.af_model.proofs.DeviceHistoryLemmas.{AllLive, Later, Laters, Lives, all_live, later_passed, later_line, later_trans, laters, laters_lines, live_laters, lives_completing, lives_line, with_there}
use Rattle.af_model.proofs.DeadLemmas.{DeadAs, lives_dead, with_dead}
use Rattle.af_model.proofs.SafeLemmas.{AwaitedIn, SafeIn, SafeState, all_without_first, loses_alike, safe_becomes, safe_completing, safe_fewer, safe_keeps}
use Rattle.af_model.proofs.CompletionLemmas.{found_all, ticks_safe}
use Rattle.af_model.proofs.AdvancedLemmas.{IsAdvanced, advanced_complete, advanced_says}
use Rattle.af_model.proofs.LinkInvariantLemmas.{complete_keeps, open_undropped}
use Rattle.af_model.proofs.OwedBytesLemmas.{Moved, Owed, moved_overrun, OwingAt, OwingLink, Owing, SameOthers, found_waits, grows_keeps, owed_waiting, queueing_keeps, queueing_left, others_keep, others_left, still_waits, selects_open, waiting_undropped, waits_left}
use Rattle.af_model.proofs.PendingLemmas.{IsPending, RoomIn, room_complete, room_found, room_told, room_with, waiters_left_other, waiters_same}
use Rattle.af_model.specs.Offers.{IsOfferWithin}
use Rattle.std.proofs.lemmas.List.Elements.{All-from_recursion, All-nil}
use Rattle.af_model.proofs.PhasePartLemmas.{Takes, hook_takes, live_takes, takes_chain, takes_map, takes_nothing, takes_then}
use Rattle.af_model.proofs.ServeLemmas.{Goes, Within, goes_refl, goes_trans, inner, put_goes, same_door, served_from, slot_other, within_refl, within_trans}

-- Devices change

-- each is dead or alive as before
becomes_goes : (d : ℕ) (f : DeviceState → DeviceState) (s : State) → ((device : DeviceState) → Lives device (f device)) → ((device : DeviceState) → (f device).completed ≡ device.completed) → Goes s [] (record s { devices = with_device d f s.devices })
becomes_goes d f s l same =
    let all = all_live.change d f s.devices (λ device there. l device) in
    record {
      devices = live_laters s.devices (with_device d f s.devices) all;
      deaths = λ c x y h. lives_dead c x y s.devices (with_device d f s.devices) all h;
      queued = λ k g h. h;
      safe = λ h. safe_becomes 0 0 d f s.devices s.waiting (λ x there. ((l x).now, (l x).rate, (l x).channels)) (λ x there safe. loses_alike x (f x) (l x).rate (same x) safe) h;
      room = λ h. ((room_with d f s.devices s.waiting (λ x there. (l x).channels) h.0, h.1), All-nil IsOfferWithin);
    }

-- Completions

-- the first request that is due, for a device that exists, leaves the list, and completes
completed : (passes : Deferral → Bool) (s : State) (w : Deferral) (x : DeviceState) → find passes s.waiting ≡ Some w → slice_get s.devices w.device ≡ Some x →
    Goes s [] (complete w (record s { waiting = without_first passes s.waiting }))
completed passes s w x found there =
    let fewer : State = record s { waiting = without_first passes s.waiting } in
    let a = (slot_link_at w.link fewer).environment in
    let k = w.link in
    let left : SafeState 0 0 s → SafeState 0 0 fewer = λ h. safe_fewer 0 0 s.devices s.waiting fewer.waiting (λ P all. all_without_first P passes s.waiting all) h in
    elim (slot_at k s).link as (λ o. (slot_at k s).link ≡ o → Goes s [] (with_slot_link k fewer (complete_at w a o))) [
      | None ↦ λ is.
          let back : with_slot_link k fewer (link_in_slot a None) ≡ fewer = ap (λ o. with_slot_link k fewer (link_in_slot a o)) (sym is) ∙ same_door k fewer in
          subst (Goes s []) (sym back) (record { devices = laters.stay s.devices; deaths = λ c x y h. h; queued = λ j g h. queueing_left passes w j g (slot_at j s).said (slot_at j s).link s.waiting found (λ own. subst (λ n. (slot_at n s).link ≡ None) (eqb-true k j own) is) h; safe = λ h. left h; room = λ h. (room_found passes s w found h, All-nil IsOfferWithin) })
      | Some l ↦ λ is.
          let p = open_link a l in
          let device = slice_get s.devices w.device in
          let q = complete_for w device p in
          let same : SameOthers k fewer.waiting q.environment.waiting =
          complete_keeps k (λ closing. Unit {0}) (λ q. SameOthers k fewer.waiting q.environment.waiting) (others_keep k fewer.waiting) w.device w.deferred device p refl (λ x there h. h) tt refl in
          put_goes k s l (enter (complete_for w device p)) [] is (λ c sofar. (refl, refl))
          (complete_keeps k (λ closing. Unit {0}) (λ q. AllLive s.devices q.environment.devices) (grows_keeps k s.devices) w.device w.deferred device p refl
          (λ x there h. all_live.follow s.devices s.devices (with_device w.device (complete_deferred w.link w.deferred) s.devices) h (all_live.change w.device (complete_deferred w.link w.deferred) s.devices (λ d is. lives_completing w.link d w.deferred))) tt (all_live.stay s.devices))
          (λ g h.
          let here : OwingLink k g a.said (Some l) s.waiting = subst (λ o. OwingLink k g a.said o s.waiting) is h in
          let undropped = waiting_undropped k g a.said l s.waiting (found_waits passes s.waiting w found) here.0 in (
            complete_keeps k (λ closing. is_dropped closing ≡ false) (Owing k g) (queueing_keeps k g) w.device w.deferred device p refl (λ x there h. h) undropped
                (owed_waiting k g a.said l s.waiting fewer.waiting (λ e. waits_left passes s.waiting k (here.0.waits e)) here.0),
            advanced_complete w device x p there,
          ))
          (λ j other g. refl)
          (λ j other. still_waits fewer.waiting q.environment.waiting k j other same ∙ others_left passes s.waiting w j found other)
          (λ h. complete_keeps k (λ closing. Unit {0}) (λ q. SafeIn 0 0 q.environment) (safe_keeps k 0 0) w.device w.deferred device p refl
          (λ x there g. safe_completing 0 0 w s.devices fewer.waiting (omega arith) (found_all passes s.waiting w (λ v. AwaitedIn 0 0 s.devices v) found h.waiting) g) tt (left h))
          (λ j other. waiters_same fewer.waiting q.environment.waiting k j other same ∙ waiters_left_other passes s.waiting w j found other)
          (λ h. (room_complete passes s.devices s.waiting a.said l w x found there h.0 h.1, All-nil IsOfferWithin))
    ] refl

abbrev GoesTo : State → Option State → Type 0
GoesTo s o = IfSome o (λ t. Goes s [] t)

-- a request that falls due waits for that device
falls_due_there : (d : ℕ) (device : DeviceState) (ws : List Deferral) (w : Deferral) → find (falls_due d device) ws ≡ Some w → w.device ≡ d
falls_due_there d device [] w e = absurd (none_some e)
falls_due_there d device (v ∷ ws) w e =
    elim (falls_due d device v) as (λ t. falls_due d device v ≡ t → cond t (Some v) (find (falls_due d device) ws) ≡ Some w → w.device ≡ d) [
      | true ↦ λ t e. let same : v ≡ w = some_is e in subst (λ (u : Deferral). u.device ≡ d) same (eqb-true v.device d (both-true (v.device == d) (nat_le (due_time device.channels (horizon_of device) v.deferred) device.now) t).0)
      | false ↦ λ t e. falls_due_there d device ws w e
    ] refl e

first_goes : (d : ℕ) (s : State) (device : DeviceState) → slice_get s.devices d ≡ Some device → GoesTo s (complete_first d s device)
first_goes d s device there =
    elim (find (falls_due d device) s.waiting) as (λ o. find (falls_due d device) s.waiting ≡ o → GoesTo s (option_map (λ w. complete w (record s { waiting = without_first (falls_due d device) s.waiting })) o)) [
      | None ↦ λ found. tt
      | Some w ↦ λ found. completed (falls_due d device) s w device found (subst (λ n. slice_get s.devices n ≡ Some device) (sym (falls_due_there d device s.waiting w found)) there)
    ] refl

step_goes : (d : ℕ) (s : State) → GoesTo s (complete_step d s)
step_goes d s = elim (slice_get s.devices d) as (λ o. slice_get s.devices d ≡ o → GoesTo s (option_and_then (complete_first d s) o)) [ None ↦ λ there. tt | Some device ↦ λ there. first_goes d s device there ] refl

pub by_goes : (n d : ℕ) (s : State) → Goes s [] (complete_by n d s)
by_goes zero d s = goes_refl s
by_goes (suc n) d s =
    elim (complete_step d s) as (λ o. GoesTo s o → Goes s [] (or_else s (complete_by n d) o)) [
      | None ↦ λ h. goes_refl s
      | Some t ↦ λ h. goes_trans s [] t [] (complete_by n d t) h (by_goes n d t)
    ] (step_goes d s)

due_goes : (d : ℕ) (s : State) → Goes s [] (complete_due d s)
unfolding complete_due
due_goes d s = by_goes (length s.waiting) d s

-- What sample periods make of a state: their device is dead after them if that is said, and the others are as they were.
record Ticks (d : ℕ) (is_dead : Bool) (s t : State) : Type 0 where
  devices : Laters s.devices t.devices
  deaths : (c : ℕ) (x y : Bool) → DeadAs c x y s → DeadAs c (cond (d == c) is_dead x) y t
  queued : (k : ℕ) (g : LinkHistory) → OwingAt k g s → OwingAt k g t
  safe : SafeState 0 0 s → SafeState 0 0 t
  room : RoomIn s → RoomIn t

ticks : (d n : ℕ) (captured : List ℤ) (is_dead : Bool) (s : State) (device : DeviceState) → slice_get s.devices d ≡ Some device → n ≤ longest_tick → Ticks d is_dead s (tick d n captured is_dead s)
ticks d n captured is_dead s device there few =
    let f = device_after n captured is_dead in
    let t : State = record s { devices = with_device d f s.devices } in
    let goes = due_goes d t in
    record {
      devices = laters.follow s.devices t.devices (complete_due d t).devices (laters.change d f s.devices (λ device there. later_passed device n captured is_dead)) goes.devices;
      deaths = λ c x y h. goes.deaths c (cond (d == c) is_dead x) y
          (with_dead d f s.devices c x y (cond (d == c) is_dead x) y (λ device same was. (sym (ap (λ b. cond b is_dead x) same), was.1)) (λ other. (sym (ap (λ b. cond b is_dead x) other), refl)) h);
      queued = goes.queued;
      safe = λ h. ticks_safe d n captured is_dead s device few there h;
      room = λ h. (goes.room (room_with d f s.devices s.waiting (λ x there. refl) h.0, h.1)).0;
    }

-- Events

told : (k : ℕ) (e : Event) (p : OpenLink) → Moved k p (tell_link k e p)
told k e p =
    elim (selects (mask_of p.link e.device) e.kind) as (λ t. selects (mask_of p.link e.device) e.kind ≡ t → Moved k p (cond t (tell_selected k e p) p)) [
      | true ↦ λ t. elim (nat_le (length p.link.pending + 20) event_limit) as (λ u. nat_le (length p.link.pending + 20) event_limit ≡ u → Moved k p (cond u (say p (event_bytes p.link.order e p.link.sequence)) (drop_link k why.Overrun p))) [
        | true ↦ λ u. record {
          devices = all_live.stay p.environment.devices;
          own = λ g h. (queueing_keeps k g).says p (event_bytes p.link.order e p.link.sequence) (open_undropped p.link.closing (selects_open k e.device e.kind g p t h)) h;
          advanced = advanced_says k p (event_bytes p.link.order e p.link.sequence);
          others = refl;
          safe = λ h. h;
          room = λ h. room_told k e p u h;
        }
        | false ↦ λ u. moved_overrun k p (λ g h. selects_open k e.device e.kind g p t h) u
      ] refl
      | false ↦ λ t. record { devices = all_live.stay p.environment.devices; own = λ g h. h; advanced = λ h. h; others = refl; safe = λ h. h; room = λ h. h }
    ] refl

-- an open link moves, and nothing is taken
moves_goes : (k : ℕ) (s : State) (l : LinkState) (q : OpenLink) → (slot_at k s).link ≡ Some l → Moved k (open_link (slot_link_at k s).environment l) q → Goes s [] (with_slot_link k s (enter q))
moves_goes k s l q is m =
    put_goes k s l (enter q) [] is (λ c sofar. (refl, refl)) m.devices
    (λ g h. let here : OwingLink k g (slot_at k s).said (Some l) s.waiting = subst (λ o. OwingLink k g (slot_at k s).said o s.waiting) is h in (m.own g here.0, m.advanced here.1))
    (λ j other g. refl) (λ j other. still_waits s.waiting q.environment.waiting k j other m.others) m.safe
    (λ j other. waiters_same s.waiting q.environment.waiting k j other m.others) (λ h. (m.room h, All-nil IsOfferWithin))

tell_at-goes : (k : ℕ) (e : Event) (s : State) → Goes s [] (tell_at k e s)
tell_at-goes k e s =
    let a = (slot_link_at k s).environment in
    elim (slot_at k s).link as (λ o. (slot_at k s).link ≡ o → Goes s [] (with_slot_link k s (tell_open k e a o))) [
      | None ↦ λ is. subst (Goes s []) (sym (ap (λ o. with_slot_link k s (link_in_slot a o)) (sym is) ∙ same_door k s)) (goes_refl s)
      | Some l ↦ λ is. moves_goes k s l (tell_link k e (open_link a l)) is (told k e (open_link a l))
    ] refl

tell_from-goes : (n k : ℕ) (e : Event) (s : State) → Goes s [] (tell_from n k e s)
tell_from-goes zero k e s = goes_refl s
tell_from-goes (suc n) k e s = goes_trans s [] (tell_at k e s) [] (tell_from n (k + 1) e (tell_at k e s)) (tell_at-goes k e s) (tell_from-goes n (k + 1) e (tell_at k e s))

becomes_told : (f : Phone → Phone) → ((line : Phone) → (f line).dead ≡ line.dead) → (kind : EventKind) (value d : ℕ) (device : DeviceState) (s : State) → Goes s [] (line_becomes f kind value d device s)
unfolding tell
becomes_told f alike kind value d device s =
    let t : State = record s { devices = with_device d (λ device. record device { line = option_map f device.line }) s.devices } in
    goes_trans s [] t [] (tell_from (length s.slots) 0 (event_at kind d device value) t)
    (becomes_goes d (λ device. record device { line = option_map f device.line }) s (λ device. lives_line f device alike) (λ device. refl)) (tell_from-goes (length s.slots) 0 (event_at kind d device value) t)

-- Hooks

-- a line whose hook call failed is dead
refused_goes : (d : ℕ) (off : Bool) (s : State) → Goes s (Hooked d off false ∷ []) (after_hook_failure d s)
refused_goes d off s =
    let f : DeviceState → DeviceState = λ device. record device { line = option_map (line_after_hook false) device.line } in
    record {
      devices = laters.change d f s.devices (λ device there. later_line (line_after_hook false) device);
      deaths = λ c x y h.
          with_dead d f s.devices c x y x ((d == c) || y) (λ device same was. (was.0, subst (λ b. IfSome (option_map (line_after_hook false) device.line) (λ line. line.dead ≡ (b || y))) (sym same) (dies device.line)))
          (λ other. (refl, sym (ap (λ b. b || y) other))) h;
      queued = λ k g h. h;
      safe = λ h. safe_becomes 0 0 d f s.devices s.waiting (λ x there. (refl, refl, refl)) (λ x there safe. loses_alike x (f x) refl refl safe) h;
      room = λ h. ((room_with d f s.devices s.waiting (λ x there. refl) h.0, h.1), All-from_recursion IsOfferWithin (Hooked d off false ∷ []) (tt, tt));
    }
  where
    dies : (line : Option Phone) → IfSome (option_map (line_after_hook false) line) (λ line. line.dead ≡ true)
    dies None = tt
    dies (Some line) = refl

hook_goes : (d : ℕ) (wanted off done : Bool) (device : DeviceState) (s : State) → Goes s (Hooked d wanted done ∷ []) (cond done (after_hook off d device s) (after_hook_failure d s))
hook_goes d wanted off true device s =
    let g = becomes_told (line_after_hook true) (λ line. refl) kind.Hook (flag_value off) d device s in
    record { devices = g.devices; deaths = g.deaths; queued = g.queued; safe = g.safe; room = λ h. ((g.room h).0, All-from_recursion IsOfferWithin (Hooked d wanted true ∷ []) (tt, tt)) }
hook_goes d wanted off false device s = refused_goes d wanted s

hooked_at : (d : ℕ) (o : Option DeviceState) (s : State) → Takes (hook_at d o s) (Within s)
hooked_at d None s = takes_nothing s (Within s) (within_refl s)
hooked_at d (Some device) s = hook_takes d device s (Within s) (within_refl s) (λ wanted off done. record { inside = refl; goes = hook_goes d wanted off done device s })

pub hooked_from : (n d : ℕ) (s : State) → Takes (hook_from n d s) (Within s)
unfolding hook_from
hooked_from zero d s = takes_nothing s (Within s) (within_refl s)
hooked_from (suc n) d s = takes_chain (λ s log. hook_at d (slice_get s.devices d) s log) (hook_from n (d + 1)) Within Within Within within_trans (λ s. hooked_at d (slice_get s.devices d) s) (hooked_from n (d + 1)) s

-- what follows a wake
pub after_wake : (s : State) → Takes (serve_and_hook s) (Within s)
after_wake s = takes_chain serve_all hook_all Within Within Within within_trans (λ s. served_from (length s.slots) 0 s) (λ s. hooked_from (length s.devices) 0 s) s

-- Wakes

-- What a device handed out: the sound of the frames from its time on. Later the device has the same accepted plays, and perhaps
-- more that came since. Its time then is after all that it handed out.
pub record HandedOut (s : State) (d frames : ℕ) (sent : List ℕ) (t : State) : Type 0 where
  pub device : DeviceState
  pub there : slice_get s.devices d ≡ Some device
  pub same : sent ≡ sound device frames
  pub after : DeviceState
  pub accepted : after.accepted ≡ device.accepted
  pub past : device.now + frames ≤ after.now
  pub last : DeviceState
  pub stands : slice_get t.devices d ≡ Some last
  pub becomes : Later after last

pub later_handed : (s t u : State) (d frames : ℕ) (sent : List ℕ) → Laters t.devices u.devices → HandedOut s d frames sent t → HandedOut s d frames sent u
later_handed s t u d frames sent l o =
    let got = laters.get t.devices u.devices d o.last l o.stands in
    record { device = o.device; there = o.there; same = o.same; after = o.after; accepted = o.accepted; past = o.past; last = got.0; stands = got.1; becomes = later_trans o.after o.last got.0 o.becomes got.2 }

-- a part that hands out
pub record Emits (w : Wake) (part : Log) : Type 0 where
  pub d : ℕ
  pub frames : ℕ
  pub captured : List ℕ
  pub sent : List ℕ
  pub done : Bool
  pub wake : w ≡ Ticked d frames
  pub is : part ≡ Captured d frames (Some captured) ∷ Emitted d sent done ∷ []

abbrev pub Hands : State → Wake → Log → State → Type 0
Hands s w part t = (h : Emits w part) × HandedOut s h.d h.frames h.sent t

-- what a wake makes of a state, and of the part that it takes: it hands something out, or has no emit
pub record Woken (s : State) (w : Wake) (part : Log) (t : State) : Type 0 where
  pub goes : Goes s (Woke w ∷ part) t
  pub emits : (inner part ≡ true) ⊎ Hands s w part t

ticked : (d n : ℕ) (device : DeviceState) (s : State) (bytes : List ℕ) (done : Bool) → slice_get s.devices d ≡ Some device →
    HandedOut s d n (sound device n) (tick d n (captured_samples device n (Some bytes)) (not done) s)
ticked d n device s bytes done there =
    let captured = captured_samples device n (Some bytes) in
    let after : DeviceState = device_after n captured (not done) device in
    let t : State = record s { devices = with_device d (device_after n captured (not done)) s.devices } in
    let got = laters.get t.devices (complete_due d t).devices d after (due_goes d t).devices (with_there d (device_after n captured (not done)) s.devices device there) in
    record { device = device; there = there; same = refl; after = after; accepted = refl; past = omega arith; last = got.0; stands = got.1; becomes = got.2 }

-- a device that fails dies, and another is dead or alive as before
sound_dead : (same done x : Bool) → (same ≡ true → x ≡ false) → cond same (not done) x ≡ ((not done && same) || x)
sound_dead true true x alive = sym (alive refl)
sound_dead true false x alive = refl
sound_dead false true x alive = refl
sound_dead false false x alive = refl

-- a device that is dead or alive like this one
as_dead : (d : ℕ) (device : DeviceState) (s : State) (c : ℕ) (x y : Bool) → slice_get s.devices d ≡ Some device → DeadAs c x y s → (d == c) ≡ true → x ≡ device.is_dead
as_dead d device s c x y there h same = sym (h device (subst (λ n. slice_get s.devices n ≡ Some device) (eqb-true d c same) there)).0

-- sample periods of a dead device
dead_goes : (d n : ℕ) (device : DeviceState) (s : State) → n ≤ longest_tick → slice_get s.devices d ≡ Some device → device.is_dead ≡ true → Goes s (Woke (Ticked d n) ∷ []) (tick d n (captured_samples device n None) true s)
dead_goes d n device s few there dead =
    let t = tick d n (captured_samples device n None) true s in
    let g = ticks d n (captured_samples device n None) true s device there few in
    record {
      devices = g.devices;
      deaths = λ c x y h. subst (λ z. DeadAs c z y t) (stays (d == c) x (λ same. as_dead d device s c x y there h same ∙ dead)) (g.deaths c x y h);
      queued = g.queued;
      safe = g.safe;
      room = λ h. (g.room h, All-from_recursion IsOfferWithin (Woke (Ticked d n) ∷ []) (tt, tt));
    }
  where
    stays : (same x : Bool) → (same ≡ true → x ≡ true) → cond same true x ≡ x
    stays true x h = sym (h refl)
    stays false x h = refl

-- a capture that fails
failed_goes : (d n : ℕ) (device : DeviceState) (s : State) → n ≤ longest_tick → slice_get s.devices d ≡ Some device → Goes s (Woke (Ticked d n) ∷ Captured d n None ∷ []) (tick d n (captured_samples device n None) true s)
failed_goes d n device s few there =
    let t = tick d n (captured_samples device n None) true s in
    let g = ticks d n (captured_samples device n None) true s device there few in
    record { devices = g.devices; deaths = λ c x y h. subst (λ z. DeadAs c z y t) (either (d == c) x) (g.deaths c x y h); queued = g.queued; safe = g.safe; room = λ h. (g.room h, All-from_recursion IsOfferWithin (Woke (Ticked d n) ∷ Captured d n None ∷ []) (tt, (tt, tt))) }
  where
    either : (same x : Bool) → cond same true x ≡ (same || x)
    either true x = refl
    either false x = refl

-- a capture, and an emit that is done or fails
sounded_goes : (d n : ℕ) (device : DeviceState) (s : State) (bytes sent : List ℕ) (done : Bool) → n ≤ longest_tick → slice_get s.devices d ≡ Some device → device.is_dead ≡ false →
    Goes s (Woke (Ticked d n) ∷ Captured d n (Some bytes) ∷ Emitted d sent done ∷ []) (tick d n (captured_samples device n (Some bytes)) (not done) s)
sounded_goes d n device s bytes sent done few there alive =
    let t = tick d n (captured_samples device n (Some bytes)) (not done) s in
    let g = ticks d n (captured_samples device n (Some bytes)) (not done) s device there few in
    record {
      devices = g.devices;
      deaths = λ c x y h. subst (λ z. DeadAs c z y t) (sound_dead (d == c) done x (λ same. as_dead d device s c x y there h same ∙ alive)) (g.deaths c x y h);
      queued = g.queued;
      safe = g.safe;
      room = λ h. (g.room h, All-from_recursion IsOfferWithin (Woke (Ticked d n) ∷ Captured d n (Some bytes) ∷ Emitted d sent done ∷ []) (tt, (tt, (tt, tt))));
    }

woken_ticked : (d n : ℕ) (o : Option DeviceState) (s : State) → n ≤ longest_tick → slice_get s.devices d ≡ o → Takes (tick_phase d n o s) (Woken s (Ticked d n))
woken_ticked d n None s few there = λ log b e. absurd (none_some e)
woken_ticked d n (Some device) s few there =
    elim device.is_dead as (λ t. device.is_dead ≡ t → Takes (λ log. cond t (accept (tick d n (captured_samples device n None) true s) log) (parse_then (parse_one (capture_by d n device) log) (after_capture d n device s))) (Woken s (Ticked d n))) [
      | true ↦ λ dead. takes_nothing (tick d n (captured_samples device n None) true s) (Woken s (Ticked d n)) (record { goes = dead_goes d n device s few there dead; emits = inl refl })
      | false ↦ λ alive. live_takes d n device s (Woken s (Ticked d n)) (record { goes = failed_goes d n device s few there; emits = inl refl })
          (λ bytes done size. record {
            goes = sounded_goes d n device s bytes (sound device n) done few there alive;
            emits = inr (record { d = d; frames = n; captured = bytes; sent = sound device n; done = done; wake = refl; is = refl }, ticked d n device s bytes done there);
          })
    ] refl

-- the slot of a link that may be opened exists
slot_opened : (slots : List SlotState) (k : ℕ) (x : SlotState) → is_closed_at (slice_get (map {A = Option LinkState} {B = Bool} is_some (links_of slots)) k) ≡ true → some_slot (slice_get (slice_set slots k x) k) ≡ x
slot_opened [] k x e = absurd cc
slot_opened (y ∷ slots) zero x e = refl
slot_opened (y ∷ slots) (suc k) x e = slot_opened slots k x e

-- a link is opened: nothing waits to be sent to it
opened_room : (j : ℕ) (s : State) → fits (outline s) (Opened j) ≡ true → RoomIn s → RoomIn (with_slot j (record { link = Some new_link_state; said = [] }) s)
opened_room j s fit h =
    let slot : SlotState = record { link = Some new_link_state; said = [] } in (
      h.0,
      λ k. elim (j == k) as (λ t. (j == k) ≡ t → IfSome (slot_at k (with_slot j slot s)).link (λ l. IsPending k s.waiting l)) [
        | true ↦ λ e.
            subst (λ n. IfSome (slot_at n (with_slot j slot s)).link (λ l. IsPending n s.waiting l)) (eqb-true j k e)
            (subst (λ (x : SlotState). IfSome x.link (λ l. IsPending j s.waiting l)) (sym (slot_opened s.slots j slot fit)) (omega (arith, h.0.once j)))
        | false ↦ λ e. subst (λ (x : SlotState). IfSome x.link (λ l. IsPending k s.waiting l)) (sym (slot_other s.slots j k slot e)) (h.1 k)
      ] refl,
    )

-- a link is opened: nothing was queued for it since
opened_goes : (k : ℕ) (s : State) → fits (outline s) (Opened k) ≡ true → Goes s (Woke (Opened k) ∷ []) (with_slot k (record { link = Some new_link_state; said = [] }) s)
opened_goes j s fit =
    let slot : SlotState = record { link = Some new_link_state; said = [] } in
    record {
      devices = laters.stay s.devices;
      deaths = λ d x y h. h;
      safe = λ h. h;
      room = λ h. (opened_room j s fit h, All-from_recursion IsOfferWithin (Woke (Opened j) ∷ []) (tt, tt));
      queued = λ k g h. elim (j == k) as (λ t. (j == k) ≡ t → OwingAt k (cond t no_history g) (with_slot j slot s)) [
        | true ↦ λ e.
            subst (λ n. OwingAt n no_history (with_slot j slot s)) (eqb-true j k e) (subst (λ (x : SlotState). OwingLink j no_history x.said x.link s.waiting) (sym (slot_opened s.slots j slot fit)) (
              record {
                rest = [];
                whole = refl;
                queued = λ e. refl;
                sends = λ e. refl;
                waits = λ e. absurd cc;
                wants = λ e. refl;
                shows = record { failed = refl; ended = refl; input = refl };
                unclosed = refl;
              },
              λ more. refl,
            ))
        | false ↦ λ e. subst (λ (x : SlotState). OwingLink k g x.said x.link s.waiting) (sym (slot_other s.slots j k slot e)) h
      ] refl;
    }

-- an open link changes, but nothing that is queued for it or taken off its input
opens_goes : (f : LinkState → LinkState) (k : ℕ) (s : State) → ((g : LinkHistory) (said : List ℕ) (l : LinkState) (waiting : List Deferral) → Owed k g said l waiting → Owed k g said (f l) waiting) →
    ((l : LinkState) (waiting : List Deferral) → IsAdvanced k l waiting → IsAdvanced k (f l) waiting) → ((l : LinkState) (waiting : List Deferral) → IsPending k waiting l → IsPending k waiting (f l)) → Goes s [] (with_slot k (in_slot f (slot_at k s)) s)
opens_goes f k s queued advanced room =
    let a = (slot_link_at k s).environment in
    elim (slot_at k s).link as (λ o. (slot_at k s).link ≡ o → Goes s [] (with_slot_link k s (link_in_slot a (in_open f o)))) [
      | None ↦ λ is. subst (Goes s []) (sym (ap (λ o. with_slot_link k s (link_in_slot a o)) (sym is) ∙ same_door k s)) (goes_refl s)
      | Some l ↦ λ is. moves_goes k s l (open_link a (f l)) is (record { devices = all_live.stay s.devices; own = λ g h. queued g a.said l s.waiting h; advanced = advanced l s.waiting; others = refl; safe = λ h. h; room = λ h. (h.0, room l s.waiting h.1) })
    ] refl

-- a wake that opens no link, and that takes nothing off
woken_quiet : (w : Wake) (s t : State) → ((k : ℕ) (g : LinkHistory) → note_happening k g (Woke w) ≡ g) → Goes s [] t → Takes (λ log. accept t log) (Woken s w)
woken_quiet w s t still g =
    takes_nothing t (Woken s w) (record { goes = record { devices = g.devices; deaths = g.deaths; queued = λ k f h. subst (λ x. OwingAt k x t) (sym (still k f)) (g.queued k f h); safe = g.safe; room = λ h. ((g.room h).0, All-from_recursion IsOfferWithin (Woke w ∷ []) (tt, tt)) }; emits = inl refl })

-- a change of a line leaves it dead or alive as before
changed_alike : (change : LineChange) (line : Phone) → (line_after_change change line).dead ≡ line.dead
changed_alike (Ring on) line = refl
changed_alike (Current on) line = refl
changed_alike (Digit code) line = refl

woken_line : (change : LineChange) (d : ℕ) (o : Option DeviceState) (s : State) → Takes (line_phase change d o s) (Woken s (Line d change))
woken_line change d None s = λ log b e. absurd (none_some e)
woken_line change d (Some device) s =
    woken_quiet (Line d change) s (line_changes change d device s) (λ k f. refl) (becomes_told (line_after_change change) (changed_alike change) (event_kind_of change) (value_of change) d device s)

woken : (w : Wake) (s : State) → fits (outline s) w ≡ true → Takes (wake_phase w s) (Woken s w)
unfolding wake_phase
woken (Opened k) s fit = takes_nothing (with_slot k (record { link = Some new_link_state; said = [] }) s) (Woken s (Opened k)) (record { goes = opened_goes k s fit; emits = inl refl })
woken (Readable k) s fit =
    woken_quiet (Readable k) s (with_slot k (in_slot mark_readable (slot_at k s)) s) (λ k f. refl)
    (opens_goes mark_readable k s (λ g said l waiting h. record { rest = h.rest; whole = h.whole; queued = h.queued; sends = h.sends; waits = h.waits; wants = h.wants; shows = h.shows; unclosed = h.unclosed }) (λ l waiting h. h) (λ l waiting h. h))
woken (Writable k) s fit =
    woken_quiet (Writable k) s (with_slot k (in_slot mark_writable (slot_at k s)) s) (λ k f. refl)
    (opens_goes mark_writable k s (λ g said l waiting h. record { rest = h.rest; whole = h.whole; queued = h.queued; sends = h.sends; waits = h.waits; wants = h.wants; shows = h.shows; unclosed = h.unclosed }) (λ l waiting h. h) (λ l waiting h. h))
woken (Ticked d n) s fit = woken_ticked d n (slice_get s.devices d) s (few_frames n (both-true (nat_lt d (length (outline s).lines) && nat_le 1 n) (nat_le n longest_tick) fit).1) refl
  where
    few_frames : (n : ℕ) → nat_le n longest_tick ≡ true → n ≤ longest_tick
    few_frames n e = grind arith
woken (Line d change) s fit = woken_line change d (slice_get s.devices d) s
woken Idle s fit = woken_quiet Idle s s (λ k f. refl) (goes_refl s)
woken Stop s fit = woken_quiet Stop s s (λ k f. refl) (goes_refl s)

-- A whole turn: its wake, a part that may hand something out, and a part without a wake or an emit.
pub record Turned (s : State) (part : Log) (t : State) : Type 0 where
  pub wake : Wake
  pub first : Log
  pub second : Log
  pub is : part ≡ Woke wake ∷ (first ++ second)
  pub goes : Goes s part t
  pub emits : (inner first ≡ true) ⊎ Hands s wake first t
  pub inside : inner second ≡ true

-- what was handed out within a turn, the turn has handed out
later_emits : (s t u : State) (w : Wake) (part : Log) → Laters t.devices u.devices → (inner part ≡ true) ⊎ Hands s w part t → (inner part ≡ true) ⊎ Hands s w part u
later_emits s t u w part l (inl inside) = inl inside
later_emits s t u w part l (inr h) = inr (h.0, later_handed s t u h.0.d h.0.frames h.0.sent l h.1)

turned_then : (s : State) (w : Wake) (p : Log) (t : State) (q : Log) (u : State) → Woken s w p t → Within t q u → Turned s (Woke w ∷ (p ++ q)) u
turned_then s w p t q u a b = record {
  wake = w;
  first = p;
  second = q;
  is = refl;
  goes = goes_trans s (Woke w ∷ p) t q u a.goes b.goes;
  emits = later_emits s t u w p b.goes.devices a.emits;
  inside = b.inside;
}

pub turned : (s : State) → Takes (turn s) (Turned s)
unfolding turn
turned s (Woke w ∷ log) b e =
    let i = cond-some (fits (outline s) w) (parse_then (wake_phase w s log) serve_and_hook) b e in
    let all : Takes (λ log. parse_then (wake_phase w s log) serve_and_hook) (λ part u. Turned s (Woke w ∷ part) u) =
    takes_then (wake_phase w s) serve_and_hook (Woken s w) (λ part u. Turned s (Woke w ∷ part) u) (woken w s i.0)
    (λ part t a. takes_map (serve_and_hook t) (Within t) (λ more u. Turned s (Woke w ∷ (part ++ more)) u) (λ more u h. turned_then s w part t more u a h) (after_wake t)) in
    let a = all log b i.1 in
    record {
      part = Woke w ∷ a.part;
      whole = ap (λ l. Woke w ∷ l) a.whole;
      again = λ more. ap (λ t. cond t (parse_then (wake_phase w s (a.part ++ more)) serve_and_hook) None) i.0 ∙ a.again more;
      holds = a.holds;
    }
turned s log b e = absurd (none_some e)

-- a turn leaves the devices their lines
pub turn_lines : (s : State) (log : Log) (b : Parsed State) → turn s log ≡ Some b → lines_of b.state.devices ≡ lines_of s.devices
turn_lines s log b e = laters_lines s.devices b.state.devices (turned s log b e).holds.goes.devices
