-- What holds of an open link that is not closing, and of its environment, goes on to hold through a turn.
use Rattle.std.proofs.Common.{◌≡◌, ℕ, zero, suc, ◌+◌, ◌==◌, Bool, true, false, not, cond, List, [], ◌∷◌, ◌++◌, length, find, ◌≤◌, nat_le, nat_lt, arith, is_some, map, option_map, option_and_then, slice_get, slice_set, ◌&&◌, refl, sym, ap, ◌∙◌, subst, eqb-true, IfSome, ℤ}
use Rattle.std.proofs.lemmas.List.Sums.{fold-append}
use Rattle.std.specs.List.{fold}
use Rattle.std.specs.declared.option.Option.{Option}
use Rattle.std.specs.declared.option.Option.TheVariants.{None, Some}
use Rattle.af_limits.specs.Limits.{event_limit, longest_tick}
use Rattle.af_wait.specs.Waits.{without_first}
use Rattle.af_wire.specs.declared.event.Event.{Event}
use Rattle.af_wire.specs.declared.event.EventKind.{EventKind}
use Rattle.af_wire.specs.declared.event.EventKind.TheVariants as kind
use Rattle.af_wire.specs.Event.{event_bytes}
use Rattle.af_request.specs.declared.reply.Phone.{Phone}
use Rattle.af_phone.specs.declared.line.LineChange.{LineChange}
use Rattle.af_phone.specs.Lines.{event_kind_of, flag_value, line_after_change, line_after_hook, selects, value_of}
use Rattle.af_world.specs.declared.happening.Happening.TheVariants.{Hooked, Woke}
use Rattle.af_world.specs.declared.happening.Why.TheVariants as why
use Rattle.af_world.specs.declared.happening.Wake.{Wake}
use Rattle.af_world.specs.declared.happening.Wake.TheVariants.{Opened, Readable, Writable, Ticked, Line, Idle, Stop}
use Rattle.af_world.specs.Log.{Log}
use Rattle.af_model.specs.State.{Deferral, Deferred, DeviceState, EnvironmentState, LinkState, OpenLink, SlotLink, SlotState, State, deferred_play, deferred_record, link_in_slot, links_of, new_link_state, open_link, outline, say, slot_at, slot_link_at, some_slot, with_device, with_slot, with_slot_link}
use Rattle.af_model.specs.Waiting.{due_time, falls_due}
use Rattle.af_model.specs.Reply.{horizon_of}
use Rattle.af_model.specs.Play.{in_devices, tell_played}
use Rattle.af_model.specs.Advance.{or_else}
use Rattle.af_model.specs.Tick.{answer_deferred, captured_samples, complete, complete_at, complete_by, complete_deferred, complete_due, complete_first, complete_for, complete_step, device_after, enter, sound, tick}
use Rattle.af_model.specs.Events.{after_hook, after_hook_failure, drop_link, event_at, line_becomes, line_changes, mask_of, tell, tell_at, tell_from, tell_link, tell_open, tell_selected}
use Rattle.af_model.specs.LinkHistory.{LinkHistory, no_history, note_happening}
use Rattle.af_model.specs.Turn.{accept, after_capture, capture_by, fits, hook_all, hook_at, hook_from, in_open, in_slot, is_closed_at, line_phase, mark_readable, mark_writable, parse_one, parse_then, serve_all, serve_and_hook, serve_at, serve_from, serve_link, serve_open, tick_phase, turn, wake_phase}
use Rattle.af_model.proofs.BoolTestLemmas.{both-true, cond-some, none_some, some_is}
use Rattle.af_model.proofs.ListLemmas.{get-set_same}
use Rattle.af_model.proofs.DeviceHistoryLemmas.{later_line}
use Rattle.af_model.proofs.LinkInvariantLemmas.{complete_keeps}
use Rattle.af_model.proofs.OwedBytesLemmas.{SameOthers, others_keep, own_left}
use Rattle.af_model.proofs.PhasePartLemmas.{Takes, hook_takes, live_takes, takes_chain, takes_map, takes_nothing, takes_then}
use Rattle.af_model.proofs.ServeLemmas.{same_door, slot_other}
use Rattle.af_end_to_end.proofs.DeviceAlikeLemmas.{AllAlike, alike_with, all_alike_refl, own_first, own_of_others}
use Rattle.af_end_to_end.proofs.OtherLinkLemmas.{ServesOther, completes_alike, serves_another}
use Rattle.af_end_to_end.specs.Performing.{own_waiting}
use Rattle.af_end_to_end.proofs.LastingLemmas.{IfGoesOn, InSlot, Lasts, OfSlot, Serves, advance_lasts, serves}

-- the slot of an open link exists, and holds what is written to it
slot_own : (slots : List SlotState) (k : ℕ) (l : LinkState) (x : SlotState) → (some_slot (slice_get slots k)).link ≡ Some l → some_slot (slice_get (slice_set slots k x) k) ≡ x
slot_own slots k l x e =
    elim (slice_get slots k) as (λ o. slice_get slots k ≡ o → (some_slot o).link ≡ Some l → some_slot (slice_get (slice_set slots k x) k) ≡ x) [
      | None ↦ λ there e. absurd (none_some e)
      | Some y ↦ λ there e. ap some_slot (get-set_same slots k y x there)
    ] refl e

-- a link that may be opened is not open
opens_closed : (slots : List SlotState) (k : ℕ) → is_closed_at (slice_get (map {A = Option LinkState} {B = Bool} is_some (links_of slots)) k) ≡ true → (some_slot (slice_get slots k)).link ≡ None
opens_closed [] k e = refl
opens_closed (y ∷ slots) zero e = none y.link e
  where
    none : (o : Option LinkState) → is_closed_at (Some (is_some o)) ≡ true → o ≡ None
    none None e = refl
    none (Some l) e = absurd cc
opens_closed (y ∷ slots) (suc k) e = opens_closed slots k e

-- a request that falls due waits for that device
falls_due_there : (d : ℕ) (device : DeviceState) (ws : List Deferral) (w : Deferral) → find (falls_due d device) ws ≡ Some w → w.device ≡ d
falls_due_there d device [] w e = absurd (none_some e)
falls_due_there d device (v ∷ ws) w e =
    elim (falls_due d device v) as (λ t. falls_due d device v ≡ t → cond t (Some v) (find (falls_due d device) ws) ≡ Some w → w.device ≡ d) [
      | true ↦ λ t e. let same : v ≡ w = some_is e in subst (λ (u : Deferral). u.device ≡ d) same (eqb-true v.device d (both-true (v.device == d) (nat_le (due_time device.channels (horizon_of device) v.deferred) device.now) t).0)
      | false ↦ λ t e. falls_due_there d device ws w e
    ] refl e

module _ (k : ℕ) (J : LinkHistory → OpenLink → Type 0) (kept : Lasts k J) where
  abbrev pub AtState : LinkHistory → State → Type 0
  AtState g s = OfSlot J g (slot_link_at k s)

  abbrev Goes : State → Log → State → Type 0
  Goes s part t = (g : LinkHistory) → AtState g s → AtState (fold (note_happening k) g part) t

  goes_refl : (s : State) → Goes s [] s
  goes_refl s g h = h

  goes_trans : (s : State) (p : Log) (t : State) (q : Log) (u : State) → Goes s p t → Goes t q u → Goes s (p ++ q) u
  goes_trans s p t q u a b g h = subst (λ f. AtState f u) (sym (fold-append (note_happening k) g p q)) (b (fold (note_happening k) g p) (a g h))

  -- other links act
  others_in : (g : LinkHistory) (a b : EnvironmentState) (link : Option LinkState) → AllAlike a.devices b.devices → own_waiting k b.waiting ≡ own_waiting k a.waiting → b.said ≡ a.said → InSlot J g a link → InSlot J g b link
  others_in g a b None alike same said h = tt
  others_in g a b (Some l) alike same said h = λ open'. kept.others g (open_link a l) b alike same said (h open')

  -- what the slot of the link holds, with the environment of a state
  abbrev InState : LinkHistory → List DeviceState → List Deferral → SlotState → Type 0
  InState g devices waiting x = InSlot J g (record { devices = devices; waiting = waiting; said = x.said }) x.link

  put_own : (g : LinkHistory) (s : State) (l : LinkState) (d : SlotLink) → (slot_at k s).link ≡ Some l → OfSlot J g d → AtState g (with_slot_link k s d)
  put_own g s l d is h =
      let slot : SlotState = record { link = d.link; said = d.environment.said } in
      subst (λ x. InState g d.environment.devices d.environment.waiting x) (sym (slot_own s.slots k l slot is)) h

  put_other : (g : LinkHistory) (j : ℕ) (s : State) (d : SlotLink) → (j == k) ≡ false → AllAlike s.devices d.environment.devices → own_waiting k d.environment.waiting ≡ own_waiting k s.waiting → AtState g s → AtState g (with_slot_link j s d)
  put_other g j s d other alike same h =
      let slot : SlotState = record { link = d.link; said = d.environment.said } in
      subst (λ x. InState g d.environment.devices d.environment.waiting x) (sym (slot_other s.slots j k slot other))
      (others_in g (slot_link_at k s).environment (record { devices = d.environment.devices; waiting = d.environment.waiting; said = (slot_at k s).said }) (slot_at k s).link alike same refl h)

  -- devices change
  devices_change : (g : LinkHistory) (s : State) (ds : List DeviceState) → AllAlike s.devices ds → AtState g s → AtState g (record s { devices = ds })
  devices_change g s ds alike h = others_in g (slot_link_at k s).environment (record { devices = ds; waiting = s.waiting; said = (slot_at k s).said }) (slot_at k s).link alike refl refl h

  -- Serving

  serves_own : (s : State) → Takes (serve_at k s) (Goes s)
  serves_own s =
      let a = (slot_link_at k s).environment in
      elim (slot_at k s).link as (λ o. (slot_at k s).link ≡ o → Takes (λ log. parse_then (serve_open k a o log) (λ d log. accept (with_slot_link k s d) log)) (Goes s)) [
        | None ↦ λ is.
            takes_then (λ log. accept (link_in_slot a None) log) (λ d log. accept (with_slot_link k s d) log) (λ part d. (part ≡ []) × (d ≡ link_in_slot a None)) (Goes s) (takes_nothing (link_in_slot a None) (λ part d. (part ≡ []) × (d ≡ link_in_slot a None)) (refl, refl))
            (λ part d h. takes_nothing (with_slot_link k s d) (λ more t. Goes s (part ++ more) t)
            (let back : with_slot_link k s d ≡ s = ap (with_slot_link k s) (h.1 ∙ ap (link_in_slot a) (sym is)) ∙ same_door k s in
            subst (λ l. Goes s (l ++ []) (with_slot_link k s d)) (sym h.0) (subst (Goes s []) (sym back) (goes_refl s))))
        | Some l ↦ λ is.
            takes_then (serve_link k (open_link a l)) (λ d log. accept (with_slot_link k s d) log) (Serves k J kept (open_link a l)) (Goes s) (serves k J kept (open_link a l))
            (λ part d h. takes_nothing (with_slot_link k s d) (λ more t. Goes s (part ++ more) t)
            (goes_trans s part (with_slot_link k s d) [] (with_slot_link k s d)
            (λ g at. put_own (fold (note_happening k) g part) s l d is (h g (subst (λ o. InSlot J g a o) is at)))
            (goes_refl (with_slot_link k s d))))
      ] refl

  serves_other : (j : ℕ) (s : State) → (j == k) ≡ false → Takes (serve_at j s) (Goes s)
  serves_other j s other =
      let a = (slot_link_at j s).environment in
      elim (slot_at j s).link as (λ o. (slot_at j s).link ≡ o → Takes (λ log. parse_then (serve_open j a o log) (λ d log. accept (with_slot_link j s d) log)) (Goes s)) [
        | None ↦ λ is.
            takes_then (λ log. accept (link_in_slot a None) log) (λ d log. accept (with_slot_link j s d) log) (λ part d. (part ≡ []) × (d ≡ link_in_slot a None)) (Goes s) (takes_nothing (link_in_slot a None) (λ part d. (part ≡ []) × (d ≡ link_in_slot a None)) (refl, refl))
            (λ part d h. takes_nothing (with_slot_link j s d) (λ more t. Goes s (part ++ more) t)
            (let back : with_slot_link j s d ≡ s = ap (with_slot_link j s) (h.1 ∙ ap (link_in_slot a) (sym is)) ∙ same_door j s in
            subst (λ l. Goes s (l ++ []) (with_slot_link j s d)) (sym h.0) (subst (Goes s []) (sym back) (goes_refl s))))
        | Some l ↦ λ is.
            takes_then (serve_link j (open_link a l)) (λ d log. accept (with_slot_link j s d) log) (ServesOther j (open_link a l)) (Goes s) (serves_another j (open_link a l))
            (λ part d h. takes_nothing (with_slot_link j s d) (λ more t. Goes s (part ++ more) t)
            (goes_trans s part (with_slot_link j s d) [] (with_slot_link j s d)
            (λ g at. subst (λ f. AtState f (with_slot_link j s d)) (sym (h.others k other g))
            (put_other g j s d other h.devices (own_of_others s.waiting d.environment.waiting j k other h.waits) at))
            (goes_refl (with_slot_link j s d))))
      ] refl

  serves_at : (j : ℕ) (s : State) → Takes (serve_at j s) (Goes s)
  serves_at j s =
      elim (j == k) as (λ t. (j == k) ≡ t → Takes (serve_at j s) (Goes s)) [
        | true ↦ λ e. subst (λ n. Takes (serve_at n s) (Goes s)) (sym (eqb-true j k e)) (serves_own s)
        | false ↦ λ e. serves_other j s e
      ] refl

  serves_from : (n j : ℕ) (s : State) → Takes (serve_from n j s) (Goes s)
  unfolding serve_from
  serves_from zero j s = takes_nothing s (Goes s) (goes_refl s)
  serves_from (suc n) j s = takes_chain (serve_at j) (serve_from n (j + 1)) Goes Goes Goes goes_trans (serves_at j) (serves_from n (j + 1)) s

  -- Events

  told_own : (e : Event) (g : LinkHistory) (p : OpenLink) → IfGoesOn J g p → IfGoesOn J g (tell_link k e p)
  told_own e g p h =
      elim (selects (mask_of p.link e.device) e.kind) as (λ t. selects (mask_of p.link e.device) e.kind ≡ t → IfGoesOn J g (cond t (tell_selected k e p) p)) [
        | true ↦ λ selected. elim (nat_le (length p.link.pending + 20) event_limit) as (λ t. IfGoesOn J g (cond t (say p (event_bytes p.link.order e p.link.sequence)) (drop_link k why.Overrun p))) [
          | true ↦ λ open'. kept.tells g p e selected (h open')
          | false ↦ λ open'. absurd (none_some (sym open'))
        ]
        | false ↦ λ not. h
      ] refl

  -- another link is told of an event, or dropped
  record TellsOther (j : ℕ) (p q : OpenLink) : Type 0 where
    devices : q.environment.devices ≡ p.environment.devices
    waiting : SameOthers j p.environment.waiting q.environment.waiting

  told_other : (j : ℕ) (e : Event) (p : OpenLink) → TellsOther j p (tell_link j e p)
  told_other j e p =
      elim (selects (mask_of p.link e.device) e.kind) as (λ t. TellsOther j p (cond t (tell_selected j e p) p)) [
        | true ↦ elim (nat_le (length p.link.pending + 20) event_limit) as (λ t. TellsOther j p (cond t (say p (event_bytes p.link.order e p.link.sequence)) (drop_link j why.Overrun p))) [
          | true ↦ record { devices = refl; waiting = refl }
          | false ↦ record { devices = refl; waiting = own_left p.environment.waiting j }
        ]
        | false ↦ record { devices = refl; waiting = refl }
      ]

  tells_own : (e : Event) (s : State) → Goes s [] (tell_at k e s)
  tells_own e s =
      let a = (slot_link_at k s).environment in
      elim (slot_at k s).link as (λ o. (slot_at k s).link ≡ o → Goes s [] (with_slot_link k s (tell_open k e a o))) [
        | None ↦ λ is. subst (Goes s []) (sym (ap (λ o. with_slot_link k s (link_in_slot a o)) (sym is) ∙ same_door k s)) (goes_refl s)
        | Some l ↦ λ is g at. put_own g s l (enter (tell_link k e (open_link a l))) is (told_own e g (open_link a l) (subst (λ o. InSlot J g a o) is at))
      ] refl

  tells_other : (j : ℕ) (e : Event) (s : State) → (j == k) ≡ false → Goes s [] (tell_at j e s)
  tells_other j e s other =
      let a = (slot_link_at j s).environment in
      elim (slot_at j s).link as (λ o. (slot_at j s).link ≡ o → Goes s [] (with_slot_link j s (tell_open j e a o))) [
        | None ↦ λ is. subst (Goes s []) (sym (ap (λ o. with_slot_link j s (link_in_slot a o)) (sym is) ∙ same_door j s)) (goes_refl s)
        | Some l ↦ λ is g at.
            let q = tell_link j e (open_link a l) in
            let t = told_other j e (open_link a l) in
            put_other g j s (enter q) other (subst (AllAlike s.devices) (sym t.devices) (all_alike_refl s.devices)) (own_of_others s.waiting q.environment.waiting j k other t.waiting) at
      ] refl

  tells_at : (j : ℕ) (e : Event) (s : State) → Goes s [] (tell_at j e s)
  tells_at j e s =
      elim (j == k) as (λ t. (j == k) ≡ t → Goes s [] (tell_at j e s)) [
        | true ↦ λ i. subst (λ n. Goes s [] (tell_at n e s)) (sym (eqb-true j k i)) (tells_own e s)
        | false ↦ λ i. tells_other j e s i
      ] refl

  tells_from : (n j : ℕ) (e : Event) (s : State) → Goes s [] (tell_from n j e s)
  tells_from zero j e s = goes_refl s
  tells_from (suc n) j e s = goes_trans s [] (tell_at j e s) [] (tell_from n (j + 1) e (tell_at j e s)) (tells_at j e s) (tells_from n (j + 1) e (tell_at j e s))

  -- a line becomes another
  line_goes : (f : Phone → Phone) (d : ℕ) (s : State) → Goes s [] (record s { devices = with_device d (λ device. record device { line = option_map f device.line }) s.devices })
  line_goes f d s g at =
      devices_change g s (with_device d (λ device. record device { line = option_map f device.line }) s.devices)
      (alike_with d (λ device. record device { line = option_map f device.line }) s.devices (λ x there. record { later = later_line f x; now = refl; rate = refl; channels = refl; begin = refl; captured = refl })) at

  becomes_goes : (f : Phone → Phone) (kind : EventKind) (value d : ℕ) (device : DeviceState) (s : State) → Goes s [] (line_becomes f kind value d device s)
  unfolding tell
  becomes_goes f kind value d device s =
      let t : State = record s { devices = with_device d (λ device. record device { line = option_map f device.line }) s.devices } in
      goes_trans s [] t [] (tell_from (length s.slots) 0 (event_at kind d device value) t) (line_goes f d s) (tells_from (length s.slots) 0 (event_at kind d device value) t)

  -- Hooks

  hook_goes : (d : ℕ) (wanted off done : Bool) (device : DeviceState) (s : State) → Goes s (Hooked d wanted done ∷ []) (cond done (after_hook off d device s) (after_hook_failure d s))
  hook_goes d wanted off true device s = becomes_goes (line_after_hook true) kind.Hook (flag_value off) d device s
  hook_goes d wanted off false device s = line_goes (line_after_hook false) d s

  hooks_at : (d : ℕ) (o : Option DeviceState) (s : State) → Takes (hook_at d o s) (Goes s)
  hooks_at d None s = takes_nothing s (Goes s) (goes_refl s)
  hooks_at d (Some device) s = hook_takes d device s (Goes s) (goes_refl s) (λ wanted off done. hook_goes d wanted off done device s)

  hooks_from : (n d : ℕ) (s : State) → Takes (hook_from n d s) (Goes s)
  unfolding hook_from
  hooks_from zero d s = takes_nothing s (Goes s) (goes_refl s)
  hooks_from (suc n) d s = takes_chain (λ s log. hook_at d (slice_get s.devices d) s log) (hook_from n (d + 1)) Goes Goes Goes goes_trans (λ s. hooks_at d (slice_get s.devices d) s) (hooks_from n (d + 1)) s

  after_wake : (s : State) → Takes (serve_and_hook s) (Goes s)
  after_wake s = takes_chain serve_all hook_all Goes Goes Goes goes_trans (λ s. serves_from (length s.slots) 0 s) (λ s. hooks_from (length s.devices) 0 s) s

  -- Completions

  stays_open : (deferred : Deferred) (device : DeviceState) (p : OpenLink) → (answer_deferred deferred device p).link.closing ≡ p.link.closing
  stays_open (deferred_play quiet start sound preempt) device p = elim quiet as (λ b. (tell_played b device p).link.closing ≡ p.link.closing) [ true ↦ refl | false ↦ refl ]
  stays_open (deferred_record c start frames) device p = refl

  completes_own : (passes : Deferral → Bool) (s : State) (d : ℕ) (deferred : Deferred) (device : DeviceState) → find passes s.waiting ≡ Some (record { link = k; device = d; deferred = deferred }) → slice_get s.devices d ≡ Some device →
      Goes s [] (complete (record { link = k; device = d; deferred = deferred }) (record s { waiting = without_first passes s.waiting }))
  completes_own passes s d deferred device found there =
      let w : Deferral = record { link = k; device = d; deferred = deferred } in
      let fewer : State = record s { waiting = without_first passes s.waiting } in
      let a = (slot_link_at k fewer).environment in
      elim (slot_at k s).link as (λ o. (slot_at k s).link ≡ o → Goes s [] (with_slot_link k fewer (complete_at w a o))) [
        | None ↦ λ is g at.
            let back : with_slot_link k fewer (link_in_slot a None) ≡ fewer = ap (λ o. with_slot_link k fewer (link_in_slot a o)) (sym is) ∙ same_door k fewer in
            subst (λ t. AtState g t) (sym back) (subst (λ o. InSlot J g a o) (sym is) tt)
        | Some l ↦ λ is g at.
            let p = open_link (slot_link_at k s).environment l in
            let h : IfGoesOn J g p = subst (λ o. InSlot J g (slot_link_at k s).environment o) is at in
            let q = in_devices d (complete_deferred k deferred) (open_link a l) in
            let done : IfGoesOn J g (complete_for w (slice_get s.devices d) (open_link a l)) =
            subst (λ o. IfGoesOn J g (complete_for w o (open_link a l))) (sym there)
            (advance_lasts k J kept g (answer_deferred deferred device q) (λ open'. kept.completes g p passes w device found refl there (h (sym (stays_open deferred device q) ∙ open')))) in
            put_own g fewer l (enter (complete_for w (slice_get s.devices d) (open_link a l))) is done
      ] refl

  completes_other : (passes : Deferral → Bool) (s : State) (w : Deferral) → (w.link == k) ≡ false → find passes s.waiting ≡ Some w → Goes s [] (complete w (record s { waiting = without_first passes s.waiting }))
  completes_other passes s w other found g at =
      let fewer : State = record s { waiting = without_first passes s.waiting } in
      let a = (slot_link_at w.link fewer).environment in
      let left : AtState g fewer = others_in g (slot_link_at k s).environment (slot_link_at k fewer).environment (slot_at k s).link (all_alike_refl s.devices) (own_first passes s.waiting w k found other) refl at in
      elim (slot_at w.link s).link as (λ o. (slot_at w.link s).link ≡ o → AtState g (with_slot_link w.link fewer (complete_at w a o))) [
        | None ↦ λ is. subst (λ t. AtState g t) (sym (ap (λ o. with_slot_link w.link fewer (link_in_slot a o)) (sym is) ∙ same_door w.link fewer)) left
        | Some l ↦ λ is.
            let p = open_link a l in
            let device = slice_get s.devices w.device in
            let q = complete_for w device p in
            let same : SameOthers w.link fewer.waiting q.environment.waiting =
            complete_keeps w.link (λ closing. Unit {0}) (λ q. SameOthers w.link fewer.waiting q.environment.waiting) (others_keep w.link fewer.waiting) w.device w.deferred device p refl (λ x there h. h) tt refl in
            put_other g w.link fewer (enter q) other (completes_alike w device p) (own_of_others fewer.waiting q.environment.waiting w.link k other same) left
      ] refl

  completes : (passes : Deferral → Bool) (s : State) (w : Deferral) (device : DeviceState) → find passes s.waiting ≡ Some w → slice_get s.devices w.device ≡ Some device → Goes s [] (complete w (record s { waiting = without_first passes s.waiting }))
  completes passes s w device found there =
      elim (w.link == k) as (λ t. (w.link == k) ≡ t → Goes s [] (complete w (record s { waiting = without_first passes s.waiting }))) [
        | true ↦ λ e.
            subst (λ n. find passes s.waiting ≡ Some (record { link = n; device = w.device; deferred = w.deferred }) → Goes s [] (complete (record { link = n; device = w.device; deferred = w.deferred }) (record s { waiting = without_first passes s.waiting })))
            (sym (eqb-true w.link k e)) (λ found. completes_own passes s w.device w.deferred device found there) found
        | false ↦ λ e. completes_other passes s w e found
      ] refl

  abbrev GoesTo : State → Option State → Type 0
  GoesTo s o = IfSome o (λ t. Goes s [] t)

  first_goes : (d : ℕ) (s : State) (device : DeviceState) → slice_get s.devices d ≡ Some device → GoesTo s (complete_first d s device)
  first_goes d s device there =
      elim (find (falls_due d device) s.waiting) as (λ o. find (falls_due d device) s.waiting ≡ o → GoesTo s (option_map (λ w. complete w (record s { waiting = without_first (falls_due d device) s.waiting })) o)) [
        | None ↦ λ found. tt
        | Some w ↦ λ found. completes (falls_due d device) s w device found (subst (λ n. slice_get s.devices n ≡ Some device) (sym (falls_due_there d device s.waiting w found)) there)
      ] refl

  step_goes : (d : ℕ) (s : State) → GoesTo s (complete_step d s)
  step_goes d s = elim (slice_get s.devices d) as (λ o. slice_get s.devices d ≡ o → GoesTo s (option_and_then (complete_first d s) o)) [ None ↦ λ there. tt | Some device ↦ λ there. first_goes d s device there ] refl

  by_goes : (n d : ℕ) (s : State) → Goes s [] (complete_by n d s)
  by_goes zero d s = goes_refl s
  by_goes (suc n) d s =
      elim (complete_step d s) as (λ o. GoesTo s o → Goes s [] (or_else s (complete_by n d) o)) [
        | None ↦ λ h. goes_refl s
        | Some t ↦ λ h. goes_trans s [] t [] (complete_by n d t) h (by_goes n d t)
      ] (step_goes d s)

  due_goes : (d : ℕ) (s : State) → Goes s [] (complete_due d s)
  unfolding complete_due
  due_goes d s = by_goes (length s.waiting) d s

  -- Wakes

  -- what holds of the link, once the sample periods of a turn have gone by
  abbrev pub Begins : LinkHistory → State → Type 0
  Begins g s = AtState g s × ((d n : ℕ) (captured : List ℤ) (is_dead : Bool) → n ≤ longest_tick → AtState g (record s { devices = with_device d (device_after n captured is_dead) s.devices }))

  -- a part from where the sample periods of a turn have not gone by
  abbrev FromBegin : State → Log → State → Type 0
  FromBegin s part t = (g : LinkHistory) → Begins g s → AtState (fold (note_happening k) g part) t

  from_begin : (s : State) (p : Log) (t : State) (q : Log) (u : State) → FromBegin s p t → Goes t q u → FromBegin s (p ++ q) u
  from_begin s p t q u a b g h = subst (λ f. AtState f u) (sym (fold-append (note_happening k) g p q)) (b (fold (note_happening k) g p) (a g h))

  ticks : (d n : ℕ) (captured : List ℤ) (is_dead : Bool) (s : State) → n ≤ longest_tick → (g : LinkHistory) → Begins g s → AtState g (tick d n captured is_dead s)
  ticks d n captured is_dead s few g h = due_goes d (record s { devices = with_device d (device_after n captured is_dead) s.devices }) g (h.1 d n captured is_dead few)

  ticked : (d n : ℕ) (o : Option DeviceState) (s : State) → n ≤ longest_tick → Takes (tick_phase d n o s) (FromBegin s)
  ticked d n None s few = λ log b e. absurd (none_some e)
  ticked d n (Some device) s few =
      elim device.is_dead as (λ t. Takes (λ log. cond t (accept (tick d n (captured_samples device n None) true s) log) (parse_then (parse_one (capture_by d n device) log) (after_capture d n device s))) (FromBegin s)) [
        | true ↦ takes_nothing (tick d n (captured_samples device n None) true s) (FromBegin s) (ticks d n (captured_samples device n None) true s few)
        | false ↦ live_takes d n device s (FromBegin s) (ticks d n (captured_samples device n None) true s few)
            (λ bytes done size. ticks d n (captured_samples device n (Some bytes)) (not done) s few)
      ]

  -- the slot of a number is as it was, if another number's changes
  slot_changes : (j : ℕ) (x : SlotState) (s : State) → (j == k) ≡ false → Goes s [] (with_slot j x s)
  slot_changes j x s other g at = subst (λ y. InState g s.devices s.waiting y) (sym (slot_other s.slots j k x other)) at

  marks : (f : LinkState → LinkState) (j : ℕ) (s : State) → ((g : LinkHistory) (p : OpenLink) → IfGoesOn J g p → IfGoesOn J g (open_link p.environment (f p.link))) → Goes s [] (with_slot j (in_slot f (slot_at j s)) s)
  marks f j s lasts =
      elim (j == k) as (λ t. (j == k) ≡ t → Goes s [] (with_slot j (in_slot f (slot_at j s)) s)) [
        | true ↦ λ e. subst (λ n. Goes s [] (with_slot n (in_slot f (slot_at n s)) s)) (sym (eqb-true j k e)) own
        | false ↦ λ e. slot_changes j (in_slot f (slot_at j s)) s e
      ] refl
    where
      own : Goes s [] (with_slot k (in_slot f (slot_at k s)) s)
      own =
          let a = (slot_link_at k s).environment in
          elim (slot_at k s).link as (λ o. (slot_at k s).link ≡ o → Goes s [] (with_slot_link k s (link_in_slot a (in_open f o)))) [
            | None ↦ λ is. subst (Goes s []) (sym (ap (λ o. with_slot_link k s (link_in_slot a o)) (sym is) ∙ same_door k s)) (goes_refl s)
            | Some l ↦ λ is g at. put_own g s l (link_in_slot a (Some (f l))) is (lasts g (open_link a l) (subst (λ o. InSlot J g a o) is at))
          ] refl

  -- a wake that takes nothing off
  quiet_wake : (w : Wake) (s t : State) → ((g : LinkHistory) → note_happening k g (Woke w) ≡ g) → Goes s [] t → Takes (λ log. accept t log) (λ part u. FromBegin s (Woke w ∷ part) u)
  quiet_wake w s t still goes = takes_nothing t (λ part u. FromBegin s (Woke w ∷ part) u) (λ g h. subst (λ f. AtState f t) (sym (still g)) (goes g h.0))

  lines : (change : LineChange) (d : ℕ) (o : Option DeviceState) (s : State) → Takes (line_phase change d o s) (λ part u. FromBegin s (Woke (Line d change) ∷ part) u)
  lines change d None s = λ log b e. absurd (none_some e)
  lines change d (Some device) s = quiet_wake (Line d change) s (line_changes change d device s) (λ g. refl) (becomes_goes (line_after_change change) (event_kind_of change) (value_of change) d device s)

  woken : (w : Wake) (s : State) (l : LinkState) → (slot_at k s).link ≡ Some l → fits (outline s) w ≡ true → Takes (wake_phase w s) (λ part u. FromBegin s (Woke w ∷ part) u)
  unfolding wake_phase
  woken (Opened j) s l is fit =
      let other : (j == k) ≡ false = elim (j == k) as (λ t. (j == k) ≡ t → t ≡ false) [
        | true ↦ λ e. absurd (none_some (sym (opens_closed s.slots j fit) ∙ ap (λ n. (slot_at n s).link) (eqb-true j k e) ∙ is))
        | false ↦ λ e. refl
      ] refl in
      quiet_wake (Opened j) s (with_slot j (record { link = Some new_link_state; said = [] }) s) (λ g. ap (λ t. cond t no_history g) other) (slot_changes j (record { link = Some new_link_state; said = [] }) s other)
  woken (Readable j) s l is fit = quiet_wake (Readable j) s (with_slot j (in_slot mark_readable (slot_at j s)) s) (λ g. refl) (marks mark_readable j s (λ g p h open'. kept.link g p (mark_readable p.link) refl refl refl refl refl refl (h open')))
  woken (Writable j) s l is fit = quiet_wake (Writable j) s (with_slot j (in_slot mark_writable (slot_at j s)) s) (λ g. refl) (marks mark_writable j s (λ g p h open'. kept.link g p (mark_writable p.link) refl refl refl refl refl refl (h open')))
  woken (Ticked d n) s l is fit = takes_map (tick_phase d n (slice_get s.devices d) s) (FromBegin s) (λ part u. FromBegin s (Woke (Ticked d n) ∷ part) u) (λ part u h. h) (ticked d n (slice_get s.devices d) s (few_frames n (both-true (nat_lt d (length (outline s).lines) && nat_le 1 n) (nat_le n longest_tick) fit).1))
    where
      few_frames : (n : ℕ) → nat_le n longest_tick ≡ true → n ≤ longest_tick
      few_frames n e = grind arith
  woken (Line d change) s l is fit = lines change d (slice_get s.devices d) s
  woken Idle s l is fit = quiet_wake Idle s s (λ g. refl) (goes_refl s)
  woken Stop s l is fit = quiet_wake Stop s s (λ g. refl) (goes_refl s)

  pub lasts_turn : (s : State) (l : LinkState) → (slot_at k s).link ≡ Some l → Takes (turn s) (FromBegin s)
  unfolding turn
  lasts_turn s l is (Woke w ∷ log) b e =
      let i = cond-some (fits (outline s) w) (parse_then (wake_phase w s log) serve_and_hook) b e in
      let all : Takes (λ log. parse_then (wake_phase w s log) serve_and_hook) (λ part u. FromBegin s (Woke w ∷ part) u) =
      takes_then (wake_phase w s) serve_and_hook (λ part t. FromBegin s (Woke w ∷ part) t) (λ part u. FromBegin s (Woke w ∷ part) u) (woken w s l is i.0)
      (λ part t a. takes_map (serve_and_hook t) (Goes t) (λ more u. FromBegin s (Woke w ∷ (part ++ more)) u) (λ more u h. from_begin s (Woke w ∷ part) t more u a h) (after_wake t)) in
      let a = all log b i.1 in
      record {
        part = Woke w ∷ a.part;
        whole = ap (λ l. Woke w ∷ l) a.whole;
        again = λ more. ap (λ t. cond t (parse_then (wake_phase w s (a.part ++ more)) serve_and_hook) None) i.0 ∙ a.again more;
        holds = a.holds;
      }
  lasts_turn s l is log b e = absurd (none_some e)
