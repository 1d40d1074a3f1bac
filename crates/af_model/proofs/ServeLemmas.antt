-- What serving the links makes of a state, and the part of a log that it takes off.
use Rattle.std.proofs.Common.{◌≡◌, ℕ, zero, suc, ◌+◌, ◌==◌, Bool, true, false, not, cond, ◌&&◌, List, [], ◌∷◌, ◌++◌, take, drop, length, is_none, slice_get, slice_set, IfSome, ◌*◌, ◌≤◌, refl, sym, ap, ◌∙◌, subst, eqb-true, arith, length-drop}
use Rattle.std.proofs.lemmas.Bool.{eqb-false}
use Rattle.std.proofs.lemmas.List.{take-append-drop}
use Rattle.std.proofs.lemmas.List.Sums.{fold-append}
use Rattle.std.proofs.lemmas.List.Elements.{All-append, All-cons, All-nil}
use Rattle.std.specs.List.{All, fold}
use Rattle.std.specs.declared.option.Option.{Option}
use Rattle.std.specs.declared.option.Option.TheVariants.{None, Some}
use Rattle.af_limits.specs.Limits.{longest_message, most_pending}
use Rattle.af_world.specs.declared.happening.Happening.{Happening}
use Rattle.af_world.specs.declared.happening.Happening.TheVariants.{Woke, Read, Wrote, Closed, Emitted}
use Rattle.af_world.specs.declared.happening.ReadGot.{ReadGot}
use Rattle.af_world.specs.declared.happening.ReadGot.TheVariants.{Given, NotYet, Ended, Failed}
use Rattle.af_world.specs.declared.happening.Why.TheVariants as why
use Rattle.af_world.specs.Log.{Log}
use Rattle.af_world.specs.Outside.{same_bytes}
use Rattle.af_model.specs.State.{State, DeviceState, SlotState, LinkState, OpenLink, SlotLink, link_in_slot, slot_link_at, open_link, slot_at, some_slot, with_slot_link}
use Rattle.af_model.specs.Waiting.{has_deferral}
use Rattle.af_model.specs.Advance.{advance, absorb, takes_more}
use Rattle.af_model.specs.Tick.{enter}
use Rattle.af_model.specs.Events.{drop_link}
use Rattle.af_model.specs.Turn.{accept, parse_then, wants_read, read_phase, after_read, wants_write, send_pending, write_by, after_bytes_offered, after_bytes_taken, write_phase, after_write, close_phase, serve_link, serve_open, serve_at, serve_from}
use Rattle.af_model.specs.LinkHistory.{LinkHistory, note_happening, note_read, note_write}
use Rattle.af_model.specs.Dead.{fails_device, fails_line}
use Rattle.af_model.specs.Offers.{IsOfferWithin}
use Rattle.af_model.proofs.BoolTestLemmas.{both-true, cond-some, none_some, same_bytes-true, same_number, some_is}
use Rattle.af_model.proofs.ListLemmas.{get-set_other, get-set_same}
use Rattle.af_model.proofs.DeviceHistoryLemmas.{AllLive, Laters, all_live, laters, live_laters}
use Rattle.af_model.proofs.DeadLemmas.{DeadAs, DeadIn, NoneFails, died, died_device, died_line, lives_dead, none_fails-append}
use Rattle.af_model.proofs.AdvancedLemmas.{advanced_after, advanced_closing}
use Rattle.af_model.proofs.LinkInvariantLemmas.{advance_keeps, takes_more_open}
use Rattle.af_model.proofs.PendingLemmas.{IsPending, RoomIn, RoomOf, RoomOfSlot, advance_room, waiters, waiters_same}
use Rattle.af_model.proofs.SafeLemmas.{SafeIn, SafeState}
use Rattle.af_model.proofs.OwedBytesLemmas.{Moved, MovedBy, moved_failed, OwingAt, QueuedSlot, OwingLink, moved_of, queued_closed, queued_ended, queued_given, queued_taken, queueing_keeps, queueing_same, sending_undropped, still_waits, SameOthers}
use Rattle.af_model.proofs.PhasePartLemmas.{Takes, close_takes, read_takes, takes_chain, takes_nothing, takes_then, write_takes}

-- A happening within a turn, after its wake and its emit

abbrev pub is_inner : Happening → Bool
is_inner (Woke wake) = false
is_inner (Emitted d sound done) = false
is_inner _ = true

abbrev pub inner : Log → Bool
inner [] = true
inner (h ∷ log) = is_inner h && inner log

pub inner-append : (p q : Log) → inner p ≡ true → inner q ≡ true → inner (p ++ q) ≡ true
inner-append [] q a b = b
inner-append (h ∷ p) q a b = let both = both-true (is_inner h) (inner p) a in ap (λ t. t && inner (p ++ q)) both.0 ∙ inner-append p q both.1 b

-- One link

-- What serving link j makes of it, its environment and its history. What is queued for it and what its history shows stay so. Of
-- other links nothing is shown, and their deferred requests stay. No device and no line fails. No deferred request is due. No
-- write offers more than may wait to be sent.
pub record Served (j : ℕ) (d : SlotLink) (part : Log) (e : SlotLink) : Type 0 where
  pub inside : inner part ≡ true
  pub alive : NoneFails part
  pub devices : AllLive d.environment.devices e.environment.devices
  pub own : (g : LinkHistory) → QueuedSlot j g d → QueuedSlot j (fold (note_happening j) g part) e
  pub others : (k : ℕ) → (j == k) ≡ false → (g : LinkHistory) → fold (note_happening k) g part ≡ g
  pub waits : SameOthers j d.environment.waiting e.environment.waiting
  pub safe : SafeIn 0 0 d.environment → SafeIn 0 0 e.environment
  pub room : RoomOfSlot j d → RoomOfSlot j e × All IsOfferWithin part

-- nothing happens
served_refl : (j : ℕ) (d : SlotLink) → Served j d [] d
served_refl j d = record {
  inside = refl;
  alive = λ c sofar. (refl, refl);
  devices = all_live.stay d.environment.devices;
  own = λ g h. h;
  others = λ k other g. refl;
  waits = refl;
  safe = λ h. h;
  room = λ h. (h, All-nil IsOfferWithin);
}

served_trans : (j : ℕ) (a : SlotLink) (p : Log) (b : SlotLink) (q : Log) (c : SlotLink) → Served j a p b → Served j b q c → Served j a (p ++ q) c
served_trans j a p b q c s t = record {
  inside = inner-append p q s.inside t.inside;
  alive = none_fails-append p q s.alive t.alive;
  devices = all_live.follow a.environment.devices b.environment.devices c.environment.devices s.devices t.devices;
  own = λ g h. subst (λ x. QueuedSlot j x c) (sym (fold-append (note_happening j) g p q)) (t.own (fold (note_happening j) g p) (s.own g h));
  others = λ k other g. fold-append (note_happening k) g p q ∙ t.others k other (fold (note_happening k) g p) ∙ s.others k other g;
  waits = t.waits ∙ s.waits;
  safe = λ h. t.safe (s.safe h);
  room = λ h. let x = s.room h in let y = t.room x.0 in (y.0, All-append IsOfferWithin p q x.1 y.1);
}

-- what one happening makes of a link and its environment, and of its history
record Happens (k : ℕ) (p : OpenLink) (note : LinkHistory → LinkHistory) (d : SlotLink) : Type 0 where
  devices : AllLive p.environment.devices d.environment.devices
  own : (g : LinkHistory) → QueuedSlot k g (enter p) → QueuedSlot k (note g) d
  waits : SameOthers k p.environment.waiting d.environment.waiting
  safe : SafeIn 0 0 p.environment → SafeIn 0 0 d.environment
  room : RoomOf k p → RoomOfSlot k d

happens_moved : (k : ℕ) (p : OpenLink) (note : LinkHistory → LinkHistory) (q : OpenLink) → MovedBy k note p q → Happens k p note (enter q)
happens_moved k p note q m = record { devices = m.devices; own = λ g h. (m.own g h.0, m.advanced h.1); waits = m.others; safe = m.safe; room = m.room }

served_happening : (k : ℕ) (p : OpenLink) (h : Happening) (note : LinkHistory → LinkHistory) (d : SlotLink) → inner (h ∷ []) ≡ true → NoneFails (h ∷ []) → ((j : ℕ) (g : LinkHistory) → note_happening j g h ≡ cond (k == j) (note g) g) →
    (RoomOf k p → IsOfferWithin h) → Happens k p note d → Served k (enter p) (h ∷ []) d
served_happening k p h note d inside alive noted within r = record {
  inside = inside;
  alive = alive;
  devices = r.devices;
  own = λ g q. subst (λ x. QueuedSlot k x d) (sym (noted k g ∙ ap (λ t. cond t (note g) g) (same_number k))) (r.own g q);
  others = λ j other g. noted j g ∙ ap (λ t. cond t (note g) g) other;
  waits = r.waits;
  safe = r.safe;
  room = λ q. (r.room q, All-cons IsOfferWithin h [] (within q) (All-nil IsOfferWithin));
}

-- Reads

-- more may be taken off a link that is read, and it is not closing
read_more : (k : ℕ) (p : OpenLink) → wants_read (has_deferral p.environment.waiting k) p.link ≡ true → takes_more (has_deferral p.environment.waiting k) p.link ≡ true
read_more k p w = (both-true p.link.is_ready (takes_more (has_deferral p.environment.waiting k) p.link) w).1

read_open : (k : ℕ) (p : OpenLink) → wants_read (has_deferral p.environment.waiting k) p.link ≡ true → p.link.closing ≡ None
read_open k p w = takes_more_open (has_deferral p.environment.waiting k) p.link (read_more k p w)

has_read : (k : ℕ) (p : OpenLink) (got : ReadGot) → wants_read (has_deferral p.environment.waiting k) p.link ≡ true → Happens k p (note_read got) (enter (after_read k got p))
has_read k p (Given bytes) w =
    let none = read_open k p w in
    let q : OpenLink = open_link p.environment (record p.link { rest = p.link.rest ++ bytes }) in
    let m : Moved k q (advance k q) = moved_of k q (advance k q) (advanced_after k q) (advance_room k q) (λ May I kept h. advance_keeps k May I kept q h) in
    let same : absorb k bytes p ≡ advance k q = ap (λ t. cond t (advance k q) p) (ap is_none none) in
    subst (λ x. Happens k p (note_read (Given bytes)) (enter x)) (sym same)
    (record { devices = m.devices; own = λ g h. (m.own (note_read (Given bytes) g) (queued_given k g bytes p none h.0), advanced_after k q); waits = m.others; safe = m.safe; room = λ h. m.room h })
has_read k p NotYet w =
    let none = read_open k p w in
    happens_moved k p (note_read NotYet) (after_read k NotYet p)
    (record { devices = all_live.stay p.environment.devices; own = λ g h. (queueing_keeps k g).link p (after_read k NotYet p).link none none refl refl refl refl h; advanced = λ h. h; others = refl; safe = λ h. h; room = λ h. h })
has_read k p Ended w =
    let ended = after_read k Ended p in
    record {
      devices = all_live.stay p.environment.devices;
      own = λ g h. (queued_ended k g p (read_open k p w) (h.1 (read_more k p w)) h.0, advanced_closing k ended.link ended.environment.waiting why.Ended refl);
      waits = refl;
      safe = λ h. h;
      room = λ h. h;
    }
has_read k p Failed w = happens_moved k p (note_read Failed) (after_read k Failed p) (moved_failed k p)

served_read : (k : ℕ) (p : OpenLink) → Takes (read_phase k p) (λ part q. Served k (enter p) part (enter q))
served_read k p =
    read_takes k p (λ part q. Served k (enter p) part (enter q)) (λ w. served_refl k (enter p)) (λ w got r. served_happening k p (Read k got) (note_read got) (enter (after_read k got p)) refl (λ c sofar. (refl, refl)) (λ j g. refl) (λ h. tt) (has_read k p got w))

-- Writes

-- bytes that are the first of others, and those after them
front_back : (xs ys : List ℕ) → same_bytes xs (take (length xs) ys) ≡ true → ys ≡ xs ++ drop (length xs) ys
front_back xs ys e = sym (take-append-drop (length xs) ys) ∙ ap (λ z. z ++ drop (length xs) ys) (sym (same_bytes-true xs (take (length xs) ys) e))

has_written : (k : ℕ) (p q : OpenLink) (took : Option (List ℕ)) → wants_write p.link ≡ true → after_bytes_taken k took p ≡ Some q → Happens k p (note_write took) (enter q)
has_written k p q None w e = subst (λ x. Happens k p (note_write None) (enter x)) (some_is e) (happens_moved k p (note_write None) (drop_link k why.LinkFault p) (moved_failed k p))
has_written k p q (Some bytes) w e =
    let left : OpenLink = open_link p.environment (send_pending (length bytes) p.link) in
    let m : Moved k left (advance k left) = moved_of k left (advance k left) (advanced_after k left) (advance_room k left) (λ May I kept h. advance_keeps k May I kept left h) in
    let some = (both-true (not (length p.link.pending == 0)) (not p.link.is_stuck) w).0 in
    let t = cond-some (same_bytes bytes (take (length bytes) p.link.pending)) (Some (after_write k bytes p)) q e in
    subst (λ x. Happens k p (note_write (Some bytes)) (enter x)) (some_is t.1) (record {
      devices = m.devices;
      own = λ g h.
          let undropped = sending_undropped k g p.environment.said p.link p.environment.waiting some h.0 in
          (m.own (note_write (Some bytes) g) (queued_taken k g bytes p left.link undropped refl refl refl refl refl (front_back bytes p.link.pending t.0) h.0), advanced_after k left);
      waits = m.others;
      safe = m.safe;
      room = λ h. let fewer = length-drop (length bytes) p.link.pending in m.room (h.0, omega (arith, h.1, fewer));
    })

served_one : (k : ℕ) (p q : OpenLink) (h : Happening) → wants_write p.link ≡ true → write_by k p h ≡ Some q → (part : Log) (r : OpenLink) → Served k (enter q) part (enter r) → Served k (enter p) (h ∷ part) (enter r)
served_one k p q (Wrote j offered took) w e part r s =
    let i = cond-some (j == k) (after_bytes_offered k offered took p) q e in
    let t = cond-some (offered == length p.link.pending) (after_bytes_taken k took p) q i.1 in
    let all : offered ≡ length p.link.pending = eqb-true offered (length p.link.pending) t.0 in
    let own : k ≡ j = sym (eqb-true j k i.0) in
    subst (λ n. Served k (enter p) (Wrote n offered took ∷ part) (enter r)) own
    (served_trans k (enter p) (Wrote k offered took ∷ []) (enter q) part (enter r)
    (served_happening k p (Wrote k offered took) (note_write took) (enter q) refl (λ c sofar. (refl, refl)) (λ j g. refl) (λ h. omega (arith, h.1, all)) (has_written k p q took w t.1)) s)
served_one k p q other w e part r s = absurd (none_some e)

served_write : (k : ℕ) (p : OpenLink) → Takes (write_phase k p) (λ part q. Served k (enter p) part (enter q))
served_write k p log b e =
    write_takes k (λ p part q. Served k (enter p) part (enter q)) (λ p. served_refl k (enter p))
    (λ p q h w e part r s. served_one k p q h w e part r s) log p b e

served_close : (k : ℕ) (p : OpenLink) → Takes (close_phase k p) (λ part d. Served k (enter p) part d)
served_close k p =
    close_takes k p (λ part d. Served k (enter p) part d) (served_refl k (enter p)) (λ cause due.
    let closed : LinkHistory → LinkHistory = λ g. record g { closed = Some cause } in
    served_happening k p (Closed k cause) closed (link_in_slot p.environment None) refl (λ c sofar. (refl, refl)) (λ j g. refl) (λ h. tt)
    (record { devices = all_live.stay p.environment.devices; own = λ g h. queued_closed k g p cause due h.0; waits = refl; safe = λ h. h; room = λ h. (h.0, tt) }))

pub served_link : (k : ℕ) (p : OpenLink) → Takes (serve_link k p) (λ part d. Served k (enter p) part d)
unfolding serve_link
served_link k p =
    takes_chain (read_phase k) (λ p log. parse_then (write_phase k p log) (close_phase k)) (λ p part q. Served k (enter p) part (enter q)) (λ p part d. Served k (enter p) part d) (λ p part d. Served k (enter p) part d)
    (λ p x q y d s t. served_trans k (enter p) x (enter q) y d s t) (served_read k)
    (takes_chain (write_phase k) (close_phase k) (λ p part q. Served k (enter p) part (enter q)) (λ p part d. Served k (enter p) part d) (λ p part d. Served k (enter p) part d)
    (λ p x q y d s t. served_trans k (enter p) x (enter q) y d s t) (served_write k) (served_close k)) p

-- A state

-- What a part of a log makes of a state. Devices become later, and are dead if the part shows it. What is queued for each link,
-- and what its history shows, stay so. No deferred request is due. No write offers more than may wait to be sent.
pub record Goes (s : State) (part : Log) (t : State) : Type 0 where
  pub devices : Laters s.devices t.devices
  pub deaths : (d : ℕ) (x y : Bool) → DeadAs d x y s → DeadAs d (died_device d x part) (died_line d y part) t
  pub queued : (k : ℕ) (g : LinkHistory) → OwingAt k g s → OwingAt k (fold (note_happening k) g part) t
  pub safe : SafeState 0 0 s → SafeState 0 0 t
  pub room : RoomIn s → RoomIn t × All IsOfferWithin part

pub goes_refl : (s : State) → Goes s [] s
goes_refl s = record { devices = laters.stay s.devices; deaths = λ d x y h. h; queued = λ k g h. h; safe = λ h. h; room = λ h. (h, All-nil IsOfferWithin) }

pub goes_trans : (s : State) (p : Log) (t : State) (q : Log) (u : State) → Goes s p t → Goes t q u → Goes s (p ++ q) u
goes_trans s p t q u a b = record {
  devices = laters.follow s.devices t.devices u.devices a.devices b.devices;
  deaths = λ d x y h.
      subst (λ z. DeadAs d z (died_line d y (p ++ q)) u) (sym (fold-append (died (fails_device d)) x p q)) (subst (λ z. DeadAs d (died_device d (died_device d x p) q) z u) (sym (fold-append (died (fails_line d)) y p q))
      (b.deaths d (died_device d x p) (died_line d y p) (a.deaths d x y h)));
  queued = λ k g h. subst (λ x. OwingAt k x u) (sym (fold-append (note_happening k) g p q)) (b.queued k (fold (note_happening k) g p) (a.queued k g h));
  safe = λ h. b.safe (a.safe h);
  room = λ h. let x = a.room h in let y = b.room x.0 in (y.0, All-append IsOfferWithin p q x.1 y.1);
}

-- devices that are dead or alive as before, after a part in which nothing fails
still_dead : (part : Log) (ds es : List DeviceState) → NoneFails part → AllLive ds es → (d : ℕ) (x y : Bool) → DeadIn d x y ds → DeadIn d (died_device d x part) (died_line d y part) es
still_dead part ds es alive l d x y h =
    subst (λ z. DeadIn d z (died_line d y part) es) (sym (alive d x).0) (subst (λ z. DeadIn d x z es) (sym (alive d y).1) (lives_dead d x y ds es l h))

-- the slot of an open link exists, and holds what is written to it
slot_own : (slots : List SlotState) (k : ℕ) (l : LinkState) (x : SlotState) → (some_slot (slice_get slots k)).link ≡ Some l → some_slot (slice_get (slice_set slots k x) k) ≡ x
slot_own slots k l x e =
    elim (slice_get slots k) as (λ o. slice_get slots k ≡ o → (some_slot o).link ≡ Some l → some_slot (slice_get (slice_set slots k x) k) ≡ x) [
      | None ↦ λ there e. absurd (none_some e)
      | Some y ↦ λ there e. ap some_slot (get-set_same slots k y x there)
    ] refl e

pub slot_other : (slots : List SlotState) (j k : ℕ) (x : SlotState) → (j == k) ≡ false → some_slot (slice_get (slice_set slots j x) k) ≡ some_slot (slice_get slots k)
slot_other slots j k x e = ap some_slot (get-set_other slots j k x (λ same. eqb-false j k e (sym same)))

-- a slot is put back as it was
slot_same : (slots : List SlotState) (k : ℕ) → slice_set slots k (some_slot (slice_get slots k)) ≡ slots
slot_same [] k = refl
slot_same (y ∷ slots) zero = refl
slot_same (y ∷ slots) (suc k) = ap (λ l. y ∷ l) (slot_same slots k)

pub same_door : (k : ℕ) (s : State) → with_slot_link k s (slot_link_at k s) ≡ s
same_door k s = ap (λ slots. record s { slots = slots }) (slot_same s.slots k)

-- how much waits to be sent to each link, if another link replaces an open one
put_room : (j : ℕ) (s : State) (l : LinkState) (d : SlotLink) → (slot_at j s).link ≡ Some l → ((k : ℕ) → (j == k) ≡ false → waiters k d.environment.waiting ≡ waiters k s.waiting) → RoomIn s → RoomOfSlot j d → RoomIn (with_slot_link j s d)
put_room j s l d is counts h r =
    let slot : SlotState = record { link = d.link; said = d.environment.said } in
    let ws = d.environment.waiting in (
      r.0,
      λ k. elim (j == k) as (λ t. (j == k) ≡ t → IfSome (slot_at k (with_slot_link j s d)).link (λ l. IsPending k ws l)) [
        | true ↦ λ e.
            subst (λ n. IfSome (slot_at n (with_slot_link j s d)).link (λ l. IsPending n ws l)) (eqb-true j k e) (subst (λ (x : SlotState). IfSome x.link (λ l. IsPending j ws l)) (sym (slot_own s.slots j l slot is)) r.1)
        | false ↦ λ e.
            subst (λ (x : SlotState). IfSome x.link (λ l. IsPending k ws l)) (sym (slot_other s.slots j k slot e))
            (subst (λ n. IfSome (slot_at k s).link (λ l. length l.pending + longest_message * n ≤ most_pending)) (sym (counts k e)) (h.1 k))
      ] refl,
    )

-- another link replaces an open one
pub put_goes : (j : ℕ) (s : State) (l : LinkState) (d : SlotLink) (part : Log) → (slot_at j s).link ≡ Some l → NoneFails part → AllLive s.devices d.environment.devices → ((g : LinkHistory) → OwingAt j g s → QueuedSlot j (fold (note_happening j) g part) d) →
    ((k : ℕ) → (j == k) ≡ false → (g : LinkHistory) → fold (note_happening k) g part ≡ g) → ((k : ℕ) → (j == k) ≡ false → has_deferral d.environment.waiting k ≡ has_deferral s.waiting k) → (SafeState 0 0 s → SafeIn 0 0 d.environment) →
    ((k : ℕ) → (j == k) ≡ false → waiters k d.environment.waiting ≡ waiters k s.waiting) → (RoomOfSlot j (link_in_slot (slot_link_at j s).environment (Some l)) → RoomOfSlot j d × All IsOfferWithin part) → Goes s part (with_slot_link j s d)
put_goes j s l d part is alive devices own others same safe counts room =
    let slot : SlotState = record { link = d.link; said = d.environment.said } in
    record {
      devices = live_laters s.devices d.environment.devices devices;
      deaths = still_dead part s.devices d.environment.devices alive devices;
      queued = λ k g h. elim (j == k) as (λ t. (j == k) ≡ t → OwingAt k (fold (note_happening k) g part) (with_slot_link j s d)) [
        | true ↦ λ e.
            let at : OwingAt j g s = subst (λ n. OwingAt n g s) (sym (eqb-true j k e)) h in
            subst (λ n. OwingAt n (fold (note_happening n) g part) (with_slot_link j s d)) (eqb-true j k e)
            (subst (λ (x : SlotState). OwingLink j (fold (note_happening j) g part) x.said x.link d.environment.waiting) (sym (slot_own s.slots j l slot is)) (own g at))
        | false ↦ λ e.
            subst (λ x. OwingAt k x (with_slot_link j s d)) (sym (others k e g))
            (subst (λ (x : SlotState). OwingLink k g x.said x.link d.environment.waiting) (sym (slot_other s.slots j k slot e))
            (queueing_same k g (slot_at k s).said (slot_at k s).link s.waiting d.environment.waiting (same k e) h))
      ] refl;
      safe = safe;
      room = λ h. let x = room (h.0, subst (λ o. IfSome o (λ m. IsPending j s.waiting m)) is (h.1 j)) in (put_room j s l d is counts h x.0, x.1);
    }

-- the same within a turn
pub record Within (s : State) (part : Log) (t : State) : Type 0 where
  pub inside : inner part ≡ true
  pub goes : Goes s part t

pub within_refl : (s : State) → Within s [] s
within_refl s = record { inside = refl; goes = goes_refl s }

pub within_trans : (s : State) (p : Log) (t : State) (q : Log) (u : State) → Within s p t → Within t q u → Within s (p ++ q) u
within_trans s p t q u a b = record { inside = inner-append p q a.inside b.inside; goes = goes_trans s p t q u a.goes b.goes }

served_at : (k : ℕ) (s : State) → Takes (serve_at k s) (Within s)
served_at k s =
    let a = (slot_link_at k s).environment in
    elim (slot_at k s).link as (λ o. (slot_at k s).link ≡ o → Takes (λ log. parse_then (serve_open k a o log) (λ d log. accept (with_slot_link k s d) log)) (Within s)) [
      | None ↦ λ is.
          takes_then (λ log. accept (link_in_slot a None) log) (λ d log. accept (with_slot_link k s d) log) (λ part d. (part ≡ []) × (d ≡ link_in_slot a None)) (Within s) (takes_nothing (link_in_slot a None) (λ part d. (part ≡ []) × (d ≡ link_in_slot a None)) (refl, refl))
          (λ part d h. takes_nothing (with_slot_link k s d) (λ more t. Within s (part ++ more) t)
          (let back : with_slot_link k s d ≡ s = ap (with_slot_link k s) (h.1 ∙ ap (link_in_slot a) (sym is)) ∙ same_door k s in
          subst (λ l. Within s (l ++ []) (with_slot_link k s d)) (sym h.0) (subst (Within s []) (sym back) (within_refl s))))
      | Some l ↦ λ is.
          takes_then (serve_link k (open_link a l)) (λ d log. accept (with_slot_link k s d) log) (λ part d. Served k (enter (open_link a l)) part d) (Within s) (served_link k (open_link a l))
          (λ part d h. takes_nothing (with_slot_link k s d) (λ more t. Within s (part ++ more) t)
          (within_trans s part (with_slot_link k s d) [] (with_slot_link k s d)
          (record {
            inside = h.inside;
            goes = put_goes k s l d part is h.alive h.devices (λ g queueing. h.own g (subst (λ o. OwingLink k g a.said o s.waiting) is queueing)) h.others (λ j other. still_waits s.waiting d.environment.waiting k j other h.waits) h.safe (λ j other. waiters_same s.waiting d.environment.waiting k j other h.waits) h.room;
          }) (within_refl (with_slot_link k s d))))
    ] refl

pub served_from : (n k : ℕ) (s : State) → Takes (serve_from n k s) (Within s)
unfolding serve_from
served_from zero k s = takes_nothing s (Within s) (within_refl s)
served_from (suc n) k s = takes_chain (serve_at k) (serve_from n (k + 1)) Within Within Within within_trans (served_at k) (served_from n (k + 1)) s
