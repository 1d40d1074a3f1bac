-- How much waits to be sent to a link: at most what there is room for, together with an answer to its deferred request.
use Rattle.std.proofs.Common.{◌≡◌, ℕ, zero, suc, ◌+◌, ◌*◌, ◌==◌, ◌&&◌, ◌≤◌, Bool, true, false, not, cond, List, [], ◌∷◌, ◌++◌, length, find, take, nat_le, is_none, slice_get, refl, sym, ap, ◌∙◌, subst, arith, eqb-true, length-append, IfSome}
use Rattle.std.proofs.lemmas.Bool.{or_parts}
use Rattle.std.proofs.lemmas.List.{length-map}
use Rattle.std.proofs.lemmas.List.Elements.{All-filter, All-push, All-weaker, length_all_zip}
use Rattle.std.specs.List.{All}
use Rattle.std.specs.declared.option.Option.{Option}
use Rattle.std.specs.declared.option.Option.TheVariants.{None, Some}
use Rattle.af_limits.specs.Limits.{most_devices, longest_frame, longest_record, longest_message, perform_limit, event_limit, most_pending}
use Rattle.af_wire.specs.declared.event.Event.{Event}
use Rattle.af_wire.specs.declared.front.Front.{Front}
use Rattle.af_wire.specs.declared.front.Front.TheVariants.{NeedMore, Frame, Malformed}
use Rattle.af_wire.specs.declared.front.SetupFront.{SetupFront}
use Rattle.af_wire.specs.declared.front.SetupFront.TheVariants as front
use Rattle.af_wire.specs.Event.{event_bytes}
use Rattle.af_wire.specs.Front.{frame_front, setup_front}
use Rattle.af_wire.specs.Message.{error}
use Rattle.af_request.specs.Answer.{played, recorded, setup}
use Rattle.af_request.specs.Asked.{Asked}
use Rattle.af_request.specs.Requests.{asked_in}
use Rattle.af_wait.specs.Waits.{without_first}
use Rattle.af_world.specs.declared.happening.Why.{Why}
use Rattle.af_model.specs.State.{Deferral, Deferred, deferred_play, deferred_record, DeviceState, LinkState, OpenLink, SlotLink, State, open_link, say, slot_at, with_device}
use Rattle.af_model.specs.Waiting.{has_deferral}
use Rattle.af_model.specs.Reply.{info_of, infos_of, reply_message}
use Rattle.af_model.specs.Record.{recorded_bytes}
use Rattle.af_model.specs.Play.{in_devices, tell_played}
use Rattle.af_model.specs.Perform.{perform, count_request}
use Rattle.af_model.specs.Advance.{advance, advance_by, advance_step, after_frame, after_front, after_setup, or_else, make_request, takes_more, without_front}
use Rattle.af_model.specs.Tick.{answer_deferred, complete_for, complete_deferred}
use Rattle.af_model.specs.Events.{drop_link, without_waiter}
use Rattle.af_model.proofs.BoolTestLemmas.{both-true, none_some, not_true, same_number, some_is}
use Rattle.af_model.proofs.CompletionLemmas.{found_all}
use Rattle.af_model.proofs.DeviceHistoryLemmas.{Requested, zip_back, zip_with}
use Rattle.af_model.proofs.DueLemmas.{IsToWait, answer_size, most_asked}
use Rattle.af_model.proofs.FrameSizeLemmas.{frame_asks}
use Rattle.af_model.proofs.ReplySizeLemmas.{error_short, event_size, recorded_size, reply_short}
use Rattle.af_model.proofs.RequestLemmas.{done_both}
use Rattle.af_model.proofs.SafeLemmas.{all_without_first}

-- The deferred requests

-- how many deferred requests a link has
abbrev pub waiters : ℕ → List Deferral → ℕ
waiters k [] = 0
waiters k (w ∷ ws) = cond (w.link == k) (suc (waiters k ws)) (waiters k ws)

waiters_none : (ws : List Deferral) (k : ℕ) → has_deferral ws k ≡ false → waiters k ws ≡ 0
waiters_none [] k e = refl
waiters_none (w ∷ ws) k e =
    let i = or_parts (w.link == k) (has_deferral ws k) e in
    ap (λ t. cond t (suc (waiters k ws)) (waiters k ws)) i.0 ∙ waiters_none ws k i.1

-- one is deferred
waiters_wait : (ws : List Deferral) (w : Deferral) (j : ℕ) → waiters j (ws ++ w ∷ []) ≡ cond (w.link == j) 1 0 + waiters j ws
waiters_wait [] w j = elim (w.link == j) as (λ t. cond t 1 0 ≡ cond t 1 0 + 0) [ true ↦ refl | false ↦ refl ]
waiters_wait (v ∷ ws) w j =
    let e = waiters_wait ws w j in
    elim (v.link == j) as (λ t. cond t (suc (waiters j (ws ++ w ∷ []))) (waiters j (ws ++ w ∷ [])) ≡ cond (w.link == j) 1 0 + cond t (suc (waiters j ws)) (waiters j ws)) [
      | true ↦ omega (arith, e)
      | false ↦ e
    ]

-- one leaves
waiters_left : (passes : Deferral → Bool) (ws : List Deferral) (w : Deferral) (j : ℕ) → find passes ws ≡ Some w → cond (w.link == j) 1 0 + waiters j (without_first passes ws) ≡ waiters j ws
waiters_left passes [] w j e = absurd (none_some e)
waiters_left passes (v ∷ ws) w j e =
    elim (passes v) as (λ t. cond t (Some v) (find passes ws) ≡ Some w → cond (w.link == j) 1 0 + waiters j (cond t ws (v ∷ without_first passes ws)) ≡ cond (v.link == j) (suc (waiters j ws)) (waiters j ws)) [
      | true ↦ λ e.
          subst (λ (u : Deferral). cond (u.link == j) 1 0 + waiters j ws ≡ cond (v.link == j) (suc (waiters j ws)) (waiters j ws)) (some_is e)
          (elim (v.link == j) as (λ t. cond t 1 0 + waiters j ws ≡ cond t (suc (waiters j ws)) (waiters j ws)) [ true ↦ omega arith | false ↦ omega arith ])
      | false ↦ λ e.
          let i = waiters_left passes ws w j e in
          elim (v.link == j) as (λ t. cond (w.link == j) 1 0 + cond t (suc (waiters j (without_first passes ws))) (waiters j (without_first passes ws)) ≡ cond t (suc (waiters j ws)) (waiters j ws)) [
            | true ↦ omega (arith, i)
            | false ↦ i
          ]
    ] e

pub waiters_left_other : (passes : Deferral → Bool) (ws : List Deferral) (w : Deferral) (j : ℕ) → find passes ws ≡ Some w → (w.link == j) ≡ false → waiters j (without_first passes ws) ≡ waiters j ws
waiters_left_other passes ws w j found other = let none : cond {A = ℕ} (w.link == j) 1 0 ≡ 0 = ap (λ t. cond {A = ℕ} t 1 0) other in omega (arith, none, waiters_left passes ws w j found)

-- a link leaves
waiters_fewer : (ws : List Deferral) (k j : ℕ) → waiters j (without_waiter k ws) ≤ waiters j ws
waiters_fewer [] k j = omega arith
waiters_fewer (w ∷ ws) k j =
    let le = waiters_fewer ws k j in
    elim (w.link == k) as (λ t. waiters j (cond (not t) (w ∷ without_waiter k ws) (without_waiter k ws)) ≤ cond (w.link == j) (suc (waiters j ws)) (waiters j ws)) [
      | true ↦ elim (w.link == j) as (λ t. waiters j (without_waiter k ws) ≤ cond t (suc (waiters j ws)) (waiters j ws)) [ true ↦ omega (arith, le) | false ↦ le ]
      | false ↦ elim (w.link == j) as (λ t. cond t (suc (waiters j (without_waiter k ws))) (waiters j (without_waiter k ws)) ≤ cond t (suc (waiters j ws)) (waiters j ws)) [ true ↦ omega (arith, le) | false ↦ le ]
    ]

waiters_other : (ws : List Deferral) (k j : ℕ) → (k == j) ≡ false → waiters j (without_waiter k ws) ≡ waiters j ws
waiters_other [] k j other = refl
waiters_other (w ∷ ws) k j other =
    elim (w.link == k) as (λ t. (w.link == k) ≡ t → waiters j (cond (not t) (w ∷ without_waiter k ws) (without_waiter k ws)) ≡ cond (w.link == j) (suc (waiters j ws)) (waiters j ws)) [
      | true ↦ λ e.
          let apart : (w.link == j) ≡ false = ap (λ n. n == j) (eqb-true w.link k e) ∙ other in
          waiters_other ws k j other ∙ sym (ap (λ t. cond t (suc (waiters j ws)) (waiters j ws)) apart)
      | false ↦ λ e. ap (λ n. cond (w.link == j) (suc n) n) (waiters_other ws k j other)
    ] refl

-- if the deferred requests of others stay, each of them has as many
pub waiters_same : (ws vs : List Deferral) (k j : ℕ) → (k == j) ≡ false → without_waiter k vs ≡ without_waiter k ws → waiters j vs ≡ waiters j ws
waiters_same ws vs k j other same = sym (waiters_other vs k j other) ∙ ap (waiters j) same ∙ waiters_other ws k j other

-- The environment

-- the answer of a deferred request has at most as many bytes as one of a record may have
abbrev pub AnsweredIn : List DeviceState → Deferral → Type 0
AnsweredIn devices w = (device : DeviceState) → slice_get devices w.device ≡ Some device → answer_size device.channels w.deferred ≤ longest_record

-- at most eight devices; and each link has at most one deferred request
pub record HasRoom (ds : List DeviceState) (ws : List Deferral) : Type 0 where
  pub few : length ds ≤ most_devices
  pub answered : All (λ w. AnsweredIn ds w) ws
  pub once : (j : ℕ) → waiters j ws ≤ 1

-- what waits to be sent to a link, with the longest answer for each of its deferred requests, is at most what may wait
abbrev pub IsPending : ℕ → List Deferral → LinkState → Type 0
IsPending k ws l = length l.pending + longest_message * waiters k ws ≤ most_pending

abbrev pub RoomOf : ℕ → OpenLink → Type 0
RoomOf k p = HasRoom p.environment.devices p.environment.waiting × IsPending k p.environment.waiting p.link

-- the same for a number whose link may be closed, and for all numbers
abbrev pub RoomOfSlot : ℕ → SlotLink → Type 0
RoomOfSlot k d = HasRoom d.environment.devices d.environment.waiting × IfSome d.link (λ l. IsPending k d.environment.waiting l)

abbrev pub RoomIn : State → Type 0
RoomIn s = HasRoom s.devices s.waiting × ((k : ℕ) → IfSome (slot_at k s).link (λ l. IsPending k s.waiting l))

-- devices change, and none its channels
abbrev SameChannels : DeviceState → DeviceState → Type 0
SameChannels d e = e.channels ≡ d.channels

pub room_with : (d : ℕ) (f : DeviceState → DeviceState) (ds : List DeviceState) (ws : List Deferral) → ((x : DeviceState) → slice_get ds d ≡ Some x → (f x).channels ≡ x.channels) → HasRoom ds ws → HasRoom (with_device d f ds) ws
room_with d f ds ws same h =
    let all = zip_with SameChannels (λ x. refl) d f ds same in
    record {
      few = subst (λ n. n ≤ most_devices) (length_all_zip SameChannels ds (with_device d f ds) all) h.few;
      answered = All-weaker (λ w. AnsweredIn ds w) (λ w. AnsweredIn (with_device d f ds) w) (λ w one e there.
          let got = zip_back SameChannels ds (with_device d f ds) w.device e all there in
          subst (λ n. answer_size n w.deferred ≤ longest_record) (sym got.2) (one got.0 got.1)) ws h.answered;
      once = h.once;
    }

-- a device that a request changes
room_requested : (k d : ℕ) (f : DeviceState → DeviceState) (ds : List DeviceState) (ws : List Deferral) (device : DeviceState) → slice_get ds d ≡ Some device → Requested k device (f device) → HasRoom ds ws → HasRoom (with_device d f ds) ws
room_requested k d f ds ws device there l h = room_with d f ds ws (λ x is. subst (λ y. (f y).channels ≡ y.channels) (some_is (sym there ∙ is)) l.lives.channels) h

-- a request leaves
room_left : (passes : Deferral → Bool) (ds : List DeviceState) (ws : List Deferral) (w : Deferral) → find passes ws ≡ Some w → HasRoom ds ws → HasRoom ds (without_first passes ws)
room_left passes ds ws w found h = record { few = h.few; answered = all_without_first (λ v. AnsweredIn ds v) passes ws h.answered; once = λ j. omega (arith, h.once j, waiters_left passes ws w j found) }

-- and the bound on what waits to be sent holds on, for its link and for any other
pub pending_left : (passes : Deferral → Bool) (ws : List Deferral) (w : Deferral) (k : ℕ) (l : LinkState) → find passes ws ≡ Some w → IsPending k ws l → IsPending k (without_first passes ws) l
pending_left passes ws w k l found h = omega (arith, h, waiters_left passes ws w k found)

pub room_found : (passes : Deferral → Bool) (s : State) (w : Deferral) → find passes s.waiting ≡ Some w → RoomIn s → RoomIn (record s { waiting = without_first passes s.waiting })
room_found passes s w found h = (
  room_left passes s.devices s.waiting w found h.0,
  λ k. elim (slot_at k s).link as (λ o. IfSome o (λ l. IsPending k s.waiting l) → IfSome o (λ l. IsPending k (without_first passes s.waiting) l)) [
    | None ↦ λ i. tt
    | Some l ↦ λ i. pending_left passes s.waiting w k l found i
  ] (h.1 k),
)

-- a link leaves
pub room_dropped : (k : ℕ) (cause : Why) (p : OpenLink) → RoomOf k p → RoomOf k (drop_link k cause p)
room_dropped k cause p h =
    let ws = p.environment.waiting in
    let once : (j : ℕ) → waiters j (without_waiter k ws) ≤ 1 = λ j. omega (arith, h.0.once j, waiters_fewer ws k j) in (
      record { few = h.0.few; answered = All-filter (λ w. not (w.link == k)) (λ v. AnsweredIn p.environment.devices v) ws h.0.answered; once = once },
      omega (arith, once k),
    )

-- Requests

-- a link without a deferred request is answered, or its request is deferred
pends_more : (pending bytes : List ℕ) (waits : ℕ) → waits ≡ 0 → length pending ≤ perform_limit → length bytes ≤ longest_message → length (pending ++ bytes) + longest_message * waits ≤ most_pending
pends_more pending bytes waits none low few = omega (arith, none, low, few, length-append pending bytes)

room_waits : (k d : ℕ) (deferred : Deferred) (ds : List DeviceState) (ws : List Deferral) (device : DeviceState) → slice_get ds d ≡ Some device → IsToWait longest_frame device deferred → waiters k ws ≡ 0 → HasRoom ds ws →
    HasRoom ds (ws ++ record { link = k; device = d; deferred = deferred } ∷ [])
room_waits k d deferred ds ws device there w none h =
    let own : Deferral = record { link = k; device = d; deferred = deferred } in
    record {
      few = h.few;
      answered = All-push (λ v. AnsweredIn ds v) ws own h.answered (λ x is. subst (λ (y : DeviceState). answer_size y.channels deferred ≤ longest_record) (some_is (sym there ∙ is)) w.answered);
      once = λ j. subst (λ n. n ≤ 1) (sym (waiters_wait ws own j)) (elim (k == j) as (λ t. (k == j) ≡ t → cond t 1 0 + waiters j ws ≤ 1) [
        | true ↦ λ e. let zero_of : waiters j ws ≡ 0 = subst (λ n. waiters n ws ≡ 0) (eqb-true k j e) none in omega (arith, zero_of)
        | false ↦ λ e. let most = h.once j in omega (arith, most)
      ] refl);
    }

pends_waiting : (k d n : ℕ) (deferred : Deferred) (ws : List Deferral) → waiters k ws ≡ 0 → n ≤ perform_limit → n + longest_message * waiters k (ws ++ record { link = k; device = d; deferred = deferred } ∷ []) ≤ most_pending
pends_waiting k d n deferred ws none low =
    let own : Deferral = record { link = k; device = d; deferred = deferred } in
    let one : waiters k (ws ++ own ∷ []) ≡ 1 = waiters_wait ws own k ∙ ap (λ t. cond t 1 0 + waiters k ws) (same_number k) ∙ ap (λ m. 1 + m) none in
    omega (arith, one, low)

request_room : (k : ℕ) (request : Asked) (p : OpenLink) → most_asked request ≤ longest_frame → has_deferral p.environment.waiting k ≡ false → length p.link.pending ≤ perform_limit → RoomOf k p → RoomOf k (perform k request p)
request_room k request p short idle low h =
    let q = open_link p.environment (count_request p.link) in
    let ds = p.environment.devices in
    let ws = p.environment.waiting in
    let none = waiters_none ws k idle in
    done_both k q q.link.rest longest_frame (λ u v. RoomOf k u) h
    (λ contexts selections bytes few. (h.0, pends_more p.link.pending bytes (waiters k ws) none low few))
    (λ d device f there l. (room_requested k d f ds ws device there l h.0, h.1))
    (λ d device f bytes few there l. (room_requested k d f ds ws device there l h.0, pends_more p.link.pending bytes (waiters k ws) none low few))
    (λ d device deferred there w. (room_waits k d deferred ds ws device there w none h.0, pends_waiting k d (length p.link.pending) deferred ws none low)) request short

-- The front of a link's input

module _ (k : ℕ) (p : OpenLink) (idle : has_deferral p.environment.waiting k ≡ false) (low : length p.link.pending ≤ perform_limit) (h : RoomOf k p) where
  asked_room : (o : Option Asked) (n : ℕ) → asked_in p.link.order (take n p.link.rest) ≡ o → frame_front p.link.order p.link.rest ≡ Frame n → RoomOf k (make_request k o (open_link p.environment (without_front n p.link)))
  asked_room None n asked e = h
  asked_room (Some request) n asked e = request_room k request (open_link p.environment (without_front n p.link)) (frame_asks p.link.order p.link.rest n request e asked) idle low h

  frame_room : (f : Front) → frame_front p.link.order p.link.rest ≡ f → IfSome (after_frame k f p) (λ q. RoomOf k q)
  frame_room NeedMore e = tt
  frame_room Malformed e = h
  frame_room (Frame n) e = asked_room (asked_in p.link.order (take n p.link.rest)) n refl e

  setup_room : (f : SetupFront) → IfSome (after_setup f p) (λ q. RoomOf k q)
  setup_room front.NeedMore = tt
  setup_room (front.Setup order) =
      let answer = setup (infos_of p.environment.devices) in
      let few : length (infos_of p.environment.devices) ≤ most_devices = omega (arith, h.0.few, length-map p.environment.devices info_of) in
      (h.0, pends_more p.link.pending (reply_message order 0 answer 0) (waiters k p.environment.waiting) (waiters_none p.environment.waiting k idle) low (reply_short order 0 answer 0 few))
  setup_room (front.BadSetup order value) =
      (h.0, pends_more p.link.pending (error order 1 value 0 0) (waiters k p.environment.waiting) (waiters_none p.environment.waiting k idle) low (error_short order 1 value 0 0))

  front_room : IfSome (after_front k p) (λ q. RoomOf k q)
  front_room = elim p.link.is_set_up as (λ t. IfSome (cond t (after_frame k (frame_front p.link.order p.link.rest) p) (after_setup (setup_front p.link.rest) p)) (λ q. RoomOf k q)) [
    | true ↦ frame_room (frame_front p.link.order p.link.rest) refl
    | false ↦ setup_room (setup_front p.link.rest)
  ]

low_of : (n : ℕ) → nat_le n perform_limit ≡ true → n ≤ perform_limit
low_of n e = grind arith

step_room : (k : ℕ) (p : OpenLink) → RoomOf k p → IfSome (advance_step k p) (λ q. RoomOf k q)
step_room k p h =
    let waits = has_deferral p.environment.waiting k in
    let room = nat_le (length p.link.pending) perform_limit in
    elim (takes_more waits p.link) as (λ t. takes_more waits p.link ≡ t → IfSome (cond t (after_front k p) None) (λ q. RoomOf k q)) [
      | true ↦ λ more.
          let a = both-true (not waits) (is_none p.link.closing && room) more in
          front_room k p (not_true waits a.0) (low_of (length p.link.pending) (both-true (is_none p.link.closing) room a.1).1) h
      | false ↦ λ more. tt
    ] refl

by_room : (n k : ℕ) (p : OpenLink) → RoomOf k p → RoomOf k (advance_by n k p)
by_room zero k p h = h
by_room (suc n) k p h =
    elim (advance_step k p) as (λ o. IfSome o (λ q. RoomOf k q) → RoomOf k (or_else p (advance_by n k) o)) [ None ↦ λ s. h | Some q ↦ λ s. by_room n k q s ] (step_room k p h)

pub advance_room : (k : ℕ) (p : OpenLink) → RoomOf k p → RoomOf k (advance k p)
unfolding advance
advance_room k p h = by_room (length p.link.rest) k p h

-- Completions

-- a link with one deferred request less is answered
answers_more : (pending bytes : List ℕ) (waits : ℕ) → length pending + longest_message * suc waits ≤ most_pending → length bytes ≤ longest_message → length (pending ++ bytes) + longest_message * waits ≤ most_pending
answers_more pending bytes waits h few = omega (arith, h, few, length-append pending bytes)

answer_room : (k : ℕ) (deferred : Deferred) (device : DeviceState) (p : OpenLink) → answer_size device.channels deferred ≤ longest_record → HasRoom p.environment.devices p.environment.waiting →
    length p.link.pending + longest_message * suc (waiters k p.environment.waiting) ≤ most_pending → RoomOf k (answer_deferred deferred device p)
answer_room k (deferred_play quiet start sound preempt) device p short room h =
    elim quiet as (λ t. RoomOf k (tell_played t device p)) [
      | true ↦ (room, omega (arith, h))
      | false ↦ (room, answers_more p.link.pending _ (waiters k p.environment.waiting) h (reply_short p.link.order 6 (played _) p.link.sequence tt))
    ]
answer_room k (deferred_record c start frames) device p short room h =
    (room, answers_more p.link.pending _ (waiters k p.environment.waiting) h (reply_short p.link.order 7 (recorded _ (recorded_bytes c device start frames)) p.link.sequence (omega (arith, short, recorded_size c device start frames))))

pub room_complete : (passes : Deferral → Bool) (ds : List DeviceState) (ws : List Deferral) (said : List ℕ) (l : LinkState) (w : Deferral) (x : DeviceState) → find passes ws ≡ Some w → slice_get ds w.device ≡ Some x → HasRoom ds ws → IsPending w.link ws l →
    RoomOf w.link (complete_for w (slice_get ds w.device) (open_link (record { devices = ds; waiting = without_first passes ws; said = said }) l))
room_complete passes ds ws said l w x found there h pending =
    let k = w.link in
    let fewer = without_first passes ws in
    let p : OpenLink = open_link (record { devices = ds; waiting = fewer; said = said }) l in
    let q = in_devices w.device (complete_deferred k w.deferred) p in
    let room : HasRoom q.environment.devices fewer = room_with w.device (complete_deferred k w.deferred) ds fewer (λ y is. refl) (room_left passes ds ws w found h) in
    let own : cond {A = ℕ} (k == k) 1 0 ≡ 1 = ap (λ t. cond {A = ℕ} t 1 0) (same_number k) in
    let one : suc (waiters k fewer) ≡ waiters k ws = omega (arith, own, waiters_left passes ws w k found) in
    subst (λ o. RoomOf k (complete_for w o p)) (sym there)
    (advance_room k (answer_deferred w.deferred x q)
    (answer_room k w.deferred x q (found_all passes ws w (λ v. AnsweredIn ds v) found h.answered x there) room (subst (λ n. length l.pending + longest_message * n ≤ most_pending) (sym one) pending)))

-- Events

pub room_told : (k : ℕ) (e : Event) (p : OpenLink) → nat_le (length p.link.pending + 20) event_limit ≡ true → RoomOf k p → RoomOf k (say p (event_bytes p.link.order e p.link.sequence))
room_told k e p fits h =
    let bytes = event_bytes p.link.order e p.link.sequence in
    (h.0, omega (arith, within (length p.link.pending) fits, h.0.once k, length-append p.link.pending bytes, event_size p.link.order e p.link.sequence))
  where
    within : (n : ℕ) → nat_le (n + 20) event_limit ≡ true → n + 20 ≤ event_limit
    within n e = grind arith
