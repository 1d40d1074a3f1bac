-- What is sent is what is read.
use Rattle.std.proofs.Common.{◌≡◌, ◌≤◌, ℕ, Bool, true, false, List, [], ◌∷◌, ◌++◌, length, take, drop, is_none, refl, sym, ap, ◌∙◌, subst, append_assoc, IfSome}
use Rattle.std.proofs.lemmas.List.{take-append-le, drop-append-le, take-append-drop}
use Rattle.std.proofs.lemmas.List.Elements.{All-head, All-tail}
use Rattle.std.proofs.Math.Seq.{take-append_seam, drop-append_seam}
use Rattle.std.specs.List.{All}
use Rattle.std.specs.declared.option.Option.{Option}
use Rattle.std.specs.declared.option.Option.TheVariants.{None, Some}
use Rattle.af_wire.specs.declared.order.Order.{Order}
use Rattle.af_wire.specs.declared.order.Order.TheVariants.{Big, Little}
use Rattle.af_wire.specs.declared.front.Front.{Front}
use Rattle.af_wire.specs.declared.front.Front.TheVariants.{NeedMore, Frame, Malformed}
use Rattle.af_wire.specs.declared.front.SetupFront.TheVariants as setup
use Rattle.af_wire.specs.Begins.{BeginsWith}
use Rattle.af_wire.specs.Front.{frame_front, setup_bytes, setup_front, IsFrameWithin, IsSetupWithin}
use Rattle.af_request.specs.Asked.{Asked}
use Rattle.af_request.specs.Requests.{asked_in, request_bytes, IsWritable}
use Rattle.af_request.proofs.RequestRoundTrips.{request_again, request_framed}
use Rattle.af_world.specs.declared.happening.Why.{Why}
use Rattle.af_world.specs.declared.happening.Why.TheVariants as why
use Rattle.af_world.specs.declared.script.DeviceSpec.{DeviceSpec}
use Rattle.af_world.specs.Log.{Log}
use Rattle.af_model.specs.State.{Deferral, LinkState, opening_state, slot_at}
use Rattle.af_model.specs.Waiting.{has_deferral}
use Rattle.af_model.specs.Advance.{takes_more}
use Rattle.af_model.specs.LinkHistory.{LinkHistory, history, no_history}
use Rattle.af_model.specs.Run.{end_by, end_state, wakes}
use Rattle.af_model.specs.Causes.{AreRequests, IsCause, IsServedTo, is_malformed}
use Rattle.af_model.proofs.AdvanceLemmas.{frame_within, setup_within}
use Rattle.af_model.proofs.CuttingLawLemmas.{Unchanged, UnchangedSetup, frame_stays, setup_stays}
use Rattle.af_model.proofs.InputLemmas.{IsInput}
use Rattle.af_model.proofs.AdvancedLemmas.{NoneAtFront}
use Rattle.af_model.proofs.CauseLemmas.{ShowsBy, owed_at_close}
use Rattle.af_model.specs.Prefix.{is_dropped}
use Rattle.af_model.proofs.OwedBytesLemmas.{OwingLink}
use Rattle.af_model.proofs.PrefixLawLemmas.{opening_queued, run_queued}
use Rattle.af_end_to_end.specs.Sent.{client_bytes, spelled, HasRead, IsNoFault, Reads, ReadsBy, ReadsUntil, ReadsWhatIsSent}

-- A frame at the front

-- a frame that is complete stays so if more comes
frame_more : (order : Order) (xs ys : List ℕ) (n : ℕ) → frame_front order xs ≡ Frame n → frame_front order (xs ++ ys) ≡ Frame n
frame_more order xs ys n e = subst (λ f. Unchanged f (frame_front order (xs ++ ys))) e (frame_stays order xs ys)

frame_size : (order : Order) (xs : List ℕ) (n : ℕ) → frame_front order xs ≡ Frame n → n ≤ length xs
frame_size order xs n e = (subst (λ f. IsFrameWithin f (length xs)) e (frame_within order xs)).1

-- the first request of what a client sends
pub record IsFirst (order : Order) (first : Asked) (after bytes more : List ℕ) (n : ℕ) : Type 0 where
  pub is : take n bytes ≡ request_bytes order first
  pub left : drop n bytes ++ more ≡ after

-- a complete frame at the front of its first bytes is that
pub first_frame : (order : Order) (first : Asked) (after bytes more : List ℕ) (n : ℕ) → IsWritable first → bytes ++ more ≡ request_bytes order first ++ after → frame_front order bytes ≡ Frame n → IsFirst order first after bytes more n
first_frame order first after bytes more n fits same front =
    let request = request_bytes order first in
    let framed : Frame n ≡ Frame (length request) = sym (frame_more order bytes more n front) ∙ ap (frame_front order) same ∙ request_framed order first after fits in
    let size : n ≡ length request = cc in
    let within = frame_size order bytes n front in
    record {
      is = sym (take-append-le n bytes more within) ∙ ap (take n) same ∙ ap (λ m. take m (request ++ after)) size ∙ take-append_seam request after;
      left = sym (drop-append-le n bytes more within) ∙ ap (drop n) same ∙ ap (λ m. drop m (request ++ after)) size ∙ drop-append_seam request after;
    }

-- no request begins here, since nothing more is sent
pub none_first : {A : Type 0} (order : Order) (bytes more : List ℕ) (n : ℕ) → bytes ++ more ≡ [] → frame_front order bytes ≡ Frame n → A
none_first order [] more n same front = let no : NeedMore ≡ Frame n = front in absurd (clash no)
  where
    clash : NeedMore ≡ Frame n → ⊥
    clash e = cc
none_first order (b ∷ bytes) more n same front = absurd (clash same)
  where
    clash : b ∷ (bytes ++ more) ≡ [] → ⊥
    clash e = cc

-- The requests that were read

-- what was read of these requests, and what is left of them
record ReadSo (order : Order) (requests : List Asked) (bytes more rest : List ℕ) : Type 0 where
  done : List Asked
  next : List Asked
  in_order : requests ≡ done ++ next
  taken : bytes ≡ spelled order done ++ rest
  left : rest ++ more ≡ spelled order next

reads : (order : Order) (sizes : List ℕ) (requests : List Asked) (bytes more rest : List ℕ) → All IsWritable requests → bytes ++ more ≡ spelled order requests → AreRequests order sizes bytes rest → ReadSo order requests bytes more rest
reads order [] requests bytes more rest fit same h = record { done = []; next = requests; in_order = refl; taken = sym h; left = ap (λ l. l ++ more) h ∙ same }
reads order (n ∷ sizes) [] bytes more rest fit same h = none_first order bytes more n same h.0
reads order (n ∷ sizes) (a ∷ requests) bytes more rest fit same h =
    let f = first_frame order a (spelled order requests) bytes more n (All-head IsWritable a requests fit) same h.0 in
    let r = reads order sizes requests (drop n bytes) more rest (All-tail IsWritable a requests fit) f.left h.2 in
    record {
      done = a ∷ r.done;
      next = r.next;
      in_order = ap (λ l. a ∷ l) r.in_order;
      taken = sym (take-append-drop n bytes) ∙ ap (λ l. l ++ drop n bytes) f.is ∙ ap (λ l. request_bytes order a ++ l) r.taken ∙ sym (append_assoc (request_bytes order a) (spelled order r.done) rest);
      left = r.left;
    }

-- The setup

setup_good : (order : Order) (rest : List ℕ) → setup_front (setup_bytes order ++ rest) ≡ setup.Setup order
setup_good Big rest = refl
setup_good Little rest = refl

-- a good setup at the front of the first bytes of a client is its own, and requests follow it
pub record IsItsSetup (order other : Order) (requests : List Asked) (gave more : List ℕ) : Type 0 where
  pub same : other ≡ order
  pub is : gave ≡ setup_bytes order ++ drop 8 gave
  pub left : drop 8 gave ++ more ≡ spelled order requests

pub its_setup : (order other : Order) (requests : List Asked) (gave more : List ℕ) → gave ++ more ≡ client_bytes order requests → setup_front gave ≡ setup.Setup other → IsItsSetup order other requests gave more
its_setup order other requests gave more same e =
    let stays : setup_front (gave ++ more) ≡ setup.Setup other = subst (λ f. UnchangedSetup f (setup_front (gave ++ more))) e (setup_stays gave more) in
    let one : setup.Setup other ≡ setup.Setup order = sym stays ∙ ap setup_front same ∙ setup_good order (spelled order requests) in
    let within : 8 ≤ length gave = subst (λ f. IsSetupWithin f (length gave)) e (setup_within gave) in
    let first : take 8 gave ≡ setup_bytes order = sym (take-append-le 8 gave more within) ∙ ap (take 8) same in
    record {
      same = cc;
      is = sym (take-append-drop 8 gave) ∙ ap (λ l. l ++ drop 8 gave) first;
      left = sym (drop-append-le 8 gave more within) ∙ ap (drop 8) same;
    }

-- a client sends no bad setup
not_bad : {A : Type 0} (order other : Order) (value : ℕ) (requests : List Asked) (gave more : List ℕ) → gave ++ more ≡ client_bytes order requests → setup_front gave ≡ setup.BadSetup other value → A
not_bad order other value requests gave more same e =
    let stays : setup_front (gave ++ more) ≡ setup.BadSetup other value = subst (λ f. UnchangedSetup f (setup_front (gave ++ more))) e (setup_stays gave more) in
    absurd (clash (sym stays ∙ ap setup_front same ∙ setup_good order (spelled order requests)))
  where
    clash : setup.BadSetup other value ≡ setup.Setup order → ⊥
    clash e = cc

-- The whole input

-- what was read of a client's bytes, and what is left of its requests
record ServedSo (order other : Order) (requests : List Asked) (gave more rest : List ℕ) : Type 0 where
  same : other ≡ order
  has_read : HasRead order requests gave rest
  left : rest ++ more ≡ spelled order has_read.more
  fit : All IsWritable has_read.more

all_after : (xs ys : List Asked) → All IsWritable (xs ++ ys) → All IsWritable ys
all_after [] ys h = h
all_after (x ∷ xs) ys h = all_after xs ys (All-tail IsWritable x (xs ++ ys) h)

served : (order other : Order) (requests : List Asked) (gave more rest : List ℕ) → All IsWritable requests → gave ++ more ≡ client_bytes order requests → IsServedTo other gave rest → ServedSo order other requests gave more rest
served order other requests gave more rest fit same h =
    let s = its_setup order other requests gave more same h.setup in
    let r = reads order h.sizes requests (drop 8 gave) more rest fit s.left (subst (λ o. AreRequests o h.sizes (drop 8 gave) rest) s.same h.requests) in
    record {
      same = s.same;
      has_read = record { done = r.done; more = r.next; in_order = r.in_order; taken = s.is ∙ ap (λ l. setup_bytes order ++ l) r.taken ∙ sym (append_assoc (setup_bytes order) (spelled order r.done) rest) };
      left = r.left;
      fit = all_after r.done r.next (subst (All IsWritable) r.in_order fit);
    }

-- what a client sends is not malformed
malformed_never : {A : Type 0} (order : Order) (requests : List Asked) (bytes more : List ℕ) (f : Front) → frame_front order bytes ≡ f → All IsWritable requests → bytes ++ more ≡ spelled order requests → is_malformed order f bytes ≡ true → A
malformed_never order requests bytes more NeedMore e fit same bad = absurd (clash bad)
  where
    clash : false ≡ true → ⊥
    clash e = cc
malformed_never order [] bytes more Malformed e fit same bad =
    let stays : frame_front order (bytes ++ more) ≡ Malformed = subst (λ f. Unchanged f (frame_front order (bytes ++ more))) e (frame_stays order bytes more) in
    absurd (clash (sym stays ∙ ap (frame_front order) same))
  where
    clash : Malformed ≡ NeedMore → ⊥
    clash e = cc
malformed_never order (a ∷ requests) bytes more Malformed e fit same bad =
    let stays : frame_front order (bytes ++ more) ≡ Malformed = subst (λ f. Unchanged f (frame_front order (bytes ++ more))) e (frame_stays order bytes more) in
    absurd (clash (length (request_bytes order a)) (sym stays ∙ ap (frame_front order) same ∙ request_framed order a (spelled order requests) (All-head IsWritable a requests fit)))
  where
    clash : (n : ℕ) → Malformed ≡ Frame n → ⊥
    clash n e = cc
malformed_never order [] bytes more (Frame n) e fit same bad = none_first order bytes more n same e
malformed_never order (a ∷ requests) bytes more (Frame n) e fit same bad =
    let fits = All-head IsWritable a requests fit in
    let first = first_frame order a (spelled order requests) bytes more n fits same e in
    absurd (clash (sym bad ∙ ap (λ l. is_none (asked_in order l)) first.is ∙ ap is_none (request_again order a fits)))
  where
    clash : true ≡ false → ⊥
    clash e = cc

no_fault : (order : Order) (requests : List Asked) (cause : Why) (h : LinkHistory) (owed : ℕ) → All IsWritable requests → BeginsWith h.gave (client_bytes order requests) → IsCause cause h owed → IsNoFault cause
no_fault order requests why.LinkFault h owed fit begins c = record { setup = λ e. cc; requests = λ e. cc }
no_fault order requests why.Overrun h owed fit begins c = record { setup = λ e. cc; requests = λ e. cc }
no_fault order requests why.Ended h owed fit begins c = record { setup = λ e. cc; requests = λ e. cc }
no_fault order requests why.BadSetup h owed fit begins c = not_bad order c.1 c.2 requests h.gave begins.rest (sym begins.is) c.3
no_fault order requests why.Malformed h owed fit begins c =
    let s = served order c.1 requests h.gave begins.rest c.2 fit (sym begins.is) c.3 in
    malformed_never order s.has_read.more c.2 begins.rest (frame_front order c.2) refl s.fit s.left (subst (λ o. is_malformed o (frame_front o c.2) c.2 ≡ true) s.same c.4)

-- A run

unended : (order : Order) (requests : List Asked) (gave : List ℕ) (waits : Bool) (l : LinkState) (is_set_up : Bool) → All IsWritable requests → BeginsWith gave (client_bytes order requests) → IsInput is_set_up l.order gave l.rest →
    (takes_more waits l ≡ true → NoneAtFront is_set_up l.order l.rest) → ReadsBy is_set_up order requests gave waits l
unended order requests gave waits l false fit begins input advanced = record { none_taken = input; incomplete = λ more. subst (λ x. setup_front x ≡ setup.NeedMore) input (advanced more) }
unended order requests gave waits l true fit begins input advanced =
    let s = served order l.order requests gave begins.rest l.rest fit (sym begins.is) input in
    record { is_order = s.same; has_read = s.has_read; all_complete = λ more. subst (λ o. frame_front o l.rest ≡ NeedMore) s.same (advanced more) }

until : (order : Order) (requests : List Asked) (h : LinkHistory) (owed : List ℕ) (waits : Bool) (l : LinkState) (closing : Option Why) → All IsWritable requests → BeginsWith h.gave (client_bytes order requests) →
    ShowsBy h owed l.is_set_up l.order l.rest closing → (takes_more waits l ≡ true → NoneAtFront l.is_set_up l.order l.rest) → ReadsUntil order requests h.gave waits l closing
until order requests h owed waits l None fit begins shows advanced = unended order requests h.gave waits l l.is_set_up fit begins shows.input advanced
until order requests h owed waits l (Some cause) fit begins shows advanced = no_fault order requests cause h (owed_at_close (is_dropped (Some cause)) owed) fit begins shows

shown : (k : ℕ) (order : Order) (requests : List Asked) (h : LinkHistory) (said : List ℕ) (link : Option LinkState) (waiting : List Deferral) → All IsWritable requests → BeginsWith h.gave (client_bytes order requests) → OwingLink k h said link waiting →
    Reads order requests h (has_deferral waiting k) link
shown k order requests h said None waiting fit begins owing =
    elim h.closed as (λ o. IfSome o (λ cause. IsCause cause h (length owing.0)) → IfSome o IsNoFault) [
      | None ↦ λ c. tt
      | Some cause ↦ λ c. no_fault order requests cause h (length owing.0) fit begins c
    ] owing.2
shown k order requests h said (Some l) waiting fit begins owing = until order requests h owing.0.rest (has_deferral waiting k) l l.closing fit begins owing.0.shows owing.1

pub reads_what_is_sent : (config : List DeviceSpec) (log : Log) → ReadsWhatIsSent config log
unfolding end_state
reads_what_is_sent config log =
    elim (end_by (wakes log) (opening_state config) log) as (λ o. end_by (wakes log) (opening_state config) log ≡ o → IfSome o (λ s. (k : ℕ) (order : Order) (requests : List Asked) → All IsWritable requests →
    BeginsWith (history k log).gave (client_bytes order requests) → Reads order requests (history k log) (has_deferral s.waiting k) (slot_at k s).link)) [
      | None ↦ λ r. tt
      | Some e ↦ λ r k order requests fit begins.
          shown k order requests (history k log) (slot_at k e).said (slot_at k e).link e.waiting fit begins (run_queued (wakes log) k no_history (opening_state config) log e (opening_queued config k) r)
    ] refl
