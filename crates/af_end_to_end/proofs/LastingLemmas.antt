-- What holds of an open link that is not closing, and of its environment, goes on to hold as the link is served.
use Rattle.std.proofs.Common.{◌≡◌, ℕ, zero, suc, ◌==◌, Bool, true, false, not, cond, List, ◌∷◌, ◌++◌, length, take, find, is_none, slice_get, refl, sym, ap, subst, IfSome}
use Rattle.std.proofs.lemmas.List.Sums.{fold-append}
use Rattle.std.specs.List.{fold}
use Rattle.std.specs.declared.option.Option.{Option}
use Rattle.std.specs.declared.option.Option.TheVariants.{None, Some}
use Rattle.af_wait.specs.Waits.{without_first}
use Rattle.af_wire.specs.declared.front.Front.{Front}
use Rattle.af_wire.specs.declared.front.Front.TheVariants.{NeedMore, Frame, Malformed}
use Rattle.af_wire.specs.declared.order.Order.{Order}
use Rattle.af_wire.specs.declared.event.Event.{Event}
use Rattle.af_wire.specs.Event.{event_bytes}
use Rattle.af_phone.specs.Lines.{selects}
use Rattle.af_wire.specs.declared.front.SetupFront.{SetupFront}
use Rattle.af_wire.specs.declared.front.SetupFront.TheVariants as front
use Rattle.af_wire.specs.Front.{setup_front, frame_front}
use Rattle.af_request.specs.Asked.{Asked}
use Rattle.af_request.specs.Requests.{asked_in}
use Rattle.af_request.specs.Answer.{setup}
use Rattle.af_request.specs.Opcodes as opcodes
use Rattle.af_world.specs.declared.happening.Happening.{Happening}
use Rattle.af_world.specs.declared.happening.Happening.TheVariants.{Wrote}
use Rattle.af_world.specs.declared.happening.ReadGot.{ReadGot}
use Rattle.af_world.specs.declared.happening.ReadGot.TheVariants.{Given, NotYet, Ended, Failed}
use Rattle.af_world.specs.declared.happening.Why.{Why}
use Rattle.af_world.specs.declared.happening.Why.TheVariants as why
use Rattle.af_world.specs.Log.{Log}
use Rattle.af_world.specs.Outside.{same_bytes}
use Rattle.af_model.specs.State.{Deferral, DeviceState, EnvironmentState, LinkState, OpenLink, SlotLink, open_link, say}
use Rattle.af_model.specs.Events.{mask_of}
use Rattle.af_model.specs.Waiting.{has_deferral}
use Rattle.af_model.specs.Reply.{infos_of, reply_message}
use Rattle.af_model.specs.Play.{in_devices}
use Rattle.af_model.specs.Perform.{perform}
use Rattle.af_model.specs.Advance.{absorb, advance, advance_by, advance_step, after_frame, after_front, after_setup, or_else, make_request, takes_more, without_front}
use Rattle.af_model.specs.Tick.{answer_deferred, complete_deferred}
use Rattle.af_model.specs.LinkHistory.{LinkHistory, note_happening, note_read, note_write}
use Rattle.af_model.specs.Turn.{after_bytes_offered, after_bytes_taken, after_read, after_write, close_phase, parse_then, read_phase, send_pending, serve_link, wants_read, wants_write, write_by, write_phase}
use Rattle.af_model.proofs.BoolTestLemmas.{both-true, cond-some, none_some, not_true, same_number, some_is}
use Rattle.af_model.proofs.LinkInvariantLemmas.{takes_more_open}
use Rattle.af_model.proofs.PhasePartLemmas.{Takes, close_takes, read_takes, takes_chain, write_takes}
use Rattle.af_end_to_end.proofs.DeviceAlikeLemmas.{AllAlike}
use Rattle.af_end_to_end.specs.Performing.{own_waiting}

-- What goes on to hold at each move of link k, by what its reads gave: parts of it change that are not stated; an event that it
-- selects is queued for it; bytes come; its setup is taken off its input, and answered; a request is, and performed; other links
-- act; and its deferred request completes, and is answered.
pub record Lasts (k : ℕ) (J : LinkHistory → OpenLink → Type 0) : Type 0 where
  pub link : (g : LinkHistory) (p : OpenLink) (l : LinkState) → l.rest ≡ p.link.rest → l.is_set_up ≡ p.link.is_set_up → l.order ≡ p.link.order → l.sequence ≡ p.link.sequence → l.contexts ≡ p.link.contexts → l.selections ≡ p.link.selections → J g p → J g (open_link p.environment l)
  pub tells : (g : LinkHistory) (p : OpenLink) (e : Event) → selects (mask_of p.link e.device) e.kind ≡ true → J g p → J g (say p (event_bytes p.link.order e p.link.sequence))
  pub quiet : (g h : LinkHistory) (p : OpenLink) → h.gave ≡ g.gave → J g p → J h p
  pub given : (g : LinkHistory) (p : OpenLink) (bytes : List ℕ) → J g p → J (record g { gave = g.gave ++ bytes }) (open_link p.environment (record p.link { rest = p.link.rest ++ bytes }))
  pub sets_up : (g : LinkHistory) (p : OpenLink) (order : Order) → p.link.is_set_up ≡ false → setup_front p.link.rest ≡ front.Setup order → J g p →
      J g (say (open_link p.environment (record (without_front 8 p.link) { is_set_up = true; order = order })) (reply_message order opcodes.setup (setup (infos_of p.environment.devices)) 0))
  pub performs : (g : LinkHistory) (p : OpenLink) (n : ℕ) (request : Asked) → p.link.is_set_up ≡ true → has_deferral p.environment.waiting k ≡ false → frame_front p.link.order p.link.rest ≡ Frame n → asked_in p.link.order (take n p.link.rest) ≡ Some request → J g p →
      J g (perform k request (open_link p.environment (without_front n p.link)))
  pub others : (g : LinkHistory) (p : OpenLink) (a : EnvironmentState) → AllAlike p.environment.devices a.devices → own_waiting k a.waiting ≡ own_waiting k p.environment.waiting → a.said ≡ p.environment.said → J g p → J g (open_link a p.link)
  pub completes : (g : LinkHistory) (p : OpenLink) (passes : Deferral → Bool) (w : Deferral) (device : DeviceState) → find passes p.environment.waiting ≡ Some w → w.link ≡ k → slice_get p.environment.devices w.device ≡ Some device → J g p →
      J g (answer_deferred w.deferred device (in_devices w.device (complete_deferred k w.deferred) (open_link (record p.environment { waiting = without_first passes p.environment.waiting }) p.link)))

-- the same of a link that may be closing
abbrev pub IfGoesOn : (LinkHistory → OpenLink → Type 0) → LinkHistory → OpenLink → Type 0
IfGoesOn J g p = p.link.closing ≡ None → J g p

-- and of a slot
abbrev pub InSlot : (LinkHistory → OpenLink → Type 0) → LinkHistory → EnvironmentState → Option LinkState → Type 0
InSlot J g a None = Unit {0}
InSlot J g a (Some l) = IfGoesOn J g (open_link a l)

abbrev pub OfSlot : (LinkHistory → OpenLink → Type 0) → LinkHistory → SlotLink → Type 0
OfSlot J g d = InSlot J g d.environment d.link

closes : {A : Type 0} (cause : Why) → Some cause ≡ None → A
closes cause e = absurd (none_some (sym e))

module _ (k : ℕ) (J : LinkHistory → OpenLink → Type 0) (kept : Lasts k J) where
  -- Advancing

  asked_lasts : (o : Option Asked) (n : ℕ) (g : LinkHistory) (p : OpenLink) → asked_in p.link.order (take n p.link.rest) ≡ o → frame_front p.link.order p.link.rest ≡ Frame n → p.link.is_set_up ≡ true → has_deferral p.environment.waiting k ≡ false → J g p →
      IfGoesOn J g (make_request k o (open_link p.environment (without_front n p.link)))
  asked_lasts None n g p asked e set idle h = λ open'. closes why.Malformed open'
  asked_lasts (Some request) n g p asked e set idle h = λ open'. kept.performs g p n request set idle e asked h

  frame_lasts : (f : Front) (g : LinkHistory) (p : OpenLink) → frame_front p.link.order p.link.rest ≡ f → p.link.is_set_up ≡ true → has_deferral p.environment.waiting k ≡ false → J g p → IfSome (after_frame k f p) (λ q. IfGoesOn J g q)
  frame_lasts NeedMore g p e set idle h = tt
  frame_lasts Malformed g p e set idle h = λ open'. closes why.Malformed open'
  frame_lasts (Frame n) g p e set idle h = asked_lasts (asked_in p.link.order (take n p.link.rest)) n g p refl e set idle h

  setup_lasts : (f : SetupFront) (g : LinkHistory) (p : OpenLink) → setup_front p.link.rest ≡ f → p.link.is_set_up ≡ false → J g p → IfSome (after_setup f p) (λ q. IfGoesOn J g q)
  setup_lasts front.NeedMore g p e unset h = tt
  setup_lasts (front.Setup order) g p e unset h = λ open'. kept.sets_up g p order unset e h
  setup_lasts (front.BadSetup order value) g p e unset h = λ open'. closes why.BadSetup open'

  front_lasts : (t : Bool) (g : LinkHistory) (p : OpenLink) → p.link.is_set_up ≡ t → has_deferral p.environment.waiting k ≡ false → J g p →
      IfSome (cond t (after_frame k (frame_front p.link.order p.link.rest) p) (after_setup (setup_front p.link.rest) p)) (λ q. IfGoesOn J g q)
  front_lasts true g p set idle h = frame_lasts (frame_front p.link.order p.link.rest) g p refl set idle h
  front_lasts false g p unset idle h = setup_lasts (setup_front p.link.rest) g p refl unset h

  step_lasts : (g : LinkHistory) (p : OpenLink) → IfGoesOn J g p → IfSome (advance_step k p) (λ q. IfGoesOn J g q)
  step_lasts g p h =
      let waits = has_deferral p.environment.waiting k in
      elim (takes_more waits p.link) as (λ t. takes_more waits p.link ≡ t → IfSome (cond t (after_front k p) None) (λ q. IfGoesOn J g q)) [
        | true ↦ λ t. front_lasts p.link.is_set_up g p refl (not_true waits (both-true (not waits) _ t).0) (h (takes_more_open waits p.link t))
        | false ↦ λ t. tt
      ] refl

  by_lasts : (n : ℕ) (g : LinkHistory) (p : OpenLink) → IfGoesOn J g p → IfGoesOn J g (advance_by n k p)
  by_lasts zero g p h = h
  by_lasts (suc n) g p h =
      elim (advance_step k p) as (λ o. IfSome o (λ q. IfGoesOn J g q) → IfGoesOn J g (or_else p (advance_by n k) o)) [ None ↦ λ s. h | Some q ↦ λ s. by_lasts n g q s ] (step_lasts g p h)

  pub advance_lasts : (g : LinkHistory) (p : OpenLink) → IfGoesOn J g p → IfGoesOn J g (advance k p)
  unfolding advance
  advance_lasts g p h = by_lasts (length p.link.rest) g p h

  -- Serving

  abbrev Moves : OpenLink → Log → OpenLink → Type 0
  Moves p part q = (g : LinkHistory) → IfGoesOn J g p → IfGoesOn J (fold (note_happening k) g part) q

  abbrev pub Serves : OpenLink → Log → SlotLink → Type 0
  Serves p part d = (g : LinkHistory) → IfGoesOn J g p → OfSlot J (fold (note_happening k) g part) d

  read_open : (p : OpenLink) → wants_read (has_deferral p.environment.waiting k) p.link ≡ true → p.link.closing ≡ None
  read_open p w = takes_more_open (has_deferral p.environment.waiting k) p.link (both-true p.link.is_ready (takes_more (has_deferral p.environment.waiting k) p.link) w).1

  after_read_lasts : (p : OpenLink) (got : ReadGot) (g : LinkHistory) → p.link.closing ≡ None → IfGoesOn J g p → IfGoesOn J (note_read got g) (after_read k got p)
  after_read_lasts p (Given bytes) g none h =
      let q : OpenLink = open_link p.environment (record p.link { rest = p.link.rest ++ bytes }) in
      let same : absorb k bytes p ≡ advance k q = ap (λ t. cond t (advance k q) p) (ap is_none none) in
      subst (λ x. IfGoesOn J (note_read (Given bytes) g) x) (sym same) (advance_lasts (note_read (Given bytes) g) q (λ e. kept.given g p bytes (h none)))
  after_read_lasts p NotYet g none h = λ e. kept.link g p (record p.link { is_ready = false }) refl refl refl refl refl refl (h none)
  after_read_lasts p Ended g none h = λ e. closes why.Ended e
  after_read_lasts p Failed g none h = λ e. closes why.LinkFault e

  reads : (p : OpenLink) → Takes (read_phase k p) (Moves p)
  reads p =
      read_takes k p (Moves p) (λ w g h. h)
      (λ w got r g h. subst (λ t. IfGoesOn J (cond t (note_read got g) g) (after_read k got p)) (sym (same_number k)) (after_read_lasts p got g (read_open p w) h))

  after_write_lasts : (p q : OpenLink) (took : Option (List ℕ)) (g : LinkHistory) → after_bytes_taken k took p ≡ Some q → IfGoesOn J g p → IfGoesOn J (note_write took g) q
  after_write_lasts p q None g e h = subst (λ x. IfGoesOn J (note_write None g) x) (some_is e) (λ open'. closes why.LinkFault open')
  after_write_lasts p q (Some bytes) g e h =
      let left : OpenLink = open_link p.environment (send_pending (length bytes) p.link) in
      let t = cond-some (same_bytes bytes (take (length bytes) p.link.pending)) (Some (after_write k bytes p)) q e in
      subst (λ x. IfGoesOn J (note_write (Some bytes) g) x) (some_is t.1)
      (advance_lasts (note_write (Some bytes) g) left (λ open'. kept.quiet g (note_write (Some bytes) g) left refl (kept.link g p left.link refl refl refl refl refl refl (h open'))))

  writes_one : (p q : OpenLink) (h : Happening) → wants_write p.link ≡ true → write_by k p h ≡ Some q → (part : Log) (r : OpenLink) → Moves q part r → Moves p (h ∷ part) r
  writes_one p q (Wrote j offered took) w e part r s =
      let i = cond-some (j == k) (after_bytes_offered k offered took p) q e in
      let t = cond-some (offered == length p.link.pending) (after_bytes_taken k took p) q i.1 in
      λ g h. s (cond (j == k) (note_write took g) g) (subst (λ b. IfGoesOn J (cond b (note_write took g) g) q) (sym i.0) (after_write_lasts p q took g t.1 h))
  writes_one p q other w e part r s = absurd (none_some e)

  writes : (p : OpenLink) → Takes (write_phase k p) (Moves p)
  writes p log b e = write_takes k Moves (λ p g h. h) writes_one log p b e

  closed : (p : OpenLink) → Takes (close_phase k p) (Serves p)
  closed p = close_takes k p (Serves p) (λ g h. h) (λ cause due g h. tt)

  pub serves : (p : OpenLink) → Takes (serve_link k p) (Serves p)
  unfolding serve_link
  serves p =
      takes_chain (read_phase k) (λ p log. parse_then (write_phase k p log) (close_phase k)) Moves Serves Serves joined_serves reads
      (takes_chain (write_phase k) (close_phase k) Moves Serves Serves joined_serves writes closed) p
    where
      joined_serves : (p : OpenLink) (x : Log) (q : OpenLink) (y : Log) (d : SlotLink) → Moves p x q → Serves q y d → Serves p (x ++ y) d
      joined_serves p x q y d s t = λ g h. subst (λ f. OfSlot J f d) (sym (fold-append (note_happening k) g x y)) (t (fold (note_happening k) g x) (s g h))
