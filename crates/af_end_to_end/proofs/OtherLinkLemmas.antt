-- What the devices keep as another link is served.
use Rattle.std.proofs.Common.{◌≡◌, ℕ, zero, suc, ◌==◌, Bool, true, false, cond, List, ◌++◌, length, take, is_none, refl, sym, ◌∙◌, subst, IfSome}
use Rattle.std.proofs.lemmas.List.{append_cancel_right}
use Rattle.std.specs.List.{fold}
use Rattle.std.specs.declared.option.Option.{Option}
use Rattle.std.specs.declared.option.Option.TheVariants.{None, Some}
use Rattle.af_wire.specs.declared.front.Front.{Front}
use Rattle.af_wire.specs.declared.front.Front.TheVariants.{NeedMore, Frame, Malformed}
use Rattle.af_wire.specs.declared.front.SetupFront.{SetupFront}
use Rattle.af_wire.specs.declared.front.SetupFront.TheVariants as front
use Rattle.af_wire.specs.Front.{frame_front, setup_front}
use Rattle.af_request.specs.Asked.{Asked}
use Rattle.af_request.specs.Requests.{asked_in}
use Rattle.af_world.specs.declared.happening.Happening.{Happening}
use Rattle.af_world.specs.declared.happening.Happening.TheVariants.{Wrote}
use Rattle.af_world.specs.declared.happening.ReadGot.{ReadGot}
use Rattle.af_world.specs.declared.happening.ReadGot.TheVariants.{Given, NotYet, Ended, Failed}
use Rattle.af_world.specs.Log.{Log}
use Rattle.af_world.specs.Outside.{same_bytes}
use Rattle.af_model.specs.State.{Deferral, Deferred, DeviceState, OpenLink, SlotLink, deferred_play, deferred_record, open_link}
use Rattle.af_model.specs.Waiting.{has_deferral}
use Rattle.af_model.specs.Play.{in_devices, tell_played}
use Rattle.af_model.specs.Advance.{advance, advance_by, advance_step, after_frame, after_front, after_setup, or_else, make_request, takes_more, without_front}
use Rattle.af_model.specs.Tick.{answer_deferred, complete_deferred, complete_for, enter}
use Rattle.af_model.specs.LinkHistory.{LinkHistory, note_happening}
use Rattle.af_model.specs.Turn.{Parsed, after_bytes_offered, after_bytes_taken, after_read, after_write, close_phase, parse_then, read_phase, send_pending, serve_link, write_by, write_phase}
use Rattle.af_model.proofs.BoolTestLemmas.{cond-some, none_some, some_is}
use Rattle.af_model.proofs.DeviceHistoryLemmas.{lives_completing}
use Rattle.af_model.proofs.OwedBytesLemmas.{SameOthers}
use Rattle.af_model.proofs.PhasePartLemmas.{Takes, close_takes, read_takes, takes_chain, write_takes}
use Rattle.af_model.proofs.ServeLemmas.{Served, served_link}
use Rattle.af_end_to_end.proofs.DeviceAlikeLemmas.{AllAlike, alike_with, all_alike_refl, all_alike_trans, lives_alike}
use Rattle.af_end_to_end.proofs.PerformedLemmas.{performs}

-- what holds of a phase by two accounts of it
takes_both : {T : Type 0} (f : Log → Option (Parsed T)) (M N : Log → T → Type 0) → Takes f M → Takes f N → Takes f (λ part t. M part t × N part t)
takes_both f M N tm tn log b e =
    let a = tm log b e in
    let c = tn log b e in
    let same : c.part ≡ a.part = append_cancel_right c.part a.part b.log (sym c.whole ∙ a.whole) in
    record { part = a.part; whole = a.whole; again = a.again; holds = (a.holds, subst (λ p. N p b.state) same c.holds) }

module _ (j : ℕ) where
  abbrev Leaves : OpenLink → OpenLink → Type 0
  Leaves p q = AllAlike p.environment.devices q.environment.devices

  leaves : (p : OpenLink) → Leaves p p
  leaves p = all_alike_refl p.environment.devices

  asked_alike : (o : Option Asked) (p : OpenLink) → Leaves p (make_request j o p)
  asked_alike None p = leaves p
  asked_alike (Some request) p = (performs j request p).devices

  frame_alike : (f : Front) (p : OpenLink) → IfSome (after_frame j f p) (λ q. Leaves p q)
  frame_alike NeedMore p = tt
  frame_alike Malformed p = leaves p
  frame_alike (Frame n) p = asked_alike (asked_in p.link.order (take n p.link.rest)) (open_link p.environment (without_front n p.link))

  setup_alike : (f : SetupFront) (p : OpenLink) → IfSome (after_setup f p) (λ q. Leaves p q)
  setup_alike front.NeedMore p = tt
  setup_alike (front.Setup order) p = leaves p
  setup_alike (front.BadSetup order value) p = leaves p

  front_alike : (t : Bool) (p : OpenLink) → IfSome (cond t (after_frame j (frame_front p.link.order p.link.rest) p) (after_setup (setup_front p.link.rest) p)) (λ q. Leaves p q)
  front_alike true p = frame_alike (frame_front p.link.order p.link.rest) p
  front_alike false p = setup_alike (setup_front p.link.rest) p

  step_alike : (t : Bool) (p : OpenLink) → IfSome (cond t (after_front j p) None) (λ q. Leaves p q)
  step_alike true p = front_alike p.link.is_set_up p
  step_alike false p = tt

  by_alike : (n : ℕ) (p : OpenLink) → Leaves p (advance_by n j p)
  by_alike zero p = leaves p
  by_alike (suc n) p =
      elim (advance_step j p) as (λ o. IfSome o (λ q. Leaves p q) → Leaves p (or_else p (advance_by n j) o)) [
        | None ↦ λ s. leaves p
        | Some q ↦ λ s. all_alike_trans p.environment.devices q.environment.devices (advance_by n j q).environment.devices s (by_alike n q)
      ] (step_alike (takes_more (has_deferral p.environment.waiting j) p.link) p)

  advance_alike : (p : OpenLink) → Leaves p (advance j p)
  unfolding advance
  advance_alike p = by_alike (length p.link.rest) p

  after_read_alike : (p : OpenLink) (got : ReadGot) → Leaves p (after_read j got p)
  after_read_alike p (Given bytes) = by (is_none p.link.closing)
    where
      q : OpenLink
      q = open_link p.environment (record p.link { rest = p.link.rest ++ bytes })

      by : (t : Bool) → Leaves p (cond t (advance j q) p)
      by true = advance_alike q
      by false = leaves p
  after_read_alike p NotYet = leaves p
  after_read_alike p Ended = leaves p
  after_read_alike p Failed = leaves p

  after_write_alike : (p q : OpenLink) (took : Option (List ℕ)) → after_bytes_taken j took p ≡ Some q → Leaves p q
  after_write_alike p q None e = subst (λ x. Leaves p x) (some_is e) (leaves p)
  after_write_alike p q (Some bytes) e =
      let t = cond-some (same_bytes bytes (take (length bytes) p.link.pending)) (Some (after_write j bytes p)) q e in
      subst (λ x. Leaves p x) (some_is t.1) (advance_alike (open_link p.environment (send_pending (length bytes) p.link)))

  write_alike : (p q : OpenLink) (h : Happening) → write_by j p h ≡ Some q → Leaves p q
  write_alike p q (Wrote i offered took) e =
      let a = cond-some (i == j) (after_bytes_offered j offered took p) q e in
      let t = cond-some (offered == length p.link.pending) (after_bytes_taken j took p) q a.1 in
      after_write_alike p q took t.1
  write_alike p q other e = absurd (none_some e)

  writes_alike : (p : OpenLink) → Takes (write_phase j p) (λ part q. Leaves p q)
  writes_alike p log b e =
      write_takes j (λ p part q. Leaves p q) (λ p. leaves p)
      (λ p q h w e part r s. all_alike_trans p.environment.devices q.environment.devices r.environment.devices (write_alike p q h e) s) log p b e

  abbrev LeavesTo : OpenLink → SlotLink → Type 0
  LeavesTo p d = AllAlike p.environment.devices d.environment.devices

  closes_alike : (p : OpenLink) → Takes (close_phase j p) (λ part d. LeavesTo p d)
  closes_alike p = close_takes j p (λ part d. LeavesTo p d) (leaves p) (λ cause due. leaves p)

  serves_alike : (p : OpenLink) → Takes (serve_link j p) (λ part d. LeavesTo p d)
  unfolding serve_link
  serves_alike p =
      takes_chain (read_phase j) (λ p log. parse_then (write_phase j p log) (close_phase j)) (λ p part q. Leaves p q) (λ p part d. LeavesTo p d) (λ p part d. LeavesTo p d) (λ p x q y d s t. all_alike_trans p.environment.devices q.environment.devices d.environment.devices s t)
      (λ p. read_takes j p (λ part q. Leaves p q) (λ w. leaves p) (λ w got r. after_read_alike p got))
      (takes_chain (write_phase j) (close_phase j) (λ p part q. Leaves p q) (λ p part d. LeavesTo p d) (λ p part d. LeavesTo p d) (λ p x q y d s t. all_alike_trans p.environment.devices q.environment.devices d.environment.devices s t) writes_alike closes_alike) p

-- As another link is served, devices become later at the same time, nothing is shown of this one, and its deferred requests stay.
pub record ServesOther (j : ℕ) (p : OpenLink) (part : Log) (d : SlotLink) : Type 0 where
  pub devices : AllAlike p.environment.devices d.environment.devices
  pub waits : SameOthers j p.environment.waiting d.environment.waiting
  pub others : (k : ℕ) → (j == k) ≡ false → (g : LinkHistory) → fold (note_happening k) g part ≡ g

pub serves_another : (j : ℕ) (p : OpenLink) → Takes (serve_link j p) (ServesOther j p)
serves_another j p log b e =
    let a = takes_both (serve_link j p) (λ part d. AllAlike p.environment.devices d.environment.devices) (λ part d. Served j (enter p) part d) (serves_alike j p) (served_link j p) log b e in
    record { part = a.part; whole = a.whole; again = a.again; holds = record { devices = a.holds.0; waits = a.holds.1.waits; others = a.holds.1.others } }

answered_alike : (deferred : Deferred) (device : DeviceState) (ds : List DeviceState) (p : OpenLink) → AllAlike ds p.environment.devices → AllAlike ds (answer_deferred deferred device p).environment.devices
answered_alike (deferred_play quiet start sound preempt) device ds p h = elim quiet as (λ b. AllAlike ds (tell_played b device p).environment.devices) [ true ↦ h | false ↦ h ]
answered_alike (deferred_record c start frames) device ds p h = h

-- the same as a request of a link that was deferred completes
pub completes_alike : (w : Deferral) (o : Option DeviceState) (p : OpenLink) → AllAlike p.environment.devices (complete_for w o p).environment.devices
completes_alike w None p = all_alike_refl p.environment.devices
completes_alike w (Some device) p =
    let f = complete_deferred w.link w.deferred in
    let ds = p.environment.devices in
    let q = in_devices w.device f p in
    let told = answer_deferred w.deferred device q in
    all_alike_trans ds told.environment.devices (complete_for w (Some device) p).environment.devices
    (answered_alike w.deferred device ds q (alike_with w.device f ds (λ x is. lives_alike x (f x) refl refl (lives_completing w.link x w.deferred)))) (advance_alike w.link told)
