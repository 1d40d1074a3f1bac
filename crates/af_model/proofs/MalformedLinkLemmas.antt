-- A malformed client closes only itself.
use Rattle.std.proofs.Common.{◌≡◌, ◌≢◌, ℕ, Bool, true, false, not, cond, ◌&&◌, nat_le, [], length, take, is_none, refl, sym, ap, ◌∙◌, subst}
use Rattle.std.specs.declared.option.Option.{Option}
use Rattle.std.specs.declared.option.Option.TheVariants.{None, Some}
use Rattle.af_limits.specs.Limits.{perform_limit}
use Rattle.af_world.specs.declared.happening.Why.TheVariants as why
use Rattle.af_world.specs.Log.{Log}
use Rattle.af_wire.specs.declared.front.Front.{Front}
use Rattle.af_wire.specs.declared.front.Front.TheVariants.{NeedMore, Frame, Malformed}
use Rattle.af_wire.specs.declared.front.SetupFront.{SetupFront}
use Rattle.af_wire.specs.declared.front.SetupFront.TheVariants as front
use Rattle.af_wire.specs.Front.{setup_front, frame_front}
use Rattle.af_wire.specs.Message.{error}
use Rattle.af_request.specs.Asked.{Asked}
use Rattle.af_request.specs.Requests.{asked_in}
use Rattle.af_request.specs.Answer.{setup}
use Rattle.af_request.specs.Opcodes as opcodes
use Rattle.af_model.specs.State.{State, LinkState, OpenLink, SlotLink, open_link, say, closing_link, some_slot, slot_at, slot_link_at, with_slot_link}
use Rattle.af_model.specs.Waiting.{has_deferral}
use Rattle.af_model.specs.Reply.{infos_of, reply_message}
use Rattle.af_model.specs.Advance.{advance_step, after_front, after_frame, after_setup, make_request, takes_more, without_front}
use Rattle.af_model.specs.Events.{without_waiter}
use Rattle.af_model.specs.Turn.{Parsed, accept, parse_then, serve_at, serve_open, serve_slot_link}
use Rattle.af_model.proofs.ListLemmas.{get-set_other}
use Rattle.af_model.proofs.BoolTestLemmas.{both-true, cond-some, none-true, none_some, some_is}
use Rattle.af_model.proofs.PhasePartLemmas.{then_inv}
use Rattle.af_model.proofs.ServeLemmas.{served_link}
use Rattle.af_model.proofs.AdvanceLemmas.{perform_closing}

-- the environment of a link, what is queued for it, and that nothing more of its input is read
abbrev pub ClosesAlone : OpenLink → OpenLink → Type 0
ClosesAlone p q = q.link.closing ≡ Some why.Malformed → (q.environment ≡ p.environment) × (q.link.pending ≡ p.link.pending) × (q.link.rest ≡ [])

not_closing : (p q : OpenLink) → q.link.closing ≡ p.link.closing → p.link.closing ≡ None → ClosesAlone p q
not_closing p q same none e = absurd (none_some (sym (same ∙ none) ∙ e))

request_alone : (k : ℕ) (o : Option Asked) (n : ℕ) (p : OpenLink) → p.link.closing ≡ None → ClosesAlone p (make_request k o (open_link p.environment (without_front n p.link)))
request_alone k None n p none e = (refl, refl, refl)
request_alone k (Some request) n p none e = not_closing p (make_request k (Some request) (open_link p.environment (without_front n p.link))) (perform_closing k request (open_link p.environment (without_front n p.link))) none e

frame_alone : (k : ℕ) (f : Front) (p q : OpenLink) → p.link.closing ≡ None → after_frame k f p ≡ Some q → ClosesAlone p q
frame_alone k NeedMore p q none e = absurd (none_some e)
frame_alone k Malformed p q none e = let same : open_link p.environment (closing_link why.Malformed p.link) ≡ q = cc in subst (ClosesAlone p) same (λ c. (refl, refl, refl))
frame_alone k (Frame n) p q none e =
    let same : make_request k (asked_in p.link.order (take n p.link.rest)) (open_link p.environment (without_front n p.link)) ≡ q = cc in
    subst (ClosesAlone p) same (request_alone k (asked_in p.link.order (take n p.link.rest)) n p none)

other_cause : Some why.BadSetup ≡ Some why.Malformed → ⊥
other_cause e = cc

setup_alone : (f : SetupFront) (p q : OpenLink) → p.link.closing ≡ None → after_setup f p ≡ Some q → ClosesAlone p q
setup_alone front.NeedMore p q none e c = absurd (none_some e)
setup_alone (front.Setup order) p q none e c =
    let same : say (open_link p.environment (record (without_front 8 p.link) { is_set_up = true; order = order })) (reply_message order opcodes.setup (setup (infos_of p.environment.devices)) 0) ≡ q = cc in
    absurd (none_some (sym none ∙ ap (λ (r : OpenLink). r.link.closing) same ∙ c))
setup_alone (front.BadSetup order value) p q none e c =
    let same : say (open_link p.environment (closing_link why.BadSetup p.link)) (error order 1 value opcodes.setup 0) ≡ q = cc in
    absurd (other_cause (ap (λ (r : OpenLink). r.link.closing) same ∙ c))

front_alone : (b : Bool) (k : ℕ) (p q : OpenLink) → p.link.closing ≡ None → cond b (after_frame k (frame_front p.link.order p.link.rest) p) (after_setup (setup_front p.link.rest) p) ≡ Some q → ClosesAlone p q
front_alone true k p q none e = frame_alone k (frame_front p.link.order p.link.rest) p q none e
front_alone false k p q none e = setup_alone (setup_front p.link.rest) p q none e

pub closes_alone : (k : ℕ) (p q : OpenLink) → advance_step k p ≡ Some q → ClosesAlone p q
closes_alone k p q e =
    let waits = has_deferral p.environment.waiting k in
    let i = cond-some (takes_more waits p.link) (after_front k p) q e in
    let open_to = (both-true (not waits) (is_none p.link.closing && nat_le (length p.link.pending) perform_limit) i.0).1 in
    let none = none-true p.link.closing (both-true (is_none p.link.closing) (nat_le (length p.link.pending) perform_limit) open_to).0 in
    front_alone p.link.is_set_up k p q none i.1

-- Serving a link changes no other

served : (k j : ℕ) (s : State) (b : Parsed State) (o : Option (Parsed SlotLink)) → j ≢ k → parse_then o (λ d log. accept (with_slot_link k s d) log) ≡ Some b → slot_at j b.state ≡ slot_at j s
served k j s b None apart e = absurd (none_some e)
served k j s b (Some d) apart e =
    let same : with_slot_link k s d.state ≡ b.state = cc in
    ap (slot_at j) (sym same) ∙ ap some_slot (get-set_other s.slots k j (record { link = d.state.link; said = d.state.environment.said }) apart)

pub others_stay : (k j : ℕ) (s : State) (log : Log) (b : Parsed State) → serve_at k s log ≡ Some b → j ≢ k → slot_at j b.state ≡ slot_at j s
others_stay k j s log b e apart = served k j s b (serve_slot_link k (slot_link_at k s) log) apart e

-- and leaves the order of the other deferred requests

pub order_stays : (k : ℕ) (s : State) (log : Log) (b : Parsed State) → serve_at k s log ≡ Some b → without_waiter k b.state.waiting ≡ without_waiter k s.waiting
order_stays k s log b e =
    let a = (slot_link_at k s).environment in
    let i = then_inv (serve_slot_link k (slot_link_at k s) log) (λ d log. accept (with_slot_link k s d) log) b e in
    let same : with_slot_link k s i.0.state ≡ b.state = ap (λ (c : Parsed State). c.state) (some_is i.2) in
    ap (λ (t : State). without_waiter k t.waiting) (sym same) ∙ served_order (slot_at k s).link i.0 i.1
  where
    served_order : (o : Option LinkState) (c : Parsed SlotLink) → serve_open k (slot_link_at k s).environment o log ≡ Some c → without_waiter k c.state.environment.waiting ≡ without_waiter k s.waiting
    served_order None c e = ap (λ (x : Parsed SlotLink). without_waiter k x.state.environment.waiting) (sym (some_is e))
    served_order (Some l) c e = (served_link k (open_link (slot_link_at k s).environment l) log c e).holds.waits
