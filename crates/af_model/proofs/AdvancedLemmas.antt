-- All was taken off a link's input that can be.
use Rattle.std.proofs.Common.{◌≡◌, ℕ, ◌+◌, Bool, true, false, not, cond, ◌&&◌, nat_le, inl, inr, List, length, is_none, refl, sym, ap, ◌∙◌, subst, arith, length-append}
use Rattle.std.specs.declared.option.Option.{Option}
use Rattle.std.specs.declared.option.Option.TheVariants.{None, Some}
use Rattle.af_world.specs.declared.happening.Why.{Why}
use Rattle.af_wire.specs.declared.order.Order.{Order}
use Rattle.af_wire.specs.declared.front.Front.{Front}
use Rattle.af_wire.specs.declared.front.Front.TheVariants.{NeedMore, Frame, Malformed}
use Rattle.af_wire.specs.declared.front.SetupFront.{SetupFront}
use Rattle.af_wire.specs.declared.front.SetupFront.TheVariants as front
use Rattle.af_wire.specs.Front.{setup_front, frame_front}
use Rattle.af_model.specs.State.{Deferral, DeviceState, LinkState, OpenLink, say}
use Rattle.af_model.specs.Waiting.{has_deferral}
use Rattle.af_model.specs.Advance.{advance, advance_step, after_frame, after_front, after_setup, takes_more}
use Rattle.af_model.specs.Tick.{answer_deferred, complete_for, complete_deferred}
use Rattle.af_model.specs.Play.{in_devices}
use Rattle.af_model.specs.Causes.{AreServed}
use Rattle.af_limits.specs.Limits.{perform_limit}
use Rattle.af_model.proofs.AdvanceLemmas.{advance_ends}
use Rattle.af_model.proofs.BoolTestLemmas.{both-true, none_some}
use Rattle.af_model.proofs.InputLemmas.{IsInput}
use Rattle.af_model.proofs.LinkInvariantLemmas.{takes_more_open}

-- no complete setup, or no complete frame, is at the front
abbrev pub NoneAtFront : Bool → Order → List ℕ → Type 0
NoneAtFront false order rest = setup_front rest ≡ front.NeedMore
NoneAtFront true order rest = frame_front order rest ≡ NeedMore

-- if something may be taken off a link's input, nothing complete is at its front
abbrev pub IsAdvanced : ℕ → LinkState → List Deferral → Type 0
IsAdvanced k l waiting = takes_more (has_deferral waiting k) l ≡ true → NoneAtFront l.is_set_up l.order l.rest

frame_none : (k : ℕ) (f : Front) (p : OpenLink) → after_frame k f p ≡ None → f ≡ NeedMore
frame_none k NeedMore p e = refl
frame_none k Malformed p e = absurd (none_some (sym e))
frame_none k (Frame n) p e = absurd (none_some (sym e))

setup_none : (f : SetupFront) (p : OpenLink) → after_setup f p ≡ None → f ≡ front.NeedMore
setup_none front.NeedMore p e = refl
setup_none (front.Setup order) p e = absurd (none_some (sym e))
setup_none (front.BadSetup order value) p e = absurd (none_some (sym e))

front_none : (b : Bool) (k : ℕ) (p : OpenLink) → cond b (after_frame k (frame_front p.link.order p.link.rest) p) (after_setup (setup_front p.link.rest) p) ≡ None → NoneAtFront b p.link.order p.link.rest
front_none true k p e = frame_none k (frame_front p.link.order p.link.rest) p e
front_none false k p e = setup_none (setup_front p.link.rest) p e

-- a link that takes no step is advanced
step_none : (k : ℕ) (p : OpenLink) → advance_step k p ≡ None → IsAdvanced k p.link p.environment.waiting
step_none k p e more = front_none p.link.is_set_up k p (sym (ap (λ t. cond t (after_front k p) None) more) ∙ e)

pub advanced_after : (k : ℕ) (p : OpenLink) → IsAdvanced k (advance k p).link (advance k p).environment.waiting
advanced_after k p = step_none k (advance k p) (advance_ends k p)

-- so is a link whose request completes
pub advanced_complete : (w : Deferral) (o : Option DeviceState) (device : DeviceState) (p : OpenLink) → o ≡ Some device → IsAdvanced w.link (complete_for w o p).link (complete_for w o p).environment.waiting
advanced_complete w None device p e = absurd (none_some e)
advanced_complete w (Some device) x p e = advanced_after w.link (answer_deferred w.deferred device (in_devices w.device (complete_deferred w.link w.deferred) p))

-- nothing may be taken off a link that is closing
pub advanced_closing : (k : ℕ) (l : LinkState) (waiting : List Deferral) (cause : Why) → l.closing ≡ Some cause → IsAdvanced k l waiting
advanced_closing k l waiting cause closes more = absurd (none_some (sym (takes_more_open (has_deferral waiting k) l more) ∙ closes))

-- nor off one for which more is queued
less_room : (m n : ℕ) → nat_le (m + n) perform_limit ≡ true → nat_le m perform_limit ≡ true
less_room m n e = grind arith

pub advanced_says : (k : ℕ) (p : OpenLink) (bytes : List ℕ) → IsAdvanced k p.link p.environment.waiting → IsAdvanced k (say p bytes).link (say p bytes).environment.waiting
advanced_says k p bytes h more =
    let open_to = is_none p.link.closing in
    let long = nat_le (length (say p bytes).link.pending) perform_limit in
    let a = both-true (not (has_deferral p.environment.waiting k)) (open_to && long) more in
    let b = both-true open_to long a.1 in
    let room : nat_le (length p.link.pending) perform_limit ≡ true = less_room (length p.link.pending) (length bytes) (sym (ap (λ n. nat_le n perform_limit) (length-append p.link.pending bytes)) ∙ b.1) in
    h (ap (λ t. t && (open_to && nat_le (length p.link.pending) perform_limit)) a.0 ∙ ap (λ t. t && nat_le (length p.link.pending) perform_limit) b.0 ∙ room)

-- all that such a link gave is served
pub are_served : (is_set_up : Bool) (order : Order) (gave rest : List ℕ) → IsInput is_set_up order gave rest → NoneAtFront is_set_up order rest → AreServed gave
are_served false order gave rest input none = inl (subst (λ l. setup_front l ≡ front.NeedMore) input none)
are_served true order gave rest input none = inr (order, rest, input, none)
