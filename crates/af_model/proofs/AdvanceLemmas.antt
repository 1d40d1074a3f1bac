-- Advancing a link comes to an end, and goes on from each step.
use Rattle.std.proofs.Common.{◌≡◌, ℕ, zero, suc, ◌≤◌, ◌<◌, Bool, true, false, List, [], ◌∷◌, length, take, refl, ◌∙◌, ap, subst, arith, length-drop, cond}
use Rattle.std.specs.declared.option.Option.{Option}
use Rattle.std.specs.declared.option.Option.TheVariants.{None, Some}
use Rattle.af_wire.specs.declared.order.Order.{Order}
use Rattle.af_wire.specs.declared.front.Front.{Front}
use Rattle.af_wire.specs.declared.front.Front.TheVariants.{NeedMore, Frame, Malformed}
use Rattle.af_wire.specs.declared.front.SetupFront.{SetupFront}
use Rattle.af_wire.specs.declared.front.SetupFront.TheVariants as front
use Rattle.af_wire.specs.Front.{setup_front, frame_front, IsFrameWithin, IsSetupWithin}
use Rattle.af_model.specs.State.{OpenLink, open_link}
use Rattle.af_request.specs.Asked.{Asked}
use Rattle.af_request.specs.Requests.{asked_in}
use Rattle.af_model.specs.Waiting.{has_deferral}
use Rattle.af_model.specs.Perform.{perform, count_request}
use Rattle.af_model.proofs.DueLemmas.{most_asked}
use Rattle.af_model.proofs.RequestLemmas.{done_both}
use Rattle.af_model.specs.Advance.{advance, advance_by, advance_step, after_frame, after_setup, after_front, takes_more, make_request, without_front, or_else}

pub frame_within : (order : Order) (xs : List ℕ) → IsFrameWithin (frame_front order xs) (length xs)
frame_within order [] = tt
frame_within order (a ∷ []) = tt
frame_within order (a ∷ b ∷ []) = tt
frame_within order (a ∷ b ∷ c ∷ []) = tt
frame_within order (a ∷ b ∷ c ∷ d ∷ xs) = grind arith

pub setup_within : (xs : List ℕ) → IsSetupWithin (setup_front xs) (length xs)
setup_within xs = grind arith

pub perform_rest : (k : ℕ) (request : Asked) (p : OpenLink) → (perform k request p).link.rest ≡ p.link.rest
perform_rest k request p =
    done_both k (open_link p.environment (count_request p.link)) p.link.rest (most_asked request) (λ u v. u.link.rest ≡ p.link.rest) refl (λ contexts selections bytes short. refl) (λ d device f there l. refl) (λ d device f bytes short there l. refl) (λ d device deferred there w. refl) request (omega arith)

pub perform_closing : (k : ℕ) (request : Asked) (p : OpenLink) → (perform k request p).link.closing ≡ p.link.closing
perform_closing k request p =
    done_both k (open_link p.environment (count_request p.link)) p.link.rest (most_asked request) (λ u v. u.link.closing ≡ p.link.closing) refl (λ contexts selections bytes short. refl) (λ d device f there l. refl) (λ d device f bytes short there l. refl) (λ d device deferred there w. refl) request (omega arith)

requested_rest : (k : ℕ) (o : Option Asked) (p : OpenLink) → length (make_request k o p).link.rest ≤ length p.link.rest
requested_rest k None p = omega arith
requested_rest k (Some request) p = let e = ap length (perform_rest k request p) in omega (arith, e)

-- what is left is shorter than n
abbrev pub IsShorter : ℕ → Option OpenLink → Type 0
IsShorter n None = Unit {0}
IsShorter n (Some q) = length q.link.rest < n

frame_shorter : (k : ℕ) (front : Front) (p : OpenLink) → IsFrameWithin front (length p.link.rest) → IsShorter (length p.link.rest) (after_frame k front p)
frame_shorter k NeedMore p w = tt
frame_shorter k Malformed p w = w
frame_shorter k (Frame n) p w =
    let less = requested_rest k (asked_in p.link.order (take n p.link.rest)) (open_link p.environment (without_front n p.link)) in
    omega (arith, less, length-drop n p.link.rest, w)

setup_shorter : (front : SetupFront) (p : OpenLink) → IsSetupWithin front (length p.link.rest) → IsShorter (length p.link.rest) (after_setup front p)
setup_shorter front.NeedMore p w = tt
setup_shorter (front.Setup order) p w = omega (arith, w, length-drop 8 p.link.rest)
setup_shorter (front.BadSetup order value) p w = omega (arith, w)

front_shorter : (b : Bool) (k : ℕ) (p : OpenLink) → IsShorter (length p.link.rest) (cond b (after_frame k (frame_front p.link.order p.link.rest) p) (after_setup (setup_front p.link.rest) p))
front_shorter true k p = frame_shorter k (frame_front p.link.order p.link.rest) p (frame_within p.link.order p.link.rest)
front_shorter false k p = setup_shorter (setup_front p.link.rest) p (setup_within p.link.rest)

taken_shorter : (b : Bool) (k : ℕ) (p : OpenLink) → IsShorter (length p.link.rest) (cond b (after_front k p) None)
taken_shorter true k p = front_shorter p.link.is_set_up k p
taken_shorter false k p = tt

-- each step takes at least one byte off
pub step_shorter : (k : ℕ) (p : OpenLink) → IsShorter (length p.link.rest) (advance_step k p)
step_shorter k p = taken_shorter (takes_more (has_deferral p.environment.waiting k) p.link) k p

-- any bound on the steps that is large enough serves
same_by : (n m k : ℕ) (p : OpenLink) → length p.link.rest ≤ n → length p.link.rest ≤ m → advance_by n k p ≡ advance_by m k p
same_by zero zero k p h g = refl
same_by zero (suc m) k p h g =
    elim (advance_step k p) as (λ o. IsShorter (length p.link.rest) o → p ≡ or_else p (advance_by m k) o) [ None ↦ λ s. refl | Some q ↦ λ s. absurd (omega (arith, s, h)) ] (step_shorter k p)
same_by (suc n) zero k p h g =
    elim (advance_step k p) as (λ o. IsShorter (length p.link.rest) o → or_else p (advance_by n k) o ≡ p) [ None ↦ λ s. refl | Some q ↦ λ s. absurd (omega (arith, s, g)) ] (step_shorter k p)
same_by (suc n) (suc m) k p h g =
    elim (advance_step k p) as (λ o. IsShorter (length p.link.rest) o → or_else p (advance_by n k) o ≡ or_else p (advance_by m k) o) [ None ↦ λ s. refl | Some q ↦ λ s. same_by n m k q (omega (arith, s, h)) (omega (arith, s, g)) ] (step_shorter k p)

by_some : (n k : ℕ) (p q : OpenLink) → advance_step k p ≡ Some q → advance_by (suc n) k p ≡ advance_by n k q
by_some n k p q e = ap (λ o. or_else p (advance_by n k) o) e

by_none : (n k : ℕ) (p : OpenLink) → advance_step k p ≡ None → advance_by n k p ≡ p
by_none zero k p e = refl
by_none (suc n) k p e = ap (λ o. or_else p (advance_by n k) o) e

-- after an advance there is none to take
by_ends : (n k : ℕ) (p : OpenLink) → length p.link.rest ≤ n → advance_step k (advance_by n k p) ≡ None
by_ends zero k p h =
    elim (advance_step k p) as (λ o. IsShorter (length p.link.rest) o → o ≡ None) [ None ↦ λ s. refl | Some q ↦ λ s. absurd (omega (arith, s, h)) ] (step_shorter k p)
by_ends (suc n) k p h =
    elim (advance_step k p) as (λ o. advance_step k p ≡ o → IsShorter (length p.link.rest) o → advance_step k (or_else p (advance_by n k) o) ≡ None) [
      | None ↦ λ e s. e
      | Some q ↦ λ e s. by_ends n k q (omega (arith, s, h))
    ] refl (step_shorter k p)

pub advance_ends : (k : ℕ) (p : OpenLink) → advance_step k (advance k p) ≡ None
unfolding advance
advance_ends k p = by_ends (length p.link.rest) k p (omega arith)

-- if there is one to take, advancing goes on after it
pub advance-some : (k : ℕ) (p q : OpenLink) → advance_step k p ≡ Some q → advance k p ≡ advance k q
unfolding advance
advance-some k p q e =
    let s : length q.link.rest < length p.link.rest = subst (λ o. IsShorter (length p.link.rest) o) e (step_shorter k p) in
    same_by (length p.link.rest) (suc (length p.link.rest)) k p (omega arith) (omega arith) ∙ by_some (length p.link.rest) k p q e ∙ same_by (length p.link.rest) (length q.link.rest) k q (omega arith) (omega arith)

-- if there is none to take, nothing changes
pub advance-none : (k : ℕ) (p : OpenLink) → advance_step k p ≡ None → advance k p ≡ p
unfolding advance
advance-none k p e = by_none (length p.link.rest) k p e
