-- What holds of a link and its environment, and goes on to hold through all that the link does.
use Rattle.std.proofs.Common.{◌≡◌, ◌≤◌, ℕ, zero, suc, Bool, true, false, not, cond, ◌&&◌, nat_le, List, [], ◌∷◌, ◌++◌, length, take, is_none, is_some, slice_get, refl, sym, ap, ◌∙◌, subst, IfSome}
use Rattle.std.specs.declared.option.Option.{Option}
use Rattle.std.specs.declared.option.Option.TheVariants.{None, Some}
use Rattle.af_limits.specs.Limits.{longest_frame, perform_limit}
use Rattle.af_world.specs.declared.happening.Why.{Why}
use Rattle.af_world.specs.declared.happening.Why.TheVariants as why
use Rattle.af_wire.specs.declared.front.Front.{Front}
use Rattle.af_wire.specs.declared.front.Front.TheVariants.{NeedMore, Frame, Malformed}
use Rattle.af_wire.specs.declared.order.Order.{Order}
use Rattle.af_wire.specs.declared.front.SetupFront.{SetupFront}
use Rattle.af_wire.specs.declared.front.SetupFront.TheVariants as front
use Rattle.af_wire.specs.Front.{setup_front, frame_front}
use Rattle.af_wire.specs.Message.{error}
use Rattle.af_request.specs.Asked.{Asked}
use Rattle.af_request.specs.Requests.{asked_in}
use Rattle.af_request.specs.Answer.{setup}
use Rattle.af_request.specs.Opcodes as opcodes
use Rattle.af_model.specs.State.{DeviceState, Deferral, Deferred, deferred_play, deferred_record, LinkState, OpenLink, open_link, say, with_device, closing_link}
use Rattle.af_model.specs.Waiting.{has_deferral, wait}
use Rattle.af_model.specs.Reply.{infos_of, reply_message}
use Rattle.af_model.specs.Play.{in_devices, tell_played}
use Rattle.af_model.specs.Perform.{perform, count_request}
use Rattle.af_model.specs.Advance.{advance, advance_by, advance_step, after_frame, after_front, after_setup, or_else, make_request, takes_more, without_front}
use Rattle.af_model.specs.Tick.{answer_deferred, complete_for, complete_deferred}
use Rattle.af_model.specs.Prefix.{is_dropped}
use Rattle.af_model.specs.Causes.{is_malformed}
use Rattle.af_model.proofs.BoolTestLemmas.{both-true, none-true, some_is}
use Rattle.af_model.proofs.DeviceHistoryLemmas.{Requested}
use Rattle.af_model.proofs.DueLemmas.{IsToWait, most_asked}
use Rattle.af_model.proofs.FrameSizeLemmas.{frame_asks}
use Rattle.af_model.proofs.InputLemmas.{IsBadInput}
use Rattle.af_model.proofs.RequestLemmas.{with_choices, done_both}

-- What goes on to hold at each move of link k: it changes, but its input and its output stay, and it is not closing before or
-- after; a request, or a setup, is taken off its input; it is to be closed for what its input begins with; something is queued
-- for it, if it may be; a device becomes later; or its request is deferred.
pub record Keeps (k : ℕ) (May : Option Why → Type 0) (I : OpenLink → Type 0) : Type 0 where
  pub may : (closing : Option Why) → is_dropped closing ≡ false → May closing
  pub link : (p : OpenLink) (l : LinkState) → p.link.closing ≡ None → l.closing ≡ None → l.pending ≡ p.link.pending → l.rest ≡ p.link.rest → l.is_set_up ≡ p.link.is_set_up → l.order ≡ p.link.order → I p → I (open_link p.environment l)
  pub takes : (p : OpenLink) (n : ℕ) → p.link.closing ≡ None → p.link.is_set_up ≡ true → frame_front p.link.order p.link.rest ≡ Frame n → is_some (asked_in p.link.order (take n p.link.rest)) ≡ true → I p → I (open_link p.environment (without_front n p.link))
  pub sets_up : (p : OpenLink) (order : Order) → p.link.closing ≡ None → p.link.is_set_up ≡ false → setup_front p.link.rest ≡ front.Setup order → I p → I (open_link p.environment (record (without_front 8 p.link) { is_set_up = true; order = order }))
  pub stops : (p : OpenLink) (cause : Why) → p.link.closing ≡ None → IsBadInput cause p.link → I p → I (open_link p.environment (closing_link cause p.link))
  pub says : (p : OpenLink) (bytes : List ℕ) → May p.link.closing → I p → I (say p bytes)
  pub becomes : (p : OpenLink) (d : ℕ) (device : DeviceState) (f : DeviceState → DeviceState) → slice_get p.environment.devices d ≡ Some device → Requested k device (f device) → I p → I (in_devices d f p)
  pub waits : (p : OpenLink) (d : ℕ) (device : DeviceState) (deferred : Deferred) → slice_get p.environment.devices d ≡ Some device → IsToWait longest_frame device deferred → p.link.closing ≡ None → I p → I (wait k d deferred p)

-- What holds of the devices and the deferred requests alone goes on to hold if it does where a device becomes later, and where a
-- request of link k is deferred.
pub environment_keeps : (k : ℕ) (E : List DeviceState → List Deferral → Type 0) →
    ((ds : List DeviceState) (ws : List Deferral) (d : ℕ) (device : DeviceState) (f : DeviceState → DeviceState) → slice_get ds d ≡ Some device → ((x : DeviceState) → slice_get ds d ≡ Some x → Requested k x (f x)) → E ds ws → E (with_device d f ds) ws) →
    ((ds : List DeviceState) (ws : List Deferral) (d : ℕ) (deferred : Deferred) → ((x : DeviceState) → slice_get ds d ≡ Some x → IsToWait longest_frame x deferred) → E ds ws → E ds (ws ++ record { link = k; device = d; deferred = deferred } ∷ [])) →
    Keeps k (λ closing. Unit {0}) (λ p. E p.environment.devices p.environment.waiting)
environment_keeps k E becomes waits = record {
  may = λ closing e. tt;
  link = λ p l open' after same rest set ordered h. h;
  takes = λ p n open' set e asked h. h;
  sets_up = λ p order open' unset e h. h;
  stops = λ p cause open' bad h. h;
  says = λ p bytes stays h. h;
  becomes = λ p d device f there l h. becomes p.environment.devices p.environment.waiting d device f there (λ x is. subst (λ y. Requested k y (f y)) (some_is (sym there ∙ is)) l) h;
  waits = λ p d device deferred there w open' h. waits p.environment.devices p.environment.waiting d deferred (λ x is. subst (λ y. IsToWait longest_frame y deferred) (some_is (sym there ∙ is)) w) h;
}

pub open_undropped : (closing : Option Why) → closing ≡ None → is_dropped closing ≡ false
open_undropped closing e = ap is_dropped e

pub takes_more_open : (waits : Bool) (l : LinkState) → takes_more waits l ≡ true → l.closing ≡ None
takes_more_open waits l e =
    none-true l.closing (both-true (is_none l.closing) (nat_le (length l.pending) perform_limit) (both-true (not waits) (is_none l.closing && nat_le (length l.pending) perform_limit) e).1).0

module _ (k : ℕ) (May : Option Why → Type 0) (I : OpenLink → Type 0) (kept : Keeps k May I) where
  request_keeps : (request : Asked) (p : OpenLink) → most_asked request ≤ longest_frame → p.link.closing ≡ None → I p → I (perform k request p)
  request_keeps request p short none h =
      let q = open_link p.environment (count_request p.link) in
      let i : I q = kept.link p (count_request p.link) none none refl refl refl refl h in
      let may = kept.may p.link.closing (open_undropped p.link.closing none) in
      done_both k q q.link.rest longest_frame (λ u v. I u) i
      (λ contexts selections bytes few. kept.says (with_choices contexts selections q) bytes may (kept.link q (with_choices contexts selections q).link none none refl refl refl refl i))
      (λ d device f there l. kept.becomes q d device f there l i)
      (λ d device f bytes few there l. kept.says (in_devices d f q) bytes may (kept.becomes q d device f there l i))
      (λ d device deferred there w. kept.waits q d device deferred there w none i) request short

  -- a frame is a request, or closes the link
  asked_keeps : (o : Option Asked) (n : ℕ) (p : OpenLink) → asked_in p.link.order (take n p.link.rest) ≡ o → frame_front p.link.order p.link.rest ≡ Frame n → p.link.is_set_up ≡ true → p.link.closing ≡ None → I p →
      I (make_request k o (open_link p.environment (without_front n p.link)))
  asked_keeps None n p asked e set none h = kept.stops p why.Malformed none (set, ap (λ f. is_malformed p.link.order f p.link.rest) e ∙ ap is_none asked) h
  asked_keeps (Some request) n p asked e set none h = request_keeps request (open_link p.environment (without_front n p.link)) (frame_asks p.link.order p.link.rest n request e asked) none (kept.takes p n none set e (ap is_some asked) h)

  frame_keeps : (f : Front) (p : OpenLink) → frame_front p.link.order p.link.rest ≡ f → p.link.is_set_up ≡ true → p.link.closing ≡ None → I p → IfSome (after_frame k f p) I
  frame_keeps NeedMore p e set none h = tt
  frame_keeps Malformed p e set none h = kept.stops p why.Malformed none (set, ap (λ f. is_malformed p.link.order f p.link.rest) e) h
  frame_keeps (Frame n) p e set none h = asked_keeps (asked_in p.link.order (take n p.link.rest)) n p refl e set none h

  setup_keeps : (f : SetupFront) (p : OpenLink) → setup_front p.link.rest ≡ f → p.link.is_set_up ≡ false → p.link.closing ≡ None → I p → IfSome (after_setup f p) I
  setup_keeps front.NeedMore p e unset none h = tt
  setup_keeps (front.Setup order) p e unset none h =
      let q = open_link p.environment (record (without_front 8 p.link) { is_set_up = true; order = order }) in
      kept.says q (reply_message order opcodes.setup (setup (infos_of p.environment.devices)) 0) (kept.may p.link.closing (open_undropped p.link.closing none)) (kept.sets_up p order none unset e h)
  setup_keeps (front.BadSetup order value) p e unset none h =
      kept.says (open_link p.environment (closing_link why.BadSetup p.link)) (error order 1 value opcodes.setup 0) (kept.may (Some why.BadSetup) refl) (kept.stops p why.BadSetup none (unset, order, value, e) h)

  front_keeps : (t : Bool) (p : OpenLink) → p.link.is_set_up ≡ t → p.link.closing ≡ None → I p → IfSome (cond t (after_frame k (frame_front p.link.order p.link.rest) p) (after_setup (setup_front p.link.rest) p)) I
  front_keeps true p set none h = frame_keeps (frame_front p.link.order p.link.rest) p refl set none h
  front_keeps false p unset none h = setup_keeps (setup_front p.link.rest) p refl unset none h

  step_keeps : (p : OpenLink) → I p → IfSome (advance_step k p) I
  step_keeps p h =
      let waits = has_deferral p.environment.waiting k in
      elim (takes_more waits p.link) as (λ t. takes_more waits p.link ≡ t → IfSome (cond t (after_front k p) None) I) [
        | true ↦ λ t. front_keeps p.link.is_set_up p refl (takes_more_open waits p.link t) h
        | false ↦ λ t. tt
      ] refl

  by_keeps : (n : ℕ) (p : OpenLink) → I p → I (advance_by n k p)
  by_keeps zero p h = h
  by_keeps (suc n) p h =
      elim (advance_step k p) as (λ o. IfSome o I → I (or_else p (advance_by n k) o)) [ None ↦ λ s. h | Some q ↦ λ s. by_keeps n q s ] (step_keeps p h)

  pub advance_keeps : (p : OpenLink) → I p → I (advance k p)
  unfolding advance
  advance_keeps p h = by_keeps (length p.link.rest) p h

  answer_keeps : (deferred : Deferred) (device : DeviceState) (p : OpenLink) → May p.link.closing → I p → I (answer_deferred deferred device p)
  answer_keeps (deferred_play quiet start sound preempt) device p may h = elim quiet as (λ b. I (tell_played b device p)) [ true ↦ h | false ↦ kept.says p _ may h ]
  answer_keeps (deferred_record c start frames) device p may h = kept.says p _ may h

  -- a deferred request of the link completes
  pub complete_keeps : (d : ℕ) (deferred : Deferred) (o : Option DeviceState) (p : OpenLink) → slice_get p.environment.devices d ≡ o → ((device : DeviceState) → slice_get p.environment.devices d ≡ Some device → I p → I (in_devices d (complete_deferred k deferred) p)) →
      May p.link.closing → I p → I (complete_for (record { link = k; device = d; deferred = deferred }) o p)
  complete_keeps d deferred None p there completes may h = h
  complete_keeps d deferred (Some device) p there completes may h =
      let q = in_devices d (complete_deferred k deferred) p in
      advance_keeps (answer_deferred deferred device q) (answer_keeps deferred device q may (completes device there h))
