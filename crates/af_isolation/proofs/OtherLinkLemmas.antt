-- What another link does is the same without link k.
use Rattle.std.proofs.Common.{◌≡◌, ℕ, zero, suc, ◌+◌, ◌==◌, Bool, true, false, not, cond, ◌||◌, nat_le, is_none, length, take, List, [], ◌∷◌, ◌++◌, map, slice_get, slice_set, option_map, refl, sym, ap, ◌∙◌, eqb-true}
use Rattle.std.proofs.lemmas.Bool.{eqb-false}
use Rattle.std.proofs.lemmas.Option.{slice_get-map}
use Rattle.std.proofs.lemmas.List.Elements.{filter-append}
use Rattle.std.specs.declared.option.Option.{Option}
use Rattle.std.specs.declared.option.Option.TheVariants.{None, Some}
use Rattle.af_limits.specs.Limits.{event_limit}
use Rattle.af_time.specs.DeviceTime.{unwrap}
use Rattle.af_context.specs.declared.Context.{Context}
use Rattle.af_context.specs.Contexts.{creation, reference, context_of, without_context}
use Rattle.af_request.specs.Asked.{Asked, no_op, get_time, create_ac, change_ac, free_ac, play_run, record_run, select_events, set_controls, query_controls, hook_switch, query_phone}
use Rattle.af_request.specs.declared.reply.Phone.{Phone}
use Rattle.af_request.specs.Requests.{asked_in}
use Rattle.af_request.specs.Answer.{plain, setup}
use Rattle.af_request.specs.Opcodes as opcodes
use Rattle.af_phone.specs.Lines.{selects}
use Rattle.af_wire.specs.declared.event.Event.{Event}
use Rattle.af_wire.specs.Event.{event_bytes}
use Rattle.af_wire.specs.declared.front.Front.{Front}
use Rattle.af_wire.specs.declared.front.Front.TheVariants.{NeedMore, Frame, Malformed}
use Rattle.af_wire.specs.declared.front.SetupFront.{SetupFront}
use Rattle.af_wire.specs.declared.front.SetupFront.TheVariants as front
use Rattle.af_wire.specs.Front.{setup_front, frame_front}
use Rattle.af_world.specs.declared.happening.ReadGot.{ReadGot}
use Rattle.af_world.specs.declared.happening.ReadGot.TheVariants.{Given, NotYet, Ended, Failed}
use Rattle.af_world.specs.declared.happening.Why.{Why}
use Rattle.af_world.specs.declared.happening.Why.TheVariants as why
use Rattle.af_model.specs.declared.refusal.Refusal.{Refusal}
use Rattle.af_model.specs.State.{DeviceState, Deferral, EnvironmentState, OpenLink, open_link, SlotLink, link_in_slot, say, Deferred, deferred_play, deferred_record, Completion, device_set, with_device}
use Rattle.af_model.specs.Waiting.{has_deferral, wait}
use Rattle.af_model.specs.Reply.{infos_of, info_of, reply_with, reply_message}
use Rattle.af_model.specs.Checks.{refuse_or, in_device, context_refusal}
use Rattle.af_model.specs.ContextRequests.{creation_refusal, requested_context, create, change_refusal, change, with_contexts}
use Rattle.af_model.specs.DeviceRequests.{with_device_controls, controls_refusal, on_line, select, set_device_controls, switch_hook, switch_refusal, tell_controls, tell_phone, with_device_hook}
use Rattle.af_model.specs.Play.{play, play_refusal, start_play, tell_played, accept_play, entry_now, in_devices, frames_of, frames_within_horizon, sent_sound}
use Rattle.af_model.specs.Record.{record_sound, record_refusal, recorded_bytes, start_record, give_record, given_frames, is_to_wait}
use Rattle.af_model.specs.Perform.{channels_at, request_effect, perform, count_request, tell_time, in_context}
use Rattle.af_model.specs.Events.{drop_link, mask_of, tell_link, tell_selected, without_waiter}
use Rattle.af_model.specs.Advance.{advance, advance_by, advance_step, absorb, after_frame, after_front, after_setup, or_else, make_request, takes_more, without_front}
use Rattle.af_model.specs.Tick.{answer_deferred, complete_for, complete_deferred}
use Rattle.af_model.specs.Turn.{after_read, after_write, send_pending}
use Rattle.af_isolation.specs.Without.{device_without}

-- the environment of a link, without link k
abbrev pub environment_without : ℕ → EnvironmentState → EnvironmentState
environment_without k a = record a { devices = map (device_without k) a.devices; waiting = without_waiter k a.waiting }

-- an open link with that environment
abbrev pub open_without : ℕ → OpenLink → OpenLink
open_without k p = open_link (environment_without k p.environment) p.link

-- the same for a number whose link may be closed
abbrev pub slot_without : ℕ → SlotLink → SlotLink
slot_without k d = link_in_slot (environment_without k d.environment) d.link

-- Lists

-- each device is at its number
pub device_at_without : (k : ℕ) (devices : List DeviceState) (d : ℕ) → slice_get (map (device_without k) devices) d ≡ option_map (device_without k) (slice_get devices d)
device_at_without k devices d = slice_get-map (device_without k) devices d

-- there are as many devices
pub devices_count : (k : ℕ) (devices : List DeviceState) → length (map (device_without k) devices) ≡ length devices
devices_count k [] = refl
devices_count k (device ∷ devices) = ap suc (devices_count k devices)

-- the channels of each are the same
channels_without : (k : ℕ) (devices : List DeviceState) (d : ℕ) → channels_at (map (device_without k) devices) d ≡ channels_at devices d
channels_without k devices d = ap (option_map (λ device. device.channels)) (device_at_without k devices d) ∙ same (slice_get devices d)
  where
    same : (o : Option DeviceState) → option_map (λ device. device.channels) (option_map (device_without k) o) ≡ option_map (λ device. device.channels) o
    same None = refl
    same (Some device) = refl

-- what a setup reports of the devices
pub infos_without : (k : ℕ) (devices : List DeviceState) → infos_of (map (device_without k) devices) ≡ infos_of devices
infos_without k [] = refl
infos_without k (device ∷ devices) = ap (λ infos. info_of device ∷ infos) (infos_without k devices)

-- a device is put in its place
set_without : (k : ℕ) (devices : List DeviceState) (d : ℕ) (device : DeviceState) → slice_set (map (device_without k) devices) d (device_without k device) ≡ map (device_without k) (slice_set devices d device)
set_without k [] d device = refl
set_without k (x ∷ devices) zero device = refl
set_without k (x ∷ devices) (suc d) device = ap (λ l. device_without k x ∷ l) (set_without k devices d device)

-- The device at a number becomes another. If what becomes of it is the same without link k, so is the list.
pub with_device_without : (k d : ℕ) (f g : DeviceState → DeviceState) (devices : List DeviceState) → ((device : DeviceState) → slice_get devices d ≡ Some device → f (device_without k device) ≡ device_without k (g device)) →
    with_device d f (map (device_without k) devices) ≡ map (device_without k) (with_device d g devices)
with_device_without k d f g devices same =
    ap (device_set d f (map (device_without k) devices)) (device_at_without k devices d)
    ∙ elim (slice_get devices d) as (λ o. slice_get devices d ≡ o → device_set d f (map (device_without k) devices) (option_map (device_without k) o) ≡ map (device_without k) (device_set d g devices o)) [
      | None ↦ λ there. refl
      | Some device ↦ λ there. ap (slice_set (map (device_without k) devices) d) (same device there) ∙ set_without k devices d (g device)
    ] refl

-- two numbers differ in either order
pub apart : (j k : ℕ) → (j == k) ≡ false → (k == j) ≡ false
apart j k other =
    elim (k == j) as (λ t. (k == j) ≡ t → t ≡ false) [ true ↦ λ e. absurd (eqb-false j k other (sym (eqb-true k j e))) | false ↦ λ e. refl ] refl

-- another link's deferred request is at its place
pub waits_without : (k j : ℕ) → (j == k) ≡ false → (waiting : List Deferral) → has_deferral (without_waiter k waiting) j ≡ has_deferral waiting j
waits_without k j other [] = refl
waits_without k j other (w ∷ waiting) =
    elim (w.link == k) as (λ t. (w.link == k) ≡ t → has_deferral (cond (not t) (w ∷ without_waiter k waiting) (without_waiter k waiting)) j ≡ has_deferral (w ∷ waiting) j) [
      | true ↦ λ e. waits_without k j other waiting ∙ sym (ap (λ t. t || has_deferral waiting j) (ap (λ n. n == j) (eqb-true w.link k e) ∙ apart j k other))
      | false ↦ λ e. ap (λ t. (w.link == j) || t) (waits_without k j other waiting)
    ] refl

-- a request of another link is deferred
pub waiting_without : (k : ℕ) (w : Deferral) → (w.link == k) ≡ false → (waiting : List Deferral) → without_waiter k (waiting ++ w ∷ []) ≡ without_waiter k waiting ++ w ∷ []
waiting_without k w other waiting = filter-append (λ v. not (v.link == k)) waiting (w ∷ []) ∙ ap (λ t. without_waiter k waiting ++ cond (not t) (w ∷ []) []) other

-- of the deferred requests: those of two links leave
left_without : (k j : ℕ) (w : Deferral) (waiting : List Deferral) (s t : Bool) → (w.link == k) ≡ s → (w.link == j) ≡ t →
    without_waiter j (cond (not s) (w ∷ waiting) waiting) ≡ cond (not s) (cond (not t) (w ∷ without_waiter j waiting) (without_waiter j waiting)) (without_waiter j waiting)
left_without k j w waiting true t a b = refl
left_without k j w waiting false t a b = ap (λ t. cond (not t) (w ∷ without_waiter j waiting) (without_waiter j waiting)) b

-- the requests of two links leave, in either order
pub left_both : (k j : ℕ) (waiting : List Deferral) → without_waiter j (without_waiter k waiting) ≡ without_waiter k (without_waiter j waiting)
left_both k j [] = refl
left_both k j (w ∷ waiting) =
    left_without k j w (without_waiter k waiting) (w.link == k) (w.link == j) refl refl ∙ swapped (w.link == k) (w.link == j) (without_waiter j (without_waiter k waiting)) (without_waiter k (without_waiter j waiting)) (left_both k j waiting)
    ∙ sym (left_without j k w (without_waiter j waiting) (w.link == j) (w.link == k) refl refl)
  where
    swapped : (s t : Bool) (x y : List Deferral) → x ≡ y → cond (not s) (cond (not t) (w ∷ x) x) x ≡ cond (not t) (cond (not s) (w ∷ y) y) y
    swapped true true x y e = e
    swapped true false x y e = e
    swapped false true x y e = e
    swapped false false x y e = ap (λ l. w ∷ l) e

-- Requests

-- any change of a device that does not look at what it completed
pub in_devices_without : (k d : ℕ) (f : DeviceState → DeviceState) → ((device : DeviceState) → f (device_without k device) ≡ device_without k (f device)) → (p : OpenLink) → in_devices d f (open_without k p) ≡ open_without k (in_devices d f p)
in_devices_without k d f same p =
    ap (λ devices. open_link (record (environment_without k p.environment) { devices = devices }) p.link) (with_device_without k d f f p.environment.devices (λ device there. same device))

-- a request of another link is deferred
wait_without : (k j : ℕ) → (j == k) ≡ false → (d : ℕ) (deferred : Deferred) (p : OpenLink) → wait j d deferred (open_without k p) ≡ open_without k (wait j d deferred p)
wait_without k j other d deferred p =
    ap (λ waiting. open_link (record (environment_without k p.environment) { waiting = waiting }) p.link) (sym (waiting_without k (record { link = j; device = d; deferred = deferred }) other p.environment.waiting))

module _ (k : ℕ) (p : OpenLink) where
  -- something does the same without link k
  abbrev Same : (OpenLink → OpenLink) → Type 0
  Same f = f (open_without k p) ≡ open_without k (f p)

  -- either of two things
  either_same : (b : Bool) (f g : OpenLink → OpenLink) → Same f → Same g → cond b (f (open_without k p)) (g (open_without k p)) ≡ open_without k (cond b (f p) (g p))
  either_same true f g a b = a
  either_same false f g a b = b

  -- a request that is done if its checks pass
  refused_same : (opcode : ℕ) (o : Option Refusal) (f : OpenLink → OpenLink) → Same f → Same (refuse_or opcode o f)
  refused_same opcode None f same = same
  refused_same opcode (Some refusal) f same = refl

  -- a request that names a device
  device_same : (opcode d : ℕ) (f : DeviceState → OpenLink → OpenLink) → ((device : DeviceState) → f (device_without k device) (open_without k p) ≡ open_without k (f device p)) →
      in_device opcode d f (slice_get (map (device_without k) p.environment.devices) d) (open_without k p) ≡ open_without k (in_device opcode d f (slice_get p.environment.devices d) p)
  device_same opcode d f same =
      ap (λ o. in_device opcode d f o (open_without k p)) (device_at_without k p.environment.devices d)
      ∙ elim (slice_get p.environment.devices d) as (λ o. in_device opcode d f (option_map (device_without k) o) (open_without k p) ≡ open_without k (in_device opcode d f o p)) [
        | None ↦ refl
        | Some device ↦ same device
      ]

  -- a request that names a context
  context_same : (opcode ac : ℕ) (f : Context → DeviceState → OpenLink → OpenLink) (o : Option Context) → ((c : Context) (device : DeviceState) → f c (device_without k device) (open_without k p) ≡ open_without k (f c device p)) → Same (in_context opcode ac f o)
  context_same opcode ac f None same = refl
  context_same opcode ac f (Some c) same = device_same opcode c.device (f c) (same c)

  -- a request that names a line
  line_same : (opcode d : ℕ) (f : Phone → OpenLink → OpenLink) (o : Option Phone) → ((line : Phone) → Same (f line)) → Same (on_line opcode d f o)
  line_same opcode d f None same = refl
  line_same opcode d f (Some line) same = same line

-- a play is replied to
played_without : (k : ℕ) (quiet : Bool) (device : DeviceState) (p : OpenLink) → tell_played quiet (device_without k device) (open_without k p) ≡ open_without k (tell_played quiet device p)
played_without k true device p = refl
played_without k false device p = refl

module _ (k j : ℕ) (other : (j == k) ≡ false) (p : OpenLink) where
  -- a play is accepted or deferred
  play_same : (quiet : Bool) (c : Context) (time : ℕ) (bytes : List ℕ) (device : DeviceState) → play j quiet c time bytes (device_without k device) (open_without k p) ≡ open_without k (play j quiet c time bytes device p)
  play_same quiet c time bytes device =
      let f = accept_play j (entry_now c device time bytes) in
      refused_same k p opcodes.play (play_refusal device.channels c (length bytes)) (start_play j quiet c time bytes device)
      (either_same k p (nat_le (frames_of device.channels c (length bytes)) (frames_within_horizon device time)) (λ q. tell_played quiet device (in_devices c.device f q)) (wait j c.device (deferred_play quiet (unwrap device.now time) (sent_sound c bytes) c.preempt))
      (ap (tell_played quiet device) (in_devices_without k c.device f (λ device. refl) p) ∙ played_without k quiet device (in_devices c.device f p))
      (wait_without k j other c.device (deferred_play quiet (unwrap device.now time) (sent_sound c bytes) c.preempt) p))

  -- a record is answered or deferred
  record_same : (blocking : Bool) (c : Context) (time bytes : ℕ) (device : DeviceState) → record_sound j blocking c time bytes (device_without k device) (open_without k p) ≡ open_without k (record_sound j blocking c time bytes device p)
  unfolding recorded_bytes
  record_same blocking c time bytes device =
      refused_same k p opcodes.record (record_refusal device.channels c bytes) (start_record j blocking c time bytes device)
      (either_same k p (is_to_wait blocking device time (frames_of device.channels c bytes)) (wait j c.device (deferred_record c (unwrap device.now time) (frames_of device.channels c bytes)))
      (give_record c (unwrap device.now time) (given_frames blocking device time (frames_of device.channels c bytes)) device)
      (wait_without k j other c.device (deferred_record c (unwrap device.now time) (frames_of device.channels c bytes)) p) refl)

-- any request of another link
pub done_other : (k j : ℕ) → (j == k) ≡ false → (request : Asked) (p : OpenLink) → request_effect j request (open_without k p) ≡ open_without k (request_effect j request p)
done_other k j other no_op p = refl
done_other k j other (get_time d) p = device_same k p opcodes.get_time d tell_time (λ device. refl)
done_other k j other (create_ac d ac ty channels preempt play_gain record_gain) p =
    let c = requested_context d ac ty preempt play_gain record_gain in
    let q = open_without k p in
    ap (λ n. refuse_or opcodes.create_ac (creation_refusal n d ty channels preempt play_gain record_gain) (create c) q) (channels_without k p.environment.devices d)
    ∙ refused_same k p opcodes.create_ac (creation_refusal (channels_at p.environment.devices d) d ty channels preempt play_gain record_gain) (create c)
    (refused_same k p opcodes.create_ac (context_refusal c.ac (creation p.link.contexts c.ac)) (λ q. reply_with opcodes.create_ac plain (with_contexts (q.link.contexts ++ c ∷ []) q)) refl)
done_other k j other (change_ac mask ac preempt play_gain record_gain) p =
    refused_same k p opcodes.change_ac (change_refusal p.link.contexts mask ac preempt play_gain record_gain) (change mask ac preempt play_gain record_gain) refl
done_other k j other (free_ac ac) p = refused_same k p opcodes.free_ac (context_refusal ac (reference p.link.contexts ac)) (λ q. reply_with opcodes.free_ac plain (with_contexts (without_context q.link.contexts ac) q)) refl
done_other k j other (play_run quiet ac start bytes) p = context_same k p opcodes.play ac (λ c. play j quiet c start bytes) (context_of p.link.contexts ac) (λ c device. play_same k j other p quiet c start bytes device)
done_other k j other (record_run blocking ac start bytes) p =
    context_same k p opcodes.record ac (λ c. record_sound j blocking c start bytes) (context_of p.link.contexts ac) (λ c device. record_same k j other p blocking c start bytes device)
done_other k j other (select_events d mask) p =
    device_same k p opcodes.select_events d (λ device. on_line opcodes.select_events d (λ line. select d mask) device.line) (λ device. line_same k p opcodes.select_events d (λ line. select d mask) device.line (λ line. refl))
done_other k j other (set_controls d mask input_on output_on input_gain output_gain) p =
    let f = with_device_controls j mask input_on output_on input_gain output_gain in
    device_same k p opcodes.set_controls d (set_device_controls j d mask input_on output_on input_gain output_gain)
    (λ device. refused_same k p opcodes.set_controls (controls_refusal mask input_on output_on input_gain output_gain) (λ q. reply_with opcodes.set_controls plain (in_devices d f q)) (ap (reply_with opcodes.set_controls plain) (in_devices_without k d f (λ device. refl) p)))
done_other k j other (query_controls d) p = device_same k p opcodes.query_controls d tell_controls (λ device. refl)
done_other k j other (hook_switch d off) p =
    let f = with_device_hook j (off == 1) in
    device_same k p opcodes.hook_switch d (λ device. on_line opcodes.hook_switch d (switch_hook j d off) device.line)
    (λ device. line_same k p opcodes.hook_switch d (switch_hook j d off) device.line
    (λ line. refused_same k p opcodes.hook_switch (switch_refusal d off line) (λ q. reply_with opcodes.hook_switch plain (in_devices d f q)) (ap (reply_with opcodes.hook_switch plain) (in_devices_without k d f (λ device. refl) p))))
done_other k j other (query_phone d) p = device_same k p opcodes.query_phone d (λ device. on_line opcodes.query_phone d tell_phone device.line) (λ device. line_same k p opcodes.query_phone d tell_phone device.line (λ line. refl))

-- and its request is counted
pub perform_other : (k j : ℕ) → (j == k) ≡ false → (request : Asked) (p : OpenLink) → perform j request (open_without k p) ≡ open_without k (perform j request p)
perform_other k j other request p = done_other k j other request (open_link p.environment (count_request p.link))

-- Advancing

module _ (k j : ℕ) (other : (j == k) ≡ false) where
  -- a frame is a request, or closes the link
  requested_other : (o : Option Asked) (p : OpenLink) → make_request j o (open_without k p) ≡ open_without k (make_request j o p)
  requested_other None p = refl
  requested_other (Some request) p = perform_other k j other request p

  -- a complete frame at the front of its input
  frame_other : (f : Front) (p : OpenLink) → after_frame j f (open_without k p) ≡ option_map (open_without k) (after_frame j f p)
  frame_other NeedMore p = refl
  frame_other Malformed p = refl
  frame_other (Frame n) p = ap (λ q. Some q) (requested_other (asked_in p.link.order (take n p.link.rest)) (open_link p.environment (without_front n p.link)))

  -- and before it is set up
  setup_other : (f : SetupFront) (p : OpenLink) → after_setup f (open_without k p) ≡ option_map (open_without k) (after_setup f p)
  setup_other front.NeedMore p = refl
  setup_other (front.Setup order) p =
      ap (λ infos. Some (say (open_link (environment_without k p.environment) (record (without_front 8 p.link) { is_set_up = true; order = order })) (reply_message order opcodes.setup (setup infos) 0))) (infos_without k p.environment.devices)
  setup_other (front.BadSetup order value) p = refl

  -- either of them
  front_other : (is_set_up : Bool) (p : OpenLink) → cond is_set_up (after_frame j (frame_front p.link.order p.link.rest) (open_without k p)) (after_setup (setup_front p.link.rest) (open_without k p)) ≡
      option_map (open_without k) (cond is_set_up (after_frame j (frame_front p.link.order p.link.rest) p) (after_setup (setup_front p.link.rest) p))
  front_other true p = frame_other (frame_front p.link.order p.link.rest) p
  front_other false p = setup_other (setup_front p.link.rest) p

  -- one is taken off, if another link may take more
  step_other : (p : OpenLink) → advance_step j (open_without k p) ≡ option_map (open_without k) (advance_step j p)
  step_other p =
      ap (λ waits. cond (takes_more waits p.link) (after_front j (open_without k p)) None) (waits_without k j other p.environment.waiting)
      ∙ elim (takes_more (has_deferral p.environment.waiting j) p.link) as (λ t. cond t (after_front j (open_without k p)) None ≡ option_map (open_without k) (cond t (after_front j p) None)) [
        | true ↦ front_other p.link.is_set_up p
        | false ↦ refl
      ]

  -- as long as there is one to take
  by_other : (n : ℕ) (p : OpenLink) → advance_by n j (open_without k p) ≡ open_without k (advance_by n j p)
  by_other zero p = refl
  by_other (suc n) p =
      ap (or_else (open_without k p) (advance_by n j)) (step_other p)
      ∙ elim (advance_step j p) as (λ o. or_else (open_without k p) (advance_by n j) (option_map (open_without k) o) ≡ open_without k (or_else p (advance_by n j) o)) [ None ↦ refl | Some q ↦ by_other n q ]

  -- another link advances
  pub advance_other : (p : OpenLink) → advance j (open_without k p) ≡ open_without k (advance j p)
  unfolding advance
  advance_other p = by_other (length p.link.rest) p

-- Reads, writes and events

-- a link is dropped
pub dropped_other : (k j : ℕ) (cause : Why) (p : OpenLink) → drop_link j cause (open_without k p) ≡ open_without k (drop_link j cause p)
dropped_other k j cause p = ap (λ waiting. open_link (record (environment_without k p.environment) { waiting = waiting }) (drop_link j cause p).link) (left_both k j p.environment.waiting)

module _ (k j : ℕ) (other : (j == k) ≡ false) where
  -- it absorbs what a read gave
  absorb_other : (bytes : List ℕ) (p : OpenLink) → absorb j bytes (open_without k p) ≡ open_without k (absorb j bytes p)
  absorb_other bytes p =
      let more = open_link p.environment (record p.link { rest = p.link.rest ++ bytes }) in
      elim (is_none p.link.closing) as (λ t. cond t (advance j (open_without k more)) (open_without k p) ≡ open_without k (cond t (advance j more) p)) [ true ↦ advance_other k j other more | false ↦ refl ]

  -- any answer of a read
  pub after_read_other : (got : ReadGot) (p : OpenLink) → after_read j got (open_without k p) ≡ open_without k (after_read j got p)
  after_read_other (Given bytes) p = absorb_other bytes p
  after_read_other NotYet p = refl
  after_read_other Ended p = refl
  after_read_other Failed p = dropped_other k j why.LinkFault p

  -- a write took some bytes
  pub after_write_other : (bytes : List ℕ) (p : OpenLink) → after_write j bytes (open_without k p) ≡ open_without k (after_write j bytes p)
  after_write_other bytes p = advance_other k j other (open_link p.environment (send_pending (length bytes) p.link))

-- an event is queued for a link, or the link is dropped for it
pub tell_link_other : (k j : ℕ) (e : Event) (p : OpenLink) → tell_link j e (open_without k p) ≡ open_without k (tell_link j e p)
tell_link_other k j e p =
    elim (selects (mask_of p.link e.device) e.kind) as (λ t. cond t (tell_selected j e (open_without k p)) (open_without k p) ≡ open_without k (cond t (tell_selected j e p) p)) [
      | true ↦ elim (nat_le (length p.link.pending + 20) event_limit) as (λ t. cond t (say (open_without k p) (event_bytes p.link.order e p.link.sequence)) (drop_link j why.Overrun (open_without k p)) ≡ open_without k (cond t (say p (event_bytes p.link.order e p.link.sequence)) (drop_link j why.Overrun p))) [
        | true ↦ refl
        | false ↦ dropped_other k j why.Overrun p
      ]
      | false ↦ refl
    ]

-- Completions

-- a device keeps that it completed a request of another link
completing_without : (k j : ℕ) → (j == k) ≡ false → (deferred : Deferred) (device : DeviceState) → complete_deferred j deferred (device_without k device) ≡ device_without k (complete_deferred j deferred device)
completing_without k j other deferred device =
    let c : Completion = record { link = j; deferred = deferred; at = device.now } in
    let kept = filter-append (λ (c : Completion). not (c.link == k)) device.completed (c ∷ []) ∙ ap (λ t. (device_without k device).completed ++ cond (not t) (c ∷ []) []) other in
    ap (λ completed. record (complete_deferred j deferred device) { completed = completed }) (sym kept)

-- it is answered
answer_without : (k : ℕ) (deferred : Deferred) (device : DeviceState) (p : OpenLink) → answer_deferred deferred (device_without k device) (open_without k p) ≡ open_without k (answer_deferred deferred device p)
unfolding recorded_bytes
answer_without k (deferred_play quiet start sound preempt) device p = played_without k quiet device p
answer_without k (deferred_record c start frames) device p = refl

-- a request of another link completes, and then those that it may make
pub complete_other : (k : ℕ) (w : Deferral) → (w.link == k) ≡ false → (p : OpenLink) →
    complete_for w (slice_get (environment_without k p.environment).devices w.device) (open_without k p) ≡ open_without k (complete_for w (slice_get p.environment.devices w.device) p)
complete_other k w other p =
    let f = complete_deferred w.link w.deferred in
    let q = in_devices w.device f p in
    ap (λ o. complete_for w o (open_without k p)) (device_at_without k p.environment.devices w.device)
    ∙ elim (slice_get p.environment.devices w.device) as (λ o. complete_for w (option_map (device_without k) o) (open_without k p) ≡ open_without k (complete_for w o p)) [
      | None ↦ refl
      | Some device ↦
          ap (λ r. advance w.link (answer_deferred w.deferred (device_without k device) r)) (in_devices_without k w.device f (completing_without k w.link other w.deferred) p)
          ∙ ap (advance w.link) (answer_without k w.deferred device q) ∙ advance_other k w.link other (answer_deferred w.deferred device q)
    ]
