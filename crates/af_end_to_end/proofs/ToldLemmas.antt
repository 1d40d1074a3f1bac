-- What a request of a client that records queues for its link.
use Rattle.std.proofs.Common.{◌≡◌, ◌≤◌, ◌==◌, inl, inr, ℕ, ◌+◌, ◌%◌, ◌^◌, true, false, cond, ℤ, List, [], ◌∷◌, ◌++◌, option_map, slice_get, refl, sym, ap, ◌∙◌, subst, append-nil, arith}
use Rattle.std.specs.declared.option.Option.{Option}
use Rattle.std.specs.declared.option.Option.TheVariants.{None, Some}
use Rattle.af_time.specs.DeviceTime.{unwrap}
use Rattle.af_context.specs.declared.Context.{Context}
use Rattle.af_context.specs.Contexts.{context_of, creation, reference, without_context}
use Rattle.af_request.specs.Asked.{Asked, no_op, get_time, create_ac, change_ac, free_ac, play_run, record_run, select_events, set_controls, query_controls, hook_switch, query_phone}
use Rattle.af_request.specs.Answer.{plain, recorded}
use Rattle.af_request.specs.Opcodes as opcodes
use Rattle.af_model.specs.State.{Deferral, DeviceState, OpenLink, deferred_record, open_link, say}
use Rattle.af_model.specs.Reply.{reply_message, reply_with}
use Rattle.af_model.specs.Checks.{context_refusal, in_device, refuse_or}
use Rattle.af_model.specs.ContextRequests.{create, creation_refusal, requested_context, with_contexts}
use Rattle.af_model.specs.Waiting.{wait}
use Rattle.af_model.specs.Play.{frames_of}
use Rattle.af_model.specs.Record.{give_record, given_frames, is_to_wait, record_refusal, record_sound, recorded_bytes, start_record}
use Rattle.af_model.specs.Perform.{channels_at, count_request, in_context, perform, tell_time}
use Rattle.af_model.proofs.BoolTestLemmas.{none_some, same_number, some_is}
use Rattle.af_end_to_end.specs.Performing.{own_waiting}
use Rattle.af_end_to_end.specs.Told.{AreTold, IsEarlier, IsHeld, IsOfRecorder, IsRecordAnswer, IsRecordHeld, IsTold}
use Rattle.af_end_to_end.proofs.PerformedLemmas.{own_push}

-- times begin at 2^32
abbrev pub AreLate : List DeviceState → Type 0
AreLate ds = (d : ℕ) (x : DeviceState) → slice_get ds d ≡ Some x → 2 ^ 32 ≤ x.now

pub earlier_refl : (d : DeviceState) → IsEarlier d d
earlier_refl d = record { now = omega arith; begin = refl; rate = refl; channels = refl; more = []; captured = sym (append-nil d.captured) }

-- what a request queues for its link, of which nothing was deferred
pub record Says (k : ℕ) (request : Asked) (p q : OpenLink) : Type 0 where
  pub message : List ℕ
  pub said : q.environment.said ≡ p.environment.said ++ message
  pub selections : q.link.selections ≡ p.link.selections
  pub told : own_waiting k p.environment.waiting ≡ [] →
      AreTold (channels_at p.environment.devices) p.link.order p.link.sequence q.environment.devices (own_waiting k q.environment.waiting) p.link.contexts (request ∷ []) message

module _ (k : ℕ) (request : Asked) (p : OpenLink) where
  abbrev q : OpenLink
  q = open_link p.environment (count_request p.link)

  abbrev channels : ℕ → Option ℕ
  channels = channels_at p.environment.devices

  abbrev Now : List ℕ → Type 0
  Now message = IsTold channels p.link.order ((p.link.sequence + 1) % 2 ^ 16) p.environment.devices p.link.contexts request message

  -- it is answered now, with other contexts
  answered : (contexts : List Context) (message : List ℕ) → Now message → Says k request p (say (with_contexts contexts q) message)
  answered contexts message is = record { message = message; said = refl; selections = refl; told = λ none. inl (message, [], sym (append-nil message), is, (refl, none)) }

  -- it is deferred
  waits : (w : Deferral) → (w.link ≡ k) → IsHeld channels p.environment.devices p.link.contexts request w →
      Says k request p (open_link (record p.environment { waiting = p.environment.waiting ++ w ∷ [] }) q.link)
  waits w own is = record {
    message = [];
    said = sym (append-nil p.environment.said);
    selections = refl;
    told = λ none. inr (refl, refl, w, own_push k p.environment.waiting w (ap (λ n. n == k) own ∙ same_number k) ∙ ap (λ l. l ++ w ∷ []) none, is);
  }

says_create : (k d ac ty n preempt : ℕ) (play_gain record_gain : ℤ) (p : OpenLink) →
    Says k (create_ac d ac ty n preempt play_gain record_gain) p (perform k (create_ac d ac ty n preempt play_gain record_gain) p)
says_create k d ac ty n preempt play_gain record_gain p =
    let request = create_ac d ac ty n preempt play_gain record_gain in
    let q = open_link p.environment (count_request p.link) in
    let c = requested_context d ac ty preempt play_gain record_gain in
    let old = p.link.contexts in
    let first = creation_refusal (channels_at p.environment.devices d) d ty n preempt play_gain record_gain in
    let second = context_refusal ac (creation old ac) in
    elim first as (λ o. first ≡ o → Says k request p (refuse_or opcodes.create_ac o (create c) q)) [
      | Some r ↦ λ e. answered k request p old _ (λ fits free. absurd (none_some (sym fits ∙ e)))
      | None ↦ λ e. elim second as (λ o. second ≡ o → Says k request p (refuse_or opcodes.create_ac o (λ q. reply_with opcodes.create_ac plain (with_contexts (q.link.contexts ++ c ∷ []) q)) q)) [
        | Some r ↦ λ f. answered k request p old _ (λ fits free. absurd (none_some (sym free ∙ f)))
        | None ↦ λ f. answered k request p (old ++ c ∷ []) _ (λ fits free. refl)
      ] refl
    ] refl

says_free : (k ac : ℕ) (p : OpenLink) → Says k (free_ac ac) p (perform k (free_ac ac) p)
says_free k ac p =
    let q = open_link p.environment (count_request p.link) in
    let old = p.link.contexts in
    let first = context_refusal ac (reference old ac) in
    elim first as (λ o. first ≡ o → Says k (free_ac ac) p (refuse_or opcodes.free_ac o (λ q. reply_with opcodes.free_ac plain (with_contexts (without_context q.link.contexts ac) q)) q)) [
      | Some r ↦ λ e. answered k (free_ac ac) p old _ (λ free. absurd (none_some (sym free ∙ e)))
      | None ↦ λ e. answered k (free_ac ac) p (without_context old ac) _ (λ free. refl)
    ] refl

says_time : (k d : ℕ) (p : OpenLink) → Says k (get_time d) p (perform k (get_time d) p)
says_time k d p =
    let q = open_link p.environment (count_request p.link) in
    let old = p.link.contexts in
    elim (slice_get p.environment.devices d) as (λ o. slice_get p.environment.devices d ≡ o → Says k (get_time d) p (in_device opcodes.get_time d tell_time o q)) [
      | None ↦ λ e. answered k (get_time d) p old _ (λ m there. absurd (none_some (sym (ap (option_map (λ (x : DeviceState). x.channels)) e) ∙ there)))
      | Some device ↦ λ e. answered k (get_time d) p old _ (λ m there. (device, record { device = device; is_there = e; earlier = earlier_refl device }, refl))
    ] refl

module _ (k ac word n : ℕ) (p : OpenLink) (late : AreLate p.environment.devices) where
  abbrev request : Asked
  request = record_run true ac word n

  abbrev from : OpenLink
  from = open_link p.environment (count_request p.link)

  abbrev devices : List DeviceState
  devices = p.environment.devices

  -- a Record of a context and a device that are there, and that is not refused
  says_started : (c : Context) (device : DeviceState) → context_of p.link.contexts ac ≡ Some c → slice_get devices c.device ≡ Some device → Says k request p (start_record k true c word n device from)
  says_started c device in_use there =
      let frames = frames_of device.channels c n in
      let deferred = deferred_record c (unwrap device.now word) frames in
      let since = late c.device device there in
      elim (is_to_wait true device word frames) as (λ t. Says k request p (cond t (wait k c.device deferred from) (give_record c (unwrap device.now word) (given_frames true device word frames) device from))) [
        | true ↦ waits k request p (record { link = k; device = c.device; deferred = deferred }) refl
            (λ x m is shape fits.
            let same : c ≡ x = some_is (sym in_use ∙ is) in
            subst (λ y. IsRecordHeld devices y word n (record { link = k; device = c.device; deferred = deferred })) same
            (record { performed = device.now; since_begin = since; device = device; is_there = there; later = omega arith; on_it = refl; held = refl }))
        | false ↦ answered k request p p.link.contexts _
            (λ x m is shape fits.
            let same : c ≡ x = some_is (sym in_use ∙ is) in
            let bytes = reply_message p.link.order opcodes.record (recorded (device.now % 2 ^ 32) (recorded_bytes c device (unwrap device.now word) frames)) ((p.link.sequence + 1) % 2 ^ 16) in
            subst (λ y. IsRecordAnswer p.link.order ((p.link.sequence + 1) % 2 ^ 16) devices y word n bytes) same
            (record { performed = device.now; since_begin = since; device = device; was_so = record { device = device; is_there = there; earlier = earlier_refl device }; later = omega arith; is = refl }))
      ]

  says_record : Says k request p (perform k request p)
  says_record =
      let old = p.link.contexts in
      elim (context_of old ac) as (λ o. context_of old ac ≡ o → Says k request p (in_context opcodes.record ac (λ c. record_sound k true c word n) o from)) [
        | None ↦ λ e. answered k request p old _ (λ c m is shape fits. absurd (none_some (sym e ∙ is)))
        | Some c ↦ λ e. elim (slice_get devices c.device) as (λ o. slice_get devices c.device ≡ o → Says k request p (in_device opcodes.record c.device (record_sound k true c word n) o from)) [
          | None ↦ λ f. answered k request p old _ (λ x m is shape fits. absurd (none_some (sym (ap (option_map (λ (x : DeviceState). x.channels)) (ap (λ (y : Context). slice_get devices y.device) (sym (some_is (sym e ∙ is))) ∙ f)) ∙ shape)))
          | Some device ↦ λ f. elim (record_refusal device.channels c n) as (λ o. record_refusal device.channels c n ≡ o → Says k request p (refuse_or opcodes.record o (start_record k true c word n device) from)) [
            | Some r ↦ λ g. answered k request p old _ (λ x m is shape fits.
                let same : c ≡ x = some_is (sym e ∙ is) in
                let one : device.channels ≡ m = some_is (sym (ap (option_map (λ (x : DeviceState). x.channels)) (ap (λ (y : Context). slice_get devices y.device) (sym same) ∙ f)) ∙ shape) in
                absurd (none_some (sym (ap (λ y. record_refusal device.channels y n) same ∙ ap (λ z. record_refusal z x n) one ∙ fits) ∙ g)))
            | None ↦ λ g. says_started c device e f
          ] refl
        ] refl
      ] refl

pub says : (k : ℕ) (request : Asked) (p : OpenLink) → AreLate p.environment.devices → IsOfRecorder request → Says k request p (perform k request p)
says k no_op p late its = absurd its
says k (get_time d) p late its = says_time k d p
says k (create_ac d ac ty channels preempt play_gain record_gain) p late its = says_create k d ac ty channels preempt play_gain record_gain p
says k (change_ac mask ac preempt play_gain record_gain) p late its = absurd its
says k (free_ac ac) p late its = says_free k ac p
says k (play_run quiet ac word bytes) p late its = absurd its
says k (record_run true ac word n) p late its = says_record k ac word n p late
says k (record_run false ac word n) p late its = absurd its
says k (select_events d mask) p late its = absurd its
says k (set_controls d mask input_on output_on input_gain output_gain) p late its = absurd its
says k (query_controls d) p late its = absurd its
says k (hook_switch d off) p late its = absurd its
says k (query_phone d) p late its = absurd its
