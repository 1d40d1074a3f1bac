-- What a request makes of its link and of the devices.
use Rattle.std.proofs.Common.{◌≡◌, inl, inr, ℕ, zero, suc, ◌+◌, ◌%◌, ◌^◌, ◌==◌, ◌&&◌, Bool, true, false, not, cond, ℤ, List, [], ◌∷◌, ◌++◌, length, nat_le, is_none, option_map, slice_get, refl, sym, ap, ◌∙◌, subst, append-nil}
use Rattle.std.proofs.lemmas.List.Elements.{All-cons, All-nil}
use Rattle.std.specs.List.{All}
use Rattle.std.specs.declared.option.Option.TheVariants.{None, Some}
use Rattle.af_time.specs.DeviceTime.{unwrap}
use Rattle.af_context.specs.declared.Context.{Context}
use Rattle.af_context.specs.Contexts.{context_of, creation, reference, with_changed, with_settings, without_context}
use Rattle.af_request.specs.Asked.{Asked, no_op, get_time, create_ac, change_ac, free_ac, play_run, record_run, select_events, set_controls, query_controls, hook_switch, query_phone}
use Rattle.af_request.specs.Answer.{plain}
use Rattle.af_request.specs.Opcodes as opcodes
use Rattle.af_model.specs.declared.refusal.RefusalCause.TheVariants.{BadAc, BadDevice, BadLine, BadValue}
use Rattle.af_model.specs.declared.refusal.Refusal.{Refusal}
use Rattle.af_model.specs.State.{Deferral, Deferred, DeviceState, OpenLink, deferred_play, deferred_record, open_link, say, with_device}
use Rattle.af_model.specs.Reply.{refusal, refuse, reply_with}
use Rattle.af_model.specs.Checks.{check, context_refusal, in_device, refuse_or}
use Rattle.af_model.specs.ContextRequests.{change, change_refusal, create, creation_refusal, named_gain, named_preempt, requested_context, with_contexts}
use Rattle.af_model.specs.DeviceRequests.{controls_refusal, on_line, select, set_device_controls, switch_hook, switch_refusal, tell_controls, tell_phone, with_device_controls, with_device_hook}
use Rattle.af_model.specs.Waiting.{wait}
use Rattle.af_model.specs.Play.{accept_play, are_frames, entry_now, frames_of, frames_within_horizon, in_devices, play, sent_sound, start_play, tell_played}
use Rattle.af_model.specs.Record.{give_record, given_frames, is_to_wait, record_refusal, record_sound, start_record}
use Rattle.af_model.specs.Perform.{channels_at, count_request, in_context, perform, tell_time}
use Rattle.af_model.proofs.BoolTestLemmas.{same_number, some_is}
use Rattle.af_model.proofs.DeviceHistoryLemmas.{later_same, lives_accepting, lives_wanting, still_acted, with_there}
use Rattle.af_model.proofs.RequestLemmas.{with_choices}
use Rattle.af_end_to_end.specs.Performing.{IsPlayedNow, is_prompt, SentPlay, contexts_after, own_waiting, play_by, play_of_request, play_on}
use Rattle.af_end_to_end.proofs.DeviceAlikeLemmas.{Alike, AllAlike, alike_with, all_alike_refl, lives_alike}

-- Lists

pub get_front : {X : Type 0} (xs ys : List X) (i : ℕ) (x : X) → slice_get xs i ≡ Some x → slice_get (xs ++ ys) i ≡ Some x
get_front [] ys i x e = absurd cc
get_front (y ∷ xs) ys zero x e = e
get_front (y ∷ xs) ys (suc i) x e = get_front xs ys i x e

pub get_last : {X : Type 0} (xs : List X) (x : X) → slice_get (xs ++ x ∷ []) (length xs) ≡ Some x
get_last [] x = refl
get_last (y ∷ xs) x = get_last xs x

pub own_push : (k : ℕ) (ws : List Deferral) (w : Deferral) → (w.link == k) ≡ true → own_waiting k (ws ++ w ∷ []) ≡ own_waiting k ws ++ w ∷ []
own_push k [] w own = ap (λ t. cond t (w ∷ []) []) own
own_push k (v ∷ ws) w own =
    elim (v.link == k) as (λ t. cond t (v ∷ own_waiting k (ws ++ w ∷ [])) (own_waiting k (ws ++ w ∷ [])) ≡ cond t (v ∷ own_waiting k ws) (own_waiting k ws) ++ w ∷ []) [
      | true ↦ ap (λ l. v ∷ l) (own_push k ws w own)
      | false ↦ own_push k ws w own
    ]

-- What a request comes to

-- Its link keeps its input, its byte order and whether it is set up; its contexts become what the request makes of them. Devices
-- become later at the same time. The deferred requests stay, and more may be deferred. A play is accepted or deferred.
pub record Performed (k : ℕ) (request : Asked) (p q : OpenLink) : Type 0 where
  pub rest : q.link.rest ≡ p.link.rest
  pub set : q.link.is_set_up ≡ p.link.is_set_up
  pub order : q.link.order ≡ p.link.order
  pub sequence : q.link.sequence ≡ (p.link.sequence + 1) % 2 ^ 16
  pub contexts : q.link.contexts ≡ contexts_after (channels_at p.environment.devices) p.link.contexts request
  pub devices : AllAlike p.environment.devices q.environment.devices
  pub deferred : List Deferral
  pub waiting : own_waiting k q.environment.waiting ≡ own_waiting k p.environment.waiting ++ deferred
  pub plays : All (IsPlayedNow k q.environment.devices q.environment.waiting) (play_of_request (channels_at p.environment.devices) p.link.contexts request)
  pub prompt : is_prompt request ≡ true → deferred ≡ []

module _ (k : ℕ) (request : Asked) (p : OpenLink) where
  abbrev q : OpenLink
  q = open_link p.environment (count_request p.link)

  abbrev Becomes : OpenLink → Type 0
  Becomes r = Performed k request p r

  abbrev HasNoPlay : Type 0
  HasNoPlay = play_of_request (channels_at p.environment.devices) p.link.contexts request ≡ []

  abbrev Leaves : List Context → Type 0
  Leaves contexts = contexts ≡ contexts_after (channels_at p.environment.devices) p.link.contexts request

  no_plays : (r : OpenLink) → HasNoPlay → All (IsPlayedNow k r.environment.devices r.environment.waiting) (play_of_request (channels_at p.environment.devices) p.link.contexts request)
  no_plays r none = subst (All (IsPlayedNow k r.environment.devices r.environment.waiting)) (sym none) (All-nil (IsPlayedNow k r.environment.devices r.environment.waiting))

  -- it is answered, with other contexts and selections
  answered : (contexts : List Context) (selections bytes : List ℕ) → HasNoPlay → Leaves contexts → Becomes (say (with_choices contexts selections q) bytes)
  answered contexts selections bytes none leaves = record {
    rest = refl;
    set = refl;
    order = refl;
    sequence = refl;
    contexts = leaves;
    devices = all_alike_refl p.environment.devices;
    deferred = [];
    waiting = sym (append-nil (own_waiting k p.environment.waiting));
    plays = no_plays (say (with_choices contexts selections q) bytes) none;
    prompt = λ e. refl;
  }

  -- it is refused
  refused : (opcode : ℕ) (r : Refusal) → HasNoPlay → Leaves p.link.contexts → Becomes (refuse opcode r q)
  refused opcode r none leaves = answered p.link.contexts p.link.selections _ none leaves

  -- nothing is queued, or something is
  stays : HasNoPlay → Leaves p.link.contexts → Becomes q
  stays none leaves = record {
    rest = refl;
    set = refl;
    order = refl;
    sequence = refl;
    contexts = leaves;
    devices = all_alike_refl p.environment.devices;
    deferred = [];
    waiting = sym (append-nil (own_waiting k p.environment.waiting));
    plays = no_plays q none;
    prompt = λ e. refl;
  }

  says : (r : OpenLink) (bytes : List ℕ) → Becomes r → Becomes (say r bytes)
  says r bytes h = record { rest = h.rest; set = h.set; order = h.order; sequence = h.sequence; contexts = h.contexts; devices = h.devices; deferred = h.deferred; waiting = h.waiting; plays = h.plays; prompt = h.prompt }

  -- a device becomes later
  changes : (d : ℕ) (f : DeviceState → DeviceState) → ((x : DeviceState) → slice_get p.environment.devices d ≡ Some x → Alike x (f x)) → Leaves p.link.contexts →
      All (IsPlayedNow k (with_device d f p.environment.devices) p.environment.waiting) (play_of_request (channels_at p.environment.devices) p.link.contexts request) → Becomes (in_devices d f q)
  changes d f alike leaves plays = record {
    rest = refl;
    set = refl;
    order = refl;
    sequence = refl;
    contexts = leaves;
    devices = alike_with d f p.environment.devices alike;
    deferred = [];
    waiting = sym (append-nil (own_waiting k p.environment.waiting));
    plays = plays;
    prompt = λ e. refl;
  }

  -- it is deferred
  waits : (d : ℕ) (deferred : Deferred) → is_prompt request ≡ false → Leaves p.link.contexts → All (IsPlayedNow k p.environment.devices (wait k d deferred q).environment.waiting) (play_of_request (channels_at p.environment.devices) p.link.contexts request) →
      Becomes (wait k d deferred q)
  waits d deferred late leaves plays = record {
    rest = refl;
    set = refl;
    order = refl;
    sequence = refl;
    contexts = leaves;
    devices = all_alike_refl p.environment.devices;
    deferred = record { link = k; device = d; deferred = deferred } ∷ [];
    waiting = own_push k p.environment.waiting (record { link = k; device = d; deferred = deferred }) (same_number k);
    plays = plays;
    prompt = λ e. absurd (clash (sym late ∙ e));
  }
    where
      clash : false ≡ true → ⊥
      clash e = cc

-- Plays

-- the entry of a play that is accepted now
accepted_now : (k : ℕ) (c : Context) (device : DeviceState) (time : ℕ) (bytes : List ℕ) → (length (sent_sound c bytes) == 0) ≡ false →
    slice_get (accept_play k (entry_now c device time bytes) device).accepted (length device.accepted) ≡ Some (entry_now c device time bytes)
accepted_now k c device time bytes some =
    let e = entry_now c device time bytes in
    ap (λ t. slice_get (cond t device.accepted (device.accepted ++ e ∷ [])) (length device.accepted)) some ∙ get_last device.accepted e

module _ (k ac : ℕ) (quiet : Bool) (time : ℕ) (bytes : List ℕ) (p : OpenLink) (c : Context) (device : DeviceState) (in_use : context_of p.link.contexts ac ≡ Some c) (there : slice_get p.environment.devices c.device ≡ Some device) where
  abbrev request : Asked
  request = play_run quiet ac time bytes

  abbrev from : OpenLink
  from = open_link p.environment (count_request p.link)

  abbrev sent : SentPlay
  sent = record { context = c; time = time; bytes = bytes }

  -- the play that it is, by whether its bytes are whole frames, and it has one
  is_play : (whole none : Bool) → are_frames device.channels c (length bytes) ≡ whole → (length (sent_sound c bytes) == 0) ≡ none →
      play_of_request (channels_at p.environment.devices) p.link.contexts request ≡ cond (whole && not none) (sent ∷ []) []
  is_play whole none e f =
      ap (λ o. play_by (channels_at p.environment.devices) o time bytes) in_use ∙ ap (λ o. play_on (option_map (λ device. device.channels) o) c time bytes) there
      ∙ ap (λ t. cond (t && not (length (sent_sound c bytes) == 0)) (sent ∷ []) []) e ∙ ap (λ t. cond (whole && not t) (sent ∷ []) []) f

  -- it is played, if it is whole frames and has one
  all_played : (devices : List DeviceState) (waiting : List Deferral) → are_frames device.channels c (length bytes) ≡ true → ((length (sent_sound c bytes) == 0) ≡ false → IsPlayedNow k devices waiting sent) →
      All (IsPlayedNow k devices waiting) (play_of_request (channels_at p.environment.devices) p.link.contexts request)
  all_played devices waiting whole played =
      elim (length (sent_sound c bytes) == 0) as (λ t. (length (sent_sound c bytes) == 0) ≡ t → All (IsPlayedNow k devices waiting) (play_of_request (channels_at p.environment.devices) p.link.contexts request)) [
        | true ↦ λ e. subst (All (IsPlayedNow k devices waiting)) (sym (is_play true true whole e)) (All-nil (IsPlayedNow k devices waiting))
        | false ↦ λ e. subst (All (IsPlayedNow k devices waiting)) (sym (is_play true false whole e)) (All-cons (IsPlayedNow k devices waiting) sent [] (played e) (All-nil (IsPlayedNow k devices waiting)))
      ] refl

  starts : are_frames device.channels c (length bytes) ≡ true → Performed k request p (start_play k quiet c time bytes device from)
  starts whole =
      let e = entry_now c device time bytes in
      let now : Performed k request p (in_devices c.device (accept_play k e) from) =
      changes k request p c.device (accept_play k e) (λ x is. accepting x (some_is (sym there ∙ is))) refl
      (all_played (with_device c.device (accept_play k e) p.environment.devices) p.environment.waiting whole
      (λ some. record { device = accept_play k e device; is_there = with_there c.device (accept_play k e) p.environment.devices device there; has_frame = some; taken_up = inl (length device.accepted, accepted_now k c device time bytes some) })) in
      let deferred = deferred_play quiet (unwrap device.now time) (sent_sound c bytes) c.preempt in
      let w : Deferral = record { link = k; device = c.device; deferred = deferred } in
      elim (nat_le (frames_of device.channels c (length bytes)) (frames_within_horizon device time)) as (λ t. Performed k request p (cond t (tell_played quiet device (in_devices c.device (accept_play k e) from)) (wait k c.device deferred from))) [
        | true ↦ elim quiet as (λ b. Performed k request p (tell_played b device (in_devices c.device (accept_play k e) from))) [ true ↦ now | false ↦ says k request p (in_devices c.device (accept_play k e) from) _ now ]
        | false ↦ waits k request p c.device deferred refl refl (all_played p.environment.devices (p.environment.waiting ++ w ∷ []) whole
            (λ some. record {
              device = device;
              is_there = there;
              has_frame = some;
              taken_up = inr (length (own_waiting k p.environment.waiting), quiet, ap (λ l. slice_get l (length (own_waiting k p.environment.waiting))) (own_push k p.environment.waiting w (same_number k)) ∙ get_last (own_waiting k p.environment.waiting) w);
            }))
      ]
    where
      accepting : (x : DeviceState) → device ≡ x → Alike x (accept_play k (entry_now c device time bytes) x)
      accepting x same = lives_alike x (accept_play k (entry_now c device time bytes) x) refl refl (lives_accepting k x (entry_now c device time bytes) (ap (λ (y : DeviceState). y.now) same))

  plays_on : Performed k request p (play k quiet c time bytes device from)
  plays_on =
      elim (are_frames device.channels c (length bytes)) as (λ t. are_frames device.channels c (length bytes) ≡ t → Performed k request p (refuse_or opcodes.play (check (not t) BadValue (length bytes)) (start_play k quiet c time bytes device) from)) [
        | true ↦ λ whole. starts whole
        | false ↦ λ part. refused k request p opcodes.play (refusal BadValue (length bytes)) (elim (length (sent_sound c bytes) == 0) as (λ t. (length (sent_sound c bytes) == 0) ≡ t → play_of_request (channels_at p.environment.devices) p.link.contexts request ≡ []) [ true ↦ λ e. is_play false true part e | false ↦ λ e. is_play false false part e ] refl) refl
      ] refl

-- a play of a context that is not there, or on a device that is not
performs_play : (k ac : ℕ) (quiet : Bool) (time : ℕ) (bytes : List ℕ) (p : OpenLink) → Performed k (play_run quiet ac time bytes) p (perform k (play_run quiet ac time bytes) p)
performs_play k ac quiet time bytes p =
    let request = play_run quiet ac time bytes in
    let q = open_link p.environment (count_request p.link) in
    elim (context_of p.link.contexts ac) as (λ o. context_of p.link.contexts ac ≡ o → Performed k request p (in_context opcodes.play ac (λ c. play k quiet c time bytes) o q)) [
      | None ↦ λ e. refused k request p opcodes.play (refusal BadAc ac) (ap (λ o. play_by (channels_at p.environment.devices) o time bytes) e) refl
      | Some c ↦ λ e. elim (slice_get p.environment.devices c.device) as (λ o. slice_get p.environment.devices c.device ≡ o → Performed k request p (in_device opcodes.play c.device (play k quiet c time bytes) o q)) [
        | None ↦ λ none. refused k request p opcodes.play (refusal BadDevice c.device) (ap (λ o. play_by (channels_at p.environment.devices) o time bytes) e ∙ ap (λ o. play_on (option_map (λ device. device.channels) o) c time bytes) none) refl
        | Some device ↦ λ there. plays_on k ac quiet time bytes p c device e there
      ] refl
    ] refl

-- The other requests

performs_record : (k ac : ℕ) (blocking : Bool) (time bytes : ℕ) (p : OpenLink) → Performed k (record_run blocking ac time bytes) p (perform k (record_run blocking ac time bytes) p)
performs_record k ac blocking time bytes p =
    let request = record_run blocking ac time bytes in
    let q = open_link p.environment (count_request p.link) in
    elim (context_of p.link.contexts ac) as (λ o. Performed k request p (in_context opcodes.record ac (λ c. record_sound k blocking c time bytes) o q)) [
      | None ↦ refused k request p opcodes.record (refusal BadAc ac) refl refl
      | Some c ↦ elim (slice_get p.environment.devices c.device) as (λ o. Performed k request p (in_device opcodes.record c.device (record_sound k blocking c time bytes) o q)) [
        | None ↦ refused k request p opcodes.record (refusal BadDevice c.device) refl refl
        | Some device ↦ elim (record_refusal device.channels c bytes) as (λ o. Performed k request p (refuse_or opcodes.record o (start_record k blocking c time bytes device) q)) [
          | Some r ↦ refused k request p opcodes.record r refl refl
          | None ↦
              let frames = frames_of device.channels c bytes in
              let deferred = deferred_record c (unwrap device.now time) frames in
              elim (is_to_wait blocking device time frames) as (λ t. Performed k request p (cond t (wait k c.device deferred q) (give_record c (unwrap device.now time) (given_frames blocking device time frames) device q))) [
                | true ↦ waits k request p c.device deferred refl refl (All-nil (IsPlayedNow k p.environment.devices (wait k c.device deferred q).environment.waiting))
                | false ↦ answered k request p p.link.contexts p.link.selections _ refl refl
              ]
        ]
      ]
    ]

performs_create : (k d ac ty channels preempt : ℕ) (play_gain record_gain : ℤ) (p : OpenLink) → Performed k (create_ac d ac ty channels preempt play_gain record_gain) p (perform k (create_ac d ac ty channels preempt play_gain record_gain) p)
performs_create k d ac ty channels preempt play_gain record_gain p =
    let request = create_ac d ac ty channels preempt play_gain record_gain in
    let q = open_link p.environment (count_request p.link) in
    let c = requested_context d ac ty preempt play_gain record_gain in
    let old = p.link.contexts in
    let made = old ++ c ∷ [] in
    let first = creation_refusal (channels_at p.environment.devices d) d ty channels preempt play_gain record_gain in
    let second = context_refusal ac (creation old ac) in
    elim first as (λ o. first ≡ o → Performed k request p (refuse_or opcodes.create_ac o (create c) q)) [
      | Some r ↦ λ e. refused k request p opcodes.create_ac r refl (sym (ap (λ o. cond (is_none o && is_none second) made old) e))
      | None ↦ λ e. elim second as (λ o. second ≡ o → Performed k request p (refuse_or opcodes.create_ac o (λ q. reply_with opcodes.create_ac plain (with_contexts (q.link.contexts ++ c ∷ []) q)) q)) [
        | Some r ↦ λ f. refused k request p opcodes.create_ac r refl (sym (ap (λ o. cond (is_none o && is_none second) made old) e ∙ ap (λ o. cond (is_none o) made old) f))
        | None ↦ λ f. answered k request p made p.link.selections _ refl (sym (ap (λ o. cond (is_none o && is_none second) made old) e ∙ ap (λ o. cond (is_none o) made old) f))
      ] refl
    ] refl

performs_change : (k mask ac preempt : ℕ) (play_gain record_gain : ℤ) (p : OpenLink) → Performed k (change_ac mask ac preempt play_gain record_gain) p (perform k (change_ac mask ac preempt play_gain record_gain) p)
performs_change k mask ac preempt play_gain record_gain p =
    let request = change_ac mask ac preempt play_gain record_gain in
    let q = open_link p.environment (count_request p.link) in
    let old = p.link.contexts in
    let made = with_changed old ac (with_settings (named_gain mask 1 play_gain) (named_gain mask 2 record_gain) (named_preempt mask preempt)) in
    let first = change_refusal old mask ac preempt play_gain record_gain in
    elim first as (λ o. first ≡ o → Performed k request p (refuse_or opcodes.change_ac o (change mask ac preempt play_gain record_gain) q)) [
      | Some r ↦ λ e. refused k request p opcodes.change_ac r refl (sym (ap (λ o. cond (is_none o) made old) e))
      | None ↦ λ e. answered k request p made p.link.selections _ refl (sym (ap (λ o. cond (is_none o) made old) e))
    ] refl

performs_free : (k ac : ℕ) (p : OpenLink) → Performed k (free_ac ac) p (perform k (free_ac ac) p)
performs_free k ac p =
    let q = open_link p.environment (count_request p.link) in
    let old = p.link.contexts in
    let made = without_context old ac in
    let first = context_refusal ac (reference old ac) in
    elim first as (λ o. first ≡ o → Performed k (free_ac ac) p (refuse_or opcodes.free_ac o (λ q. reply_with opcodes.free_ac plain (with_contexts (without_context q.link.contexts ac) q)) q)) [
      | Some r ↦ λ e. refused k (free_ac ac) p opcodes.free_ac r refl (sym (ap (λ o. cond (is_none o) made old) e))
      | None ↦ λ e. answered k (free_ac ac) p made p.link.selections _ refl (sym (ap (λ o. cond (is_none o) made old) e))
    ] refl

performs_controls : (k d mask input_on output_on : ℕ) (input_gain output_gain : ℤ) (p : OpenLink) → Performed k (set_controls d mask input_on output_on input_gain output_gain) p (perform k (set_controls d mask input_on output_on input_gain output_gain) p)
performs_controls k d mask input_on output_on input_gain output_gain p =
    let request = set_controls d mask input_on output_on input_gain output_gain in
    let q = open_link p.environment (count_request p.link) in
    let f = with_device_controls k mask input_on output_on input_gain output_gain in
    elim (slice_get p.environment.devices d) as (λ o. Performed k request p (in_device opcodes.set_controls d (set_device_controls k d mask input_on output_on input_gain output_gain) o q)) [
      | None ↦ refused k request p opcodes.set_controls (refusal BadDevice d) refl refl
      | Some device ↦ elim (controls_refusal mask input_on output_on input_gain output_gain) as (λ o. Performed k request p (refuse_or opcodes.set_controls o (λ q. reply_with opcodes.set_controls plain (in_devices d f q)) q)) [
        | Some r ↦ refused k request p opcodes.set_controls r refl refl
        | None ↦ says k request p (in_devices d f q) _
            (changes k request p d f (λ x there. record { later = later_same x (f x) refl refl refl (λ j h. still_acted j k x.actors h); now = refl; rate = refl; channels = refl; begin = refl; captured = refl }) refl
            (All-nil (IsPlayedNow k (with_device d f p.environment.devices) p.environment.waiting)))
      ]
    ]

performs_hook : (k d off : ℕ) (p : OpenLink) → Performed k (hook_switch d off) p (perform k (hook_switch d off) p)
performs_hook k d off p =
    let request = hook_switch d off in
    let q = open_link p.environment (count_request p.link) in
    let f = with_device_hook k (off == 1) in
    elim (slice_get p.environment.devices d) as (λ o. Performed k request p (in_device opcodes.hook_switch d (λ device. on_line opcodes.hook_switch d (switch_hook k d off) device.line) o q)) [
      | None ↦ refused k request p opcodes.hook_switch (refusal BadDevice d) refl refl
      | Some device ↦ elim device.line as (λ o. Performed k request p (on_line opcodes.hook_switch d (switch_hook k d off) o q)) [
        | None ↦ refused k request p opcodes.hook_switch (refusal BadLine d) refl refl
        | Some line ↦ elim (switch_refusal d off line) as (λ o. Performed k request p (refuse_or opcodes.hook_switch o (λ q. reply_with opcodes.hook_switch plain (in_devices d f q)) q)) [
          | Some r ↦ refused k request p opcodes.hook_switch r refl refl
          | None ↦ says k request p (in_devices d f q) _ (changes k request p d f (λ x there. lives_alike x (f x) refl refl (lives_wanting k (off == 1) x)) refl (All-nil (IsPlayedNow k (with_device d f p.environment.devices) p.environment.waiting)))
        ]
      ]
    ]

-- a request that asks something of a device, or of its line, and changes neither
performs_query : (k opcode d : ℕ) (request : Asked) (f : DeviceState → OpenLink → OpenLink) (p : OpenLink) → play_of_request (channels_at p.environment.devices) p.link.contexts request ≡ [] →
    p.link.contexts ≡ contexts_after (channels_at p.environment.devices) p.link.contexts request → ((device : DeviceState) → Performed k request p (f device (open_link p.environment (count_request p.link)))) →
    Performed k request p (in_device opcode d f (slice_get p.environment.devices d) (open_link p.environment (count_request p.link)))
performs_query k opcode d request f p none leaves h =
    elim (slice_get p.environment.devices d) as (λ o. Performed k request p (in_device opcode d f o (open_link p.environment (count_request p.link)))) [
      | None ↦ refused k request p opcode (refusal BadDevice d) none leaves
      | Some device ↦ h device
    ]

pub performs : (k : ℕ) (request : Asked) (p : OpenLink) → Performed k request p (perform k request p)
performs k no_op p = stays k no_op p refl refl
performs k (get_time d) p = performs_query k opcodes.get_time d (get_time d) tell_time p refl refl (λ device. answered k (get_time d) p p.link.contexts p.link.selections _ refl refl)
performs k (create_ac d ac ty channels preempt play_gain record_gain) p = performs_create k d ac ty channels preempt play_gain record_gain p
performs k (change_ac mask ac preempt play_gain record_gain) p = performs_change k mask ac preempt play_gain record_gain p
performs k (free_ac ac) p = performs_free k ac p
performs k (play_run quiet ac time bytes) p = performs_play k ac quiet time bytes p
performs k (record_run blocking ac time bytes) p = performs_record k ac blocking time bytes p
performs k (select_events d mask) p =
    performs_query k opcodes.select_events d (select_events d mask) (λ device. on_line opcodes.select_events d (λ line. select d mask) device.line) p refl refl
    (λ device. elim device.line as (λ o. Performed k (select_events d mask) p (on_line opcodes.select_events d (λ line. select d mask) o (open_link p.environment (count_request p.link)))) [
      | None ↦ refused k (select_events d mask) p opcodes.select_events (refusal BadLine d) refl refl
      | Some line ↦ answered k (select_events d mask) p p.link.contexts _ _ refl refl
    ])
performs k (set_controls d mask input_on output_on input_gain output_gain) p = performs_controls k d mask input_on output_on input_gain output_gain p
performs k (query_controls d) p = performs_query k opcodes.query_controls d (query_controls d) tell_controls p refl refl (λ device. answered k (query_controls d) p p.link.contexts p.link.selections _ refl refl)
performs k (hook_switch d off) p = performs_hook k d off p
performs k (query_phone d) p =
    performs_query k opcodes.query_phone d (query_phone d) (λ device. on_line opcodes.query_phone d tell_phone device.line) p refl refl
    (λ device. elim device.line as (λ o. Performed k (query_phone d) p (on_line opcodes.query_phone d tell_phone o (open_link p.environment (count_request p.link)))) [
      | None ↦ refused k (query_phone d) p opcodes.query_phone (refusal BadLine d) refl refl
      | Some line ↦ answered k (query_phone d) p p.link.contexts p.link.selections _ refl refl
    ])
