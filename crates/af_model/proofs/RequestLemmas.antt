-- What a request comes to. All laws begin here.
use Rattle.std.proofs.Common.{◌≡◌, ℕ, ◌==◌, ◌≤◌, ◌%◌, ◌^◌, Bool, true, false, cond, nat_le, List, [], ◌∷◌, ◌++◌, length, slice_get, refl, inr}
use Rattle.std.specs.declared.option.Option.{Option}
use Rattle.std.specs.declared.option.Option.TheVariants.{None, Some}
use Rattle.af_limits.specs.Limits.{longest_record, longest_message}
use Rattle.af_time.specs.DeviceTime.{unwrap}
use Rattle.af_context.specs.declared.Context.{Context}
use Rattle.af_context.specs.Contexts.{creation, reference, context_of, without_context}
use Rattle.af_request.specs.Asked.{Asked, no_op, get_time, create_ac, change_ac, free_ac, play_run, record_run, select_events, set_controls, query_controls, hook_switch, query_phone}
use Rattle.af_request.specs.declared.reply.Phone.{Phone}
use Rattle.af_request.specs.Answer.{Answer, controls, phone, plain, played, recorded, time as told_time}
use Rattle.af_model.specs.declared.refusal.RefusalCause.TheVariants.{BadDevice, BadAc, BadLine}
use Rattle.af_request.specs.Opcodes as opcodes
use Rattle.af_model.specs.declared.refusal.Refusal.{Refusal}
use Rattle.af_model.specs.State.{DeviceState, OpenLink, open_link, say, Deferred, deferred_play, deferred_record}
use Rattle.af_model.specs.Reply.{code_of_cause, refusal, refuse, reply_with, reply_message}
use Rattle.af_model.specs.Checks.{refuse_or, in_device, context_refusal}
use Rattle.af_model.specs.ContextRequests.{creation_refusal, requested_context, create, change_refusal, change, with_contexts}
use Rattle.af_model.specs.DeviceRequests.{with_device_controls, controls_refusal, on_line, select, set_device_controls, switch_hook, switch_refusal, tell_controls, tell_phone, with_device_hook}
use Rattle.af_model.specs.Waiting.{wait}
use Rattle.af_model.specs.Play.{play, play_refusal, start_play, tell_played, accept_play, entry_now, in_devices, frames_of, frames_within_horizon, sent_sound}
use Rattle.af_model.specs.Record.{record_sound, record_refusal, recorded_bytes, start_record, give_record, given_frames, is_to_wait}
use Rattle.af_model.specs.Perform.{channels_at, request_effect, tell_time, in_context}
use Rattle.af_model.proofs.DeviceHistoryLemmas.{Requested, acts_accepting, later_same, lives_accepting, lives_wanting, now_acted, still_acted}
use Rattle.af_model.proofs.DueLemmas.{IsToWait, most_asked, play_waits, record_few, record_waits}
use Rattle.af_model.proofs.ReplySizeLemmas.{IsShortAnswer, error_short, given_short, reply_short}

-- the same link with another input
abbrev pub with_rest : List ℕ → OpenLink → OpenLink
with_rest r p = open_link p.environment (record p.link { rest = r })

-- a link with these contexts and selections
abbrev pub with_choices : List Context → List ℕ → OpenLink → OpenLink
with_choices contexts selections p = open_link p.environment (record p.link { contexts = contexts; selections = selections })

-- What a request makes of a place, and of the same place with another input: nothing; an answer, with other contexts and
-- selections; a later device, with an answer or without; or a deferred request, with at most the frames that it may have. No
-- answer is longer than the longest message.
module _ (k : ℕ) (p : OpenLink) (r : List ℕ) (most : ℕ) (M : OpenLink → OpenLink → Type 0)
    (stays : M p (with_rest r p))
    (says : (contexts : List Context) (selections bytes : List ℕ) → length bytes ≤ longest_message → M (say (with_choices contexts selections p) bytes) (say (with_choices contexts selections (with_rest r p)) bytes))
    (becomes : (d : ℕ) (device : DeviceState) (f : DeviceState → DeviceState) → slice_get p.environment.devices d ≡ Some device → Requested k device (f device) → M (in_devices d f p) (in_devices d f (with_rest r p)))
    (tells : (d : ℕ) (device : DeviceState) (f : DeviceState → DeviceState) (bytes : List ℕ) → length bytes ≤ longest_message → slice_get p.environment.devices d ≡ Some device → Requested k device (f device) →
    M (say (in_devices d f p) bytes) (say (in_devices d f (with_rest r p)) bytes))
    (waits : (d : ℕ) (device : DeviceState) (deferred : Deferred) → slice_get p.environment.devices d ≡ Some device → IsToWait most device deferred → M (wait k d deferred p) (wait k d deferred (with_rest r p))) where
  abbrev Both : (OpenLink → OpenLink) → Type 0
  Both f = M (f p) (f (with_rest r p))

  answers : (bytes : List ℕ) → length bytes ≤ longest_message → M (say p bytes) (say (with_rest r p) bytes)
  answers bytes short = says p.link.contexts p.link.selections bytes short

  -- an answer that states at most what a request's may
  short_reply : (opcode : ℕ) (a : Answer) → IsShortAnswer a → length (reply_message p.link.order opcode a p.link.sequence) ≤ longest_message
  short_reply opcode a few = reply_short p.link.order opcode a p.link.sequence few

  refuses : (opcode : ℕ) (refusal : Refusal) → Both (refuse opcode refusal)
  refuses opcode refusal = answers _ (error_short p.link.order (code_of_cause refusal.cause) refusal.value opcode p.link.sequence)

  either_both : (b : Bool) (f g : OpenLink → OpenLink) → (b ≡ true → Both f) → (b ≡ false → Both g) → M (cond b (f p) (g p)) (cond b (f (with_rest r p)) (g (with_rest r p)))
  either_both true f g h i = h refl
  either_both false f g h i = i refl

  refused_both : (opcode : ℕ) (o : Option Refusal) (f : OpenLink → OpenLink) → (o ≡ None → Both f) → Both (refuse_or opcode o f)
  refused_both opcode None f h = h refl
  refused_both opcode (Some refusal) f h = refuses opcode refusal

  device_both : (opcode d : ℕ) (f : DeviceState → OpenLink → OpenLink) (o : Option DeviceState) → slice_get p.environment.devices d ≡ o → ((device : DeviceState) → slice_get p.environment.devices d ≡ Some device → Both (f device)) → Both (in_device opcode d f o)
  device_both opcode d f None there h = refuses opcode (refusal BadDevice d)
  device_both opcode d f (Some device) there h = h device there

  context_both : (opcode ac : ℕ) (f : Context → DeviceState → OpenLink → OpenLink) (o : Option Context) → ((c : Context) (device : DeviceState) → slice_get p.environment.devices c.device ≡ Some device → Both (f c device)) → Both (in_context opcode ac f o)
  context_both opcode ac f None h = refuses opcode (refusal BadAc ac)
  context_both opcode ac f (Some c) h = device_both opcode c.device (f c) (slice_get p.environment.devices c.device) refl (h c)

  line_both : (opcode d : ℕ) (f : Phone → OpenLink → OpenLink) (o : Option Phone) → ((line : Phone) → Both (f line)) → Both (on_line opcode d f o)
  line_both opcode d f None h = refuses opcode (refusal BadLine d)
  line_both opcode d f (Some line) h = h line

  played_both : (quiet : Bool) (d : ℕ) (device : DeviceState) (f : DeviceState → DeviceState) → slice_get p.environment.devices d ≡ Some device → Requested k device (f device) → Both (λ q. tell_played quiet device (in_devices d f q))
  played_both true d device f there l = becomes d device f there l
  played_both false d device f there l = tells d device f _ (short_reply opcodes.play (played (device.now % 2 ^ 32)) tt) there l

  play_both : (quiet : Bool) (c : Context) (time : ℕ) (bytes : List ℕ) (device : DeviceState) → slice_get p.environment.devices c.device ≡ Some device → length bytes ≤ most → Both (play k quiet c time bytes device)
  play_both quiet c time bytes device there short =
      refused_both opcodes.play (play_refusal device.channels c (length bytes)) (start_play k quiet c time bytes device)
      (λ whole. either_both (nat_le (frames_of device.channels c (length bytes)) (frames_within_horizon device time)) (λ q. tell_played quiet device (in_devices c.device (accept_play k (entry_now c device time bytes)) q))
      (wait k c.device (deferred_play quiet (unwrap device.now time) (sent_sound c bytes) c.preempt))
      (λ within. played_both quiet c.device device (accept_play k (entry_now c device time bytes)) there (record { lives = lives_accepting k device (entry_now c device time bytes) refl; completed = refl; acts = acts_accepting k device (entry_now c device time bytes) }))
      (λ beyond. waits c.device device (deferred_play quiet (unwrap device.now time) (sent_sound c bytes) c.preempt) there (play_waits quiet c device time bytes most short beyond)))

  record_both : (blocking : Bool) (c : Context) (time bytes : ℕ) (device : DeviceState) → slice_get p.environment.devices c.device ≡ Some device → longest_record ≤ most → Both (record_sound k blocking c time bytes device)
  record_both blocking c time bytes device there short =
      refused_both opcodes.record (record_refusal device.channels c bytes) (start_record k blocking c time bytes device)
      (λ allowed. either_both (is_to_wait blocking device time (frames_of device.channels c bytes)) (wait k c.device (deferred_record c (unwrap device.now time) (frames_of device.channels c bytes)))
      (give_record c (unwrap device.now time) (given_frames blocking device time (frames_of device.channels c bytes)) device)
      (λ wanted. waits c.device device (deferred_record c (unwrap device.now time) (frames_of device.channels c bytes)) there (record_waits blocking c device time bytes most allowed short wanted))
      (λ given. answers _ (short_reply opcodes.record (recorded (device.now % 2 ^ 32) (recorded_bytes c device (unwrap device.now time) (given_frames blocking device time (frames_of device.channels c bytes))))
      (given_short blocking c device time bytes (unwrap device.now time) (record_few device.channels c bytes allowed)))))

  pub done_both : (request : Asked) → most_asked request ≤ most → Both (request_effect k request)
  done_both no_op short = stays
  done_both (get_time d) short = device_both opcodes.get_time d tell_time (slice_get p.environment.devices d) refl (λ device there. answers _ (short_reply opcodes.get_time (told_time (device.now % 2 ^ 32)) tt))
  done_both (create_ac d ac ty channels preempt play_gain record_gain) short =
      let c = requested_context d ac ty preempt play_gain record_gain in
      refused_both opcodes.create_ac (creation_refusal (channels_at p.environment.devices d) d ty channels preempt play_gain record_gain) (create c)
      (λ allowed. refused_both opcodes.create_ac (context_refusal c.ac (creation p.link.contexts c.ac)) (λ q. reply_with opcodes.create_ac plain (with_contexts (q.link.contexts ++ c ∷ []) q)) (λ free. says (p.link.contexts ++ c ∷ []) p.link.selections _ (short_reply opcodes.create_ac plain tt)))
  done_both (change_ac mask ac preempt play_gain record_gain) short =
      refused_both opcodes.change_ac (change_refusal p.link.contexts mask ac preempt play_gain record_gain) (change mask ac preempt play_gain record_gain) (λ allowed. says _ p.link.selections _ (short_reply opcodes.change_ac plain tt))
  done_both (free_ac ac) short =
      refused_both opcodes.free_ac (context_refusal ac (reference p.link.contexts ac)) (λ q. reply_with opcodes.free_ac plain (with_contexts (without_context q.link.contexts ac) q)) (λ allowed. says _ p.link.selections _ (short_reply opcodes.free_ac plain tt))
  done_both (play_run quiet ac start bytes) short = context_both opcodes.play ac (λ c. play k quiet c start bytes) (context_of p.link.contexts ac) (λ c device there. play_both quiet c start bytes device there short)
  done_both (record_run blocking ac start bytes) short = context_both opcodes.record ac (λ c. record_sound k blocking c start bytes) (context_of p.link.contexts ac) (λ c device there. record_both blocking c start bytes device there short)
  done_both (select_events d mask) short =
      device_both opcodes.select_events d (λ device. on_line opcodes.select_events d (λ line. select d mask) device.line) (slice_get p.environment.devices d) refl
      (λ device there. line_both opcodes.select_events d (λ line. select d mask) device.line (λ line. says p.link.contexts _ _ (short_reply opcodes.select_events plain tt)))
  done_both (set_controls d mask input_on output_on input_gain output_gain) short =
      let f = with_device_controls k mask input_on output_on input_gain output_gain in
      device_both opcodes.set_controls d (set_device_controls k d mask input_on output_on input_gain output_gain) (slice_get p.environment.devices d) refl
      (λ device there. refused_both opcodes.set_controls (controls_refusal mask input_on output_on input_gain output_gain) (λ q. reply_with opcodes.set_controls plain (in_devices d f q)) (λ allowed. tells d device f _ (short_reply opcodes.set_controls plain tt) there
      (record { lives = record { later = later_same device (f device) refl refl refl (λ j h. still_acted j k device.actors h); dead = refl; line_dead = refl; now = refl; rate = refl; channels = refl }; completed = refl; acts = inr (now_acted k device.actors) })))
  done_both (query_controls d) short = device_both opcodes.query_controls d tell_controls (slice_get p.environment.devices d) refl (λ device there. answers _ (short_reply opcodes.query_controls (controls device.controls) tt))
  done_both (hook_switch d off) short =
      let f = with_device_hook k (off == 1) in
      device_both opcodes.hook_switch d (λ device. on_line opcodes.hook_switch d (switch_hook k d off) device.line) (slice_get p.environment.devices d) refl
      (λ device there. line_both opcodes.hook_switch d (switch_hook k d off) device.line
      (λ line. refused_both opcodes.hook_switch (switch_refusal d off line) (λ q. reply_with opcodes.hook_switch plain (in_devices d f q)) (λ allowed. tells d device f _ (short_reply opcodes.hook_switch plain tt) there (record { lives = lives_wanting k (off == 1) device; completed = refl; acts = inr (now_acted k device.actors) }))))
  done_both (query_phone d) short =
      device_both opcodes.query_phone d (λ device. on_line opcodes.query_phone d tell_phone device.line) (slice_get p.environment.devices d) refl (λ device there. line_both opcodes.query_phone d tell_phone device.line (λ line. answers _ (short_reply opcodes.query_phone (phone line) tt)))
