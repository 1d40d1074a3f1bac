-- A device goes on to stand for its states as it plays and records.
use Rattle.std.proofs.Common.{◌≡◌, ℕ, ℤ, pos, false, cond, ◌==◌, ◌+◌, ◌-◌, ◌*◌, ◌/◌, ◌%◌, ◌^◌, ◌<◌, ◌≤◌, inl, inr, Bool, List, [], ◌∷◌, ◌++◌, length, replicate, map, refl, sym, ap, ◌∙◌, subst, arith}
use Rattle.std.specs.declared.option.Option.{Option}
use Rattle.std.specs.List.{All}
use Rattle.std.proofs.lemmas.List.Elements.{All-push}
use Rattle.std.proofs.lemmas.Bool.Decides.{nat_tests}
use Rattle.std.proofs.lemmas.List.{length-map}
use Rattle.af_time.specs.DeviceTime.{unwrap, IsMeant}
use Rattle.af_time.proofs.WholeTimeLemmas.{meant_unwrap, unwrap_meant}
use Rattle.af_sample.specs.Heard.{AcceptedPlay}
use Rattle.af_sample.specs.Samples.{bytes_of}
use Rattle.af_sample.specs.Gains.{gained}
use Rattle.af_sample.specs.Channels.{AreWholeFrames, IsChannelCount, frame_count}
use Rattle.af_sample.proofs.FrameLemmas.{one_or_two}
use Rattle.af_sample.specs.Window.{window}
use Rattle.af_context.specs.declared.Context.{Context}
use Rattle.af_world.specs.declared.script.DeviceSpec.{DeviceSpec}
use Rattle.af_sample.specs.Rates.{IsListedRate}
use Rattle.af_buffers.specs.PlayBuffer.{PlayWindow, accepted_at, accepted_by, frames_beyond as play_beyond, frames_within, HandsOut, Hears, Plays}
use Rattle.af_buffers.specs.RecordBuffer.{RecordWindow, Captures, Keeps, frames_before, frames_until_past as record_beyond, samples_from}
use Rattle.af_buffers.proofs.HorizonLemmas.{horizon_of_rate, horizon_within}
use Rattle.af_buffers.proofs.PlayBufferLemmas.{hears_silence, hears_play, hears_hand_out, gives_heard_from, frames_beyond-same as play_later, frames_within-same}
use Rattle.af_buffers.proofs.RecordBufferLemmas.{keeps_silence, keeps_capture, reads_window, frames_before-same, frames_beyond-same as record_later}
use Rattle.af_model.specs.State.{Completion, DeviceState, Deferred, opening_controls, opening_device, opening_line}
use Rattle.af_model.specs.Play.{accept_play}
use Rattle.af_model.specs.Record.{recorded_bytes}
use Rattle.af_request.specs.declared.reply.Controls.{Controls}
use Rattle.af_request.specs.declared.reply.Phone.{Phone}
use Rattle.af_model.specs.Controls.{through_output_control, through_control, through_input_control}
use Rattle.af_model.specs.Tick.{complete_deferred, device_after, next_sound, with_deferred, with_deferred_actor}
use Rattle.af_model.specs.NoLoss.{IsWholeAt}
use Rattle.af_state.specs.Kept.{KeptDevice, StandsForDevice}

-- the buffers of a device at its start
pub record Silent (next : PlayWindow) (spec : DeviceSpec) : Type 0 where
  pub time : next.time ≡ spec.start
  pub channels : next.channels ≡ spec.channels
  pub horizon : next.horizon ≡ spec.rate * 4
  pub silence : next.next ≡ replicate (spec.channels * (spec.rate * 4)) (pos 0)

pub record SilentLast (last : RecordWindow) (spec : DeviceSpec) : Type 0 where
  pub time : last.time ≡ spec.start
  pub channels : last.channels ≡ spec.channels
  pub horizon : last.horizon ≡ spec.rate * 4
  pub silence : last.last ≡ replicate (spec.channels * (spec.rate * 4)) (pos 0)

-- a device at its start
pub starts : (spec : DeviceSpec) (next : PlayWindow) (last : RecordWindow) (controls : Controls) (line : Option Phone) → controls ≡ opening_controls → line ≡ opening_line spec.line → IsListedRate spec.rate → IsChannelCount spec.channels → spec.start < 2 ^ 32 →
    Silent next spec → SilentLast last spec → StandsForDevice (record { ty = spec.ty; rate = spec.rate; next = next; last = last; controls = controls; line = line; is_dead = false }) (opening_device spec)
starts spec next last controls line same_controls same_line listed count word ahead back =
    let horizon : (32000 ≤ spec.rate * 4) × (spec.rate * 4 ≤ 192000) = horizon_within (spec.rate * 4) (horizon_of_rate spec.rate listed) in
    let time : spec.start ≡ (spec.start + 2 ^ 32) % 2 ^ 32 = omega arith in
    record {
      ty = refl;
      rate = refl;
      listed = listed;
      ahead = ahead.horizon;
      back = back.horizon;
      hears = hears_silence next spec.channels (spec.start + 2 ^ 32) (omega arith) (ahead.time ∙ time) count ahead.channels (ahead.silence ∙ ap (λ n. replicate (spec.channels * n) (pos 0)) (sym ahead.horizon));
      keeps = keeps_silence last spec.channels (spec.start + 2 ^ 32) (spec.rate * 4) (omega arith) (omega arith) count (back.time ∙ time) back.channels back.horizon back.silence;
      whole = λ k d low. absurd (omega arith);
      controls = same_controls;
      line = same_line;
      dead = refl;
    }

-- how many frames end within the horizon, and are before now, is what the state says
pub within-same : (d : KeptDevice) (s : DeviceState) (start : ℕ) → start < 2 ^ 32 → StandsForDevice d s → frames_within d.next start ≡ s.now + s.rate * 4 - unwrap s.now start
within-same d s start word h = frames_within-same d.next s.channels s.accepted s.now start h.hears word ∙ ap (λ n. s.now + n - unwrap s.now start) h.ahead

pub before-same : (d : KeptDevice) (s : DeviceState) (start : ℕ) → start < 2 ^ 32 → StandsForDevice d s → frames_before d.last start ≡ s.now - unwrap s.now start
before-same d s start word h = frames_before-same d.last s.channels s.captured s.begin s.now start h.keeps word

-- how long it takes until frames end within the horizon, and until they are before now
pub play_beyond-same : (d : KeptDevice) (s : DeviceState) (start n : ℕ) → start < 2 ^ 32 → StandsForDevice d s → play_beyond d.next start n ≡ unwrap s.now start + n - (s.now + s.rate * 4)
play_beyond-same d s start n word h = play_later d.next s.channels s.accepted s.now start n h.hears word ∙ ap (λ m. unwrap s.now start + n - (s.now + m)) h.ahead

pub record_beyond-same : (d : KeptDevice) (s : DeviceState) (start n : ℕ) → start < 2 ^ 32 → StandsForDevice d s → record_beyond d.last start n ≡ unwrap s.now start + n - s.now
record_beyond-same d s start n word h = record_later d.last s.channels s.captured s.begin s.now start n h.keeps word

-- a word means a near whole time
pub near_start : (d : KeptDevice) (s : DeviceState) (start whole : ℕ) → StandsForDevice d s → start ≡ whole % 2 ^ 32 → s.now ≤ whole + 192000 → whole < s.now + 2 ^ 31 → unwrap s.now start ≡ whole
near_start d s start whole h word early late =
    let begun : 2 ^ 32 ≤ s.now = h.hears.late in
    sym (meant_unwrap s.now start whole begun (record { word = sym word; early = omega arith; late = late }))

pub start_meant : (d : KeptDevice) (s : DeviceState) (start : ℕ) → start < 2 ^ 32 → StandsForDevice d s → IsMeant s.now start (unwrap s.now start)
start_meant d s start word h = unwrap_meant s.now start h.hears.late word

pub horizon_bounds : (s : DeviceState) (d : KeptDevice) → StandsForDevice d s → (32000 ≤ s.rate * 4) × (s.rate * 4 ≤ 192000)
horizon_bounds s d h = horizon_within (s.rate * 4) (horizon_of_rate s.rate h.listed)

-- it is to play something else, its controls or its line become others, or a deferred request completes; who acted is not kept
pub stands_changed : (d : KeptDevice) (s : DeviceState) (next : PlayWindow) (accepted : List AcceptedPlay) (completed : List Completion) (kept now : Controls) (line line_now : Option Phone) (actors : List ℕ) → StandsForDevice d s →
    next.horizon ≡ d.next.horizon → Hears next s.channels accepted s.now → All (λ c. IsWholeAt (s.rate * 4) c.at c.deferred) completed → kept ≡ now → line ≡ line_now →
    StandsForDevice (record d { next = next; controls = kept; line = line }) (record s { accepted = accepted; completed = completed; controls = now; line = line_now; actors = actors })
stands_changed d s next accepted completed kept now line line_now actors h horizon hears whole same_controls same_line = record {
  ty = h.ty;
  rate = h.rate;
  listed = h.listed;
  ahead = horizon ∙ h.ahead;
  back = h.back;
  hears = hears;
  keeps = h.keeps;
  whole = whole;
  controls = same_controls;
  line = same_line;
  dead = h.dead;
}

-- a play without a sample changes nothing
pub accepts_nothing : (k : ℕ) (d : KeptDevice) (start : ℕ) (sound : List ℤ) (preempt : Bool) (s : DeviceState) → length sound ≡ 0 → StandsForDevice d s → StandsForDevice d (accept_play k (accepted_at s.now start sound preempt) s)
accepts_nothing k d start sound preempt s none h =
    subst (λ n. StandsForDevice d (record s { accepted = cond (n == 0) s.accepted (s.accepted ++ accepted_at s.now start sound preempt ∷ []); actors = cond (n == 0) s.actors (s.actors ++ k ∷ []) })) (sym none) h

-- samples in whole frames have a frame if there are any
some_frame : (channels : ℕ) (sound : List ℤ) → IsChannelCount channels → 0 < length sound → AreWholeFrames channels sound → 0 < frame_count channels sound
some_frame channels sound count some whole = elim (one_or_two channels count) [
  | inl one ↦ let all : length sound ≡ 1 * frame_count channels sound = whole ∙ ap (λ c. c * frame_count channels sound) one in omega (arith, all, some)
  | inr two ↦ let all : length sound ≡ 2 * frame_count channels sound = whole ∙ ap (λ c. c * frame_count channels sound) two in omega (arith, all, some)
]

-- a play
pub accepts : (k : ℕ) (d : KeptDevice) (next : PlayWindow) (start : ℕ) (sound : List ℤ) (preempt : Bool) → start < 2 ^ 32 → 0 < length sound → AreWholeFrames d.next.channels sound → frame_count d.next.channels sound ≤ frames_within d.next start →
    Plays d.next next (accepted_by d.next start sound preempt) → (s : DeviceState) → StandsForDevice d s → StandsForDevice (record d { next = next }) (accept_play k (accepted_at s.now start sound preempt) s)
accepts k d next start sound preempt word some whole few p s h =
    let same : d.next.channels ≡ s.channels = h.hears.channels in
    let whole' : AreWholeFrames s.channels sound = subst (λ c. AreWholeFrames c sound) same whole in
    let frames : 0 < frame_count s.channels sound = some_frame s.channels sound h.hears.count some whole' in
    let few' : frame_count s.channels sound ≤ frames_within d.next start = subst (λ c. frame_count c sound ≤ frames_within d.next start) same few in
    let within : unwrap s.now start + frame_count s.channels sound ≤ s.now + d.next.horizon =
    let e = frames_within-same d.next s.channels s.accepted s.now start h.hears word in omega (arith, e, few', frames) in
    let heard = hears_play d.next next s.channels s.accepted s.now start sound preempt h.hears word within p in
    let not_none : (length sound == 0) ≡ false = grind (arith, nat_tests) in
    subst (λ b. StandsForDevice (record d { next = next }) (record s { accepted = cond b s.accepted (s.accepted ++ accepted_at s.now start sound preempt ∷ []); actors = cond b s.actors (s.actors ++ k ∷ []) })) (sym not_none)
    (stands_changed d s next (s.accepted ++ accepted_at s.now start sound preempt ∷ []) s.completed d.controls s.controls d.line s.line (s.actors ++ k ∷ []) h p.horizon heard h.whole h.controls h.line)

-- a deferred request, of which nothing is lost
pub completes : (k : ℕ) (d : KeptDevice) (s : DeviceState) (deferred : Deferred) → StandsForDevice d (record s { accepted = with_deferred deferred s.now s.accepted; actors = with_deferred_actor k deferred s.actors }) → IsWholeAt (s.rate * 4) s.now deferred → StandsForDevice d (complete_deferred k deferred s)
completes k d s deferred h whole =
    let done : Completion = record { link = k; deferred = deferred; at = s.now } in
    let played : DeviceState = record s { accepted = with_deferred deferred s.now s.accepted; actors = with_deferred_actor k deferred s.actors } in
    stands_changed d played d.next played.accepted (s.completed ++ done ∷ []) d.controls s.controls d.line s.line played.actors h refl h.hears (All-push (λ c. IsWholeAt (s.rate * 4) c.at c.deferred) s.completed done h.whole whole) h.controls h.line

-- a record
pub records : (d : KeptDevice) (c : Context) (start n : ℕ) (s : DeviceState) → start < 2 ^ 32 → StandsForDevice d s →
    bytes_of c.ty (map (λ x. gained x c.record_gain) (samples_from d.last start n)) ≡ recorded_bytes c s (unwrap s.now start) n
unfolding recorded_bytes
records d c start n s word h =
    ap (λ xs. bytes_of c.ty (map (λ x. gained x c.record_gain) xs))
    (reads_window d.last s.channels s.captured s.begin s.now start n h.keeps word ∙ ap (λ m. window s.channels s.captured s.begin s.now m (unwrap s.now start) n) h.back)

-- sample periods go by
pub passes : (d : KeptDevice) (next : PlayWindow) (last : RecordWindow) (captured taken given : List ℤ) → taken ≡ through_input_control d.controls captured → length given ≡ length captured → AreWholeFrames d.next.channels captured →
    HandsOut d.next next given → Captures d.last last taken → (s : DeviceState) → StandsForDevice d s → StandsForDevice (record d { next = next; last = last }) (device_after (frame_count s.channels captured) captured s.is_dead s)
passes d next last captured taken given is same whole o more s h =
    let ch : d.next.channels ≡ s.channels = h.hears.channels in
    let size : length taken ≡ length captured = ap length is ∙ length-map captured (through_control d.controls.input_on d.controls.input_gain) in
    let whole' : AreWholeFrames s.channels captured = subst (λ c. AreWholeFrames c captured) ch whole in
    let whole_taken : AreWholeFrames s.channels taken = subst (λ m. m ≡ s.channels * (m / s.channels)) (sym size) whole' in
    let whole_given : AreWholeFrames s.channels given = subst (λ m. m ≡ s.channels * (m / s.channels)) (sym same) whole' in
    let keeps : Keeps last s.channels (s.captured ++ taken) s.begin (s.now + frame_count s.channels taken) = keeps_capture d.last last s.channels s.captured taken s.begin s.now h.keeps whole_taken more in
    record {
      ty = h.ty;
      rate = h.rate;
      listed = h.listed;
      ahead = o.horizon ∙ h.ahead;
      back = more.horizon ∙ h.back;
      hears = subst (λ m. Hears next s.channels s.accepted (s.now + m / s.channels)) same (hears_hand_out d.next next s.channels s.accepted s.now given h.hears o whole_given);
      keeps = subst (λ m. Keeps last s.channels (s.captured ++ through_input_control s.controls captured) s.begin (s.now + m / s.channels)) size
          (subst (λ xs. Keeps last s.channels (s.captured ++ xs) s.begin (s.now + frame_count s.channels taken)) (is ∙ ap (λ (c : Controls). through_input_control c captured) h.controls) keeps);
      whole = h.whole;
      controls = h.controls;
      line = h.line;
      dead = h.dead;
    }

pub hands_out : (d : KeptDevice) (next : PlayWindow) (given out : List ℤ) (n : ℕ) → length given ≡ n → AreWholeFrames d.next.channels given → out ≡ through_output_control d.controls given → HandsOut d.next next given →
    (s : DeviceState) → StandsForDevice d s → out ≡ through_output_control s.controls (next_sound s (n / s.channels))
hands_out d next given out n same whole is o s h =
    let whole' : AreWholeFrames s.channels given = subst (λ c. AreWholeFrames c given) h.hears.channels whole in
    let all : given ≡ next_sound s (n / s.channels) = gives_heard_from d.next next s.channels s.accepted s.now (n / s.channels) given h.hears o (whole' ∙ ap (λ m. s.channels * (m / s.channels)) same) in
    is ∙ ap (through_output_control d.controls) all ∙ ap (λ (c : Controls). through_output_control c (next_sound s (n / s.channels))) h.controls

-- what is switched off is silence
pub silenced : (gain : ℤ) (xs : List ℤ) → replicate (length xs) (pos 0) ≡ map (through_control false gain) xs
silenced gain [] = refl
silenced gain (x ∷ xs) = ap (λ l. pos 0 ∷ l) (silenced gain xs)
