-- No message to a link is longer than the longest.
use Rattle.std.proofs.Common.{◌≡◌, ℕ, suc, ◌+◌, ◌*◌, ◌/◌, ◌%◌, ◌≤◌, Bool, true, false, cond, ℤ, List, [], ◌∷◌, length, map, min, refl, ap, ◌∙◌, arith, length-append}
use Rattle.std.proofs.lemmas.List.{length-map}
use Rattle.std.proofs.lemmas.List.FromFn.{length-map-range_with_len}
use Rattle.std.proofs.Math.Nat.{div-mul-le_self, mul-le-mul_right}
use Rattle.af_limits.specs.Limits.{most_devices, longest_record, longest_message}
use Rattle.af_sample.specs.declared.sample_type.SampleType.{SampleType}
use Rattle.af_sample.specs.Gains.{gained}
use Rattle.af_sample.specs.SampleTypes.{frame_bytes, width_of}
use Rattle.af_sample.specs.Samples.{bytes_of, encoded}
use Rattle.af_sample.specs.Window.{recorded_sample, window}
use Rattle.af_sample.proofs.RunLemmas.{length-encoded}
use Rattle.af_context.specs.declared.Context.{Context}
use Rattle.af_wire.specs.declared.order.Order.{Order}
use Rattle.af_wire.specs.declared.event.Event.{Event}
use Rattle.af_wire.specs.Event.{event_bytes}
use Rattle.af_wire.specs.Message.{error, head}
use Rattle.af_request.specs.Answer.{Answer, setup, plain, time, played, recorded, controls, phone}
use Rattle.af_request.specs.Replies.{body_bytes, body_words}
use Rattle.af_request.proofs.ReplyRoundTrips.{length-body}
use Rattle.af_model.specs.State.{DeviceState}
use Rattle.af_model.specs.Reply.{horizon_of, reply_message}
use Rattle.af_model.specs.Play.{frames_of}
use Rattle.af_model.specs.Record.{frames_before_now, given_frames, recorded_bytes}

-- an answer that states at most eight devices, and has at most the samples of a record
abbrev pub IsShortAnswer : Answer → Type 0
IsShortAnswer (setup devices) = length devices ≤ most_devices
IsShortAnswer (recorded now samples) = length samples ≤ longest_record
IsShortAnswer _ = Unit {0}

few_words : (a : Answer) → IsShortAnswer a → body_words a ≤ 4002
few_words (setup devices) few = omega (arith, few)
few_words plain few = omega arith
few_words (time now) few = omega arith
few_words (played now) few = omega arith
few_words (recorded now samples) few = let short : length samples ≤ longest_record = few in omega arith
few_words (controls c) few = omega arith
few_words (phone p) few = omega arith

pub reply_short : (order : Order) (opcode : ℕ) (a : Answer) (sequence : ℕ) → IsShortAnswer a → length (reply_message order opcode a sequence) ≤ longest_message
unfolding reply_message head
reply_short order opcode a sequence few =
    let size : length (reply_message order opcode a sequence) ≡ 8 + 4 * body_words a = length-append (head order 1 opcode sequence (body_words a)) (body_bytes order a) ∙ ap (λ n. 8 + n) (length-body order a) in
    omega (arith, size, few_words a few)

pub error_short : (order : Order) (code value opcode sequence : ℕ) → length (error order code value opcode sequence) ≤ longest_message
unfolding error head
error_short order code value opcode sequence = let size : length (error order code value opcode sequence) ≡ 16 = refl in omega (arith, size)

pub event_size : (order : Order) (e : Event) (sequence : ℕ) → length (event_bytes order e sequence) ≡ 20
unfolding event_bytes head
event_size order e sequence = refl

-- Samples

bytes_size : (ty : SampleType) (xs : List ℤ) → length (bytes_of ty xs) ≡ length xs * width_of ty
bytes_size ty [] = omega arith
bytes_size ty (x ∷ xs) = length-append (encoded ty x) (bytes_of ty xs) ∙ more (length (encoded ty x)) (length (bytes_of ty xs)) (width_of ty) (length xs) (length-encoded ty x) (bytes_size ty xs)
  where
    more : (a b w n : ℕ) → a ≡ w → b ≡ n * w → a + b ≡ suc n * w
    more a b w n one all = grind arith

-- so many frames of a context on a device
pub recorded_size : (c : Context) (device : DeviceState) (start n : ℕ) → length (recorded_bytes c device start n) ≡ n * frame_bytes c.ty device.channels
unfolding recorded_bytes
recorded_size c device start n =
    let heard = window device.channels device.captured device.begin device.now (horizon_of device) start n in
    let f : ℕ → ℤ = λ j. recorded_sample device.channels device.captured device.begin device.now (horizon_of device) (start + j / device.channels) (j % device.channels) in
    bytes_size c.ty (map (λ x. gained x c.record_gain) heard)
    ∙ ap (λ m. m * width_of c.ty) (length-map heard (λ x. gained x c.record_gain) ∙ length-map-range_with_len f 0 (device.channels * n))
    ∙ turned device.channels n (width_of c.ty)
  where
    turned : (channels n w : ℕ) → channels * n * w ≡ n * (w * channels)
    turned channels n w = grind arith

-- a record that is answered at once has at most what it may have
pub given_short : (blocking : Bool) (c : Context) (device : DeviceState) (from bytes start : ℕ) → bytes ≤ longest_record → length (recorded_bytes c device start (given_frames blocking device from (frames_of device.channels c bytes))) ≤ longest_record
given_short blocking c device from bytes start few =
    let size = frame_bytes c.ty device.channels in
    let frames = frames_of device.channels c bytes in
    let given = given_frames blocking device from frames in
    let fewer : given ≤ frames = fewer_of blocking (frames_before_now device from) frames in
    within given frames size (recorded_size c device start given) fewer (div-mul-le_self bytes size)
  where
    fewer_of : (blocking : Bool) (before frames : ℕ) → cond blocking frames (min before frames) ≤ frames
    fewer_of true before frames = omega arith
    fewer_of false before frames = omega arith

    within : (given frames size : ℕ) {n : ℕ} → n ≡ given * size → given ≤ frames → frames * size ≤ bytes → n ≤ longest_record
    within given frames size is less all = omega (arith, is, mul-le-mul_right {m = given} {n = frames} size less, all, few)
