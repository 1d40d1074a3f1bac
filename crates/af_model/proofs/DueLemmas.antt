-- A request that is deferred now: it is due later than its device's time, and it has at most the samples that it may have.
use Rattle.std.proofs.Common.{◌≡◌, ℕ, ◌+◌, ◌*◌, ◌-◌, ◌/◌, ◌<◌, ◌≤◌, Bool, true, false, not, List, [], ◌∷◌, length, nat_le, nat_lt, refl, sym, ap, ◌∙◌, arith}
use Rattle.std.proofs.lemmas.List.{length-map}
use Rattle.std.proofs.Math.Nat.{div-le_self, div-mul-le_self, div-div-eq-div-mul}
use Rattle.std.specs.declared.option.Option.TheVariants.{None}
use Rattle.af_time.specs.DeviceTime.{unwrap}
use Rattle.af_sample.specs.Gains.{gained}
use Rattle.af_sample.specs.Samples.{decoded, piece, samples}
use Rattle.af_sample.specs.SampleTypes.{frame_bytes, width_of}
use Rattle.af_sample.specs.Channels.{frame_count}
use Rattle.std.proofs.lemmas.List.FromFn.{length-map-range_with_len}
use Rattle.af_limits.specs.Limits.{longest_record}
use Rattle.af_context.specs.declared.Context.{Context}
use Rattle.af_request.specs.Asked.{Asked, play_run, record_run}
use Rattle.af_model.specs.declared.refusal.RefusalCause.TheVariants.{BadValue}
use Rattle.af_model.specs.State.{DeviceState, Deferred, deferred_play, deferred_record}
use Rattle.af_model.specs.Reply.{horizon_of}
use Rattle.af_model.specs.Checks.{check, first_refusal}
use Rattle.af_model.specs.Waiting.{due_time}
use Rattle.af_model.specs.Play.{are_frames, frames_of, frames_within_horizon, sent_sound}
use Rattle.af_model.specs.Record.{frames_before_now, is_to_wait, record_refusal}
use Rattle.af_model.proofs.BoolTestLemmas.{both-true, none_some}

-- how many samples a deferred play has, and how many frames a deferred record
abbrev pub frames_deferred : Deferred → ℕ
frames_deferred (deferred_play quiet start sound preempt) = length sound
frames_deferred (deferred_record c start frames) = frames

-- how many it may have, for each request that can be deferred: a play at most its bytes, a record at most the bytes of its reply
abbrev pub most_asked : Asked → ℕ
most_asked (play_run quiet ac start bytes) = length bytes
most_asked (record_run blocking ac start bytes) = longest_record
most_asked _ = 0

-- how many bytes the answer of a record has
abbrev pub answer_size : ℕ → Deferred → ℕ
answer_size channels (deferred_play quiet start sound preempt) = 0
answer_size channels (deferred_record c start frames) = frames * frame_bytes c.ty channels

pub record IsToWait (most : ℕ) (device : DeviceState) (deferred : Deferred) : Type 0 where
  pub later : device.now < due_time device.channels (horizon_of device) deferred
  pub short : frames_deferred deferred ≤ most
  pub answered : answer_size device.channels deferred ≤ longest_record

-- a check that refuses nothing did not fail
unfailed : (fails : Bool) (value : ℕ) → check fails BadValue value ≡ None → fails ≡ false
unfailed true value e = absurd (none_some (sym e))
unfailed false value e = refl

-- the samples that are sent are as many frames as their bytes, whole or not
pub sent_frames : (channels : ℕ) (c : Context) (bytes : List ℕ) → frame_count channels (sent_sound c bytes) ≡ frames_of channels c (length bytes)
unfolding samples
sent_frames channels c bytes =
    ap (λ n. n / channels) (length-map (samples c.ty bytes) (λ x. gained x c.play_gain) ∙ length-map-range_with_len (λ i. decoded c.ty (piece c.ty bytes i)) 0 (length bytes / width_of c.ty))
    ∙ div-div-eq-div-mul (length bytes) (width_of c.ty) channels

-- at most as many samples as bytes
sent_few : (c : Context) (bytes : List ℕ) → length (sent_sound c bytes) ≤ length bytes
unfolding samples
sent_few c bytes =
    let long : length (sent_sound c bytes) ≡ length bytes / width_of c.ty =
    length-map (samples c.ty bytes) (λ x. gained x c.play_gain) ∙ length-map-range_with_len (λ i. decoded c.ty (piece c.ty bytes i)) 0 (length bytes / width_of c.ty) in
    omega (arith, long, div-le_self (length bytes) (width_of c.ty))

-- a play that ends beyond the horizon
pub play_waits : (quiet : Bool) (c : Context) (device : DeviceState) (time : ℕ) (bytes : List ℕ) (most : ℕ) → length bytes ≤ most →
    nat_le (frames_of device.channels c (length bytes)) (frames_within_horizon device time) ≡ false → IsToWait most device (deferred_play quiet (unwrap device.now time) (sent_sound c bytes) c.preempt)
play_waits quiet c device time bytes most short beyond = record {
  later = past device.now (horizon_of device) (unwrap device.now time) (frame_count device.channels (sent_sound c bytes)) (frames_of device.channels c (length bytes)) (sent_frames device.channels c bytes) beyond;
  short = omega (arith, sent_few c bytes, short);
  answered = omega arith;
}
  where
    past : (now horizon start sound frames : ℕ) → sound ≡ frames → nat_le frames (now + horizon - start) ≡ false → now < start + sound - horizon
    past now horizon start sound frames same e = grind arith

-- a record that is not refused has few bytes
pub record_few : (channels : ℕ) (c : Context) (bytes : ℕ) → record_refusal channels c bytes ≡ None → bytes ≤ longest_record
unfolding record_refusal
record_few channels c bytes allowed = few bytes (first (check (not (are_frames channels c bytes)) BadValue bytes ∷ []) (nat_lt longest_record bytes) allowed)
  where
    first : (rest : _) (fails : Bool) → first_refusal (check fails BadValue bytes ∷ rest) ≡ None → fails ≡ false
    first rest true e = absurd (none_some (sym e))
    first rest false e = refl

    few : (bytes : ℕ) → nat_lt longest_record bytes ≡ false → bytes ≤ longest_record
    few bytes e = grind arith

-- a record of what is not there yet
pub record_waits : (blocking : Bool) (c : Context) (device : DeviceState) (time bytes most : ℕ) → record_refusal device.channels c bytes ≡ None → longest_record ≤ most →
    is_to_wait blocking device time (frames_of device.channels c bytes) ≡ true → IsToWait most device (deferred_record c (unwrap device.now time) (frames_of device.channels c bytes))
record_waits blocking c device time bytes most allowed most_is waits =
    let test = (both-true blocking (nat_lt (frames_before_now device time) (frames_of device.channels c bytes)) waits).1 in
    let few = record_few device.channels c bytes allowed in
    record {
      later = past device.now (unwrap device.now time) (frames_of device.channels c bytes) test;
      short = omega (arith, few, most_is, div-le_self bytes (frame_bytes c.ty device.channels));
      answered = omega (arith, few, div-mul-le_self bytes (frame_bytes c.ty device.channels));
    }
  where
    past : (now start frames : ℕ) → nat_lt (now - start) frames ≡ true → now < start + frames
    past now start frames e = grind arith
