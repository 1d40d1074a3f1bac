-- Record: sound of a device from a time on.
use Rattle.std.specs.Prelude.{ℕ, ◌-◌, ◌%◌, ◌^◌, min, nat_lt, not, ◌&&◌, Bool, List, [], ◌∷◌, map, if◌then◌else◌}
use Rattle.std.specs.declared.option.Option.{Option}
use Rattle.af_limits.specs.Limits.{longest_record}
use Rattle.af_time.specs.DeviceTime.{unwrap}
use Rattle.af_sample.specs.Gains.{gained}
use Rattle.af_sample.specs.Samples.{bytes_of}
use Rattle.af_sample.specs.Window.{window}
use Rattle.af_context.specs.declared.Context.{Context}
use Rattle.af_request.specs.Answer.{recorded}
use Rattle.af_request.specs.Opcodes as opcodes
use Rattle.af_model.specs.declared.refusal.RefusalCause.TheVariants.{BadValue}
use Rattle.af_model.specs.declared.refusal.Refusal.{Refusal}
use Rattle.af_model.specs.State.{DeviceState, OpenLink, deferred_record}
use Rattle.af_model.specs.Reply.{reply_with, horizon_of}
use Rattle.af_model.specs.Checks.{check, first_refusal, refuse_or}
use Rattle.af_model.specs.Waiting.{wait}
use Rattle.af_model.specs.Play.{frames_of, are_frames}

-- how many frames from a time on are before now
abbrev pub frames_before_now : DeviceState → ℕ → ℕ
frames_before_now device time = device.now - unwrap device.now time

-- a record has at most 16000 bytes, in whole frames
unfoldable pub record_refusal : ℕ → Context → ℕ → Option Refusal
record_refusal channels c bytes =
    first_refusal
    (check (nat_lt longest_record bytes) BadValue bytes ∷ check (not (are_frames channels c bytes)) BadValue bytes ∷ [])

-- how many of the frames from a time on are given: all; or those before now, if the record does not block
abbrev pub given_frames : Bool → DeviceState → ℕ → ℕ → ℕ
given_frames blocking device time frames = if blocking then frames else min (frames_before_now device time) frames

-- n frames that a device recorded from a whole time on, as a context takes them
unfoldable pub recorded_bytes : Context → DeviceState → ℕ → ℕ → List ℕ
recorded_bytes c device start n = bytes_of c.ty (map (λ x. gained x c.record_gain)
    (window device.channels device.captured device.begin device.now (horizon_of device) start n))

-- a record is answered with n frames
abbrev pub give_record : Context → ℕ → ℕ → DeviceState → OpenLink → OpenLink
give_record c start n device p = reply_with opcodes.record (recorded (device.now % 2 ^ 32) (recorded_bytes c device start n)) p

-- a record is deferred if it blocks and has a frame that is not before now
abbrev pub is_to_wait : Bool → DeviceState → ℕ → ℕ → Bool
is_to_wait blocking device time frames = blocking && nat_lt (frames_before_now device time) frames

abbrev pub start_record : ℕ → Bool → Context → ℕ → ℕ → DeviceState → OpenLink → OpenLink
start_record k blocking c time bytes device p =
    if is_to_wait blocking device time (frames_of device.channels c bytes)
    then wait k c.device (deferred_record c (unwrap device.now time) (frames_of device.channels c bytes)) p
    else give_record c (unwrap device.now time) (given_frames blocking device time (frames_of device.channels c bytes)) device p

abbrev pub record_sound : ℕ → Bool → Context → ℕ → ℕ → DeviceState → OpenLink → OpenLink
record_sound k blocking c time bytes device p =
    refuse_or opcodes.record (record_refusal device.channels c bytes) (start_record k blocking c time bytes device) p
