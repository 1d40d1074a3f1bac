-- Play: sound of a client from a time on.
use Rattle.std.specs.Prelude.{ℕ, ◌+◌, ◌-◌, ◌/◌, ◌%◌, ◌^◌, ◌==◌, nat_le, not, Bool, ℤ, List, [], ◌∷◌, ◌++◌, length, map, if◌then◌else◌}
use Rattle.std.specs.declared.option.Option.{Option}
use Rattle.af_time.specs.DeviceTime.{unwrap}
use Rattle.af_sample.specs.Gains.{gained}
use Rattle.af_sample.specs.Samples.{samples}
use Rattle.af_sample.specs.SampleTypes.{frame_bytes}
use Rattle.af_sample.specs.Heard.{AcceptedPlay}
use Rattle.af_context.specs.declared.Context.{Context}
use Rattle.af_request.specs.Answer.{played}
use Rattle.af_request.specs.Opcodes as opcodes
use Rattle.af_model.specs.declared.refusal.RefusalCause.TheVariants.{BadValue}
use Rattle.af_model.specs.declared.refusal.Refusal.{Refusal}
use Rattle.af_model.specs.State.{DeviceState, OpenLink, open_link, with_device, deferred_play}
use Rattle.af_model.specs.Reply.{reply_with, horizon_of}
use Rattle.af_model.specs.Checks.{check, refuse_or}
use Rattle.af_model.specs.Waiting.{wait}

-- how many frames of a context n bytes are, on a device with so many channels
abbrev pub frames_of : ℕ → Context → ℕ → ℕ
frames_of channels c bytes = bytes / frame_bytes c.ty channels

-- whether bytes are whole frames of a context there
abbrev pub are_frames : ℕ → Context → ℕ → Bool
are_frames channels c bytes = bytes % frame_bytes c.ty channels == 0

-- the samples that a client sends by a context, with the gain that the context has now
abbrev pub sent_sound : Context → List ℕ → List ℤ
sent_sound c bytes = map (λ x. gained x c.play_gain) (samples c.ty bytes)

-- how many frames from a time on end within the horizon
abbrev pub frames_within_horizon : DeviceState → ℕ → ℕ
frames_within_horizon device time = device.now + horizon_of device - unwrap device.now time

-- the bytes of a play are whole frames
abbrev pub play_refusal : ℕ → Context → ℕ → Option Refusal
play_refusal channels c bytes = check (not (are_frames channels c bytes)) BadValue bytes

-- a play that is accepted now
abbrev pub entry_now : Context → DeviceState → ℕ → List ℕ → AcceptedPlay
entry_now c device time bytes =
    record { start = unwrap device.now time; samples = sent_sound c bytes; preempt = c.preempt; at = device.now }

-- a play is accepted after all others; a play without a frame is not noted
abbrev pub with_play : AcceptedPlay → List AcceptedPlay → List AcceptedPlay
with_play e accepted = if length e.samples == 0 then accepted else accepted ++ e ∷ []

-- its link has acted, unless the play has no frame
abbrev pub with_actor : ℕ → List ℤ → List ℕ → List ℕ
with_actor k samples actors = if length samples == 0 then actors else actors ++ k ∷ []

-- a device accepts a play of link k
abbrev pub accept_play : ℕ → AcceptedPlay → DeviceState → DeviceState
accept_play k e device = record device { accepted = with_play e device.accepted; actors = with_actor k e.samples device.actors }

-- a change of a device, in a link's environment
abbrev pub in_devices : ℕ → (DeviceState → DeviceState) → OpenLink → OpenLink
in_devices d f p = open_link (record p.environment { devices = with_device d f p.environment.devices }) p.link

-- a play is replied to with the device's time, unless it is quiet
abbrev pub tell_played : Bool → DeviceState → OpenLink → OpenLink
tell_played quiet device p = if quiet then p else reply_with opcodes.play (played (device.now % 2 ^ 32)) p

-- A play that ends within the horizon, or has no frame, is accepted now. Any other is deferred as a whole.
abbrev pub start_play : ℕ → Bool → Context → ℕ → List ℕ → DeviceState → OpenLink → OpenLink
start_play k quiet c time bytes device p =
    if nat_le (frames_of device.channels c (length bytes)) (frames_within_horizon device time)
    then tell_played quiet device (in_devices c.device (accept_play k (entry_now c device time bytes)) p)
    else wait k c.device (deferred_play quiet (unwrap device.now time) (sent_sound c bytes) c.preempt) p

abbrev pub play : ℕ → Bool → Context → ℕ → List ℕ → DeviceState → OpenLink → OpenLink
play k quiet c time bytes device p =
    refuse_or opcodes.play (play_refusal device.channels c (length bytes)) (start_play k quiet c time bytes device) p
