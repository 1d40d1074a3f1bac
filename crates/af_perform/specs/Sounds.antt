-- What plays and records lead to, also deferred ones.
use Rattle.std.specs.Prelude.{◌≡◌, ℕ, ◌*◌, ◌/◌, ◌%◌, List, slice_get}
use Rattle.std.specs.declared.option.Option.TheVariants.{Some}
use Rattle.af_sample.specs.declared.sample_type.SampleType.{SampleType}
use Rattle.af_sample.specs.SampleTypes.{width_of}
use Rattle.af_context.specs.declared.Context.{Context}
use Rattle.af_buffers.specs.PlayBuffer.{accepted_at}
use Rattle.af_model.specs.State.{EnvironmentState, DeviceState, Deferred, LinkState, OpenLink, open_link}
use Rattle.af_model.specs.Reply.{horizon_of}
use Rattle.af_model.specs.Checks.{in_device}
use Rattle.af_model.specs.Play.{accept_play, frames_of, in_devices, play, sent_sound, start_play, tell_played}
use Rattle.af_model.specs.Record.{record_sound}
use Rattle.af_model.specs.Tick.{answer_deferred, complete_deferred}
use Rattle.af_state.specs.declared.deferred_request.Play.{Play}
use Rattle.af_state.specs.declared.deferred_request.Record.{Record}
use Rattle.af_state.specs.Kept.{KeptDevice}
use Rattle.af_state.specs.Deferrals.{IsNear, KeptDeferral, with_start_word}
use Rattle.af_perform.specs.declared.play.ContextPlay.{ContextPlay}
use Rattle.af_perform.specs.declared.record.ContextRecord.{ContextRecord}
use Rattle.af_state.specs.SharedState.{StandsForLink, StepsLinkFor, StandsForSharedState, kept_shared_state}

-- a play is the sound that a client sends by a context in these bytes
pub record IsSoundOf (p : Play) (c : Context) (bytes : List ℕ) : Type 0 where
  pub device : p.device ≡ c.device
  pub preempt : p.preempt ≡ c.preempt
  pub sound : p.sound.now ≡ sent_sound c bytes

-- bytes of a sample type are whole samples, and these are whole frames of so many channels
pub record WholeBytes (ty : SampleType) (channels n : ℕ) : Type 0 where
  pub samples : n % width_of ty ≡ 0
  pub frames : n / width_of ty ≡ channels * (n / width_of ty / channels)

-- a record on a device has the frames that so many bytes are by its context
abbrev pub IsRecordOn : Record → ℕ → KeptDevice → Type 0
IsRecordOn r bytes device = r.frames ≡ frames_of device.next.channels r.context bytes

-- a request that names a device is done with it, if it exists
abbrev pub with_named_device : ℕ → ℕ → (DeviceState → OpenLink → OpenLink) → OpenLink → OpenLink
with_named_device opcode d f p = in_device opcode d f (slice_get p.environment.devices d) p

-- a play and a record whose context is found
abbrev pub play_by_context : ℕ → ContextPlay → DeviceState → OpenLink → OpenLink
play_by_context k p = play k p.quiet p.context p.start.0 p.bytes.now

abbrev pub start_play_of : ℕ → ContextPlay → DeviceState → OpenLink → OpenLink
start_play_of k p = start_play k p.quiet p.context p.start.0 p.bytes.now

abbrev pub record_by_context : ℕ → ContextRecord → DeviceState → OpenLink → OpenLink
record_by_context k r = record_sound k r.blocking r.context r.start.0 r.bytes

-- a device accepts a play of link k, and the link is replied to
abbrev pub accept_now : ℕ → Play → DeviceState → OpenLink → OpenLink
accept_now k play s p = tell_played play.quiet s
    (in_devices play.device (accept_play k (accepted_at s.now play.start.0 play.sound.now play.preempt)) p)

abbrev pub AcceptsPlay : Play → List KeptDevice → LinkState → List KeptDevice → LinkState → Type 0
AcceptsPlay play ds l ds' l' = (k : ℕ) (ks : List KeptDeferral) →
    StepsLinkFor play.device (accept_now k play) (kept_shared_state ds ks) l (kept_shared_state ds' ks) l'

-- a deferred request of a link completes, whichever whole start its word means
abbrev pub CompletesDeferred : Deferred → ℕ → List KeptDevice → LinkState → List KeptDevice → LinkState → Type 0
CompletesDeferred word d ds l ds' l' =
    (k : ℕ) (ks : List KeptDeferral) (a : EnvironmentState) (s : DeviceState) (deferred : Deferred) →
    StandsForSharedState (kept_shared_state ds ks) a →
    slice_get a.devices d ≡ Some s → word ≡ with_start_word deferred → IsNear (horizon_of s) s.now deferred →
    StandsForLink (kept_shared_state ds' ks) l'
    (answer_deferred deferred s (in_devices d (complete_deferred k deferred) (open_link a l)))
