-- What leaves a device of the plays that a client sends.
use Rattle.std.specs.Prelude.{◌≡◌, ◌≤◌, ◌<◌, ℕ, ◌+◌, ◌-◌, ◌*◌, ◌%◌, ◌^◌, Bool, true, false, ℤ, pos, List, [], ◌∷◌, ◌++◌, slice_get, slice_index_or, IfSome}
use Rattle.std.specs.List.{All}
use Rattle.std.specs.declared.option.Option.TheVariants.{Some}
use Rattle.af_wire.specs.declared.order.Order.{Order}
use Rattle.af_wire.specs.Begins.{BeginsWith}
use Rattle.af_sample.specs.Channels.{frame_count}
use Rattle.af_sample.specs.Heard.{AcceptedPlay, covers}
use Rattle.af_sample.specs.Rates.{IsListedRate}
use Rattle.af_sample.specs.Samples.{bytes_of}
use Rattle.af_request.specs.Asked.{Asked}
use Rattle.af_request.specs.Requests.{IsWritable}
use Rattle.af_world.specs.declared.happening.Happening.TheVariants.{Emitted}
use Rattle.af_world.specs.declared.script.DeviceSpec.{DeviceSpec}
use Rattle.af_world.specs.Log.{Log}
use Rattle.af_model.specs.State.{DeviceState, LinkState, State, slot_at}
use Rattle.af_model.specs.Controls.{through_control}
use Rattle.af_model.specs.Play.{sent_sound}
use Rattle.af_model.specs.Perform.{channels_at}
use Rattle.af_model.specs.Run.{end_state}
use Rattle.af_end_to_end.specs.Sent.{client_bytes}
use Rattle.af_end_to_end.specs.Performing.{own_waiting}
use Rattle.af_end_to_end.specs.Playing.{AreTurns, PlayedAt, PlaysOn, StaysOpen, Turn, end_of, given_in, plays_in, requests_of}

-- the log of turns
abbrev pub log_of : List Turn → Log
log_of [] = []
log_of (turn ∷ more) = turn.part ++ log_of more

-- a link that was just opened
pub record IsNew (l : LinkState) : Type 0 where
  pub unset : l.is_set_up ≡ false
  pub unread : l.rest ≡ []
  pub no_contexts : l.contexts ≡ []

-- A play was performed in time for a whole time that its own word means: by then, and less than 2^31 sample periods before.
pub record IsInTime (x : PlayedAt) (whole : ℕ) : Type 0 where
  pub device : DeviceState
  pub was_there : slice_get x.after.devices x.sent.context.device ≡ Some device
  pub word : whole % 2 ^ 32 ≡ x.sent.time
  pub by_start : device.now ≤ whole
  pub near : whole < device.now + 2 ^ 31

-- the entry of a play from a whole time on: its samples, under the gain of its context; and the device accepted it by its start
pub record IsEntryOf (x : PlayedAt) (whole : ℕ) (entry : AcceptedPlay) : Type 0 where
  pub start : entry.start ≡ whole
  pub samples : entry.samples ≡ sent_sound x.sent.context x.sent.bytes
  pub preempt : entry.preempt ≡ x.sent.context.preempt
  pub in_time : entry.at ≤ whole

-- no other play that a device has accepted covers a time
abbrev pub IsAlone : ℕ → List AcceptedPlay → (place time : ℕ) → Type 0
IsAlone channels accepted place time =
    (j : ℕ) (e : AcceptedPlay) → slice_get accepted j ≡ Some e → covers channels e time ≡ true → j ≡ place

-- the sample of a channel in a frame
abbrev pub sample_at : (channels : ℕ) → List ℤ → (frame channel : ℕ) → ℤ
sample_at channels samples frame channel = slice_index_or samples (channels * frame + channel) (pos 0)

-- In samples of n frames that leave a device from its time on, those of an entry are at their place: as the output control lets
-- them through, where no other play covers their time.
abbrev pub HasSamplesOf : DeviceState → ℕ → List ℤ → List AcceptedPlay → ℕ → AcceptedPlay → Type 0
HasSamplesOf device n samples accepted place entry =
    (frame channel : ℕ) → frame < frame_count device.channels entry.samples → channel < device.channels →
    device.now ≤ entry.start + frame → entry.start + frame < device.now + n →
    IsAlone device.channels accepted place (entry.start + frame) →
    sample_at device.channels samples (entry.start + frame - device.now) channel
    ≡ through_control device.controls.output_on device.controls.output_gain
    (sample_at device.channels entry.samples frame channel)

-- What a device emits: the bytes of samples in its type, n frames from its time on.
pub record IsEmitOf (place : ℕ) (entry : AcceptedPlay) (accepted : List AcceptedPlay) (sent : List ℕ) : Type 0 where
  pub device : DeviceState
  pub frames : ℕ
  pub samples : List ℤ
  pub bytes : sent ≡ bytes_of device.ty samples
  pub has : HasSamplesOf device frames samples accepted place entry

-- A play in a run: it is among the plays that its device has accepted at the end, and its samples are in each emit of the device.
pub record IsSounded (log : Log) (end : State) (x : PlayedAt) (whole : ℕ) : Type 0 where
  pub device : DeviceState
  pub is_there : slice_get end.devices x.sent.context.device ≡ Some device
  pub place : ℕ
  pub entry : AcceptedPlay
  pub is_accepted : slice_get device.accepted place ≡ Some entry
  pub is_its : IsEntryOf x whole entry
  pub emits : (front rest : Log) (sent : List ℕ) (done : Bool) →
      log ≡ front ++ Emitted x.sent.context.device sent done ∷ rest → IsEmitOf place entry device.accepted sent

-- What a client sends is heard. Its link performed the first requests that it sends, in their order, each once; and each play
-- among these is sounded, if it was performed in time and is not still deferred.
pub record IsHeard (log : Log) (k : ℕ) (s : State) (l : LinkState) (turns : List Turn) (requests : List Asked) : Type 0 where
  pub plays_on : PlaysOn k s l turns
  pub more : List Asked
  pub in_order : requests ≡ requests_of plays_on.done ++ more
  pub sounded : own_waiting k (end_of s turns).waiting ≡ [] →
      All (λ x. (whole : ℕ) → IsInTime x whole → IsSounded (log ++ log_of turns) (end_of s turns) x whole)
      (plays_in (channels_at s.devices) [] plays_on.done)

-- This holds of each client, from where its link was opened in a run, as long as it stays open: if what its link gave is the
-- first of what the client sends.
abbrev pub IsHeardInRun : List DeviceSpec → Log → Type 0
IsHeardInRun config log =
    All (λ c. IsListedRate c.rate) config →
    IfSome (end_state config log)
    (λ s. (k : ℕ) (l : LinkState) (turns : List Turn) → (slot_at k s).link ≡ Some l → IsNew l → AreTurns s turns →
    All (StaysOpen k) turns → (order : Order) (requests : List Asked) → All IsWritable requests →
    BeginsWith (given_in k turns) (client_bytes order requests) → IsHeard log k s l turns requests)
