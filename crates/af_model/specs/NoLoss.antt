-- No sample of a deferred request is lost.
use Rattle.std.specs.Prelude.{ℕ, ◌+◌, ◌≤◌, List, IfSome}
use Rattle.std.specs.List.{All}
use Rattle.af_world.specs.declared.script.DeviceSpec.{DeviceSpec}
use Rattle.af_world.specs.Log.{Log}
use Rattle.af_model.specs.State.{DeviceState, Deferred, deferred_play, deferred_record, State}
use Rattle.af_model.specs.Reply.{horizon_of}
use Rattle.af_model.specs.Run.{end_state}

-- A request that is completed at a time loses nothing: a play is accepted no later than its start, and the start of a record is
-- at most a horizon ago.
abbrev pub IsWholeAt : ℕ → ℕ → Deferred → Type 0
IsWholeAt horizon now (deferred_play quiet start sound preempt) = now ≤ start
IsWholeAt horizon now (deferred_record c start frames) = now ≤ start + horizon

-- nor does any that a device completed
abbrev pub LosesNone : DeviceState → Type 0
LosesNone device = All (λ c. IsWholeAt (horizon_of device) c.at c.deferred) device.completed

-- nor does any in a state
abbrev pub StateLosesNone : State → Type 0
StateLosesNone s = All (λ device. LosesNone device) s.devices

-- nor does any in a run
abbrev pub RunLosesNone : List DeviceSpec → Log → Type 0
RunLosesNone config log = IfSome (end_state config log) StateLosesNone
