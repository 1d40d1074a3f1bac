-- What a tape keeps in memory: the scripted links, each with room for all that the steps have still to send, and the scripted
-- devices, whose last ticks are found among its steps.
use Rattle.std.specs.Prelude.{◌≡◌, ℕ, ◌≤◌, Bool, true, false, List, [], length, map, not, sum_by, if◌then◌else◌, ◌==◌, slice_get}
use Rattle.std.specs.declared.option.Option.{Option}
use Rattle.std.specs.declared.option.Option.TheVariants.{None, Some}
use Rattle.af_sample.specs.declared.sample_type.SampleType.{SampleType}
use Rattle.af_world.specs.declared.world.LinkGot.{LinkGot}
use Rattle.af_world.specs.declared.world.LinkGot.TheVariants as got
use Rattle.af_world.specs.declared.world.LinkTook.{LinkTook}
use Rattle.af_world.specs.declared.world.LinkTook.TheVariants as took
use Rattle.af_world.specs.declared.script.Step.{Step}
use Rattle.af_world.specs.declared.script.Step.TheVariants as step
use Rattle.af_outside.specs.declared.scripted_device.DeviceCall.{DeviceCall}
use Rattle.af_outside.specs.declared.scripted_device.DeviceCall.TheVariants as call
use Rattle.af_outside.specs.declared.scripted_device.KeptScriptedDevice.{KeptScriptedDevice}
use Rattle.af_world.specs.Outside.{ScriptedClient, ScriptedDevice, Outside, scripted_at, with_scripted}

-- a scripted link: its client, if the link is open, and for how many more bytes there is memory
pub record KeptClient : Type 0 where
  pub client : Option ScriptedClient
  pub room : ℕ

-- a client, if the link is open
abbrev pub client_where : Bool → ScriptedClient → Option ScriptedClient
client_where true client = Some client
client_where false client = None

abbrev pub clients_of : List KeptClient → List (Option ScriptedClient)
clients_of links = map (λ scripted_link. scripted_link.client) links

-- the outside that scripted links and devices make up
abbrev pub outside_of : List KeptClient → List ScriptedDevice → Outside
outside_of links devices = record { clients = clients_of links; devices = devices }

-- what a step states that a device captures, if it is a tick that states it
abbrev pub capture_stated_by : Option Step → Option (List ℕ)
capture_stated_by None = None
capture_stated_by (Some (step.Open k)) = None
capture_stated_by (Some (step.Send k bytes)) = None
capture_stated_by (Some (step.End k)) = None
capture_stated_by (Some (step.Room k room)) = None
capture_stated_by (Some (step.Tick d n captured)) = captured
capture_stated_by (Some (step.Line d change)) = None
capture_stated_by (Some (step.FailRead k)) = None
capture_stated_by (Some (step.FailWrite k)) = None
capture_stated_by (Some (step.FailCapture d)) = None
capture_stated_by (Some (step.FailEmit d)) = None
capture_stated_by (Some (step.FailHook d)) = None
capture_stated_by (Some step.Idle) = None

-- what the step with a number states, if there is a number
abbrev pub stated_at : List Step → Option ℕ → Option (List ℕ)
stated_at steps None = None
stated_at steps (Some number) = capture_stated_by (slice_get steps number)

-- a device of which nothing was stated
abbrev pub kept_scripted_of : SampleType → KeptScriptedDevice
kept_scripted_of ty = record { ty = ty; tick = None; fails_capture = false; fails_emit = false; fails_hook = false }

-- a scripted device whose last tick is one of these steps
abbrev pub kept_at : List Step → KeptScriptedDevice → ScriptedDevice
kept_at steps kept = record {
  ty = kept.ty;
  states = stated_at steps kept.tick;
  fails_capture = kept.fails_capture;
  fails_emit = kept.fails_emit;
  fails_hook = kept.fails_hook;
}

abbrev pub devices_of : List Step → List KeptScriptedDevice → List ScriptedDevice
devices_of steps kept = map (kept_at steps) kept

-- whether the next such call on a device fails
abbrev pub is_failing : DeviceCall → ScriptedDevice → Bool
is_failing call.Capture scripted = scripted.fails_capture
is_failing call.Emit scripted = scripted.fails_emit
is_failing call.Hook scripted = scripted.fails_hook

-- a device whose next such call fails, or does not
abbrev pub with_failing : DeviceCall → Bool → ScriptedDevice → ScriptedDevice
with_failing call.Capture fails scripted = record scripted { fails_capture = fails }
with_failing call.Emit fails scripted = record scripted { fails_emit = fails }
with_failing call.Hook fails scripted = record scripted { fails_hook = fails }

-- such a call on a device is done exactly if no failure is stated, and a failure is stated for one call
pub record IsAnswered (call : DeviceCall) (done : Bool) (d : ℕ) (old new : Outside) : Type 0 where
  pub stated : is_failing call (scripted_at old d) ≡ not done
  pub changed : new ≡ (if done then old else with_scripted old d (with_failing call false (scripted_at old d)))

-- whether a read failed
abbrev pub read_failed : LinkGot → Bool
read_failed (got.Bytes n) = false
read_failed got.NotYet = false
read_failed got.Ended = false
read_failed got.Failed = true

-- whether a write failed
abbrev pub write_failed : LinkTook → Bool
write_failed (took.Took n) = false
write_failed took.Failed = true

-- how many bytes a step sends on a link
abbrev pub bytes_sent_by : ℕ → Step → ℕ
bytes_sent_by k (step.Open j) = 0
bytes_sent_by k (step.Send j bytes) = if j == k then length bytes else 0
bytes_sent_by k (step.End j) = 0
bytes_sent_by k (step.Room j room) = 0
bytes_sent_by k (step.Tick d n captured) = 0
bytes_sent_by k (step.Line d change) = 0
bytes_sent_by k (step.FailRead j) = 0
bytes_sent_by k (step.FailWrite j) = 0
bytes_sent_by k (step.FailCapture d) = 0
bytes_sent_by k (step.FailEmit d) = 0
bytes_sent_by k (step.FailHook d) = 0
bytes_sent_by k step.Idle = 0

-- what a step sends
abbrev pub sent_in : Step → List ℕ
sent_in (step.Open k) = []
sent_in (step.Send k bytes) = bytes
sent_in (step.End k) = []
sent_in (step.Room k room) = []
sent_in (step.Tick d n captured) = []
sent_in (step.Line d change) = []
sent_in (step.FailRead k) = []
sent_in (step.FailWrite k) = []
sent_in (step.FailCapture d) = []
sent_in (step.FailEmit d) = []
sent_in (step.FailHook d) = []
sent_in step.Idle = []

-- each scripted link has room for all that the steps send on its link
pub record HasRoomForSteps (links : List KeptClient) (steps : List Step) : Type 0 where
  pub each : (k : ℕ) (scripted_link : KeptClient) → slice_get links k ≡ Some scripted_link →
      sum_by (bytes_sent_by k) steps ≤ scripted_link.room
