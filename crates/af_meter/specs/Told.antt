-- What the tool meter has done at its end: the lines that it wrote are those of intervals that it recorded one after another.
use Rattle.std.specs.Prelude.{◌≡◌, ◌⊎◌, ◌+◌, ◌%◌, ◌^◌, if◌then◌else◌, ⊤, ℕ, Bool, true, false, List, [], ◌∷◌, ◌++◌, length, slice_get}
use Rattle.std.specs.Prelude.{is_some, Result, Ok, Err, Option, Some}
use Rattle.af_time.specs.declared.DevTime.{DevTime}
use Rattle.af_request.specs.declared.reply.DeviceInfo.{DeviceInfo}
use Rattle.af_lib.specs.Calls.{ConnState}
use Rattle.af_toolkit.specs.declared.end.ToolEnd.{ToolEnd}
use Rattle.af_toolkit.specs.declared.end.ToolEnd.TheVariants as tool
use Rattle.af_toolkit.specs.Device.{device_or_end}
use Rattle.af_toolkit.specs.Ends.{ToolRan, client_of, is_of_link_or_sink, is_outer}
use Rattle.af_toolkit.specs.ToolParts.{begins}
use Rattle.af_toolkit.specs.Trace.{ClientState}
use Rattle.af_meter.specs.declared.job.MeterJob.{MeterJob}
use Rattle.af_meter.specs.declared.level.Levels.{Levels}
use Rattle.af_meter.specs.declared.plan.Plan.{Plan}
use Rattle.af_meter.specs.Lines.{line_of, text_of}
use Rattle.af_meter.specs.Plans.{plan_of}
use Rattle.af_meter.specs.Trace.{count_of, measures, meter_context, meter_trace}

-- A client got intervals from a time on, which were so loud: each begins where the one before it ends.
abbrev pub AreMeasured : Plan → ClientState → (at : ℕ) → List Levels → Type 0
AreMeasured plan w at [] = ⊤
AreMeasured plan w at (levels ∷ more) =
    (after : ClientState) × ((measures plan at w).end ≡ Ok (levels, after))
    × AreMeasured plan after ((at + plan.frames) % 2 ^ 32) more

-- what is written of intervals from a time on, after others
abbrev pub lines_of : Plan → (at : ℕ) → (before : List Levels) → List Levels → List ℕ
lines_of plan at before [] = []
lines_of plan at before (levels ∷ more) =
    text_of at levels (line_of plan levels before) ++ lines_of plan ((at + plan.frames) % 2 ^ 32) (levels ∷ before) more

-- and how many lines that is
abbrev pub number_of_lines : Plan → (before : List Levels) → List Levels → ℕ
number_of_lines plan before [] = 0
number_of_lines plan before (levels ∷ more) =
    (if is_some (line_of plan levels before) then 1 else 0) + number_of_lines plan (levels ∷ before) more

-- The context was made, and the device's time was told. Then the client got these intervals from that time on.
pub record Heard (job : MeterJob) (device : DeviceInfo) (w : ClientState) (intervals : List Levels) : Type 0 where
  pub start : DevTime
  pub from : ClientState
  pub begun : (begins (meter_context job device.channels) job.device w).end ≡ Ok (start, from)
  pub measured : AreMeasured (plan_of job device) from start.0 intervals

-- Nothing was written; or what was written are the lines of the intervals that came, in order, or the first of these if something
-- from outside ended the tool.
abbrev pub WroteLines : MeterJob → DeviceInfo → ClientState → ToolEnd → (output : List ℕ) → Type 0
WroteLines job device w how output = (output ≡ [])
    ⊎ ((intervals : List Levels) × (heard : Heard job device w intervals) × (unwritten : List ℕ)
    × (lines_of (plan_of job device) heard.start.0 [] intervals ≡ output ++ unwritten)
    × (is_outer how ≡ false → unwritten ≡ []))

-- The lines of the intervals that came are as many as the job has: they were written, and no other.
pub record ToldAll (job : MeterJob) (device : DeviceInfo) (w : ClientState) (output : List ℕ) : Type 0 where
  pub intervals : List Levels
  pub heard : Heard job device w intervals
  pub number : number_of_lines (plan_of job device) [] intervals ≡ count_of job
  pub wrote : output ≡ lines_of (plan_of job device) heard.start.0 [] intervals

-- The tool ran on its device, by what its link gives. It did as its trace, wrote the lines of intervals that came, and is done
-- exactly if it wrote as many as the job has, unless something from outside ended it.
pub record MeterRan (job : MeterJob) (device : DeviceInfo) (w : ClientState) (how : ToolEnd)
    (sent sent' held held' : Option (List ℕ)) : Type 0 where
  pub ran : ToolRan ⊤ (meter_trace job device w) how sent sent' held held'
  pub lines : WroteLines job device w how ran.followed.output
  pub told : how ≡ tool.Done → ToldAll job device w ran.followed.output

-- the ends of the tool on a connection
abbrev pub is_of_meter : ToolEnd → Bool
is_of_meter tool.Done = true
is_of_meter (tool.NoDevice devices) = true
is_of_meter how = is_of_link_or_sink how

-- The device is missing, and the tool ended so; or it is there, and the tool ran.
abbrev pub RanBy : Result DeviceInfo ToolEnd → MeterJob → ClientState → ToolEnd →
    (sent sent' held held' : Option (List ℕ)) → Type 0
RanBy (Err missing) job w how sent sent' held held' = (how ≡ missing) × (sent' ≡ sent) × (held' ≡ held)
RanBy (Ok device) job w how sent sent' held held' = MeterRan job device w how sent sent' held held'

-- the device of a job, or the end that says it is missing
abbrev pub device_of : MeterJob → List DeviceInfo → Result DeviceInfo ToolEnd
device_of job devices = device_or_end (slice_get devices job.device) (length devices)

-- the same over a connection whose link is observable
abbrev pub RunsMeter : {L K : Type 0} → (left sent : L → Option (List ℕ)) → (held : K → Option (List ℕ)) →
    MeterJob → ToolEnd → (conn conn' : ConnState L) → (sink sink' : K) → Type 0
RunsMeter left sent held job how conn conn' sink sink' = (input : List ℕ) → left conn.link ≡ Some input →
    RanBy (device_of job conn.devices) job (client_of conn input) how
    (sent conn.link) (sent conn'.link) (held sink) (held sink')
