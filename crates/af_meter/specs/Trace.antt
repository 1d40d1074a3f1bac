-- What the tool meter does: it records intervals of a device, one after another, and writes lines.
use Rattle.std.specs.Prelude.{ℕ, zero, suc, ◌+◌, ◌-◌, ◌*◌, ◌/◌, ◌%◌, ◌^◌, ◌==◌, if◌then◌else◌, pos, true, List, [], ◌∷◌, ◌++◌, replicate}
use Rattle.std.specs.Prelude.{is_some, length, slice_get, unwrap_or, Result, Ok, Err, Option}
use Rattle.af_time.specs.declared.DevTime.{DevTime}
use Rattle.af_sample.specs.declared.sample_type.SampleType.TheVariants.{Lin16}
use Rattle.af_sample.specs.SampleTypes.{code_of}
use Rattle.af_request.specs.Asked.{Asked, create_ac, free_ac, record_run}
use Rattle.af_request.specs.declared.reply.DeviceInfo.{DeviceInfo}
use Rattle.af_lib.specs.Calls.{Recorded, as_done, as_recorded}
use Rattle.af_lib.specs.declared.fault.ConnFault.TheVariants as fault
use Rattle.af_cli.specs.Sizes.{block_frames}
use Rattle.af_toolkit.specs.Parts.{Goes, goes_on, has_value, stops}
use Rattle.af_toolkit.specs.Trace.{ClientState, Trace, done, ends, refused}
use Rattle.af_toolkit.specs.ToolParts.{LinkSight, ToolPart, asks, begins, doing, tooling, trace_of, writes}
use Rattle.af_toolkit.specs.declared.end.ToolEnd.{ToolEnd}
use Rattle.af_meter.specs.declared.job.MeterJob.{MeterJob}
use Rattle.af_meter.specs.declared.level.Levels.{Levels}
use Rattle.af_meter.specs.declared.plan.Plan.{Plan}
use Rattle.af_meter.specs.declared.row.Line.{Line}
use Rattle.af_meter.specs.Levels.{frame_size, levels_of}
use Rattle.af_meter.specs.Lines.{line_of, text_of}
use Rattle.af_meter.specs.Plans.{plan_of}

-- after how many lines a job is done: one without a count has more to write than there is time for
abbrev pub count_of : MeterJob → ℕ
count_of job = unwrap_or job.count (2 ^ 64 - 1)

-- how many frames a block of an interval has: all, or as many as the greatest block
abbrev pub most_frames : Plan → ℕ
most_frames plan = block_frames plan.frames (frame_size plan.channels)

-- how many frames each block has, and the last one what is left
unfoldable pub block_lengths : (most frames : ℕ) → List ℕ
block_lengths most frames = replicate (frames / most) most ++ (if frames % most == 0 then [] else frames % most ∷ [])

-- blocks of so many frames are recorded from a time on, one after another; these came before
unfoldable pub records : (channels at : ℕ) (before : List (List ℕ)) → List ℕ → ToolPart (List (List ℕ))
records channels at before [] = has_value doing before
records channels at before (n ∷ more) =
    goes_on doing (asks (record_run true 1 at (n * frame_size channels)) (as_recorded true (n * frame_size channels))) (λ r.
    records channels ((at + n) % 2 ^ 32) (before ++ r.samples ∷ []) more)

-- the interval at a time is recorded, all of it and nothing else
abbrev pub hears : Plan → (at : ℕ) → ToolPart (List (List ℕ))
hears plan at = records plan.channels at [] (block_lengths (most_frames plan) plan.frames)

-- how loud it is
unfoldable pub measures : Plan → (at : ℕ) → ToolPart Levels
measures plan at = goes_on doing (hears plan at) (λ blocks. has_value doing (levels_of plan.channels blocks))

-- how many lines are still to be written after one, or after none
abbrev pub left_after : (left : ℕ) → Option Line → ℕ
left_after left line = if is_some line then left - 1 else left

-- the line of an interval is written, if it has one, and the value is how many are still to be written
abbrev pub writes_line : (at : ℕ) → Levels → Option Line → (left : ℕ) → ToolPart ℕ
writes_line at levels line left = goes_on doing (writes (text_of at levels line)) (λ _. has_value doing (left_after left line))

-- Intervals are measured from a time on, after these, until no line is left to be written. After n intervals without that, the
-- tool ends.
unfoldable pub meters : (n : ℕ) → Plan → (at : ℕ) → (before : List Levels) → (left : ℕ) → ToolPart (Unit {0})
meters zero plan at before left = stops doing fault.EventFlood
meters (suc n) plan at before left =
    goes_on doing (measures plan at) (λ levels.
    goes_on doing (writes_line at levels (line_of plan levels before) left) (λ more.
    if more == 0 then has_value doing tt
    else meters n plan ((at + plan.frames) % 2 ^ 32) (levels ∷ before) more))

-- the most intervals
abbrev pub most_intervals : ℕ
most_intervals = 2 ^ 64 - 1

-- the context of a job on a device with so many channels: the server is to give 16-bit samples
abbrev pub meter_context : MeterJob → (channels : ℕ) → Asked
meter_context job channels = create_ac job.device 1 (code_of Lin16) channels 0 (pos 0) (pos 0)

-- a context is made, intervals are measured from the device's time on, and the context is freed
unfoldable pub meters_on : MeterJob → DeviceInfo → ToolPart (Unit {0})
meters_on job device =
    goes_on doing (begins (meter_context job device.channels) job.device) (λ now.
    goes_on doing (meters most_intervals (plan_of job device) now.0 [] (count_of job)) (λ _.
    asks (free_ac 1) as_done))

-- the trace of the tool on a device, by what the link gives
unfoldable pub meter_trace : MeterJob → DeviceInfo → ClientState → Trace
meter_trace job device w = trace_of refused (meters_on job device w) (λ _. ends done)

-- what a Record was answered with, where the samples are in a buffer
abbrev pub recorded_by : Result DevTime ToolEnd → List ℕ → Result Recorded ToolEnd
recorded_by (Ok time) samples = Ok (record { time = time; samples = samples })
recorded_by (Err how) samples = Err how

-- a part that only writes went so, whatever its link was sent
abbrev pub GoesOnSink : {K X : Type 0} → (held : K → Option (List ℕ)) → (sink sink' : K) → ToolPart X → Result X ToolEnd → Type 0
GoesOnSink held sink sink' part result = (link : LinkSight) →
    Goes (tooling refused) part result (record { link = link; held = held sink }) (record { link = link; held = held sink' })
