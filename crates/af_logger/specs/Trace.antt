-- What the tool log does on its link: it records blocks of a device, one after another, from a start on.
use Rattle.std.specs.Prelude.{ℕ, zero, suc, ◌+◌, ◌-◌, ◌*◌, ◌/◌, ◌%◌, ◌^◌, ◌==◌, min, if◌then◌else◌, pos, true, List, [], ◌∷◌, ◌++◌, replicate, unwrap_or}
use Rattle.std.specs.Prelude.{Result, Ok, Err}
use Rattle.af_sample.specs.SampleTypes.{code_of}
use Rattle.af_request.specs.Asked.{Asked, create_ac, free_ac, record_run}
use Rattle.af_request.specs.declared.reply.DeviceInfo.{DeviceInfo}
use Rattle.af_lib.specs.Calls.{as_done, as_recorded}
use Rattle.af_toolkit.specs.Lost.{periods_before, time_before}
use Rattle.af_toolkit.specs.Parts.{goes_on, has_value}
use Rattle.af_toolkit.specs.Trace.{ClientState, Trace, done, ends, refused}
use Rattle.af_toolkit.specs.ToolParts.{ToolPart, asks, begins, doing, trace_of}
use Rattle.af_toolkit.specs.declared.end.ToolEnd.{ToolEnd}
use Rattle.af_logger.specs.declared.block.Came.{Came}
use Rattle.af_logger.specs.declared.job.LogJob.{LogJob}
use Rattle.af_logger.specs.declared.plan.Plan.{Plan}
use Rattle.af_logger.specs.Pieces.{Block}
use Rattle.af_logger.specs.Plans.{count_of, frame_size, plan_of}
use Rattle.af_logger.specs.Sound.{as_filed}

-- how many of n frames from a time on had left the server: those whose time is more than the horizon before the told time
abbrev pub lost_of : Plan → (at n told : ℕ) → ℕ
lost_of plan at n told = min (periods_before at (time_before told plan.horizon)) n

-- how many frames the device is past the end of a block
abbrev pub behind_of : (at n told : ℕ) → ℕ
behind_of at n told = periods_before ((at + n) % 2 ^ 32) told

-- a block of n frames is recorded
abbrev pub takes_block : Plan → (at n : ℕ) → ToolPart Block
takes_block plan at n =
    goes_on doing (asks (record_run true 1 at (n * frame_size plan)) (as_recorded true (n * frame_size plan))) (λ r.
    has_value doing (record { frames = n; lost = lost_of plan at n r.time.0; samples = as_filed plan.coding r.samples }))

-- the same, where nothing is made of the block
abbrev pub takes_one : Plan → (at n : ℕ) → ToolPart (Unit {0})
takes_one plan at n = goes_on doing (takes_block plan at n) (λ _. has_value doing tt)

-- the block that a call answered, where its samples are in a buffer
abbrev pub block_by : Result Came ToolEnd → List ℕ → Result Block ToolEnd
block_by (Ok came) samples = Ok (record { frames = came.frames; lost = came.lost; samples = samples })
block_by (Err how) samples = Err how

-- how many frames each of the next n blocks has, if so many are left: all of them, or as many as a block has
unfoldable pub lengths_of : (n block left : ℕ) → List ℕ
lengths_of zero block left = []
lengths_of (suc n) block left = if left == 0 then [] else min left block ∷ lengths_of n block (left - min left block)

-- the same of a piece, which has no more blocks than frames
abbrev pub block_lengths : (block frames : ℕ) → List ℕ
block_lengths block frames = lengths_of frames block frames

-- blocks of these lengths are recorded, one after another
unfoldable pub takes_blocks : Plan → (at : ℕ) → List ℕ → ToolPart (Unit {0})
takes_blocks plan at [] = has_value doing tt
takes_blocks plan at (n ∷ more) = goes_on doing (takes_one plan at n) (λ _. takes_blocks plan ((at + n) % 2 ^ 32) more)

-- n pieces are recorded, one after another
unfoldable pub takes_pieces : (n : ℕ) → Plan → (at : ℕ) → ToolPart (Unit {0})
takes_pieces zero plan at = has_value doing tt
takes_pieces (suc n) plan at =
    goes_on doing (takes_blocks plan at (block_lengths plan.block plan.frames)) (λ _.
    takes_pieces n plan ((at + plan.frames) % 2 ^ 32))

-- the context of a job on a device
abbrev pub log_context : LogJob → DeviceInfo → Asked
log_context job device = create_ac job.device 1 (code_of (plan_of job device).ty) device.channels 0 (pos 0) (pos 0)

-- the start, if the device's time is now
abbrev pub start_of : LogJob → (now : ℕ) → ℕ
start_of job now = unwrap_or job.time now

-- all pieces are recorded, and the context is freed
abbrev pub logs_all : (n : ℕ) → Plan → (at : ℕ) → ToolPart (Unit {0})
logs_all n plan at = goes_on doing (takes_pieces n plan at) (λ _. asks (free_ac 1) as_done)

-- a context is made, all pieces are recorded from the stated start or else from the device's time on, and the context is freed
unfoldable pub logs_on : LogJob → DeviceInfo → ToolPart (Unit {0})
logs_on job device =
    goes_on doing (begins (log_context job device) job.device) (λ now.
    logs_all (count_of job) (plan_of job device) (start_of job now.0))

-- the trace of the tool on its link, by what that gives; its lines are no part of it
unfoldable pub log_trace : LogJob → DeviceInfo → ClientState → Trace
log_trace job device w = trace_of refused (logs_on job device w) (λ _. ends done)
