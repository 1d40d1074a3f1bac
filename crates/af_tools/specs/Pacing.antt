-- When aplay sends a block: once the one before it was replied to, and, if the job asks for it, not before the device has come
-- near enough to the block's time.
use Rattle.std.specs.Prelude.{◌≡◌, ◌<◌, ◌≤◌, ℕ, ◌+◌, ◌-◌, ◌%◌, ◌^◌, ◌||◌, nat_lt, max, min, if◌then◌else◌, true, false, List, [], Option, None, Some}
use Rattle.std.specs.Prelude.{option_and_then, option_map}
use Rattle.af_time.specs.DeviceTime.{frames_lasting}
use Rattle.af_time.specs.declared.DevTime.{DevTime}
use Rattle.af_toolkit.specs.Lost.{is_late, time_before}
use Rattle.af_toolkit.specs.Parts.{goes_on}
use Rattle.af_request.specs.Asked.{record_run}
use Rattle.af_request.specs.Requests.{request_bytes}
use Rattle.af_lib.specs.Calls.{as_recorded}
use Rattle.af_cli.specs.declared.job.PlayJob.{PlayJob}
use Rattle.af_toolkit.specs.ToolParts.{ToolPart, asks, doing}
use Rattle.af_tools.specs.declared.pace.Course.{Course}
use Rattle.af_tools.specs.declared.pace.Pace.{Pace}
use Rattle.af_wire.specs.declared.order.Order.{Order}

-- by how many frames a block may be sent before its time, if the job bounds that
abbrev pub ahead_frames : (rate : ℕ) → PlayJob → Option ℕ
ahead_frames rate job = option_map (λ ms. frames_lasting rate ms) job.ahead

-- the frames of a block that are asked for: no more than it may be ahead, and at least one
abbrev pub paced_block : (ahead : Option ℕ) → (block : ℕ) → ℕ
paced_block None block = block
paced_block (Some frames) block = max (min block frames) 1

-- when a block is played: n frames after the start
abbrev pub block_time : (start sent : ℕ) → ℕ
block_time start sent = (start + sent) % 2 ^ 32

-- a time that is not before the one that was told: their difference, as a 32-bit two's complement number, is 0 or more
abbrev pub unless_past : (told at : ℕ) → Option ℕ
unless_past told at = if nat_lt ((at + (2 ^ 32 - told)) % 2 ^ 32) (2 ^ 31) then Some at else None

-- the time of the frame that has to go by before the next block is sent: so many frames before the block's own, unless the last
-- reply told that this is past
abbrev pub awaited : Pace → Course → Option ℕ
awaited pace course =
    option_and_then (λ frames. unless_past course.told.0 (time_before (block_time pace.start.0 course.frames) frames)) pace.ahead

-- nothing was played yet, and the device's time is told
abbrev pub course_from : (told : DevTime) → Course
course_from told = record { frames = 0; told = told; late = false }

-- so many frames more were played at their time, and the reply told this time
abbrev pub course_on : Pace → Course → (frames : ℕ) → (told : DevTime) → Course
course_on pace course frames told = record {
  frames = course.frames + frames;
  told = told;
  late = course.late || is_late (block_time pace.start.0 course.frames) told.0;
}

-- a part of a tool that begins once the frame of a time has gone by, if one is stated: a blocking Record of that frame, of so
-- many bytes, is answered once the device has handed it out
abbrev pub once_past : {X : Type 0} → (frame : ℕ) → (at : Option ℕ) → ToolPart X → ToolPart X
once_past frame None part = part
once_past frame (Some at) part = goes_on doing (asks (record_run true 1 at frame) (as_recorded true frame)) (λ _. part)

-- what is sent for that
abbrev pub waiting_bytes : Order → (frame : ℕ) → (at : Option ℕ) → List ℕ
waiting_bytes order frame None = []
waiting_bytes order frame (Some at) = request_bytes order (record_run true 1 at frame)

-- A block is sent near to a time that the device told: where no frame is waited for, it begins less than so many frames after the
-- told time, by whole times that these are; and a frame that is waited for is exactly so many before it.
abbrev pub StaysNear : Type 0
StaysNear = (pace : Pace) (course : Course) (frames at now : ℕ) → pace.ahead ≡ Some frames → 0 < frames →
    at % 2 ^ 32 ≡ block_time pace.start.0 course.frames → now % 2 ^ 32 ≡ course.told.0 → at ≤ now + 2 ^ 31 →
    (awaited pace course ≡ None → at < now + frames)
    × ((time : ℕ) → awaited pace course ≡ Some time → (time + frames) % 2 ^ 32 ≡ at % 2 ^ 32)
