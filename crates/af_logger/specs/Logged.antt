-- What the tool log has done at its end: the pieces that it recorded, what was handed to their commands, and their lines.
use Rattle.std.specs.Prelude.{◌≡◌, ◌≢◌, ◌⊎◌, ◌+◌, ◌%◌, ◌^◌, ⊤, ℕ, Bool, true, false, List, [], ◌∷◌, ◌++◌, length, slice_get}
use Rattle.std.specs.Prelude.{Result, Ok, Err, Option, None, Some}
use Rattle.std.specs.List.{flat_map}
use Rattle.af_time.specs.declared.DevTime.{DevTime}
use Rattle.af_io.specs.Observed.{Appended}
use Rattle.af_request.specs.declared.reply.DeviceInfo.{DeviceInfo}
use Rattle.af_lib.specs.Calls.{ConnState}
use Rattle.af_toolkit.specs.declared.end.ToolEnd.{ToolEnd}
use Rattle.af_toolkit.specs.declared.end.ToolEnd.TheVariants as tool
use Rattle.af_toolkit.specs.Device.{device_or_end}
use Rattle.af_toolkit.specs.Ends.{ToolRan, client_of, is_of_link_or_sink}
use Rattle.af_toolkit.specs.ToolParts.{begins}
use Rattle.af_toolkit.specs.Trace.{ClientState}
use Rattle.af_logger.specs.declared.job.LogJob.{LogJob}
use Rattle.af_logger.specs.declared.plan.Plan.{Plan}
use Rattle.af_logger.specs.Commands.{Changed, Desk}
use Rattle.af_logger.specs.Pieces.{AreFronts, AreWhole, Block, Piece, blocks_of, commands_of, frames_of, lines_of}
use Rattle.af_logger.specs.Plans.{count_of, plan_of}
use Rattle.af_logger.specs.Trace.{log_context, log_trace, start_of, takes_block}

-- A client got these blocks from a time on, each where the one before it ends, and then it stands there.
abbrev pub AreBlocks : Plan → ClientState → (at : ℕ) → List Block → ClientState → Type 0
AreBlocks plan w at [] after = after ≡ w
AreBlocks plan w at (b ∷ blocks) after =
    (between : ClientState) × ((takes_block plan at b.frames w).end ≡ Ok (b, between))
    × AreBlocks plan between ((at + b.frames) % 2 ^ 32) blocks after

-- The context was made, and the device's time was told. Then the client got the blocks of these pieces, from the start on.
pub record Heard (job : LogJob) (device : DeviceInfo) (w : ClientState) (start : ℕ) (pieces : List Piece) : Type 0 where
  pub now : DevTime
  pub from : ClientState
  pub begun : (begins (log_context job device) job.device w).end ≡ Ok (now, from)
  pub begins_there : start ≡ start_of job now.0
  pub after : ClientState
  pub blocks : AreBlocks (plan_of job device) from start (blocks_of pieces) after

-- their commands have ended, after those before them, and none runs
abbrev pub gone_over : LogJob → Plan → (start : ℕ) → List Piece → Desk → Desk
gone_over job plan start pieces desk =
    record { over = desk.over ++ commands_of job plan 1 start pieces; waiting = None; last = None }

-- the last of these pieces is whole
abbrev pub IsLastWhole : Plan → List Piece → Type 0
IsLastWhole plan [] = ⊤
IsLastWhole plan (p ∷ []) = frames_of p.blocks ≡ plan.frames
IsLastWhole plan (p ∷ q ∷ more) = IsLastWhole plan (q ∷ more)

-- The tool ran on its device, by what its link gives.
pub record LoggerRan (job : LogJob) (device : DeviceInfo) (w : ClientState) (how : ToolEnd)
    (sent sent' : Option (List ℕ)) (desk desk' : Option Desk) (held held' : Option (List ℕ)) : Type 0 where
  -- on its link it did as its trace, and it ended so, unless something from outside ended it
  pub ran : ToolRan ⊤ (log_trace job device w) how sent sent' None None
  -- pieces came, one after another: none, or those from the start on, whole but for the last
  pub start : ℕ
  pub pieces : List Piece
  pub heard : (pieces ≡ []) ⊎ Heard job device w start pieces
  pub whole : AreWhole (plan_of job device) pieces
  -- each was handed to a new command, up to what that took; each command has ended
  pub commands : Changed (gone_over job (plan_of job device) start pieces) desk desk'
  pub fronts : AreFronts (plan_of job device) pieces
  -- their lines were written, or the first of these if the sink failed
  pub output : List ℕ
  pub unwritten : List ℕ
  pub lines : lines_of (plan_of job device) 1 start pieces ≡ output ++ unwritten
  pub sink : Appended held output held'
  pub all : how ≢ tool.SinkFault → unwritten ≡ []
  -- at Done these are all pieces of the job, and the last is whole
  pub done : how ≡ tool.Done → (length pieces ≡ count_of job) × IsLastWhole (plan_of job device) pieces

-- the ends of the tool on a connection
abbrev pub is_of_log : ToolEnd → Bool
is_of_log tool.Done = true
is_of_log (tool.NoDevice devices) = true
is_of_log how = is_of_link_or_sink how

-- The device is missing, and the tool ended so; or it is there, and the tool ran.
abbrev pub RanBy : Result DeviceInfo ToolEnd → LogJob → ClientState → ToolEnd →
    (sent sent' : Option (List ℕ)) → (desk desk' : Option Desk) → (held held' : Option (List ℕ)) → Type 0
RanBy (Err missing) job w how sent sent' desk desk' held held' =
    (how ≡ missing) × (sent' ≡ sent) × (desk' ≡ desk) × (held' ≡ held)
RanBy (Ok device) job w how sent sent' desk desk' held held' = LoggerRan job device w how sent sent' desk desk' held held'

-- what was sent: nothing, if the device is missing; or what the trace of the tool has
abbrev pub SentBy : Result DeviceInfo ToolEnd → LogJob → ClientState → ToolEnd → (sent sent' : Option (List ℕ)) → Type 0
SentBy (Err missing) job w how sent sent' = (how ≡ missing) × (sent' ≡ sent)
SentBy (Ok device) job w how sent sent' = ToolRan ⊤ (log_trace job device w) how sent sent' None None

-- the device of a job, or the end that says it is missing
abbrev pub device_of : LogJob → List DeviceInfo → Result DeviceInfo ToolEnd
device_of job devices = device_or_end (slice_get devices job.device) (length devices)

-- the same over a connection whose link is observable
abbrev pub RunsLogger : {L C K : Type 0} → (left sent : L → Option (List ℕ)) → (desk : C → Option Desk) →
    (held : K → Option (List ℕ)) → LogJob → ToolEnd → (conn conn' : ConnState L) → (commands commands' : C) →
    (sink sink' : K) → Type 0
RunsLogger left sent desk held job how conn conn' commands commands' sink sink' =
    (input : List ℕ) → left conn.link ≡ Some input →
    RanBy (device_of job conn.devices) job (client_of conn input) how (sent conn.link) (sent conn'.link)
    (desk commands) (desk commands') (held sink) (held sink')

abbrev pub RunsSent : {L : Type 0} → (left sent : L → Option (List ℕ)) → LogJob → ToolEnd → (conn conn' : ConnState L) → Type 0
RunsSent left sent job how conn conn' = (input : List ℕ) → left conn.link ≡ Some input →
    SentBy (device_of job conn.devices) job (client_of conn input) how (sent conn.link) (sent conn'.link)
