-- What has come of a recording so far: the pieces whose commands have ended, and those whose commands have not.
use Rattle.std.specs.Prelude.{◌≡◌, ◌≢◌, ◌<◌, ◌≤◌, ◌⊎◌, ⊤, ℕ, zero, suc, ◌+◌, ◌-◌, ◌%◌, ◌^◌, ◌==◌, min, Bool, true, false, List, [], ◌∷◌, ◌++◌, length, IsOk, IfSome}
use Rattle.std.specs.Prelude.{Result, Err, Option, None, Some, option_map}
use Rattle.af_io.specs.Observed.{Appended}
use Rattle.af_toolkit.specs.declared.end.ToolEnd.{ToolEnd}
use Rattle.af_toolkit.specs.declared.end.ToolEnd.TheVariants as tool
use Rattle.af_request.specs.declared.reply.DeviceInfo.{DeviceInfo}
use Rattle.af_toolkit.specs.ToolParts.{IsClientOf, LinkSight}
use Rattle.af_toolkit.specs.Trace.{ClientState}
use Rattle.af_logger.specs.declared.job.LogJob.{LogJob}
use Rattle.af_logger.specs.declared.logger.Logger.{Logger}
use Rattle.af_logger.specs.declared.plan.Plan.{Plan}
use Rattle.af_logger.specs.declared.progress.Progress.{Progress}
use Rattle.af_logger.specs.Commands.{Changed, Command, Desk}
use Rattle.af_logger.specs.Drafts.{Draft, StandsFor, draft}
use Rattle.af_logger.specs.Keeping.{IsWhole}
use Rattle.af_logger.specs.Logged.{AreBlocks, Heard, IsLastWhole, gone_over}
use Rattle.af_logger.specs.Plans.{count_of, plan_of}
use Rattle.af_logger.specs.Pieces.{AreFronts, AreWhole, Block, Piece, blocks_of, commands_of, frames_of, given_of, lines_of, next_at}

-- where a recording begins: the time of its first frame, the commands before it, and what the sink holds
pub record Origin : Type 0 where
  pub start : ℕ
  pub desk : Option Desk
  pub held : Option (List ℕ)

-- the pieces whose commands have ended; the blocks of the two whose commands may not have, and what these took
pub record Story : Type 0 where
  pub past : List Piece
  pub waiting : Draft
  pub last : Draft

-- the first frame of a piece that comes after n others
abbrev pub at_after : Plan → (at n : ℕ) → ℕ
at_after plan at zero = at
at_after plan at (suc n) = at_after plan (next_at plan at) n

abbrev pub one_if : Option Progress → ℕ
one_if None = 0
one_if (Some piece) = 1

-- a piece that comes after so many others is as its progress says; one that was not begun has no blocks
pub record IsPieceOf (plan : Plan) (start place : ℕ) (piece : Progress) (d : Draft) : Type 0 where
  pub number : piece.number ≡ place + 1
  pub at : piece.at.0 ≡ at_after plan start place
  pub stands : StandsFor plan piece d

abbrev pub OfPiece : Plan → (start place : ℕ) → Option Progress → Draft → Type 0
OfPiece plan start place None d = d ≡ draft [] []
OfPiece plan start place (Some piece) d = IsPieceOf plan start place piece d

-- The input of a command is closed once its piece is whole, or at the end of the recording.
abbrev pub closed_by : (ending : Bool) → Plan → Progress → Bool
closed_by true plan piece = true
closed_by false plan piece = piece.recorded == plan.frames

abbrev pub command_of : LogJob → Plan → Progress → (taken : List ℕ) → (closed : Bool) → Command
command_of job plan piece taken closed =
    record { given = given_of job plan piece.number piece.at.0; taken = taken; closed = closed }

-- the commands of these pieces, after those before them
abbrev pub desk_of : (ending : Bool) → LogJob → Plan → (start : ℕ) → Story → (waiting last : Option Progress) → Desk → Desk
desk_of ending job plan start s waiting last desk = record {
  over = desk.over ++ commands_of job plan 1 start s.past;
  waiting = option_map (λ (p : Progress). command_of job plan p s.waiting.taken true) waiting;
  last = option_map (λ (p : Progress). command_of job plan p s.last.taken (closed_by ending plan p)) last;
}

-- all of them are whole
abbrev pub AllWhole : Plan → List Piece → Type 0
AllWhole plan [] = ⊤
AllWhole plan (p ∷ more) = (frames_of p.blocks ≡ plan.frames) × AllWhole plan more

-- before the first piece there is no other
abbrev pub IsFirst : (last waiting : Option Progress) → List Piece → Type 0
IsFirst None waiting past = (waiting ≡ None) × (past ≡ [])
IsFirst (Some piece) waiting past = ⊤

-- These blocks came so far, in pieces as a story tells; its commands and its lines are those of the pieces.
pub record IsStory (ending : Bool) (job : LogJob) (plan : Plan) (o : Origin) (blocks : List Block) (begun : ℕ)
    (waiting last : Option Progress) (failed : Bool) (desk : Option Desk) (held : Option (List ℕ)) : Type 0 where
  pub story : Story
  pub count : begun ≡ length story.past + (one_if waiting + one_if last)
  pub waits : OfPiece plan o.start (length story.past) waiting story.waiting
  pub lasts : OfPiece plan o.start (length story.past + one_if waiting) last story.last
  pub whole : IsWhole plan waiting
  pub first : IsFirst last waiting story.past
  pub pasts : AllWhole plan story.past
  pub fronts : AreFronts plan story.past
  pub blocks_are : blocks ≡ blocks_of story.past ++ (story.waiting.blocks ++ story.last.blocks)
  pub commands : Changed (desk_of ending job plan o.start story waiting last) o.desk desk
  pub output : List ℕ
  pub unwritten : List ℕ
  pub lines : lines_of plan 1 o.start story.past ≡ output ++ unwritten
  pub sink : Appended o.held output held
  pub all : failed ≡ false → unwritten ≡ []

abbrev pub HasStory : (ending : Bool) → LogJob → Origin → List Block → Logger → (desk : Option Desk) →
    (held : Option (List ℕ)) → Type 0
HasStory ending job o blocks logger desk held =
    IsStory ending job logger.plan o blocks logger.begun logger.waiting logger.last logger.failed desk held

-- the next block begins where the last one ended
abbrev pub IsPlaced : (start at : ℕ) → Option Progress → Type 0
IsPlaced start at None = at ≡ start
IsPlaced start at (Some piece) = at ≡ (piece.at.0 + piece.recorded) % 2 ^ 32

-- one more piece can be numbered, if one is to be begun
abbrev pub CanBegin : Logger → Type 0
CanBegin logger = IsWhole logger.plan logger.last → logger.begun < 2 ^ 64 - 1

-- these blocks came too
abbrev pub Continues : LogJob → List Block → (old new : Logger) → (desk desk' : Option Desk) →
    (held held' : Option (List ℕ)) → Type 0
Continues job blocks old new desk desk' held held' = (o : Origin) → (past : List Block) → CanBegin old →
    IsPlaced o.start old.at.0 old.last → HasStory false job o past old desk held →
    HasStory false job o (past ++ blocks) new desk' held'

-- how many pieces were begun: one more, if the last one was whole; the count stays at the end of its type
abbrev pub NextBegun : Plan → Option Progress → (before after : ℕ) → Type 0
NextBegun plan None before after = after ≡ min (before + 1) (2 ^ 64 - 1)
NextBegun plan (Some piece) before after =
    (piece.recorded ≡ plan.frames → after ≡ min (before + 1) (2 ^ 64 - 1)) × (piece.recorded < plan.frames → after ≡ before)

-- some of it was recorded, and no more than a piece has
abbrev pub HasSome : Plan → Option Progress → Type 0
HasSome plan None = ⊤
HasSome plan (Some piece) = (1 ≤ piece.recorded) × (piece.recorded ≤ plan.frames)

-- All commands have ended, and all lines were told: these pieces came, in these blocks.
pub record HasGone (job : LogJob) (o : Origin) (blocks : List Block) (logger : Logger) (failed : Bool)
    (desk : Option Desk) (held : Option (List ℕ)) : Type 0 where
  pub pieces : List Piece
  pub count : length pieces ≡ logger.begun
  pub blocks_are : blocks ≡ blocks_of pieces
  pub whole : HasSome logger.plan logger.last → AreWhole logger.plan pieces
  pub last : IsWhole logger.plan logger.last → IsLastWhole logger.plan pieces
  pub commands : Changed (gone_over job logger.plan o.start pieces) o.desk desk
  pub fronts : AreFronts logger.plan pieces
  pub output : List ℕ
  pub unwritten : List ℕ
  pub lines : lines_of logger.plan 1 o.start pieces ≡ output ++ unwritten
  pub sink : Appended o.held output held
  pub all : failed ≡ false → unwritten ≡ []

-- Between two blocks: the next one begins where the last one ended, and each piece that was begun has some frames.
pub record IsRecording (job : LogJob) (o : Origin) (blocks : List Block) (logger : Logger) (desk : Option Desk)
    (held : Option (List ℕ)) : Type 0 where
  pub story : HasStory false job o blocks logger desk held
  pub placed : IsPlaced o.start logger.at.0 logger.last
  pub some : HasSome logger.plan logger.last

-- the time after blocks
abbrev pub at_on : (at : ℕ) → List Block → ℕ
at_on at [] = at
at_on at (b ∷ blocks) = at_on ((at + b.frames) % 2 ^ 32) blocks

-- Blocks came to a client, and it stands where they end, if `Ends` holds. A recording goes on by them, if `Can` holds.
pub record Records (Can Ends : Type 0) (job : LogJob) (old new : Logger) (before after : LinkSight)
    (desk desk' : Option Desk) (held held' : Option (List ℕ)) : Type 0 where
  pub blocks : List Block
  pub got : (w : ClientState) → IsClientOf before w →
      (there : ClientState) × AreBlocks old.plan w old.at.0 blocks there × (Ends → IsClientOf after there)
  pub place : Ends → new.at.0 ≡ at_on old.at.0 blocks
  pub goes_on : (o : Origin) → (past : List Block) → Can → IsRecording job o past old desk held →
      IsRecording job o (past ++ blocks) new desk' held'

-- What is said of a recording that has ended, beside what was done on its link.
pub record HasLogged (job : LogJob) (device : DeviceInfo) (w : ClientState) (result : Result (Unit {0}) ToolEnd)
    (desk desk' : Option Desk) (held held' : Option (List ℕ)) : Type 0 where
  pub start : ℕ
  pub pieces : List Piece
  pub heard : (pieces ≡ []) ⊎ Heard job device w start pieces
  pub whole : AreWhole (plan_of job device) pieces
  pub commands : Changed (gone_over job (plan_of job device) start pieces) desk desk'
  pub fronts : AreFronts (plan_of job device) pieces
  pub output : List ℕ
  pub unwritten : List ℕ
  pub lines : lines_of (plan_of job device) 1 start pieces ≡ output ++ unwritten
  pub sink : Appended held output held'
  pub all : (result ≢ Err tool.SinkFault) → unwritten ≡ []
  pub done : IsOk result → (length pieces ≡ count_of job) × IsLastWhole (plan_of job device) pieces
