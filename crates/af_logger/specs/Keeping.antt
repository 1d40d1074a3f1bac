-- What a logger keeps between two blocks.
use Rattle.std.specs.Prelude.{◌<◌, Result, Err, ◌≡◌, ◌≤◌, ◌⊎◌, ⊤, ℕ, ◌+◌, ◌-◌, ◌==◌, Bool, true, false, is_some, IsSome, IfSome, Option, None, Some, List}
use Rattle.af_io.specs.Flow.{AppendedPrefix}
use Rattle.af_io.specs.Observed.{Appended, FaultCounted}
use Rattle.af_logger.specs.declared.logger.Logger.{Logger}
use Rattle.af_logger.specs.declared.plan.Plan.{Plan}
use Rattle.af_logger.specs.declared.progress.Progress.{Progress}
use Rattle.af_toolkit.specs.declared.end.ToolEnd.{ToolEnd}
use Rattle.af_toolkit.specs.declared.end.ToolEnd.TheVariants as tool
use Rattle.af_logger.specs.Commands.{Changed, Command, Desk, IfSeen, IsClosed, ended}
use Rattle.af_logger.specs.Pieces.{line_text}
use Rattle.af_logger.specs.Plans.{IsPlan}

-- no more was handed than recorded, no more lost than handed, and no more recorded than a piece has
pub record IsProgress (plan : Plan) (piece : Progress) : Type 0 where
  pub handed : piece.handed ≤ piece.recorded
  pub lost : piece.lost ≤ piece.handed
  pub recorded : piece.recorded ≤ plan.frames

-- the same of the pieces whose commands have not ended
pub record IsLogger (logger : Logger) : Type 0 where
  pub plan : IsPlan logger.plan
  pub waiting : IfSome logger.waiting (λ piece. IsProgress logger.plan piece)
  pub last : IfSome logger.last (λ piece. IsProgress logger.plan piece)

-- a piece that was begun last is that of the command that was started last, whose input is closed once the piece is whole
abbrev pub IsOf : Plan → Option Progress → Option Command → Type 0
IsOf plan None command = command ≡ None
IsOf plan (Some piece) None = ⊥
IsOf plan (Some piece) (Some command) = command.closed ≡ (piece.recorded == plan.frames)

-- the command that is waited for is that of the piece that waits
pub record AwaitsOf (logger : Logger) (desk : Desk) : Type 0 where
  pub waiting : is_some desk.waiting ≡ is_some logger.waiting
  pub closed : IsClosed desk.waiting

-- if commands are observable afterwards, they were so before; none is waited for, and the last one is as it was
abbrev pub AwaitsNone : Option Desk → Option Desk → Type 0
AwaitsNone before None = Unit {0}
AwaitsNone None (Some after) = ⊥
AwaitsNone (Some before) (Some after) = (after.waiting ≡ None) × (after.last ≡ before.last)

-- if commands are observable afterwards, they were so before, and the one that is waited for is as it was
abbrev pub KeepsWaiting : Option Desk → Option Desk → Type 0
KeepsWaiting before None = Unit {0}
KeepsWaiting None (Some after) = ⊥
KeepsWaiting (Some before) (Some after) = after.waiting ≡ before.waiting

-- the input of the command that was started last is closed
abbrev pub IsLastClosed : Desk → Type 0
IsLastClosed desk = IsSome desk.last × IsClosed desk.last

-- the commands are those of the pieces
pub record IsDeskOf (logger : Logger) (desk : Desk) : Type 0 where
  pub waiting : is_some desk.waiting ≡ is_some logger.waiting
  pub closed : IsClosed desk.waiting
  pub last : IsOf logger.plan logger.last desk.last

-- a line could not be written: that was so before, or the sink has counted it
abbrev pub FailsBy : (before after : Bool) → (faults faults' : ℕ) → Type 0
FailsBy before after faults faults' =
    (faults ≤ faults') × (after ≡ true → (before ≡ true) ⊎ FaultCounted faults faults')

-- the piece that was begun last is whole, or none was begun
abbrev pub IsWhole : Plan → Option Progress → Type 0
IsWhole plan None = ⊤
IsWhole plan (Some piece) = piece.recorded ≡ plan.frames

-- so many frames are left of it; a whole one is followed by the next
abbrev pub HasLeft : Plan → Option Progress → (left : ℕ) → Type 0
HasLeft plan None left = left ≡ plan.frames
HasLeft plan (Some piece) left =
    ((piece.recorded ≡ plan.frames) × (left ≡ plan.frames))
    ⊎ ((piece.recorded < plan.frames) × (piece.recorded + left ≡ plan.frames))

-- what a call leaves of a logger: it stands, its commands are those of its pieces, and an end that says that the sink failed has
-- its cause
pub record LeavesLogger {C K X : Type 0} (desk : C → Option Desk) (faults : K → ℕ) (old new : Logger) (commands : C)
    (sink sink' : K) (result : Result X ToolEnd) : Type 0 where
  pub logger : IsLogger new
  pub desk_of : IfSeen (λ d. IsDeskOf new d) (desk commands)
  pub plan : new.plan ≡ old.plan
  pub fails : FailsBy old.failed new.failed (faults sink) (faults sink')
  pub failed : result ≡ Err tool.SinkFault → new.failed ≡ true

-- the line of a piece whose command has ended with a status
abbrev pub progress_line : Progress → (status : ℕ) → List ℕ
progress_line piece status =
    line_text piece.number piece.at.0 piece.handed piece.lost (piece.recorded - piece.handed) status

-- A line was written, or the first of it before the sink failed. None is written after one that could not be.
abbrev pub Tells : (before after : Bool) → List ℕ → (held held' : Option (List ℕ)) → Type 0
Tells true after line held held' = (after ≡ true) × (held' ≡ held)
Tells false true line held held' = AppendedPrefix held line held'
Tells false false line held held' = Appended held line held'

-- nothing has changed
pub record Stays (old new : Logger) (desk desk' : Option Desk) (held held' : Option (List ℕ)) : Type 0 where
  pub logger : new ≡ old
  pub desk_of : Changed (λ d. d) desk desk'
  pub sink : held' ≡ held

-- the command that was waited for has ended, and its line was told
pub record HasEnded (old new : Logger) (desk desk' : Option Desk) (held held' : Option (List ℕ)) : Type 0 where
  pub piece : Progress
  pub status : ℕ
  pub waited : old.waiting ≡ Some piece
  pub over : new.waiting ≡ None
  pub desk_of : Changed (ended status) desk desk'
  pub tells : Tells old.failed new.failed (progress_line piece status) held held'
