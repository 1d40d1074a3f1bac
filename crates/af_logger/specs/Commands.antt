-- Commands that are handed pieces of sound, as their user sees them: what each was started with, what it took, and how it ended.
use Rattle.std.specs.Prelude.{◌≡◌, ◌⊎◌, ⊤, ℕ, Bool, true, false, IsSome, List, [], ◌∷◌, ◌++◌, Option, None, Some, option_map}
use Rattle.af_logger.specs.declared.commands.PieceTerms.{PieceTerms}

-- what a command is started with: the text for the shell, and what its environment says of its piece
pub record Given : Type 0 where
  pub text : List ℕ
  pub time : ℕ
  pub frames : ℕ
  pub piece : ℕ

abbrev pub given_by : (text : List ℕ) → PieceTerms → Given
given_by text terms = record { text = text; time = terms.time.0; frames = terms.frames; piece = terms.number }

-- a command, with the bytes that it took, and whether its input is closed; one that could not be started takes nothing
pub record Command : Type 0 where
  pub given : Given
  pub taken : List ℕ
  pub closed : Bool

-- one that has ended
pub record EndedCommand : Type 0 where
  pub given : Given
  pub taken : List ℕ
  pub status : ℕ

-- All commands, in the order of their starts: those that have ended; the one that is waited for while the next piece is written;
-- and the one whose piece is written.
pub record Desk : Type 0 where
  pub over : List EndedCommand
  pub waiting : Option Command
  pub last : Option Command

-- a command is started: the one before it is waited for
abbrev pub started : Given → Desk → Desk
started given desk =
    record { over = desk.over; waiting = desk.last; last = Some (record { given = given; taken = []; closed = false }) }

-- the open one takes bytes, or its input is closed
abbrev pub handed : List ℕ → Desk → Desk
handed bytes desk = record desk {
  last = option_map (λ (c : Command). record { given = c.given; taken = c.taken ++ bytes; closed = c.closed }) desk.last;
}

abbrev pub closing : Desk → Desk
closing desk = record desk {
  last = option_map (λ (c : Command). record { given = c.given; taken = c.taken; closed = true }) desk.last;
}

-- the oldest command has ended with this status
abbrev pub ended_as : (status : ℕ) → Command → EndedCommand
ended_as status c = record { given = c.given; taken = c.taken; status = status }

abbrev pub ended_by : (status : ℕ) → List EndedCommand → (waiting last : Option Command) → Desk
ended_by status over (Some c) last = record { over = over ++ ended_as status c ∷ []; waiting = None; last = last }
ended_by status over None (Some c) = record { over = over ++ ended_as status c ∷ []; waiting = None; last = None }
ended_by status over None None = record { over = over; waiting = None; last = None }

abbrev pub ended : (status : ℕ) → Desk → Desk
ended status desk = ended_by status desk.over desk.waiting desk.last

-- a look at whether the command that is waited for has ended
abbrev pub looked : (status : Option ℕ) → Desk → Desk
looked (Some status) desk = ended status desk
looked None desk = desk

-- if commands are observable afterwards, they were so before, and this was done
abbrev pub Changed : (Desk → Desk) → Option Desk → Option Desk → Type 0
Changed step before None = Unit {0}
Changed step None (Some after) = ⊥
Changed step (Some before) (Some after) = after ≡ step before

-- if they are observable, this holds of them
abbrev pub IfSeen : (Desk → Type 0) → Option Desk → Type 0
IfSeen P None = ⊤
IfSeen P (Some desk) = P desk

-- the input of a command is closed, if there is one
abbrev pub IsClosed : Option Command → Type 0
IsClosed None = ⊤
IsClosed (Some c) = c.closed ≡ true

-- No command is waited for, and the input of the last one is closed: so at most two run at once.
abbrev pub IsFree : Desk → Type 0
IsFree desk = (desk.waiting ≡ None) × IsClosed desk.last

-- the input of a command is open
abbrev pub IsOpenAt : Option Command → Type 0
IsOpenAt None = ⊥
IsOpenAt (Some c) = c.closed ≡ false

abbrev pub IsOpen : Desk → Type 0
IsOpen desk = IsOpenAt desk.last

-- a command is waited for
abbrev pub Awaits : Desk → Type 0
Awaits desk = IsSome desk.waiting

-- some command has not ended, and the input of the oldest is closed
abbrev pub CanEnd : Desk → Type 0
CanEnd desk = IsSome desk.waiting ⊎ (IsSome desk.last × IsClosed desk.last)

-- if they are observable, none runs
abbrev pub HasNone : Desk → Type 0
HasNone desk = (desk.waiting ≡ None) × (desk.last ≡ None)

abbrev pub NoneRuns : Option Desk → Type 0
NoneRuns desk = IfSeen HasNone desk
