-- What went by while each program ran, by the acts. In each list of starts, of past runs and of idle sounds the latest stands
-- first.
use Rattle.std.specs.Prelude.{◌≡◌, ⊤, ℕ, Bool, List, [], ◌∷◌, All}
use Rattle.std.specs.List.{fold}
use Rattle.std.specs.declared.option.Option.{Option}
use Rattle.std.specs.declared.option.Option.TheVariants.{None, Some}
use Rattle.af_program.specs.declared.program.Launched.TheVariants as launch
use Rattle.af_program.specs.declared.starts.Starts.{Starts}
use Rattle.af_program.specs.Acts.{ToldAct, launched, asked, gave, offered, took, ended, captured, emitted, runs_in}
use Rattle.af_program.specs.Waits.{Start, KeepsStarts, starts_after_end}

-- How a run is kept, which is what went by while one program ran: as it begins, by the sound that was emitted last before it; and
-- once the program gave or took bytes, or its device captured or emitted a sound.
pub record Book (Run : Type 0) : Type 0 where
  pub begun : List ℕ → Run
  pub gave_on : Run → List ℕ → Run
  pub took_on : Run → List ℕ → Run
  pub captured_on : Run → List ℕ → Run
  pub emitted_on : Run → List ℕ → Run

-- the run of the program that runs, those of the programs that ran, what was captured in each tick while none ran, the sound that
-- was emitted last, and all starts that were tried
pub record Ledger (Run : Type 0) : Type 0 where
  pub running : Option Run
  pub past : List Run
  pub idle : List (List ℕ)
  pub latest : List ℕ
  pub starts : List Start

-- nothing was done, and this stands for the sound that was emitted last
abbrev pub new_ledger : {Run : Type 0} → List ℕ → Ledger Run
new_ledger latest = record { running = None; past = []; idle = []; latest = latest; starts = [] }

-- a start that succeeds
abbrev pub ledger_begun : {Run : Type 0} → Ledger Run → ℕ → Run → Ledger Run
ledger_begun l at run = record l { running = Some run; starts = record { began = at; ended = None } ∷ l.starts }

-- a start that fails
abbrev pub ledger_failed : {Run : Type 0} → Ledger Run → ℕ → Ledger Run
ledger_failed l at = record l { starts = record { began = at; ended = Some at } ∷ l.starts }

-- the run of the program that runs goes on, if one runs
abbrev pub on_run : {Run : Type 0} → (Run → Run) → Option Run → Option Run
on_run on None = None
on_run on (Some run) = Some (on run)

-- a sound that was captured is idle, if no program runs
abbrev pub idle_after : {Run : Type 0} → Option Run → List ℕ → List (List ℕ) → List (List ℕ)
idle_after None sound idle = sound ∷ idle
idle_after (Some run) sound idle = idle

-- the run of the program that runs is past, if one runs
abbrev pub past_after : {Run : Type 0} → Option Run → List Run → List Run
past_after None past = past
past_after (Some run) past = run ∷ past

-- all starts, once the program that runs is ended, if one runs
abbrev pub starts_once_ended : {Run : Type 0} → Option Run → List Start → ℕ → List Start
starts_once_ended None starts at = starts
starts_once_ended (Some run) starts at = starts_after_end starts at

-- the program that runs is ended
abbrev pub ledger_ended : {Run : Type 0} → Ledger Run → ℕ → Ledger Run
ledger_ended l at =
    record l { running = None; past = past_after l.running l.past; starts = starts_once_ended l.running l.starts at }

-- after an act
abbrev pub ledger_after : {Run : Type 0} → Book Run → Ledger Run → ToldAct → Ledger Run
ledger_after book l (launched at words launch.Runs) = ledger_begun l at (book.begun l.latest)
ledger_after book l (launched at words launch.Failed) = ledger_failed l at
ledger_after book l (launched at words launch.OutOfMemory) = ledger_failed l at
ledger_after book l (asked room came) = l
ledger_after book l (gave bytes) = record l { running = on_run (λ run. book.gave_on run bytes) l.running }
ledger_after book l (offered bytes answer) = l
ledger_after book l (took bytes) = record l { running = on_run (λ run. book.took_on run bytes) l.running }
ledger_after book l (ended at) = ledger_ended l at
ledger_after book l (captured sound) =
    record l { running = on_run (λ run. book.captured_on run sound) l.running; idle = idle_after l.running sound l.idle }
ledger_after book l (emitted sound) = record l { running = on_run (λ run. book.emitted_on run sound) l.running; latest = sound }

-- after all acts
abbrev pub ledger_by : {Run : Type 0} → Book Run → List ℕ → List ToldAct → Ledger Run
ledger_by book latest acts = fold (ledger_after book) (new_ledger latest) acts

-- How what a caller keeps of its program fits a ledger

-- a program runs in both, or in neither, and the run of the one that runs fits
abbrev pub NowFits : {Run : Type 0} → (Run → Type 0) → Option ℕ → Option Run → Type 0
NowFits Now None None = ⊤
NowFits Now None (Some run) = ⊥
NowFits Now (Some began) None = ⊥
NowFits Now (Some began) (Some run) = Now run

-- each past run fits, and so do the run of the program that runs, if it was started at this moment, and all starts
pub record LedgerFits {Run : Type 0} (Past Now : Run → Type 0) (kept : Starts) (began : Option ℕ) (l : Ledger Run) : Type 0 where
  pub past : All Past l.past
  pub now : NowFits Now began l.running
  pub starts : KeepsStarts kept began l.starts

-- if the acts are observable, this is so of their ledger, and they show whether the program runs
abbrev pub HoldsOf : {Run : Type 0} → Book Run → List ℕ → (Ledger Run → Type 0) → Bool → Option (List ToldAct) → Type 0
HoldsOf book latest Is runs None = ⊤
HoldsOf book latest Is runs (Some acts) = Is (ledger_by book latest acts) × (runs_in acts ≡ runs)
