-- What is promised of what a program says and of what it is handed.
use Rattle.std.specs.Prelude.{◌≡◌, ⊤, ℕ, Bool, true, false, List, [], ◌++◌, map, All}
use Rattle.std.specs.declared.option.Option.{Option}
use Rattle.std.specs.declared.option.Option.TheVariants.{None, Some}
use Rattle.af_phone.specs.declared.line.LineChange.{LineChange}
use Rattle.af_program.specs.Acts.{ToldAct}
use Rattle.af_program.specs.Waits.{StartsFit}
use Rattle.af_exchange.specs.Lines.{at_line, changes_of, text_of, hook_text}
use Rattle.af_exchange.specs.Ledger.{Run, ledger_of}

-- The lines of the changes that were given are those of a front of what a program gave, which is whole lines, in order and each
-- once; this much is left of it.
pub record ChangesGiven (given left : List ℕ) (changes : List (List ℕ)) : Type 0 where
  pub read : List ℕ
  pub said : List LineChange
  pub parts : given ≡ read ++ left
  pub reads : changes_of read ≡ at_line said []
  pub lines : changes ≡ map text_of said

-- What a program took is a front of what it is told, each line in order. This much it is owed. Nothing is missing, as long as it
-- is open.
pub record LinesHanded (told taken owed : List ℕ) (is_open : Bool) : Type 0 where
  pub missed : List ℕ
  pub handed : told ≡ (taken ++ owed) ++ missed
  pub all : is_open ≡ true → missed ≡ []

-- while a program runs: what it said and was handed so far
pub record RunTold (run : Run) (left owed : List ℕ) (is_open : Bool) : Type 0 where
  pub changes : ChangesGiven run.given left run.changes
  pub lines : LinesHanded run.told run.taken owed is_open

-- Once a program has ended. All changes of what it gave were given, up to a malformed line.
pub record PastRunTold (run : Run) : Type 0 where
  pub missed : List ℕ
  pub changes : run.changes ≡ map text_of (changes_of run.given).changes
  pub told : run.told ≡ run.taken ++ missed

-- of what the running program gave this much is left, and it is owed this much; and it is open or not
abbrev pub RunIsTold : List ℕ → List ℕ → Bool → Option Run → Type 0
RunIsTold left owed is_open None = ⊤
RunIsTold left owed is_open (Some run) = RunTold run left owed is_open

-- This holds of all acts, at each moment. Changes: program after program, those of what each gave, in order and each once,
-- whatever the pieces in which it came; of the latest program, a front of them; and no others. Hook: what each program was handed
-- is a front of the hook as it was at its start and of each call while it ran, in order, each a line. Starts: at most one more
-- than there are restarts, each after its wait.
pub record IsTold (restarts : ℕ) (off : Bool) (left owed : List ℕ) (is_open : Bool) (acts : List ToldAct) : Type 0 where
  pub past : All PastRunTold (ledger_of acts).past
  pub now : RunIsTold left owed is_open (ledger_of acts).running
  pub none : (ledger_of acts).idle ≡ []
  pub hook : (ledger_of acts).latest ≡ hook_text off
  pub starts : StartsFit restarts (ledger_of acts).starts

-- all changes of what the running program gave so far were given, and none of its lines is malformed
abbrev pub IsDrained : Option Run → Type 0
IsDrained None = ⊤
IsDrained (Some run) = (run.changes ≡ map text_of (changes_of run.given).changes) × ((changes_of run.given).is_fault ≡ false)
