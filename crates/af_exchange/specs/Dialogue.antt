-- What stands between a line and its program, and how it fits the acts.
use Rattle.std.specs.Prelude.{◌≡◌, ℕ, Bool, true, false, not, ◌||◌, List, [], ◌++◌, is_some}
use Rattle.std.specs.List.{fold}
use Rattle.std.specs.declared.option.Option.{Option}
use Rattle.std.specs.declared.option.Option.TheVariants.{None, Some}
use Rattle.af_program.specs.declared.program.Gave.{Gave}
use Rattle.af_program.specs.declared.program.Gave.TheVariants as gives
use Rattle.af_program.specs.declared.program.Took.{Took}
use Rattle.af_program.specs.declared.program.Took.TheVariants as takes
use Rattle.af_program.specs.declared.starts.Starts.{Starts}
use Rattle.af_program.specs.Acts.{ToldAct}
use Rattle.af_program.specs.Ledger.{Ledger, LedgerFits, HoldsOf}
use Rattle.af_program.specs.Waits.{no_starts, may_come, after_end}
use Rattle.af_phone.specs.declared.line.LineChange.{LineChange}
use Rattle.af_exchange.specs.declared.running.Running.{Running}
use Rattle.af_exchange.specs.Lines.{hook_text, at_line, after_byte}
use Rattle.af_exchange.specs.Fronts.{SaysNoMore}
use Rattle.af_exchange.specs.Ledger.{Run, exchange_book, first_hook}
use Rattle.af_exchange.specs.Told.{RunTold, PastRunTold}

-- so many bytes of a program, or for one, are kept at most
abbrev pub most_bytes : ℕ
most_bytes = 4096

-- the starts, the program that runs, what it gave and was not read, what it is owed, and whether the hook is off
pub record DialogueState : Type 0 where
  pub starts : Starts
  pub running : Option Running
  pub left : List ℕ
  pub owed : List ℕ
  pub off : Bool

abbrev pub new_dialogue : ℕ → DialogueState
new_dialogue restarts = record { starts = no_starts restarts; running = None; left = []; owed = []; off = false }

-- a program that was started at this moment
abbrev pub running_since : ℕ → Running
running_since at = record { began = at; is_closed = false; is_ended = false }

-- after a take
abbrev pub after_take : Gave → Running → Running
after_take (gives.Bytes n) running = running
after_take gives.NotYet running = running
after_take gives.Ended running = record running { is_ended = true }

-- after a give
abbrev pub after_give : Took → Running → Running
after_give (takes.Bytes n) running = running
after_give takes.NoRoom running = running
after_give takes.Ended running = record running { is_closed = true }

-- whether a program runs that takes lines
abbrev pub is_open : Option Running → Bool
is_open None = false
is_open (Some running) = not running.is_closed

-- whether a program is to be ended, if no change is left of what it gave
abbrev pub is_over : Option Running → Bool
is_over None = false
is_over (Some running) = running.is_closed || running.is_ended

-- when the program that runs was started
abbrev pub began_of : Option Running → Option ℕ
began_of None = None
began_of (Some running) = Some running.began

-- the starts, once the program that was started at a moment is ended at another: the wait for the next start begins
abbrev pub starts_once_over : Option ℕ → Starts → ℕ → Starts
starts_once_over None starts at = starts
starts_once_over (Some began) starts at = after_end starts began at

-- the starts after a moment, by the program that runs then, or that was ended at this moment
abbrev pub starts_after : ℕ → Option Running → DialogueState → Starts
starts_after at None before = starts_once_over (began_of before.running) before.starts at
starts_after at (Some running) before = before.starts

-- How it fits the ledger

-- what the run of the program that runs keeps to
abbrev pub ToldNow : DialogueState → Run → Type 0
ToldNow d run = RunTold run d.left d.owed (is_open d.running)

-- what stands between a line and its program fits the ledger
pub record Account (d : DialogueState) (ledger : Ledger Run) : Type 0 where
  pub fits : LedgerFits PastRunTold (ToldNow d) d.starts (began_of d.running) ledger
  pub none : ledger.idle ≡ []
  pub hook : ledger.latest ≡ hook_text d.off

-- if the acts are observable, all of this holds of them
abbrev pub Accounts : DialogueState → Option (List ToldAct) → Type 0
Accounts d acts = HoldsOf exchange_book first_hook (Account d) (is_some d.running) acts

-- What may be done

abbrev pub CanBegin : DialogueState → ℕ → Type 0
CanBegin d at = (d.running ≡ None) × (may_come d.starts at ≡ true)

-- no change is left of what it gave
abbrev pub CanEnd : DialogueState → Type 0
CanEnd d = (is_fault : Bool) × SaysNoMore is_fault d.left

-- whole lines that say nothing are skipped
abbrev pub PassesOver : List ℕ → List ℕ → Type 0
PassesOver before after =
    (passed : List ℕ) × (before ≡ passed ++ after)
    × ((changes : List LineChange) → fold after_byte (at_line changes []) passed ≡ at_line changes [])

-- no change is left of what the running program gave, and none of its lines is malformed
abbrev pub LeavesNone : DialogueState → Type 0
LeavesNone d = is_some d.running ≡ true → SaysNoMore false d.left
