-- What each program of a line gave and was handed, by the acts. A change that was given is noted as the sound that a device
-- captures, and a hook call as the sound that it emits: by their lines. So the sound that was emitted last is the line of the
-- hook as it is.
use Rattle.std.specs.Prelude.{ℕ, List, [], ◌∷◌, ◌++◌, codes, flat_map}
use Rattle.std.specs.declared.option.Option.{Option}
use Rattle.std.specs.declared.option.Option.TheVariants.{None, Some}
use Rattle.af_io.specs.Observed.{Appended}
use Rattle.af_program.specs.Acts.{ToldAct, launched, asked, gave, offered, took, ended, captured, emitted}
use Rattle.af_program.specs.Ledger.{Book, Ledger, ledger_by}

-- While one program ran: the bytes that it gave and those that it took; the lines of the changes that were given meanwhile; and
-- the lines that it is to be handed, in order: the hook as it was at its start, and each call.
pub record Run : Type 0 where
  pub given : List ℕ
  pub taken : List ℕ
  pub changes : List (List ℕ)
  pub told : List ℕ

-- a program was started, with this line of the hook
abbrev pub new_run : List ℕ → Run
new_run hook = record { given = []; taken = []; changes = []; told = hook }

-- how a run is kept
abbrev pub exchange_book : Book Run
exchange_book = record {
  begun = new_run;
  gave_on = λ run bytes. record run { given = run.given ++ bytes };
  took_on = λ run bytes. record run { taken = run.taken ++ bytes };
  captured_on = λ run line. record run { changes = run.changes ++ line ∷ [] };
  emitted_on = λ run line. record run { told = run.told ++ line };
}

-- before all acts the phone is on its hook
abbrev pub first_hook : List ℕ
first_hook = codes "onhook\n"

-- after all acts
abbrev pub ledger_of : List ToldAct → Ledger Run
ledger_of acts = ledger_by exchange_book first_hook acts

-- the line of the change that an act notes, if it notes one
abbrev pub change_in : ToldAct → List (List ℕ)
change_in (launched at words came_to) = []
change_in (asked room came) = []
change_in (gave bytes) = []
change_in (offered bytes answer) = []
change_in (took bytes) = []
change_in (ended at) = []
change_in (captured line) = line ∷ []
change_in (emitted line) = []

-- the line of the hook call that an act notes, if it notes one
abbrev pub call_in : ToldAct → List (List ℕ)
call_in (launched at words came_to) = []
call_in (asked room came) = []
call_in (gave bytes) = []
call_in (offered bytes answer) = []
call_in (took bytes) = []
call_in (ended at) = []
call_in (captured line) = []
call_in (emitted line) = line ∷ []

-- the moment and the words of a start
pub record Order : Type 0 where
  pub at : ℕ
  pub words : List (List ℕ)

-- the start that an act is, if it is one
abbrev pub order_in : ToldAct → List Order
order_in (launched at words came_to) = record { at = at; words = words } ∷ []
order_in (asked room came) = []
order_in (gave bytes) = []
order_in (offered bytes answer) = []
order_in (took bytes) = []
order_in (ended at) = []
order_in (captured line) = []
order_in (emitted line) = []

-- what all acts have of this, in order, if they are observable
abbrev pub all_told : {A : Type 0} → (ToldAct → List A) → Option (List ToldAct) → Option (List A)
all_told part None = None
all_told part (Some acts) = Some (flat_map part acts)

-- if the acts are observable, they have these further changes, hook calls and starts, and no others
pub record Notes (given called : List (List ℕ)) (started : List Order) (acts acts' : Option (List ToldAct)) : Type 0 where
  pub changes : Appended (all_told change_in acts) given (all_told change_in acts')
  pub calls : Appended (all_told call_in acts) called (all_told call_in acts')
  pub starts : Appended (all_told order_in acts) started (all_told order_in acts')
