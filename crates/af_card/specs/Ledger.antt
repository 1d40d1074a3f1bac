-- What went by while each program of a device ran, by the acts. In each list of ticks and of runs the latest stands first.
use Rattle.std.specs.Prelude.{ℕ, List, [], ◌∷◌, ◌++◌}
use Rattle.af_program.specs.Acts.{ToldAct}
use Rattle.af_program.specs.Ledger.{Book, Ledger, ledger_by}

-- while one program ran: the bytes that it gave and those that it took, and what the device captured and emitted in each tick
pub record Run : Type 0 where
  pub given : List ℕ
  pub taken : List ℕ
  pub captured : List (List ℕ)
  pub emitted : List (List ℕ)

-- a program was started
abbrev pub new_run : Run
new_run = record { given = []; taken = []; captured = []; emitted = [] }

-- how a run is kept
abbrev pub card_book : Book Run
card_book = record {
  begun = λ latest. new_run;
  gave_on = λ run bytes. record run { given = run.given ++ bytes };
  took_on = λ run bytes. record run { taken = run.taken ++ bytes };
  captured_on = λ run sound. record run { captured = sound ∷ run.captured };
  emitted_on = λ run sound. record run { emitted = sound ∷ run.emitted };
}

-- after all acts
abbrev pub ledger_of : List ToldAct → Ledger Run
ledger_of acts = ledger_by card_book [] acts
