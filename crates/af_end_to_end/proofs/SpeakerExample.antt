-- A small case, computed: the program of a loudspeaker ends and is started again, and another device emits between.
use Rattle.std.proofs.Common.{◌≡◌, ℕ, true, false, List, [], ◌∷◌, refl}
use Rattle.std.specs.declared.option.Option.TheVariants.{Some}
use Rattle.af_program.specs.Acts.{ToldAct, captured, emitted, ended, launched, offered, took}
use Rattle.af_program.specs.declared.program.Launched.TheVariants as launch
use Rattle.af_program.specs.declared.program.Took.TheVariants as takes
use Rattle.af_world.specs.declared.happening.Happening.TheVariants.{Captured, Emitted, Woke}
use Rattle.af_world.specs.declared.happening.Wake.TheVariants.{Ticked}
use Rattle.af_world.specs.Log.{Log}
use Rattle.af_card.specs.Ledger.{Run, ledger_of}
use Rattle.af_end_to_end.specs.Speaker.{emitted_in, sounds_of}

-- device 1 emits 7, 8 and 9. Device 0 emits 5, and fails to emit 6
abbrev its_log : Log
its_log =
    Woke (Ticked 1 1) ∷ Captured 1 1 (Some (0 ∷ [])) ∷ Emitted 1 (7 ∷ []) true
    ∷ Woke (Ticked 0 1) ∷ Captured 0 1 (Some (0 ∷ [])) ∷ Emitted 0 (5 ∷ []) true
    ∷ Woke (Ticked 1 1) ∷ Captured 1 1 (Some (0 ∷ [])) ∷ Emitted 1 (8 ∷ []) true
    ∷ Woke (Ticked 0 1) ∷ Captured 0 1 (Some (0 ∷ [])) ∷ Emitted 0 (6 ∷ []) false
    ∷ Woke (Ticked 1 1) ∷ Captured 1 1 (Some (0 ∷ [])) ∷ Emitted 1 (9 ∷ []) true ∷ []

-- the program takes 7, and ends. The next one takes 8, and is owed 9
abbrev its_acts : List ToldAct
its_acts =
    launched 0 [] launch.Runs
    ∷ captured (0 ∷ []) ∷ emitted (7 ∷ []) ∷ offered (7 ∷ []) (takes.Bytes 1) ∷ took (7 ∷ [])
    ∷ ended 10 ∷ launched 20 [] launch.Runs
    ∷ captured (0 ∷ []) ∷ emitted (8 ∷ []) ∷ offered (8 ∷ []) (takes.Bytes 1) ∷ took (8 ∷ [])
    ∷ captured (0 ∷ []) ∷ emitted (9 ∷ []) ∷ offered (9 ∷ []) takes.NoRoom ∷ []

-- the sounds of the acts are those of the log
same_sounds : emitted_in its_acts ≡ sounds_of 1 its_log
same_sounds = refl

-- what each program was given, the latest first
abbrev second_run : Run
second_run = record { given = []; taken = 8 ∷ []; captured = (0 ∷ []) ∷ (0 ∷ []) ∷ []; emitted = (9 ∷ []) ∷ (8 ∷ []) ∷ [] }

abbrev first_run : Run
first_run = record { given = []; taken = 7 ∷ []; captured = (0 ∷ []) ∷ []; emitted = (7 ∷ []) ∷ [] }

now_runs : (ledger_of its_acts).running ≡ Some second_run
now_runs = refl

has_ended : (ledger_of its_acts).past ≡ first_run ∷ []
has_ended = refl
