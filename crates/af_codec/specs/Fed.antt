-- What child programs are fed: the calls that are made for each sound, and the runs of sounds that the children are given.
use Rattle.std.specs.Prelude.{ℕ, ℤ, ◌+◌, ◌==◌, Bool, true, false, if◌then◌else◌, List, [], ◌∷◌, ◌++◌, map}
use Rattle.std.specs.declared.option.Option.{Option}
use Rattle.std.specs.declared.option.Option.TheVariants.{None, Some}
use Rattle.af_io.specs.declared.flow.Put.{Put}
use Rattle.af_io.specs.declared.flow.Put.TheVariants as put
use Rattle.af_process.specs.declared.act.BeganGot.{BeganGot}
use Rattle.af_process.specs.declared.act.BeganGot.TheVariants.{Child, Failed, NoMemory}
use Rattle.af_process.specs.Acts.{Told, noted, began, given, finished}
use Rattle.af_codec.specs.declared.feeding.Feeding.{Feeding}

-- The answers of the calls for one sound: the start of a child, whether a give was done, and the finish after a give that failed.
-- The answer of a call that is not made means nothing.
pub record CallAnswers : Type 0 where
  pub start : BeganGot
  pub give : Bool
  pub finish : Option ℤ

-- a sound, with these answers
pub record Emit : Type 0 where
  pub sound : List ℕ
  pub answers : CallAnswers

-- how often a child may be started again, and the command line of each start
pub record OrdersState : Type 0 where
  pub restarts : ℕ
  pub words : List (List ℕ)

-- no child runs, none was started, and no emit has failed
abbrev pub feeding_start : Feeding
feeding_start = record { running = None; starts = 0; failed = false }

-- One sound

-- after a start: its child runs; or none does, and the emit has failed if this was the last start
abbrev pub after_start_with : ℕ → Feeding → BeganGot → Feeding
after_start_with restarts f (Child child) = record f { running = Some child; starts = f.starts + 1 }
after_start_with restarts f Failed = record f { starts = f.starts + 1; failed = f.starts + 1 == restarts + 1 }
after_start_with restarts f NoMemory = f

-- if no child runs, one is started
abbrev pub start_for : Option ℕ → ℕ → Feeding → BeganGot → Feeding
start_for None restarts f got = after_start_with restarts f got
start_for (Some child) restarts f got = f

abbrev pub after_start : ℕ → Feeding → BeganGot → Feeding
after_start restarts f got = start_for f.running restarts f got

abbrev pub start_acts_for : Option ℕ → List (List ℕ) → BeganGot → List Told
start_acts_for None words got = began words got ∷ []
start_acts_for (Some child) words got = []

abbrev pub start_acts : List (List ℕ) → Feeding → BeganGot → List Told
start_acts words f got = start_acts_for f.running words got

-- after a give that failed no child runs, and the emit has failed if no start is left
abbrev pub after_failed_give : ℕ → Feeding → Feeding
after_failed_give restarts f = record f { running = None; failed = f.starts == restarts + 1 }

abbrev pub after_give_with : ℕ → Feeding → Bool → Feeding
after_give_with restarts f true = f
after_give_with restarts f false = after_failed_give restarts f

-- if a child runs, it is given the sound
abbrev pub give_for : Option ℕ → ℕ → Feeding → Bool → Feeding
give_for None restarts f done = f
give_for (Some child) restarts f done = after_give_with restarts f done

abbrev pub after_give : ℕ → Feeding → Bool → Feeding
after_give restarts f done = give_for f.running restarts f done

-- a give of the whole sound, and a finish if it failed
abbrev pub finish_acts : ℕ → Bool → Option ℤ → List Told
finish_acts child true status = []
finish_acts child false status = finished child status ∷ []

abbrev pub give_acts_for : Option ℕ → List ℕ → Bool → Option ℤ → List Told
give_acts_for None sound done status = []
give_acts_for (Some child) sound done status = given child sound done ∷ finish_acts child done status

abbrev pub give_acts : Feeding → List ℕ → Bool → Option ℤ → List Told
give_acts f sound done status = give_acts_for f.running sound done status

-- what is fed after an emit
abbrev pub feeding_after : OrdersState → Feeding → CallAnswers → Feeding
feeding_after orders f answers = after_give orders.restarts (after_start orders.restarts f answers.start) answers.give

-- the acts of an emit: the sound, and the calls that are made for it
abbrev pub emit_acts : OrdersState → Feeding → List ℕ → CallAnswers → List Told
emit_acts orders f sound answers =
    noted sound
    ∷ (start_acts orders.words f answers.start
    ++ give_acts (after_start orders.restarts f answers.start) sound answers.give answers.finish)

-- the answer of an emit: Failed if its start or its give failed and no start is left
abbrev pub put_of : Feeding → Put
put_of f = if f.failed then put.Failed else put.Done

-- All sounds, up to the first emit that failed

abbrev pub fed_after : OrdersState → Feeding → List Emit → Feeding
fed_after orders f [] = f
fed_after orders f (emit ∷ emits) = if f.failed then f else fed_after orders (feeding_after orders f emit.answers) emits

abbrev pub acts_of : OrdersState → Feeding → List Emit → List Told
acts_of orders f [] = []
acts_of orders f (emit ∷ emits) =
    if f.failed then []
    else (emit_acts orders f emit.sound emit.answers ++ acts_of orders (feeding_after orders f emit.answers) emits)

-- the sounds that were emitted
abbrev pub sounds_of : List Emit → List (List ℕ)
sounds_of emits = map (λ (emit : Emit). emit.sound) emits

-- the sounds that a child which runs now is given from here on: each, until a give fails
abbrev pub taken_by_child : Option ℕ → List ℕ → List (List ℕ) → List (List ℕ)
taken_by_child None sound later = []
taken_by_child (Some child) sound later = sound ∷ later

abbrev pub rest_of_run : OrdersState → Feeding → List Emit → List (List ℕ)
rest_of_run orders f [] = []
rest_of_run orders f (emit ∷ emits) =
    if f.failed then [] else taken_by_child f.running emit.sound (rest_of_run orders (feeding_after orders f emit.answers) emits)

-- a child that is started begins a run, with the sound that it is started for
abbrev pub run_of_start : BeganGot → List (List ℕ) → List (List (List ℕ))
run_of_start (Child child) run = run ∷ []
run_of_start Failed run = []
run_of_start NoMemory run = []

abbrev pub run_of_start_for : Option ℕ → BeganGot → List (List ℕ) → List (List (List ℕ))
run_of_start_for None got run = run_of_start got run
run_of_start_for (Some child) got run = []

-- the runs of sounds, one for each child that is started from here on, in the order of the starts
abbrev pub fed_runs : OrdersState → Feeding → List Emit → List (List (List ℕ))
fed_runs orders f [] = []
fed_runs orders f (emit ∷ emits) =
    if f.failed then []
    else (run_of_start_for f.running emit.answers.start
    (emit.sound ∷ rest_of_run orders (feeding_after orders f emit.answers) emits)
    ++ fed_runs orders (feeding_after orders f emit.answers) emits)
