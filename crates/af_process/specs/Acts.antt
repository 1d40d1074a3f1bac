-- The acts of child programs: which children they show to run, and the answers of a spawner in them.
use Rattle.std.specs.Prelude.{◌≡◌, ⊤, ℕ, ℤ, ◌+◌, ◌==◌, ◌||◌, Bool, true, false, if◌then◌else◌, IsTrue, List, map, option_map}
use Rattle.std.specs.List.{fold}
use Rattle.std.specs.declared.option.Option.{Option}
use Rattle.std.specs.declared.option.Option.TheVariants.{None, Some}
use Rattle.arrayvec.specs.ArrayVec.{ArrayVec}
use Rattle.arrayvec.specs.ArrayString.{ArrayString}
use Rattle.af_io.specs.declared.flow.Put.{Put}
use Rattle.af_io.specs.declared.flow.Put.TheVariants as put
use Rattle.af_process.specs.declared.act.Act.{Act}
use Rattle.af_process.specs.declared.act.Act.TheVariants as act
use Rattle.af_process.specs.declared.act.BeganGot.{BeganGot}
use Rattle.af_process.specs.declared.act.BeganGot.TheVariants as got
use Rattle.af_process.specs.declared.spawner.Started.{Started}
use Rattle.af_process.specs.declared.spawner.Started.TheVariants as started
use Rattle.af_process.specs.declared.spawner.Finished.{Finished}
use Rattle.af_process.specs.declared.spawner.Finished.TheVariants as ended

-- an act as clauses see it; of a command line it has only the bytes
pub data Told : Type 0 where
  noted : List ℕ → Told
  began : List (List ℕ) → BeganGot → Told
  given : ℕ → List ℕ → Bool → Told
  finished : ℕ → Option ℤ → Told

-- the bytes of each word
abbrev pub words_of : ArrayVec ArrayString → List (List ℕ)
words_of words = map (λ (word : ArrayString). word.bytes) words.items

abbrev pub told_of : Act → Told
told_of (act.Noted sound) = noted sound
told_of (act.Began words got) = began (words_of words) got
told_of (act.Given child offered done) = given child offered done
told_of (act.Finished child status) = finished child status

-- Answers

abbrev pub began_got : Started → BeganGot
began_got (started.Child child) = got.Child child
began_got started.Failed = got.Failed
began_got started.OutOfMemory = got.NoMemory

abbrev pub is_given : Put → Bool
is_given put.Done = true
is_given put.Failed = false

abbrev pub status_of : Finished → Option ℤ
status_of (ended.Ended status) = Some status
status_of ended.Failed = None

-- Children

-- how many children there are after an act
abbrev pub children_after : ℕ → Told → ℕ
children_after n (noted sound) = n
children_after n (began words (got.Child child)) = n + 1
children_after n (began words got.Failed) = n
children_after n (began words got.NoMemory) = n
children_after n (given child offered done) = n
children_after n (finished child status) = n

-- how many children these acts show to have been started
abbrev pub children_in : List Told → ℕ
children_in acts = fold children_after 0 acts

-- how many children were started, after a start with this answer
abbrev pub started_after : ℕ → Started → ℕ
started_after n (started.Child child) = n + 1
started_after n started.Failed = n
started_after n started.OutOfMemory = n

-- whether a child runs after an act: from its start on, until it is finished, whatever the answer
abbrev pub runs_after : ℕ → Bool → Told → Bool
runs_after child runs (noted sound) = runs
runs_after child runs (began words (got.Child c)) = (c == child) || runs
runs_after child runs (began words got.Failed) = runs
runs_after child runs (began words got.NoMemory) = runs
runs_after child runs (given c offered done) = runs
runs_after child runs (finished c status) = if c == child then false else runs

-- whether these acts show that a child was started, and not finished since
abbrev pub runs_in : ℕ → List Told → Bool
runs_in child acts = fold (runs_after child) false acts

-- if the acts are observable, they show that a child runs
abbrev pub RunsWhereTold : ℕ → Option (List Told) → Type 0
RunsWhereTold child None = ⊤
RunsWhereTold child (Some acts) = IsTrue (runs_in child acts)

-- if the acts are observable, a child that is started has the next number
abbrev pub IsNextChild : Option (List Told) → Started → Type 0
IsNextChild None _ = ⊤
IsNextChild (Some acts) (started.Child child) = child ≡ children_in acts
IsNextChild (Some acts) started.Failed = ⊤
IsNextChild (Some acts) started.OutOfMemory = ⊤

-- acts that are observable, or not, as clauses see them
abbrev pub told_acts : Option (List Act) → Option (List Told)
told_acts acts = option_map (map told_of) acts
