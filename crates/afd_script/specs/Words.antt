-- What the arguments of the command ask for. Each is a list of bytes.
use Rattle.std.specs.Prelude.{ℕ, ◌≤◌, ◌-◌, ◌^◌, List, [], ◌∷◌, codes, bytes_eq, Option, Some, None, if◌then◌else◌}
use Rattle.af_text.specs.Words.{long_number_within}
use Rattle.afd_script.specs.declared.job.ScriptJob.{ScriptJob}
use Rattle.afd_script.specs.declared.job.ScriptJob.TheVariants as job

-- the exercise of a seed and n turns, if both are there
abbrev pub exercise_of : Option ℕ → Option ℕ → Option ScriptJob
exercise_of None turns = None
exercise_of (Some seed) None = None
exercise_of (Some seed) (Some turns) = Some (job.Exercise seed turns)

-- what one argument asks for
abbrev pub job_of_one : List ℕ → Option ScriptJob
job_of_one name = if bytes_eq name (codes "script") then Some job.Script else None

-- what three arguments ask for
abbrev pub job_of_three : List ℕ → List ℕ → List ℕ → Option ScriptJob
job_of_three name seed turns =
    if bytes_eq name (codes "exercise") then exercise_of (long_number_within 0 (2 ^ 64 - 1) seed)
    (long_number_within 1 10000 turns) else None

-- what a list of arguments asks for: `script`, or `exercise SEED TURNS` with a SEED of 0 to 2^64 - 1 and TURNS of 1 to 10000
abbrev pub job_of : List (List ℕ) → Option ScriptJob
job_of (name ∷ []) = job_of_one name
job_of (name ∷ seed ∷ turns ∷ []) = job_of_three name seed turns
job_of _ = None

-- an exercise has at most as many turns as a script can have
abbrev pub HasTurns : ScriptJob → Type 0
HasTurns job.Script = Unit {0}
HasTurns (job.Exercise seed turns) = (1 ≤ turns) × (turns ≤ 10000)
