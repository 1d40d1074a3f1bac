-- What printing to a sink adds to it.
use Rattle.std.specs.Prelude.{ℕ, ◌≤◌, List, Option, Result, Ok, Err}
use Rattle.af_io.specs.Observed.{Appended, FaultCounted}
use Rattle.af_io.specs.Flow.{AppendedPrefix}
use Rattle.af_script.specs.declared.print.Broken.{Broken}

-- what a sink holds, and how often it has failed
pub record Printer : Type 0 where
  pub held : Option (List ℕ)
  pub faults : ℕ

-- a sink that holds this, and has failed so often
abbrev pub printer_with : Option (List ℕ) → ℕ → Printer
printer_with held faults = record { held = held; faults = faults }

-- the whole text was added
pub record Added (before : Printer) (text : List ℕ) (after : Printer) : Type 0 where
  pub appended : Appended before.held text after.held
  pub count : before.faults ≤ after.faults

-- a prefix of the text was added, and then the sink failed
pub record CutOff (before : Printer) (text : List ℕ) (after : Printer) : Type 0 where
  pub appended : AppendedPrefix before.held text after.held
  pub count : before.faults ≤ after.faults
  pub rose : FaultCounted before.faults after.faults

-- the text was printed, whole or as far as the sink took it
abbrev pub Prints : Result (Unit {0}) Broken → Printer → List ℕ → Printer → Type 0
Prints (Ok done) before text after = Added before text after
Prints (Err broken) before text after = CutOff before text after

-- the same for a sink, by functions that say what it holds, and how often it has failed
abbrev pub Puts : {K : Type 0} → (K → Option (List ℕ)) → (K → ℕ) → Result (Unit {0}) Broken → K → List ℕ → K → Type 0
Puts held faults result before text after =
    Prints result (printer_with (held before) (faults before)) text (printer_with (held after) (faults after))
