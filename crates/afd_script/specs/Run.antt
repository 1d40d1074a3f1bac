-- What is observable of a tape after the run of a text's script.
use Rattle.std.specs.Prelude.{ℕ, List}
use Rattle.std.specs.declared.option.Option.{Option}
use Rattle.std.specs.declared.option.Option.TheVariants.{None, Some}
use Rattle.af_world.specs.Log.{Log}
use Rattle.afd_script.specs.Ends.{IsLogOf}

-- the log is observable, and is the one of the script that the text is
abbrev pub TellsLogOf : List ℕ → Option Log → Type 0
TellsLogOf text None = ⊥
TellsLogOf text (Some log) = IsLogOf text log
