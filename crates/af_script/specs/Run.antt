-- What is observable of a tape when its script has been run.
use Rattle.std.specs.declared.option.Option.{Option}
use Rattle.std.specs.declared.option.Option.TheVariants.{None, Some}
use Rattle.std.specs.Prelude.{List}
use Rattle.af_world.specs.declared.script.DeviceSpec.{DeviceSpec}
use Rattle.af_world.specs.declared.script.Step.{Step}
use Rattle.af_world.specs.Log.{Log}
use Rattle.af_isolation.specs.Laws.{KeepsLaws}
use Rattle.af_model.specs.Script.{OneLog}

-- The one log that a script has. The laws of whole runs hold for it.
pub record RanTo (config : List DeviceSpec) (steps : List Step) (log : Log) : Type 0 where
  pub one : OneLog config steps log
  pub laws : KeepsLaws config log

-- the log is observable, and is the one that the script has
abbrev pub HasOneLog : List DeviceSpec → List Step → Option Log → Type 0
HasOneLog config steps None = ⊥
HasOneLog config steps (Some log) = RanTo config steps log
