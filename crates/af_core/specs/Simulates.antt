-- What code adds to a log, and which part of a turn that is.
use Rattle.std.specs.Prelude.{◌≡◌, ◌++◌}
use Rattle.std.specs.declared.option.Option.{Option}
use Rattle.af_io.specs.Observed.{Appended}
use Rattle.af_world.specs.Log.{Log}
use Rattle.af_model.specs.Turn.{Parsed}
use Rattle.af_model.specs.Run.{wakes}

-- Over the part of the log, what is to be done from a state is what is left to be done from another one, and that one is stood
-- for then.
pub record SimulatesTo {S T R : Type 0} (part : Log) (s : S) (now : T → Type 0) (whole : S → Log → Option (Parsed R))
    (rest : T → Log → Option (Parsed R)) : Type 0 where
  pub state : T
  pub stands : now state
  pub same : (more : Log) → whole s (part ++ more) ≡ rest state more

-- One part without a wake was added to the log. From each state that was stood for, it leads through the whole to the rest.
pub record Simulates {S T R : Type 0} (before after : Option Log) (stood : S → Type 0) (stands : T → Type 0)
    (whole : S → Log → Option (Parsed R)) (rest : T → Log → Option (Parsed R)) : Type 0 where
  pub part : Log
  pub told : Appended before part after
  pub quiet : wakes part ≡ 0
  pub each : (s : S) → stood s → SimulatesTo part s stands whole rest
