-- The acts of commands, and the answers of what runs them.
use Rattle.std.specs.Prelude.{ℕ, ℤ, Bool, true, false, List, Option, None, Some, map, option_map}
use Rattle.af_process.specs.declared.act.BeganGot.{BeganGot}
use Rattle.af_process.specs.declared.act.BeganGot.TheVariants as got
use Rattle.af_process.specs.Acts.{words_of}
use Rattle.af_command.specs.declared.act.CommandAct.{CommandAct}
use Rattle.af_command.specs.declared.act.CommandAct.TheVariants as act
use Rattle.af_command.specs.declared.runner.Begun.{Begun}
use Rattle.af_command.specs.declared.runner.Begun.TheVariants as answer

-- an act as clauses see it: a command was started by its command line, or was not; it was asked whether it still runs; its end
-- was asked for; and it was waited for, which gave a status or failed
pub data Told : Type 0 where
  begun : List (List ℕ) → BeganGot → Told
  looked : (runs : Bool) → Told
  ended : Told
  finished : Option ℤ → Told

abbrev pub told_of : CommandAct → Told
told_of (act.Begun words got) = begun (words_of words) got
told_of (act.Looked runs) = looked runs
told_of act.Ended = ended
told_of (act.Finished status) = finished status

-- acts that are observable, or not, as clauses see them
abbrev pub told_acts : Option (List CommandAct) → Option (List Told)
told_acts acts = option_map (map told_of) acts

-- what a start gave; there is one command at a time, so its number is 0
abbrev pub begun_got : Begun → BeganGot
begun_got answer.Running = got.Child 0
begun_got answer.Failed = got.Failed
begun_got answer.OutOfMemory = got.NoMemory

-- a command was started
abbrev pub is_running : Begun → Bool
is_running answer.Running = true
is_running answer.Failed = false
is_running answer.OutOfMemory = false
