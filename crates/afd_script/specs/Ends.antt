-- How the script command ends: what was read, what it was, and what was written. Each list of bytes is observable or not.
use Rattle.std.specs.Prelude.{◌≡◌, ◌≢◌, ℕ, ⊤, Bool, true, false, List, length, Ok, Err}
use Rattle.std.specs.declared.option.Option.{Option}
use Rattle.std.specs.declared.option.Option.TheVariants.{None, Some}
use Rattle.af_limits.specs.Limits.{longest_script}
use Rattle.af_io.specs.Observed.{NoFault}
use Rattle.af_world.specs.Log.{Log}
use Rattle.af_io.specs.declared.flow.Put.{Put}
use Rattle.af_io.specs.Flow.{ConsumedWhole, ConsumedWithin, ConsumedTooMuch, Written}
use Rattle.af_text.specs.Reading.{IsGoodText}
use Rattle.af_script.specs.Script.{StatedScript, script_of}
use Rattle.af_script.specs.Transcript.{transcript}
use Rattle.af_script.specs.Summary.{summary}
use Rattle.af_script.specs.Run.{RanTo}
use Rattle.af_random.specs.Exercise.{generated_script}
use Rattle.afd_script.specs.declared.job.ScriptJob.{ScriptJob}
use Rattle.afd_script.specs.declared.job.ScriptJob.TheVariants as job
use Rattle.afd_script.specs.declared.script.ScriptEnd.{ScriptEnd}
use Rattle.afd_script.specs.declared.script.ScriptEnd.TheVariants as end

-- the text is a script, and this is its one log; the laws of whole runs hold for it
pub record IsLogOf (text : List ℕ) (log : Log) : Type 0 where
  pub script : StatedScript
  pub is_script : script_of text ≡ Ok script
  pub ran : RanTo script.config script.steps log

-- all that the source gave is a script, and the transcript of its one log was written, whole or a prefix of it
pub record WroteTranscript (put : Put) (left left' held held' : Option (List ℕ)) : Type 0 where
  pub text : List ℕ
  pub read : ConsumedWhole longest_script left left' text
  pub log : Log
  pub ran : IsLogOf text log
  pub written : Written put held (transcript log) held'

-- all that the source gave is no script, and this is the first line that is not allowed where it stands
pub record IsFaultyScript (line : ℕ) (left left' : Option (List ℕ)) : Type 0 where
  pub text : List ℕ
  pub read : ConsumedWhole longest_script left left' text
  pub fault : script_of text ≡ Err line

-- What the source gave, by the end: TooLong exactly if more came than a script may have.
pub record ScriptReadAs (ended : ScriptEnd) (left left' : Option (List ℕ)) : Type 0 where
  pub long : ended ≡ end.TooLong → ConsumedTooMuch longest_script left left'
  pub within : ended ≢ end.TooLong → ConsumedWithin longest_script left left'
  pub fault : (line : ℕ) → ended ≡ end.ScriptFault line → IsFaultyScript line left left'

-- The script of a seed and n turns has this one log, and the summary of both was written, whole or a prefix of it. The laws of
-- whole runs hold for the log.
pub record WroteSummary (put : Put) (seed turns : ℕ) (held held' : Option (List ℕ)) : Type 0 where
  pub log : Log
  pub ran : RanTo (generated_script seed turns).config (generated_script seed turns).steps log
  pub written : Written put held (summary (length (generated_script seed turns).steps) log) held'

-- what the arguments asked for was done, and what was to be written was, whole or a prefix of it
abbrev pub Did : Put → Option ScriptJob → (left left' held held' : Option (List ℕ)) → Type 0
Did put None left left' held held' = ⊥
Did put (Some job.Script) left left' held held' = WroteTranscript put left left' held held'
Did put (Some (job.Exercise seed turns)) left left' held held' = WroteSummary put seed turns held held'

-- the source is observable before and after, its bytes are a script, and it did not fail
pub record IsGoodScript {S : Type 0} (left : S → Option (List ℕ)) (faults : S → ℕ) (before after : S) : Type 0 where
  pub text : IsGoodText script_of longest_script (left before) (left after)
  pub source : NoFault faults before after

-- what the arguments ask for can be done, if the sink does not fail: a script is to be read, and an exercise reads nothing
abbrev pub CanBeDone : {S : Type 0} → (S → Option (List ℕ)) → (S → ℕ) → Option ScriptJob → S → S → Type 0
CanBeDone left faults None before after = ⊥
CanBeDone left faults (Some job.Script) before after = IsGoodScript left faults before after
CanBeDone left faults (Some (job.Exercise seed turns)) before after = ⊤

-- the ends that reading a script may have
abbrev pub reads : ScriptEnd → Bool
reads end.Done = false
reads end.Usage = false
reads end.ReadFault = true
reads end.TooLong = true
reads (end.ScriptFault line) = true
reads end.SinkFault = false
reads end.OutOfMemory = false

-- the ends at which something may have been written
abbrev pub writes : ScriptEnd → Bool
writes end.Done = true
writes end.SinkFault = true
writes _ = false

-- What an end leaves alone: the source if the arguments ask for no script, and the sink if nothing was to be written.
pub record ScriptLeavesAlone {S K : Type 0} (asked : Option ScriptJob) (ended : ScriptEnd) (before after : S)
    (sink sink' : K) : Type 0 where
  pub unread : asked ≢ Some job.Script → after ≡ before
  pub unwritten : writes ended ≡ false → sink' ≡ sink

-- the exit status of an end
abbrev pub script_status : ScriptEnd → ℕ
script_status end.Done = 0
script_status end.Usage = 2
script_status (end.ScriptFault line) = 3
script_status end.TooLong = 4
script_status end.ReadFault = 5
script_status end.SinkFault = 6
script_status end.OutOfMemory = 7
