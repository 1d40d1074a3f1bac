-- What a machine that hears its caller has done at its end.
use Rattle.std.specs.Prelude.{◌≡◌, ◌≢◌, ◌<◌, ◌≤◌, ◌⊎◌, ⊤, ℕ, true, false, List, [], length, Option, Some, IsSome}
use Rattle.af_request.specs.declared.reply.DeviceInfo.{DeviceInfo}
use Rattle.af_toolkit.specs.Parts.{IsFront}
use Rattle.af_toolkit.specs.Trace.{ClientState}
use Rattle.af_answer.specs.declared.end.AnswerEnd.{AnswerEnd}
use Rattle.af_answer.specs.declared.end.AnswerEnd.TheVariants as end
use Rattle.af_answer.specs.AnswerParts.{is_from_outside}
use Rattle.af_answer.specs.Answered.{IsAnswerJob}
use Rattle.af_attendant.specs.declared.job.AttendantJob.{AttendantJob}
use Rattle.af_attendant.specs.Line.{fresh_line}
use Rattle.af_attendant.specs.AttendantTrace.{AttendantFinish, AttendantTrace, Reply, Work, answers, finish_of, machine_end, working}
use Rattle.af_attendant.specs.AttendantParts.{Added, Seen}
use Rattle.af_attendant.specs.Rules.{LeftAt, Stage, on_hook, stages}

-- the values of a job are in their ranges
abbrev pub IsAttendantJob : AttendantJob → Type 0
IsAttendantJob job = IsAnswerJob job.answer

-- A machine ended and has done this: all that its trace has, and it ended as the trace does; or the first of it, where something
-- from outside ended the machine.
abbrev pub FollowsTrace : AttendantTrace → AnswerEnd → Work → Type 0
FollowsTrace trace how done =
    ((is_from_outside how ≡ true) × IsFront working done trace.did)
    ⊎ ((how ≡ machine_end (finish_of trace)) × (trace.did ≡ done))

-- What was done broke no rule of a call; and at an end that nothing from outside made, the machine is left where its trace ends.
pub record KeepsRules (job : AttendantJob) (how : AnswerEnd) (finish : AttendantFinish) (done : Work) : Type 0 where
  pub stage : Stage
  pub rules : stages job done on_hook ≡ Some stage
  pub left : is_from_outside how ≡ false → LeftAt finish stage

-- A machine ran, by what its link gives: its commands were answered in some way, and it did what its trace has for that.
pub record AttendantRan (job : AttendantJob) (devices : List DeviceInfo) (w : ClientState) (how : AnswerEnd)
    (before after : Seen (Option (List ℕ))) : Type 0 where
  pub replies : List Reply
  pub done : Work
  pub added : Added before done after
  pub followed : FollowsTrace (answers job devices (record { wire = w; replies = replies; line = fresh_line })) how done
  pub kept : KeepsRules job how
      (finish_of (answers job devices (record { wire = w; replies = replies; line = fresh_line }))) done
