-- A machine that hears its caller, by its words: its server is dialled, the link set up in Big order, and its job done.
use Rattle.std.specs.Prelude.{◌≡◌, ◌⊎◌, ℕ, List, [], ◌∷◌, Ok, Option, Some}
use Rattle.af_toolkit.specs.Parts.{goes_on}
use Rattle.af_io.specs.Dial.{AppendedBack, ToldLink}
use Rattle.af_wire.specs.declared.order.Order.TheVariants.{Big}
use Rattle.af_wire.specs.Front.{setup_bytes}
use Rattle.af_request.specs.declared.reply.DeviceInfo.{DeviceInfo}
use Rattle.af_toolkit.specs.Trace.{client_after_setup, client_before_setup, setup_answer}
use Rattle.af_answer.specs.declared.end.AnswerEnd.{AnswerEnd}
use Rattle.af_answer.specs.declared.end.AnswerEnd.TheVariants as end
use Rattle.af_answer.specs.AnswerRun.{DialSight, IsIdle}
use Rattle.af_attendant.specs.declared.job.AttendantJob.{AttendantJob}
use Rattle.af_attendant.specs.Line.{fresh_line}
use Rattle.af_attendant.specs.AttendantTrace.{AttendantPart, AttendantTrace, Reply, Work, answers, exchanges, finish_of, met_fault, working}
use Rattle.af_attendant.specs.AttendantParts.{Added, Seen, seen_as}
use Rattle.af_attendant.specs.Attended.{FollowsTrace, KeepsRules}
use Rattle.af_attendant.specs.AttendantWords.{AttendantWords, words_of_job}

-- a link is set up, and its answer gives the devices of the server
abbrev pub sets_up : AttendantPart (List DeviceInfo)
sets_up = exchanges met_fault [] (λ w. setup_bytes Big) (λ w. setup_answer Big w.input) (λ w. client_after_setup Big w.input)

-- the trace of a machine on a link that is set up first, by all bytes that the link gives and by what is answered of the commands
unfoldable pub whole_trace : AttendantJob → List ℕ → List Reply → AttendantTrace
whole_trace job input replies =
    goes_on working sets_up (answers job) (record { wire = client_before_setup Big input; replies = replies; line = fresh_line })

-- What came of a link that gives these bytes. What was done is that of the trace, and so is the end, unless something from
-- outside ended the machine. No rule of a call was broken.
pub record LinkRan (job : AttendantJob) (input : List ℕ) (how : AnswerEnd) (before after : Seen (Option (List ℕ))) : Type 0 where
  pub replies : List Reply
  pub done : Work
  pub added : Added before done after
  pub followed : FollowsTrace (whole_trace job input replies) how done
  pub kept : KeepsRules job how (finish_of (whole_trace job input replies)) done

-- what came of a link
abbrev pub RanOver : AttendantJob → List ℕ → AnswerEnd → (before after : Seen (Option (List ℕ))) → Type 0
RanOver job input how before after = IsIdle how before after ⊎ LinkRan job input how before after

-- The first link was dialled, a machine with a job of these arguments ran over it, and it was given back, with all that it had
-- been sent.
pub record RanAsked (asked : AttendantWords) (how : AnswerEnd) (before after : Seen DialSight) : Type 0 where
  pub job : AttendantJob
  pub is : words_of_job asked.server job ≡ asked
  pub first : ToldLink
  pub rest : List ToldLink
  pub links_are : before.far.links ≡ Some (first ∷ rest)
  pub links_stay : after.far.links ≡ Some rest
  pub sent : Option (List ℕ)
  pub given_back : AppendedBack before.far.back sent after.far.back
  pub ran : RanOver job first.gives how (seen_as (Some first.sent) before.acts before.held) (seen_as sent after.acts after.held)

-- This came of it, if a dial is observable: nothing, if the server could not be dialled, or there was no memory for that.
abbrev pub RunsAsked : AttendantWords → AnswerEnd → (before after : Seen DialSight) → Type 0
RunsAsked asked how before after = (told : List ToldLink) → before.far.links ≡ Some told →
    (((how ≡ end.DialFault) ⊎ (how ≡ end.OutOfMemory)) × (after ≡ before)) ⊎ RanAsked asked how before after
