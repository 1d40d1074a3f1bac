-- An answering machine by its words: its server is dialled, the link set up in Big order, and its job done.
use Rattle.std.specs.Prelude.{◌≡◌, ◌⊎◌, ℕ, List, ◌∷◌, Ok, Option, Some}
use Rattle.af_toolkit.specs.Parts.{goes_on}
use Rattle.af_io.specs.Flow.{AppendedPrefix}
use Rattle.af_io.specs.Dial.{AppendedBack, ToldLink}
use Rattle.af_wire.specs.declared.order.Order.TheVariants.{Big}
use Rattle.af_wire.specs.Front.{setup_bytes}
use Rattle.af_request.specs.declared.reply.DeviceInfo.{DeviceInfo}
use Rattle.af_toolkit.specs.Trace.{client_after_setup, client_before_setup, setup_answer}
use Rattle.af_answer.specs.declared.end.AnswerEnd.{AnswerEnd}
use Rattle.af_answer.specs.declared.end.AnswerEnd.TheVariants as end
use Rattle.af_answer.specs.declared.job.AnswerJob.{AnswerJob}
use Rattle.af_answer.specs.Children.{ChildRun}
use Rattle.af_answer.specs.AnswerTrace.{MachineDeeds, MachinePart, MachineTrace, answers, deeds_of_work, doing, exchanges}
use Rattle.af_answer.specs.AnswerTrace.{met_fault, sending}
use Rattle.af_answer.specs.AnswerParts.{Added, MatchesAnswer, Seen, seen_as}
use Rattle.af_answer.specs.Answered.{RanAs}
use Rattle.af_answer.specs.AnswerWords.{AnswerWords, words_of_job}

-- a link is set up, and its answer gives the devices of the server
abbrev pub sets_up : MachinePart (List DeviceInfo)
sets_up = exchanges met_fault (λ w. setup_bytes Big) (λ w. setup_answer Big w.input) (λ w. client_after_setup Big w.input)

-- the trace of a machine on a link that is set up first, by all bytes that the link gives and by how the children run
unfoldable pub whole_trace : AnswerJob → List ℕ → List ChildRun → MachineTrace
whole_trace job input runs =
    goes_on doing sets_up (answers job) (record { wire = client_before_setup Big input; runs = runs })

-- What came of a link that gives these bytes. What was done is that of the trace, and so is the end, unless something from
-- outside ended the machine. If the answer to the setup gives the devices, the link failed before that, or all of what is said of
-- a machine on a connection holds of what was done after the setup.
pub record LinkRan (job : AnswerJob) (input : List ℕ) (how : AnswerEnd) (before after : Seen (Option (List ℕ))) : Type 0 where
  pub runs : List ChildRun
  pub done : MachineDeeds
  pub added : Added before done.work after
  pub followed : MatchesAnswer (whole_trace job input runs) how done
  pub attended : (devices : List DeviceInfo) → setup_answer Big input ≡ Ok devices →
      ((how ≡ end.LinkFault) × AppendedPrefix before.far (setup_bytes Big) after.far)
      ⊎ ((later : MachineDeeds) × (done ≡ doing.joined (deeds_of_work (sending (setup_bytes Big))) later)
      × RanAs Big job devices (answers job devices (record { wire = client_after_setup Big input; runs = runs })) runs how later)

-- memory ran out before anything was done
abbrev pub IsIdle : {A : Type 0} → AnswerEnd → (before after : A) → Type 0
IsIdle how before after = (how ≡ end.OutOfMemory) × (after ≡ before)

-- what came of a link
abbrev pub RanOver : AnswerJob → List ℕ → AnswerEnd → (before after : Seen (Option (List ℕ))) → Type 0
RanOver job input how before after = IsIdle how before after ⊎ LinkRan job input how before after

-- what is observable of a dial: the links that it will give, and what those had been sent that were given back
pub record DialSight : Type 0 where
  pub links : Option (List ToldLink)
  pub back : Option (List (List ℕ))

abbrev pub dial_sight : {D : Type 0} → (D → Option (List ToldLink)) → (D → Option (List (List ℕ))) → D → DialSight
dial_sight links back dial = record { links = links dial; back = back dial }

-- The first link was dialled, a machine with a job of these arguments ran over it, and it was given back, with all that it had
-- been sent.
pub record RanAsked (asked : AnswerWords) (how : AnswerEnd) (before after : Seen DialSight) : Type 0 where
  pub job : AnswerJob
  pub is : words_of_job asked.server job ≡ asked
  pub first : ToldLink
  pub rest : List ToldLink
  pub links_are : before.far.links ≡ Some (first ∷ rest)
  pub links_stay : after.far.links ≡ Some rest
  pub sent : Option (List ℕ)
  pub given_back : AppendedBack before.far.back sent after.far.back
  pub ran : RanOver job first.gives how (seen_as (Some first.sent) before.acts before.held) (seen_as sent after.acts after.held)

-- This came of it, if a dial is observable: nothing, if the server could not be dialled, or there was no memory for that.
abbrev pub RunsAsked : AnswerWords → AnswerEnd → (before after : Seen DialSight) → Type 0
RunsAsked asked how before after = (told : List ToldLink) → before.far.links ≡ Some told →
    (((how ≡ end.DialFault) ⊎ (how ≡ end.OutOfMemory)) × (after ≡ before)) ⊎ RanAsked asked how before after
