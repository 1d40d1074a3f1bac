-- What an answering machine does, by the events that it gets and the ends of its children.
use Rattle.std.specs.Prelude.{ℕ, ◌+◌, ◌==◌, ◌&&◌, if◌then◌else◌, Bool, true, false, List, [], ◌∷◌, drop, get_or}
use Rattle.std.specs.List.{fold}
use Rattle.af_wire.specs.declared.event.Event.{Event}
use Rattle.af_wire.specs.declared.event.EventKind.{EventKind}
use Rattle.af_wire.specs.declared.event.EventKind.TheVariants as kind
use Rattle.af_answer.specs.declared.child.ChildEnd.{ChildEnd}
use Rattle.af_answer.specs.declared.child.ChildEnd.TheVariants as end
use Rattle.af_answer.specs.declared.job.AnswerJob.{AnswerJob}
use Rattle.af_answer.specs.declared.tally.Tally.{Tally}

-- one act of an answering machine: it takes the hook off, plays the greeting, records the message, puts the hook on, or writes
-- the numbers of calls
pub data MachineAct : Type 0 where
  off_hook : MachineAct
  greet : MachineAct
  record_message : MachineAct
  on_hook : MachineAct
  write_tally : Tally → MachineAct

-- how often it has rung after an event of value 1: a ring that begins counts, and a hook that is taken off ends the row
abbrev pub ring_count_after : EventKind → ℕ → ℕ
ring_count_after kind.Ring rings = rings + 1
ring_count_after kind.Hook rings = 0
ring_count_after kind.Current rings = rings
ring_count_after kind.Digit rings = rings

-- any other event, or one of another device, does nothing
abbrev pub rings_after : AnswerJob → ℕ → Event → ℕ
rings_after job rings e = if e.device == job.device && e.value == 1 then ring_count_after e.kind rings else rings

-- The acts after a greeting, by its end: after a good one the message is recorded, and then the hook is put on. What follows goes
-- by how the call ended, which is as its last child did, and by the ends of the children to come. A child whose end is not stated
-- ends badly.
abbrev pub acts_after_greeting : ChildEnd → List ChildEnd → (ChildEnd → List ChildEnd → List MachineAct) → List MachineAct
acts_after_greeting end.Good ends next = record_message ∷ on_hook ∷ next (get_or ends 0 end.Bad) (drop 1 ends)
acts_after_greeting end.Bad ends next = on_hook ∷ next end.Bad ends
acts_after_greeting end.NoMemory ends next = on_hook ∷ next end.NoMemory ends

-- no call was answered yet
abbrev pub no_calls : Tally
no_calls = record { answered = 0; recorded = 0; failed = 0 }

-- the numbers after a call: it was answered; a message was recorded, or a child has failed
abbrev pub tally_after : ChildEnd → Tally → Tally
tally_after end.Good t = record { answered = t.answered + 1; recorded = t.recorded + 1; failed = t.failed }
tally_after end.Bad t = record { answered = t.answered + 1; recorded = t.recorded; failed = t.failed + 1 }
tally_after end.NoMemory t = record { answered = t.answered + 1; recorded = t.recorded; failed = t.failed }

-- the acts after so many calls: the numbers are written if these were all
abbrev pub acts_after_calls : (calls : ℕ) → Tally → List MachineAct → List MachineAct
acts_after_calls calls t more = if t.answered == calls then write_tally t ∷ [] else more

-- the acts after a call: none if memory ran out in it
abbrev pub acts_after : ChildEnd → (calls : ℕ) → Tally → List MachineAct → List MachineAct
acts_after end.NoMemory calls t more = []
acts_after end.Good calls t more = acts_after_calls calls t more
acts_after end.Bad calls t more = acts_after_calls calls t more

-- the acts after so many rings and calls: at the ring of the job's number a call is taken, and rings are counted from 0 again
unfoldable pub acts_from : AnswerJob → (rings : ℕ) → Tally → List Event → List ChildEnd → List MachineAct
acts_from job rings t [] ends = []
acts_from job rings t (e ∷ events) ends =
    if rings_after job rings e == job.rings
    then off_hook ∷ greet ∷ acts_after_greeting (get_or ends 0 end.Bad) (drop 1 ends) (λ how later.
    acts_after how job.calls (tally_after how t) (acts_from job 0 (tally_after how t) events later))
    else acts_from job (rings_after job rings e) t events ends

-- all that the machine does, by the events that it gets and the ends of its children, each in order
abbrev pub answer_acts : AnswerJob → List Event → List ChildEnd → List MachineAct
answer_acts job events ends = acts_from job 0 no_calls events ends

-- whether the hook is off after an act
abbrev pub off_after : Bool → MachineAct → Bool
off_after off off_hook = true
off_after off on_hook = false
off_after off greet = off
off_after off record_message = off
off_after off (write_tally t) = off

-- whether these acts leave the hook off
abbrev pub leaves_off : List MachineAct → Bool
leaves_off acts = fold off_after false acts
