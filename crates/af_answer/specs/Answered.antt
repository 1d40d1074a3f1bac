-- What an answering machine has done at its end.
use Rattle.std.specs.Prelude.{◌≡◌, ◌≢◌, ◌<◌, ◌≤◌, ◌⊎◌, ⊤, ℕ, true, false, List, [], ◌∷◌, ◌++◌, map, drop, length}
use Rattle.std.specs.Prelude.{Option, Some}
use Rattle.af_limits.specs.Limits.{most_devices}
use Rattle.af_wire.specs.declared.order.Order.{Order}
use Rattle.af_lib.specs.declared.fault.ConnFault.{ConnFault}
use Rattle.af_request.specs.Asked.{hook_switch, select_events}
use Rattle.af_request.specs.Requests.{request_bytes}
use Rattle.af_request.specs.declared.reply.DeviceInfo.{DeviceInfo}
use Rattle.af_toolkit.specs.Trace.{ClientState}
use Rattle.af_answer.specs.declared.end.AnswerEnd.{AnswerEnd}
use Rattle.af_answer.specs.declared.end.AnswerEnd.TheVariants as end
use Rattle.af_answer.specs.declared.job.AnswerJob.{AnswerJob}
use Rattle.af_answer.specs.Acts.{MachineAct, answer_acts, greet, leaves_off, off_hook, on_hook, record_message, write_tally}
use Rattle.af_answer.specs.AnswerTrace.{AnswerFinish, MachineDeeds, MachineTrace, Work, acting, acts_of, answers}
use Rattle.af_answer.specs.AnswerTrace.{child_starved, finish_of, first_run, line_at, met_fault, off_hook_fault, on_hook_fault}
use Rattle.af_answer.specs.AnswerTrace.{rang_too_little, sending, sent_by, tally_text, working, writing}
use Rattle.af_answer.specs.AnswerParts.{Added, MatchesAnswer, Seen, is_from_outside}
use Rattle.af_answer.specs.Children.{ChildRun, run_end, told_of_run, shell_words}

-- the values of a job are in their ranges
pub record IsAnswerJob (job : AnswerJob) : Type 0 where
  pub device : job.device < most_devices
  pub rings : (1 ≤ job.rings) × (job.rings ≤ 20)
  pub calls : (1 ≤ job.calls) × (job.calls ≤ 1000)
  pub greeting : (1 ≤ length job.greeting.bytes) × (length job.greeting.bytes ≤ 200)
  pub message : (1 ≤ length job.message.bytes) × (length job.message.bytes ≤ 200)

-- what an act does, by how its child runs: it sends a request, runs a child, or writes
abbrev pub work_of_act : Order → AnswerJob → MachineAct → ChildRun → Work
work_of_act order job off_hook run = sending (request_bytes order (hook_switch job.device 1))
work_of_act order job on_hook run = sending (request_bytes order (hook_switch job.device 0))
work_of_act order job greet run = acting (told_of_run (shell_words job.greeting.bytes) run)
work_of_act order job record_message run = acting (told_of_run (shell_words job.message.bytes) run)
work_of_act order job (write_tally t) run = writing (tally_text t)

-- how the children run that come after an act
abbrev pub later_runs : MachineAct → List ChildRun → List ChildRun
later_runs greet runs = drop 1 runs
later_runs record_message runs = drop 1 runs
later_runs off_hook runs = runs
later_runs on_hook runs = runs
later_runs (write_tally t) runs = runs

-- the work of acts, in order, by how their children run
abbrev pub work_of : Order → AnswerJob → List MachineAct → List ChildRun → Work
work_of order job [] runs = working.nothing
work_of order job (act ∷ acts) runs =
    working.joined (work_of_act order job act (first_run runs)) (work_of order job acts (later_runs act runs))

-- all that the machine is to do after the setup: it asks for rings and hooks, and then come its acts
abbrev pub work_of_job : Order → AnswerJob → List MachineAct → List ChildRun → Work
work_of_job order job acts runs =
    working.joined (sending (request_bytes order (select_events job.device 3))) (work_of order job acts runs)

-- What was done is the first of this work, and all of it at Done. It has one order for all: so a command was started only if
-- exactly the requests of the acts before it were sent, and a byte was sent or written only if exactly the commands before it
-- ran.
pub record KeepsToActs (todo : Work) (how : AnswerEnd) (done : Work) : Type 0 where
  pub undone : Work
  pub all : todo ≡ working.joined done undone
  pub whole : how ≡ end.Done → undone ≡ working.nothing

-- all bytes of this work were sent and all its children were run, and its acts leave the hook on
pub record HangsUp (todo : Work) (acts : List MachineAct) (done : Work) : Type 0 where
  pub sent : sent_by done ≡ sent_by todo
  pub children : acts_of done ≡ acts_of todo
  pub on : leaves_off acts ≡ false

-- the device of a job exists, and has a line
abbrev pub HasLine : AnswerJob → List DeviceInfo → Type 0
HasLine job devices = line_at job devices ≡ Some true

-- each OnHook gets its reply
abbrev pub PutsOn : AnswerFinish → Type 0
PutsOn finish = (f : ConnFault) → finish ≢ on_hook_fault f

-- and so does each OffHook
abbrev pub SwitchesHook : AnswerFinish → Type 0
SwitchesHook finish = PutsOn finish × ((f : ConnFault) → finish ≢ off_hook_fault f)

-- An OffHook was sent last, and the acts before it leave the hook on.
pub record StopsAtOffHook (order : Order) (job : AnswerJob) (acts : List MachineAct) (runs : List ChildRun)
    (sends : List ℕ) : Type 0 where
  pub before : List MachineAct
  pub later : List MachineAct
  pub are : acts ≡ before ++ off_hook ∷ later
  pub sent : sends ≡ sent_by (work_of_job order job (before ++ off_hook ∷ []) runs)
  pub on : leaves_off before ≡ false

-- The hook at each end. It is put on again each time; or it is on unless an OnHook was answered with this fault, where an OffHook
-- may have been refused last; or it is on unless an OffHook or an OnHook was; or the link failed, and it may be off. At the other
-- ends it was never taken off: nothing was sent.
abbrev pub LeavesHook : AnswerEnd → AnswerFinish → (hung_up refused_off : Type 0) → (sends : List ℕ) → Type 0
LeavesHook end.Done finish hung_up refused_off sends = hung_up
LeavesHook end.OutOfMemory finish hung_up refused_off sends = hung_up
LeavesHook end.SinkFault finish hung_up refused_off sends = hung_up
LeavesHook (end.Refused code value) finish hung_up refused_off sends = PutsOn finish → hung_up ⊎ refused_off
LeavesHook end.LinkEnded finish hung_up refused_off sends = SwitchesHook finish → hung_up
LeavesHook (end.BadReply header first) finish hung_up refused_off sends = SwitchesHook finish → hung_up
LeavesHook end.EventFlood finish hung_up refused_off sends = SwitchesHook finish → hung_up
LeavesHook end.LinkFault finish hung_up refused_off sends = ⊤
LeavesHook (end.NoDevice devices) finish hung_up refused_off sends = sends ≡ []
LeavesHook (end.NoLine device) finish hung_up refused_off sends = sends ≡ []
LeavesHook end.Usage finish hung_up refused_off sends = sends ≡ []
LeavesHook end.DialFault finish hung_up refused_off sends = sends ≡ []

-- what the events that a machine got and the ends of its children ask for
abbrev pub acts_asked : AnswerJob → MachineTrace → List ChildRun → List MachineAct
acts_asked job trace runs = answer_acts job trace.did.heard (map run_end runs)

-- A machine did this by this trace, in a byte order, and its children ran in this way.
pub record RanAs (order : Order) (job : AnswerJob) (devices : List DeviceInfo) (trace : MachineTrace) (runs : List ChildRun)
    (how : AnswerEnd) (done : MachineDeeds) : Type 0 where
  -- it is what the trace has, and the machine ended as the trace does, unless something from outside ended it
  pub followed : MatchesAnswer trace how done
  -- it is what was asked for
  pub answered : HasLine job devices → KeepsToActs (work_of_job order job (acts_asked job trace runs) runs) how done.work
  -- the hook is left as this end has it
  pub hung_up : LeavesHook how (finish_of trace)
      (HangsUp (work_of_job order job (acts_asked job trace runs) runs) (acts_asked job trace runs) done.work)
      (StopsAtOffHook order job (acts_asked job trace runs) runs (sent_by done.work)) (sent_by done.work)
  -- if memory ran out for a child, the machine ends so, unless something from outside ended it
  pub starves : finish_of trace ≡ child_starved → (how ≡ end.OutOfMemory) ⊎ (is_from_outside how ≡ true)
  -- If there is a line, each request gets its reply and each wait an event, and each call rings enough, then it is done, unless
  -- memory ran out for a child or something from outside ended it.
  pub complete : HasLine job devices → SwitchesHook (finish_of trace) → ((f : ConnFault) → finish_of trace ≢ met_fault f) →
      finish_of trace ≢ rang_too_little → (how ≡ end.Done) ⊎ (finish_of trace ≡ child_starved) ⊎ (is_from_outside how ≡ true)

-- An answering machine ran, by what its link gives: its children ran in some way, and it did what its trace has for that.
pub record AnswerRan (job : AnswerJob) (devices : List DeviceInfo) (w : ClientState) (how : AnswerEnd)
    (before after : Seen (Option (List ℕ))) : Type 0 where
  pub runs : List ChildRun
  pub done : MachineDeeds
  pub added : Added before done.work after
  pub ran : RanAs w.order job devices (answers job devices (record { wire = w; runs = runs })) runs how done
