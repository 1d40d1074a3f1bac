-- The trace of a machine keeps to the acts that its events and the ends of its children ask for.
use Rattle.std.proofs.Common.{◌≡◌, ◌≢◌, ℕ, zero, suc, ◌+◌, ◌==◌, if◌then◌else◌, Bool, true, false, List, [], ◌∷◌, ◌++◌, map, drop, get_or, arith, refl, sym, ap, subst, ◌∙◌, Result, Ok, Err}
use Rattle.std.proofs.lemmas.Bool.{eq-eqb, ne_eqb}
use Rattle.std.specs.List.{fold}
use Rattle.af_wire.specs.declared.order.Order.{Order}
use Rattle.af_wire.specs.declared.event.Event.{Event}
use Rattle.af_request.specs.Asked.{hook_switch, select_events}
use Rattle.af_request.specs.Requests.{request_bytes}
use Rattle.af_toolkit.specs.Parts.{called, end_among, followed, goes_on, outcome, stops}
use Rattle.af_toolkit.proofs.PartLemmas.{goes_on_twice, value_first}
use Rattle.af_lib.specs.declared.fault.ConnFault.{ConnFault}
use Rattle.af_lib.specs.Calls.{as_done}
use Rattle.af_toolkit.specs.Trace.{ClientState, after_reply, answer_on}
use Rattle.af_answer.specs.declared.child.ChildEnd.{ChildEnd}
use Rattle.af_answer.specs.declared.child.ChildEnd.TheVariants as ended
use Rattle.af_answer.specs.declared.job.AnswerJob.{AnswerJob}
use Rattle.af_answer.specs.declared.tally.Tally.{Tally}
use Rattle.af_answer.specs.Acts.{MachineAct, acts_after, acts_after_greeting, acts_from, greet, leaves_off, no_calls, off_after, off_hook, on_hook, record_message, rings_after, tally_after, write_tally}
use Rattle.af_answer.specs.AnswerTrace.{MachineTrace, ToCome, AnswerFinish, MachineOutcome, MachinePart, Work, after_event, attends, attends_all, awaits_call, awaits_event, working, child_starved, deeds_of_work, doing, exchanges, finish_of, first_run, hears, leaves_message, met_fault, most_for_a_call, next_event, off_hook_fault, refusal, rang_too_little, requests, runs_child, sending, sent_by, takes_call, writes_tally}
use Rattle.af_answer.specs.Answered.{StopsAtOffHook, SwitchesHook, acts_asked, later_runs, work_of, work_of_act, work_of_job}
use Rattle.af_answer.specs.Children.{ChildRun, is_starved, run_end, start_failed}
use Rattle.af_answer.proofs.WorkLemmas.{sent_on}
use Rattle.af_answer.proofs.AnswerPartLemmas.{is_answering, works_end, works_on}

-- the acts of a call, by the ends of the children to come
abbrev pub acts_of_call : List ChildEnd → (ChildEnd → List ChildEnd → List MachineAct) → List MachineAct
acts_of_call ends next = off_hook ∷ greet ∷ acts_after_greeting (get_or ends 0 ended.Bad) (drop 1 ends) next

-- The work of a trace that finishes so is the first of what is to be done, and all of it unless a HookSwitch was answered with a
-- fault. Where an OffHook was, it stops at that.
pub record Keeps (todo : Work) (Stops : List ℕ → Type 0) (work : Work) (finish : AnswerFinish) : Type 0 where
  pub undone : Work
  pub all : todo ≡ working.joined work undone
  pub whole : SwitchesHook finish → undone ≡ working.nothing
  pub stops : (f : ConnFault) → finish ≡ off_hook_fault f → Stops (sent_by work)

-- all is done
keeps_all : {todo : Work} {Stops : List ℕ → Type 0} {finish : AnswerFinish} → ((f : ConnFault) → finish ≢ off_hook_fault f) → Keeps todo Stops todo finish
keeps_all {todo} other = record { undone = working.nothing; all = sym (works_end todo); whole = λ switched. refl; stops = λ f met. absurd (other f met) }

-- some work comes before
keeps_after : (w : Work) {todo work : Work} {Stops Stops' : List ℕ → Type 0} {finish : AnswerFinish} → ((sends : List ℕ) → Stops sends → Stops' (sent_by w ++ sends)) → Keeps todo Stops work finish → Keeps (working.joined w todo) Stops' (working.joined w work) finish
keeps_after w {work = work} {Stops' = Stops'} later k = record {
  undone = k.undone;
  all = ap (λ (v : Work). working.joined w v) k.all ∙ sym (works_on w work k.undone);
  whole = k.whole;
  stops = λ f met. subst Stops' (sym (sent_on w work)) (later (sent_by work) (k.stops f met));
}

-- an OffHook was sent last, and the acts before it leave the hook on, as it was before them
pub record StopsOff (order : Order) (off : Bool) (job : AnswerJob) (acts : List MachineAct) (runs : List ChildRun) (sends : List ℕ) : Type 0 where
  pub before : List MachineAct
  pub later : List MachineAct
  pub are : acts ≡ before ++ off_hook ∷ later
  pub sent : sends ≡ sent_by (work_of order job (before ++ off_hook ∷ []) runs)
  pub on : fold off_after off before ≡ false

abbrev pub KeepsTo : Order → (off : Bool) → AnswerJob → List MachineAct → List ChildRun → MachineTrace → Type 0
KeepsTo order off job acts runs t = Keeps (work_of order job acts runs) (StopsOff order off job acts runs) t.did.work (finish_of t)

module _ (order : Order) (off : Bool) (job : AnswerJob) (act : MachineAct) (acts : List MachineAct) (runs : List ChildRun) where
  -- an act was done
  did : {work : Work} {finish : AnswerFinish} → Keeps (work_of order job acts (later_runs act runs)) (StopsOff order (off_after off act) job acts (later_runs act runs)) work finish →
      Keeps (work_of order job (act ∷ acts) runs) (StopsOff order off job (act ∷ acts) runs) (working.joined (work_of_act order job act (first_run runs)) work) finish
  did k =
      let w = work_of_act order job act (first_run runs) in
      keeps_after w (λ sends s. record { before = act ∷ s.before; later = s.later; are = ap (λ l. act ∷ l) s.are; sent = ap (λ l. sent_by w ++ l) s.sent ∙ sym (sent_on w _); on = s.on }) k

  -- a HookSwitch was answered with a fault: none of the acts after it was done
  refused : {finish : AnswerFinish} → (SwitchesHook finish → ⊥) → ((f : ConnFault) → finish ≡ off_hook_fault f → StopsOff order off job (act ∷ acts) runs (sent_by (working.joined (work_of_act order job act (first_run runs)) working.nothing))) →
      Keeps (work_of order job (act ∷ acts) runs) (StopsOff order off job (act ∷ acts) runs) (working.joined (work_of_act order job act (first_run runs)) working.nothing) finish
  refused never stopped = record {
    undone = work_of order job acts (later_runs act runs);
    all = ap (λ (v : Work). working.joined v (work_of order job acts (later_runs act runs))) (sym (works_end (work_of_act order job act (first_run runs))));
    whole = λ switched. absurd (never switched);
    stops = stopped;
  }

-- what follows one of two parts, and a machine that has stopped
branch_first : {X Y : Type 0} (b : Bool) (one other : MachinePart X) (next : X → MachinePart Y) → goes_on doing (if b then one else other) next ≡ (if b then goes_on doing one next else goes_on doing other next)
branch_first true one other next = refl
branch_first false one other next = refl

stop_first : {X Y : Type 0} (finish : AnswerFinish) (next : X → MachinePart Y) → goes_on doing (stops doing finish) next ≡ stops doing finish
unfolding goes_on
stop_first finish next = refl

-- a machine keeps to its acts, by the events to come and the ends of the children to come
abbrev KeepsBy : (off : Bool) → AnswerJob → (List Event → List ChildEnd → List MachineAct) → MachinePart (Unit {0}) → ClientState → List ChildRun → Type 0
KeepsBy off job acts part w runs = (let t = part (record { wire = w; runs = runs }) in KeepsTo w.order off job (acts t.did.heard (map run_end runs)) runs t)

-- what follows a part, as a trace
abbrev trace_by : {X : Type 0} → MachineOutcome X → (X → MachinePart (Unit {0})) → MachineTrace
trace_by o next = followed doing o.did o.end (λ y. next y.0 y.1)

-- what follows the answer to a HookSwitch: the hook is taken off, or put on
module _ (w : ClientState) (job : AnswerJob) (acts : List Event → List MachineAct) (runs : List ChildRun) (next : Unit {0} → MachinePart (Unit {0})) where
  abbrev here : ToCome
  here = record { wire = after_reply w; runs = runs }

  abbrev later : MachineTrace
  later = next tt here

  abbrev switched_by : ℕ → Result (Unit {0}) ConnFault → MachineTrace
  switched_by off r = trace_by (called (deeds_of_work (sending (request_bytes w.order (hook_switch job.device off)))) (end_among (refusal (hook_switch job.device off)) r) here) next

  taken_off : (r : Result (Unit {0}) ConnFault) → KeepsTo w.order true job (acts later.did.heard) runs later → (let t = switched_by 1 r in KeepsTo w.order false job (off_hook ∷ acts t.did.heard) runs t)
  taken_off (Ok u) k = did w.order false job off_hook _ runs k
  taken_off (Err f) k = refused w.order false job off_hook (acts []) runs (λ switched. switched.1 f refl) (λ f met. record { before = []; later = acts []; are = refl; sent = refl; on = refl })

  put_on : (r : Result (Unit {0}) ConnFault) → KeepsTo w.order false job (acts later.did.heard) runs later → (let t = switched_by 0 r in KeepsTo w.order true job (on_hook ∷ acts t.did.heard) runs t)
  put_on (Ok u) k = did w.order true job on_hook _ runs k
  put_on (Err f) k = refused w.order true job on_hook (acts []) runs (λ switched. switched.0 f refl) (λ f met. cc met)

-- A call keeps to its acts where what follows it keeps to those that come then, by how it ended.
module _ (job : AnswerJob) (next : ChildEnd → MachinePart (Unit {0})) (more : List Event → ChildEnd → List ChildEnd → List MachineAct) where
  abbrev hangs : ChildEnd → MachinePart (Unit {0})
  hangs how = goes_on doing (requests (hook_switch job.device 0)) (λ _. next how)

  abbrev greets : Unit {0} → MachinePart (Unit {0})
  greets u = goes_on doing (runs_child job.greeting.bytes) (λ greeting. goes_on doing (leaves_message job greeting) hangs)

  abbrev KeepsLater : ClientState → Type 0
  KeepsLater w = (how : ChildEnd) (runs : List ChildRun) → KeepsBy false job (λ events ends. more events how ends) (next how) w runs

  hung_up : (w : ClientState) (how : ChildEnd) (runs : List ChildRun) → KeepsLater (after_reply w) → KeepsBy true job (λ events ends. on_hook ∷ more events how ends) (hangs how) w runs
  unfolding requests goes_on
  hung_up w how runs later = put_on w job (λ events. more events how (map run_end runs)) runs (λ _. next how) (answer_on (hook_switch job.device 0) as_done w) (later how runs)

  greeted : (w : ClientState) (greeting : ChildEnd) (runs : List ChildRun) → KeepsLater (after_reply w) → KeepsBy true job (λ events ends. acts_after_greeting greeting ends (more events)) (goes_on doing (leaves_message job greeting) hangs) w runs
  unfolding runs_child goes_on
  greeted w ended.Good [] later = did w.order true job record_message _ [] (hung_up w (run_end start_failed) [] later)
  greeted w ended.Good (run ∷ runs) later = did w.order true job record_message _ (run ∷ runs) (hung_up w (run_end run) runs later)
  greeted w greeting runs later = hung_up w greeting runs later

  -- the greeting and what follows it
  abbrev acts_played : List Event → List ChildEnd → List MachineAct
  acts_played events ends = greet ∷ acts_after_greeting (get_or ends 0 ended.Bad) (drop 1 ends) (more events)

  played : (w : ClientState) (runs : List ChildRun) → KeepsLater (after_reply w) → KeepsBy true job acts_played (greets tt) w runs
  unfolding runs_child goes_on
  played w [] later = did w.order true job greet _ [] (greeted w ended.Bad [] later)
  played w (run ∷ runs) later = did w.order true job greet _ (run ∷ runs) (greeted w (run_end run) runs later)

  answered : (w : ClientState) (runs : List ChildRun) → KeepsLater (after_reply (after_reply w)) → KeepsBy false job (λ events ends. off_hook ∷ acts_played events ends) (goes_on doing (requests (hook_switch job.device 1)) greets) w runs
  unfolding requests goes_on
  answered w runs later = taken_off w job (λ events. acts_played events (map run_end runs)) runs greets (answer_on (hook_switch job.device 1) as_done w) (played (after_reply w) runs later)

  call_first : goes_on doing (takes_call job) next ≡ goes_on doing (requests (hook_switch job.device 1)) greets
  unfolding takes_call
  call_first = simp (goes_on_twice is_answering, value_first is_answering)

  call_keeps : (w : ClientState) (runs : List ChildRun) → KeepsLater (after_reply (after_reply w)) → KeepsBy false job (λ events ends. acts_of_call ends (more events)) (goes_on doing (takes_call job) next) w runs
  call_keeps w runs later = rw call_first (answered w runs later)

-- the acts after a call, by the events to come, how it ended and the ends of the children to come
abbrev later_acts : AnswerJob → Tally → List Event → ChildEnd → List ChildEnd → List MachineAct
later_acts job t events how ends = acts_after how job.calls (tally_after how t) (acts_from job 0 (tally_after how t) events ends)

-- What a call comes to keeps to the acts from that ring on, and so does what is awaited before it.
module _ (job : AnswerJob) (t : Tally) (runs : List ChildRun) (taken : MachinePart (Unit {0}))
    (keeps : (w : ClientState) → KeepsBy false job (λ events ends. acts_of_call ends (later_acts job t events)) taken w runs) where
  -- a trace keeps to the acts from so many rings on; and so does waiting on for n events
  abbrev KeepsFrom : Order → ℕ → MachineTrace → Type 0
  KeepsFrom order rings x = KeepsTo order false job (acts_from job rings t x.did.heard (map run_end runs)) runs x

  abbrev KeepsWaiting : ℕ → ClientState → Type 0
  KeepsWaiting n w = (rings : ℕ) → KeepsBy false job (acts_from job rings t) (goes_on doing (awaits_call n job rings) (λ _. taken)) w runs

  -- what follows an event
  abbrev rung : ℕ → ℕ → Event → MachinePart (Unit {0})
  rung n rings e = if rings_after job rings e == job.rings then taken else goes_on doing (awaits_call n job (rings_after job rings e)) (λ _. taken)

  none_left : (order : Order) (rings : ℕ) {finish : AnswerFinish} → ((f : ConnFault) → finish ≢ off_hook_fault f) → KeepsFrom order rings (outcome doing.nothing (Err finish))
  unfolding acts_from
  none_left order rings other = keeps_all other

  handed_keeps : (n rings : ℕ) (r : Result Event ConnFault) (w : ClientState) → KeepsWaiting n w → KeepsFrom w.order rings (trace_by (called doing.nothing (end_among met_fault r) (record { wire = w; runs = runs })) (λ e. goes_on doing (hears e) (rung n rings)))
  unfolding acts_from goes_on
  handed_keeps n rings (Ok e) w more =
      let ends = map run_end runs in
      let x : Bool → MachineTrace = λ y. (if y then taken else goes_on doing (awaits_call n job (rings_after job rings e)) (λ _. taken)) (record { wire = w; runs = runs }) in
      elim (rings_after job rings e == job.rings) as (λ y. KeepsTo w.order false job (if y then acts_of_call ends (later_acts job t (x y).did.heard) else acts_from job (rings_after job rings e) t (x y).did.heard ends) runs (x y)) [
        | true ↦ keeps w
        | false ↦ more (rings_after job rings e)
      ]
  handed_keeps n rings (Err f) w more = none_left w.order rings (λ x e. cc e)

  waited_keeps : (n rings : ℕ) (w : ClientState) → KeepsWaiting n (after_event w) → KeepsBy false job (acts_from job rings t) (goes_on doing (exchanges met_fault (λ w. []) next_event after_event) (λ e. goes_on doing (hears e) (rung n rings))) w runs
  unfolding goes_on
  waited_keeps n rings w more = handed_keeps n rings (next_event w) (after_event w) more

  wait_floods : (rings : ℕ) → goes_on doing (awaits_call zero job rings) (λ _. taken) ≡ stops doing rang_too_little
  unfolding awaits_call
  wait_floods rings = stop_first rang_too_little (λ _. taken)

  wait_first : (n rings : ℕ) → goes_on doing (awaits_call (suc n) job rings) (λ _. taken) ≡ goes_on doing (exchanges met_fault (λ w. []) next_event after_event) (λ e. goes_on doing (hears e) (rung n rings))
  unfolding awaits_call awaits_event
  wait_first n rings = simp (goes_on_twice is_answering, branch_first, value_first is_answering)

  awaited_keeps : (n : ℕ) (w : ClientState) → KeepsWaiting n w
  awaited_keeps zero w rings = rw (wait_floods rings) (none_left w.order rings (λ x e. cc e))
  awaited_keeps (suc n) w rings = rw (wait_first n rings) (waited_keeps n rings w (awaited_keeps n (after_event w)))

-- the acts after so many calls that were not starved
abbrev acts_at : AnswerJob → Tally → List Event → List ChildEnd → List MachineAct
acts_at job t events ends = acts_after ended.Good job.calls t (acts_from job 0 t events ends)

abbrev AttendsKept : AnswerJob → ℕ → Tally → Type 0
AttendsKept job n t = (w : ClientState) (runs : List ChildRun) → KeepsBy false job (acts_at job t) (goes_on doing (attends n job t) writes_tally) w runs

counts_one : (how : ChildEnd) (t : Tally) (n calls : ℕ) → t.answered + suc n ≡ calls → (tally_after how t).answered + n ≡ calls
counts_one ended.Good t n calls is = omega (arith, is)
counts_one how t n calls is = omega (arith, is)

-- what follows a call, by how it ended
abbrev after_call : AnswerJob → ℕ → Tally → ChildEnd → MachinePart (Unit {0})
after_call job n t how = if is_starved how then stops doing child_starved else goes_on doing (attends n job (tally_after how t)) writes_tally

later_keeps : (job : AnswerJob) (n : ℕ) (t : Tally) (w : ClientState) → ((how : ChildEnd) → AttendsKept job n (tally_after how t)) → KeepsLater job (after_call job n t) (later_acts job t) w
later_keeps job n t w kept ended.NoMemory runs = keeps_all (λ x e. cc e)
later_keeps job n t w kept how runs = kept how w runs

attends_last : (job : AnswerJob) (t : Tally) → goes_on doing (attends zero job t) writes_tally ≡ writes_tally t
unfolding attends
attends_last job t = value_first is_answering t writes_tally

attends_first : (job : AnswerJob) (n : ℕ) (t : Tally) → goes_on doing (attends (suc n) job t) writes_tally ≡ goes_on doing (awaits_call most_for_a_call job 0) (λ _. goes_on doing (takes_call job) (after_call job n t))
unfolding attends
attends_first job n t = simp (goes_on_twice is_answering, branch_first, stop_first)

attends_keeps : (job : AnswerJob) (n : ℕ) (t : Tally) → t.answered + n ≡ job.calls → AttendsKept job n t
attends_keeps job zero t all w runs = rw (attends_last job t, eq-eqb t.answered job.calls (omega (arith, all))) (record { undone = working.nothing; all = refl; whole = λ switched. refl; stops = λ f met. cc met })
attends_keeps job (suc n) t all w runs =
    let other = ne_eqb t.answered job.calls (λ same. absurd (omega (arith, all, same))) in
    rw (attends_first job n t, other) (awaited_keeps job t runs (goes_on doing (takes_call job) (after_call job n t))
    (λ v. call_keeps job (after_call job n t) (later_acts job t) v runs (later_keeps job n t (after_reply (after_reply v)) (λ how. attends_keeps job n (tally_after how t) (counts_one how t n job.calls all)))) most_for_a_call w 0)

-- Rings and hooks are asked for first: a trace keeps to all that a machine is to do.
abbrev pub KeepsAll : Order → AnswerJob → MachineTrace → List ChildRun → Type 0
KeepsAll order job t runs = Keeps (work_of_job order job (acts_asked job t runs) runs) (StopsAtOffHook order job (acts_asked job t runs) runs) t.did.work (finish_of t)

module _ (job : AnswerJob) (w : ClientState) (runs : List ChildRun) (some : (0 == job.calls) ≡ false) where
  abbrev calls : Unit {0} → MachinePart (Unit {0})
  calls u = goes_on doing (attends job.calls job no_calls) writes_tally

  asked_keeps : (r : Result (Unit {0}) ConnFault) →
      KeepsAll w.order job (trace_by (called (deeds_of_work (sending (request_bytes w.order (select_events job.device 3)))) (end_among (refusal (select_events job.device 3)) r) (record { wire = after_reply w; runs = runs })) calls) runs
  unfolding acts_from
  asked_keeps (Ok u) =
      keeps_after (sending (request_bytes w.order (select_events job.device 3)))
      (λ sends s. record { before = s.before; later = s.later; are = s.are; sent = ap (λ l. sent_by (sending (request_bytes w.order (select_events job.device 3))) ++ l) s.sent ∙ sym (sent_on (sending (request_bytes w.order (select_events job.device 3))) (work_of w.order job (s.before ++ off_hook ∷ []) runs)); on = s.on })
      (rw some at (attends_keeps job job.calls no_calls (omega arith) (after_reply w) runs))
  asked_keeps (Err f) = keeps_all (λ x e. cc e)

  first_keeps : KeepsAll w.order job (goes_on doing (requests (select_events job.device 3)) calls (record { wire = w; runs = runs })) runs
  unfolding requests goes_on
  first_keeps = asked_keeps (answer_on (select_events job.device 3) as_done w)

  all_first : goes_on doing (attends_all job) writes_tally ≡ goes_on doing (requests (select_events job.device 3)) calls
  unfolding attends_all
  all_first = goes_on_twice is_answering _ _ _

  pub line_keeps : KeepsAll w.order job (goes_on doing (attends_all job) writes_tally (record { wire = w; runs = runs })) runs
  line_keeps = rw all_first first_keeps

-- Whatever a machine hears, its acts leave the hook on.

call_on : (greeting : ChildEnd) (ends : List ChildEnd) (next : ChildEnd → List ChildEnd → List MachineAct) → ((how : ChildEnd) (later : List ChildEnd) → leaves_off (next how later) ≡ false) → fold off_after true (acts_after_greeting greeting ends next) ≡ false
call_on ended.Good ends next on = on _ _
call_on greeting ends next on = on _ _

after_on : (how : ChildEnd) (calls : ℕ) (t : Tally) (more : List MachineAct) → leaves_off more ≡ false → leaves_off (acts_after how calls t more) ≡ false
after_on ended.NoMemory calls t more on = refl
after_on how calls t more on = elim (t.answered == calls) as (λ b. leaves_off (if b then write_tally t ∷ [] else more) ≡ false) [ true ↦ refl | false ↦ on ]

pub acts_leave_on : (job : AnswerJob) (rings : ℕ) (t : Tally) (events : List Event) (ends : List ChildEnd) → leaves_off (acts_from job rings t events ends) ≡ false
unfolding acts_from
acts_leave_on job rings t [] ends = refl
acts_leave_on job rings t (e ∷ events) ends =
    elim (rings_after job rings e == job.rings) as (λ b. leaves_off (if b then acts_of_call ends (later_acts job t events) else acts_from job (rings_after job rings e) t events ends) ≡ false) [
      | true ↦ call_on (get_or ends 0 ended.Bad) (drop 1 ends) (later_acts job t events) (λ how later. after_on how job.calls (tally_after how t) _ (acts_leave_on job 0 (tally_after how t) events later))
      | false ↦ acts_leave_on job (rings_after job rings e) t events ends
    ]
