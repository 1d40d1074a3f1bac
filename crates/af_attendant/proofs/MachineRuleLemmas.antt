-- A whole machine breaks no rule of a call.
use Rattle.std.proofs.Common.{◌≡◌, ◌∙◌, ℕ, zero, suc, ◌+◌, ◌&&◌, not, if◌then◌else◌, Bool, true, false, List, [], ◌∷◌, drop, sym, ap, refl, Result, Ok, Err, Option, None, Some, is_some}
use Rattle.af_time.specs.declared.DevTime.{DevTime}
use Rattle.af_wire.specs.declared.event.Event.{Event}
use Rattle.af_process.specs.declared.act.BeganGot.{BeganGot}
use Rattle.af_process.specs.declared.act.BeganGot.TheVariants as got
use Rattle.af_request.specs.Asked.{get_time, hook_switch, select_events}
use Rattle.af_request.specs.Requests.{request_bytes}
use Rattle.af_lib.specs.Calls.{as_done, as_time}
use Rattle.af_toolkit.specs.Parts.{called, goes_on, has_value, stops}
use Rattle.af_toolkit.specs.Trace.{after_reply, answer_on}
use Rattle.af_answer.specs.AnswerTrace.{after_event, next_event}
use Rattle.af_attendant.specs.declared.job.AttendantJob.{AttendantJob}
use Rattle.af_attendant.specs.declared.ran.CallRuns.{CallRuns}
use Rattle.af_attendant.specs.declared.ran.EndCause.{EndCause}
use Rattle.af_attendant.specs.declared.ran.Ran.{Ran}
use Rattle.af_attendant.specs.declared.tally.Tally.{Tally}
use Rattle.af_attendant.specs.Line.{LineState, call_digits, is_taken}
use Rattle.af_command.specs.Acts.{begun, finished}
use Rattle.af_attendant.specs.Ran.{call_line, command_words, is_good, is_starved, no_calls, not_run, not_started, ran_by, starved, tally_after, tally_text}
use Rattle.af_attendant.specs.AttendantTrace.{AttendantPart, ToCome, does_act, first_reply, runs_of, status_of, asks_time, attends, attends_all, awaits_call, awaits_event, begins, closes, command_starved, exchanges, follows_start, hears_all, hears_event, holds_call, leaves_message, looks, met_fault, most_for_a_call, most_looks, call_runs, got_of, moves_hook, off_hook_fault, on_hook_fault, puts_on, requests, runs_command, runs_commands, runs_text, selects, starts, takes_at, takes_call, takes_off, waits, waits_for, watch_fault, watches, working, writes, writes_call, writes_tally}
use Rattle.af_attendant.specs.Rules.{LeftAt, Stage, off_hook, on_hook, running, stages, was_ended}
use Rattle.af_attendant.proofs.RuleLemmas.{EndedBy, HeardBy, Keeps, OffBy, RunsBy, idle_hears, keeps_as, keeps_exchange, keeps_heard, keeps_on, keeps_value, off_hears, runs_hears, written_stages}

module _ (job : AttendantJob) where
  -- the hook is on
  abbrev pub OnBy : {X : Type 0} → X → ToCome → Stage → Type 0
  OnBy x b s = s ≡ on_hook

  -- events are heard while the hook is on
  on_awaits : (a : ToCome) → Keeps job on_hook (awaits_event job a) (λ e b s. s ≡ on_hook)
  unfolding awaits_event
  on_awaits a =
      keeps_on job (exchanges met_fault [] (λ w. []) next_event after_event) (hears_event job) a (keeps_exchange job met_fault [] (λ w. []) next_event after_event a on_hook on_hook refl refl (λ f. refl)) (λ e b t q.
      keeps_as job (hears_event job e b) (keeps_heard job e b t on_hook (rw q.0 refl)) (λ x c u r. r.0))

  on_takes : (taken : Bool) (more : AttendantPart DevTime) (e : Event) (b : ToCome) → Keeps job on_hook (more b) (λ x c s. s ≡ on_hook) → Keeps job on_hook ((if taken then has_value working e.time else more) b) (λ x c s. s ≡ on_hook)
  on_takes true more e b k = keeps_value job e.time b refl
  on_takes false more e b k = k

  on_awaits_call : (n : ℕ) (a : ToCome) → Keeps job on_hook (awaits_call n job a) (λ x b s. s ≡ on_hook)
  unfolding awaits_call
  on_awaits_call zero a = record { stage = on_hook; rules = refl; ends = refl }
  on_awaits_call (suc n) a = keeps_on job (awaits_event job) (takes_at job (awaits_call n job)) a (on_awaits a) (λ e b t q. rw q (on_takes (is_taken job e b.line) (awaits_call n job) e b (on_awaits_call n b)))

  -- a command is waited for
  waits_keep : (a : ToCome) (s : Stage) → stages job (does_act (finished (status_of (first_reply a.replies))) ∷ []) s ≡ Some (off_hook (is_some a.line.gone)) → Keeps job s (waits a) (λ x b t. OffBy b t)
  unfolding waits
  waits_keep a s is = record { stage = off_hook (is_some a.line.gone); rules = is; ends = refl }

  waits_for_keep : (asked : Option EndCause) (a : ToCome) (s : Stage) → stages job (does_act (finished (status_of (first_reply a.replies))) ∷ []) s ≡ Some (off_hook (is_some a.line.gone)) → Keeps job s (waits_for asked a) (λ x b t. OffBy b t)
  waits_for_keep asked a s is = keeps_on job {Q = λ x b t. OffBy b t} waits _ a (waits_keep a s is) (λ status b t off. keeps_value job (ran_by asked status) b off)

  looks_keep : (a : ToCome) → Keeps job (running (is_some a.line.gone) true) (looks a) (λ runs b t. RunsBy runs b t)
  unfolding looks
  looks_keep a = record { stage = running (is_some a.line.gone) (runs_of (first_reply a.replies)); rules = refl; ends = refl }

  time_keep : (runs : Bool) (a : ToCome) (s : Stage) → RunsBy runs a s → Keeps job s (asks_time job a) (λ x b t. RunsBy runs b t)
  unfolding requests
  time_keep runs a s is =
      rw is (keeps_as job (asks_time job a) (keeps_exchange job watch_fault [] (λ w. request_bytes w.order (get_time job.answer.device)) (answer_on (get_time job.answer.device) as_time) after_reply a (running (is_some a.line.gone) runs) (running (is_some a.line.gone) runs) refl refl (λ f. (_, _, refl)))
      (λ x b t q. q.0 ∙ ap (λ (l : LineState). running (is_some l.gone) runs) (sym q.1)))

  hears_keep : (runs : Bool) (a : ToCome) (s : Stage) → RunsBy runs a s → Keeps job s (hears_all job runs a) (λ asked b t. HeardBy runs asked b t)
  unfolding hears_all
  hears_keep true a s is = runs_hears job a.wire.ring.events a s is
  hears_keep false a s is = idle_hears job a.wire.ring.events a s is

  -- what follows goes by what was heard
  module _ (more : AttendantPart Ran) (keeps : (a : ToCome) (s : Stage) → RunsBy true a s → Keeps job s (more a) (λ x b t. OffBy b t)) where
    watch_on_keep : (runs : Bool) (asked : Option EndCause) (a : ToCome) (s : Stage) → HeardBy runs asked a s → Keeps job s ((if runs && not (is_some asked) then more else waits_for asked) a) (λ x b t. OffBy b t)
    watch_on_keep true None a s heard = keeps a s heard
    watch_on_keep true (Some cause) a s heard = waits_for_keep (Some cause) a s (rw heard.1 refl)
    watch_on_keep false None a s heard = waits_for_keep None a s (rw heard refl)
    watch_on_keep false (Some cause) a s heard = let bad : false ≡ true = heard.0 in cc bad

  watches_keep : (n : ℕ) (a : ToCome) (s : Stage) → RunsBy true a s → Keeps job s (watches n job a) (λ x b t. OffBy b t)
  unfolding watches
  watches_keep zero a s is = waits_for_keep None a s (rw is refl)
  watches_keep (suc n) a s is =
      rw is (keeps_on job {Q = λ runs b t. RunsBy runs b t} looks _ a (looks_keep a) (λ runs b t q.
      keeps_on job {Q = λ x c u. RunsBy runs c u} (asks_time job) _ b (time_keep runs b t q) (λ x c u r.
      keeps_on job {Q = λ asked d v. HeardBy runs asked d v} (hears_all job runs) _ c (hears_keep runs c u r) (λ asked d v h.
      watch_on_keep (watches n job) (watches_keep n) runs asked d v h))))

  -- what holds after a start
  abbrev StartedBy : BeganGot → ToCome → Stage → Type 0
  StartedBy (got.Child child) b s = RunsBy true b s
  StartedBy got.Failed b s = OffBy b s
  StartedBy got.NoMemory b s = OffBy b s

  started : (words : List (List ℕ)) (g : BeganGot) (b : ToCome) (s : Stage) → s ≡ off_hook false → is_some b.line.gone ≡ false → Keeps job s (called (does_act (begun words g) ∷ []) (Ok g) b) (λ x c t. StartedBy x c t)
  started words (got.Child child) b s is here = record { stage = running false true; rules = rw is refl; ends = ap (λ (h : Bool). running h true) (sym here) }
  started words got.Failed b s is here = record { stage = off_hook false; rules = rw is refl; ends = ap off_hook (sym here) }
  started words got.NoMemory b s is here = record { stage = off_hook false; rules = rw is refl; ends = ap off_hook (sym here) }

  starts_keep : (words : List (List ℕ)) (a : ToCome) (s : Stage) → s ≡ off_hook false → is_some a.line.gone ≡ false → Keeps job s (starts words a) (λ x c t. StartedBy x c t)
  unfolding starts
  starts_keep words a s is here = started words (got_of (first_reply a.replies)) (record a { replies = drop 1 a.replies }) s is here

  follows_keep : (g : BeganGot) (a : ToCome) (s : Stage) → StartedBy g a s → Keeps job s (follows_start job g a) (λ x b t. OffBy b t)
  follows_keep (got.Child child) a s is = watches_keep most_looks a s is
  follows_keep got.Failed a s is = keeps_value job not_started a is
  follows_keep got.NoMemory a s is = keeps_value job starved a is

  command_by : (call : ℕ) (text : List ℕ) (a : ToCome) (s : Stage) (gone : Bool) → is_some a.line.gone ≡ gone → s ≡ off_hook gone → Keeps job s ((if gone then has_value working not_run else runs_text job call text a.line.digits) a) (λ x b t. OffBy b t)
  command_by call text a s true here is = keeps_value job not_run a (is ∙ ap off_hook (sym here))
  command_by call text a s false here is =
      keeps_on job {Q = λ x c t. StartedBy x c t} (starts (command_words job call a.line.digits text)) (follows_start job) a (starts_keep (command_words job call a.line.digits text) a s is here) (λ g b t q. follows_keep g b t q)

  command_keep : (call : ℕ) (text : List ℕ) (a : ToCome) (s : Stage) → OffBy a s → Keeps job s (runs_command job call text a) (λ x b t. OffBy b t)
  unfolding runs_command
  command_keep call text a s is = command_by call text a s (is_some a.line.gone) refl is

  message_by : (call : ℕ) (greeting : Ran) (good : Bool) (a : ToCome) (s : Stage) → OffBy a s →
      Keeps job s ((if good then goes_on working (runs_command job call job.answer.message.bytes) (λ message. has_value working (call_runs greeting message)) else has_value working (call_runs greeting not_run)) a) (λ x b t. OffBy b t)
  message_by call greeting true a s is = keeps_on job {Q = λ x b t. OffBy b t} (runs_command job call job.answer.message.bytes) _ a (command_keep call job.answer.message.bytes a s is) (λ message b t q. keeps_value job (call_runs greeting message) b q)
  message_by call greeting false a s is = keeps_value job (call_runs greeting not_run) a is

  commands_keep : (call : ℕ) (a : ToCome) (s : Stage) → OffBy a s → Keeps job s (runs_commands job call a) (λ x b t. OffBy b t)
  unfolding runs_commands
  commands_keep call a s is = keeps_on job {Q = λ x b t. OffBy b t} (runs_command job call job.answer.greeting.bytes) (leaves_message job call) a (command_keep call job.answer.greeting.bytes a s is) (λ greeting b t q. message_by call greeting (is_good greeting) b t q)

  -- the hook moves
  off_keep : (a : ToCome) → a.line.gone ≡ None → Keeps job on_hook (takes_off job a) (λ x b s. OffBy b s)
  unfolding requests
  off_keep a here =
      keeps_as job (takes_off job a) (keeps_exchange job off_hook_fault (moves_hook true ∷ []) (λ w. request_bytes w.order (hook_switch job.answer.device 1)) (answer_on (hook_switch job.answer.device 1) as_done) after_reply a on_hook (off_hook false) refl refl (λ f. refl))
      (λ x b t q. q.0 ∙ ap off_hook (sym (ap (λ (l : LineState). is_some l.gone) q.1 ∙ ap (λ (o : Option (List ℕ)). is_some o) here)))

  on_keep : (a : ToCome) (s : Stage) → OffBy a s → Keeps job s (puts_on job a) (λ x b t. t ≡ on_hook)
  unfolding requests
  on_keep a s is =
      rw is (keeps_as job (puts_on job a) (keeps_exchange job on_hook_fault (moves_hook false ∷ []) (λ w. request_bytes w.order (hook_switch job.answer.device 0)) (answer_on (hook_switch job.answer.device 0) as_done) after_reply a (off_hook (is_some a.line.gone)) on_hook refl refl (λ f. refl))
      (λ x b t q. q.0))

  pending_keep : (a : ToCome) (s : Stage) → OffBy a s → Keeps job s (hears_all job false a) (λ x b t. OffBy b t)
  unfolding hears_all
  pending_keep a s is = off_hears job a.wire.ring.events None a s is

  hold_keep : (call : ℕ) (a : ToCome) → a.line.gone ≡ None → Keeps job on_hook (holds_call job call a) (λ x b t. t ≡ on_hook)
  unfolding holds_call
  hold_keep call a here =
      keeps_on job {Q = λ x b t. OffBy b t} (takes_off job) _ a (off_keep a here) (λ x b t q.
      keeps_on job {Q = λ x c u. OffBy c u} (hears_all job false) _ b (pending_keep b t q) (λ y c u r.
      keeps_on job {Q = λ x d v. OffBy d v} (runs_commands job call) _ c (commands_keep call c u r) (λ runs d v o.
      keeps_on job {Q = λ x e w. w ≡ on_hook} (puts_on job) _ d (on_keep d v o) (λ z e w n. keeps_value job runs e n))))

  writes_keep : (text : List ℕ) (a : ToCome) (s : Stage) → s ≡ on_hook → Keeps job s (writes text a) (λ x b t. t ≡ on_hook)
  writes_keep text a s is = rw is (record { stage = on_hook; rules = written_stages job text; ends = refl })

  call_keep : (call : ℕ) (time : DevTime) (a : ToCome) (s : Stage) → s ≡ on_hook → Keeps job s (takes_call job call time a) (λ x b t. t ≡ on_hook)
  unfolding takes_call writes_call
  call_keep call time a s is =
      keeps_on job {Q = λ x b t. (t ≡ on_hook) × (b.line.gone ≡ None)} begins _ a (record { stage = s; rules = refl; ends = (is, refl) }) (λ x b t q.
      rw q.0 (keeps_on job {Q = λ x c u. u ≡ on_hook} (holds_call job call) _ b (hold_keep call b q.1) (λ runs c u r.
      keeps_on job {Q = λ x d v. v ≡ on_hook} (writes_call call time.0 runs) _ c (writes_keep (call_line call time.0 (call_digits c.line) runs) c u r) (λ y d v o.
      keeps_on job {Q = λ x e w. w ≡ on_hook} closes _ d (record { stage = v; rules = refl; ends = o }) (λ z e w n. keeps_value job runs e n)))))

  starved_or : (starved : Bool) (more : AttendantPart Tally) (a : ToCome) (s : Stage) → s ≡ on_hook → Keeps job s (more a) (λ x b t. t ≡ on_hook) → Keeps job s ((if starved then stops working command_starved else more) a) (λ x b t. t ≡ on_hook)
  starved_or true more a s is k = record { stage = s; rules = refl; ends = is }
  starved_or false more a s is k = k

  attends_keep : (n : ℕ) (t : Tally) (a : ToCome) (s : Stage) → s ≡ on_hook → Keeps job s (attends n job t a) (λ x b u. u ≡ on_hook)
  unfolding attends
  attends_keep zero t a s is = keeps_value job t a is
  attends_keep (suc n) t a s is =
      rw is (keeps_on job {Q = λ x b u. u ≡ on_hook} (awaits_call most_for_a_call job) _ a (on_awaits_call most_for_a_call a) (λ time b u q.
      keeps_on job {Q = λ x c v. v ≡ on_hook} (takes_call job (t.answered + 1) time) _ b (call_keep (t.answered + 1) time b u q) (λ runs c v r.
      starved_or (is_starved runs) (attends n job (tally_after runs t)) c v r (attends_keep n (tally_after runs t) c v r))))

  select_keep : (a : ToCome) → Keeps job on_hook (selects job a) (λ x b t. t ≡ on_hook)
  unfolding requests
  select_keep a =
      keeps_as job (selects job a) (keeps_exchange job met_fault [] (λ w. request_bytes w.order (select_events job.answer.device 15)) (answer_on (select_events job.answer.device 15) as_done) after_reply a on_hook on_hook refl refl (λ f. refl)) (λ x b t q. q.0)

  pub all_keep : (a : ToCome) → Keeps job on_hook (goes_on working (attends_all job) writes_tally a) (λ x b t. t ≡ on_hook)
  unfolding attends_all
  all_keep a =
      keeps_on job {Q = λ x b t. t ≡ on_hook} (attends_all job) writes_tally a
      (keeps_on job {Q = λ x b t. t ≡ on_hook} (selects job) _ a (select_keep a) (λ x b t q. attends_keep job.answer.calls no_calls b t q))
      (λ tally b t q. writes_keep (tally_text tally) b t q)
