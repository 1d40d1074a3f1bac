-- Parts that go by where the machine stands: by its line, and by the events that came.
use Rattle.std.proofs.Common.{◌≡◌, ◌∙◌, ℕ, zero, suc, ◌+◌, ◌-◌, ◌<◌, ◌&&◌, not, arith, List, [], ◌∷◌, drop, slice_get, sym, subst, ap, refl, true, false, if◌then◌else◌, Bool, Option, None, Some, is_some}
use Rattle.std.specs.Prelude.{Result, Ok, Err}
use Rattle.af_wire.specs.declared.event.Event.{Event}
use Rattle.af_time.specs.declared.DevTime.{DevTime}
use Rattle.af_toolkit.specs.Parts.{Came, after_deeds, goes_on, has_value, stops}
use Rattle.af_answer.specs.declared.end.AnswerEnd.{AnswerEnd}
use Rattle.af_attendant.specs.declared.job.AttendantJob.{AttendantJob}
use Rattle.af_attendant.specs.Line.{LineState, is_taken}
use Rattle.af_attendant.specs.AttendantTrace.{AttendantOutcome, AttendantPart, Reply, ToCome, asks_time, attends, awaits_call, awaits_event, command_starved, hears_all, looks, most_for_a_call, runs_command, runs_text, takes_at, takes_call, waits_for, watches, working}
use Rattle.af_attendant.specs.declared.ran.CallRuns.{CallRuns}
use Rattle.af_attendant.specs.declared.ran.EndCause.{EndCause}
use Rattle.af_attendant.specs.declared.ran.Ran.{Ran}
use Rattle.af_attendant.specs.declared.tally.Tally.{Tally}
use Rattle.af_attendant.specs.Ran.{is_starved, not_run, tally_after}
use Rattle.af_attendant.specs.AttendantParts.{Sight, Went, attending}
use Rattle.af_attendant.proofs.AttendantPartLemmas.{GotTo, went_value}

-- two parts are one where the machine stands so
abbrev pub SameAt : {X : Type 0} → Sight → (part now : AttendantPart X) → Type 0
SameAt p part now = (later : List Reply) (a : ToCome) → attending.Stands (p, later) a → part a ≡ now a

pub went_as : {X : Type 0} {part now : AttendantPart X} {result : Result X AnswerEnd} {p q : Sight} → SameAt p part now → Went now result p q → Went part result p q
went_as {X} {result = result} {p} {q} same w = record {
  replies = w.replies;
  goes = λ later. record { came = λ a stands. subst (λ (o : AttendantOutcome X). Came attending o result (p, w.replies later) (q, later)) (sym (same (w.replies later) a stands)) ((w.goes later).came a stands) };
}

pub got_as : {X : Type 0} {part first now : AttendantPart X} {p q : Sight} → SameAt q first now → GotTo part first p q → GotTo part now p q
got_as {X} same g = record {
  replies = g.replies;
  reached = λ later. record {
    goes = λ a stands.
        let r = (g.reached later).goes a stands in
        (r.0, r.1, r.2, r.3 ∙ ap (λ (o : AttendantOutcome X). after_deeds working r.2 o) (same later r.0 r.1), r.4);
  };
}

-- by the line
pub by_line : {X : Type 0} (f : LineState → AttendantPart X) (p : Sight) {line : LineState} → p.line ≡ line → SameAt p (λ a. f a.line a) (f line)
by_line f p {line} is later a stands = ap (λ (l : LineState). f l a) (ap (λ (b : ToCome). b.line) stands.2 ∙ is)

-- a call is taken at this event, or not
pub taken_here : (job : AttendantJob) (more : AttendantPart DevTime) (e : Event) {p : Sight} → is_taken job e p.line ≡ true → Went (takes_at job more e) (Ok e.time) p p
taken_here job more e {p} is = went_as (λ later a stands. by_line (λ l. if is_taken job e l then has_value working e.time else more) p refl later a stands ∙ ap (λ (b : Bool). (if b then has_value working e.time else more) a) is) (went_value e.time)

pub not_taken_here : (job : AttendantJob) (more : AttendantPart DevTime) (e : Event) {part : AttendantPart DevTime} {p q : Sight} → is_taken job e q.line ≡ false → GotTo part (takes_at job more e) p q → GotTo part more p q
not_taken_here job more e {part} {p} {q} is = got_as (λ later a stands. by_line (λ l. if is_taken job e l then has_value working e.time else more) q refl later a stands ∙ ap (λ (b : Bool). (if b then has_value working e.time else more) a) is)

pub awaits_next : (n : ℕ) (job : AttendantJob) → 0 < n → awaits_call n job ≡ goes_on working (awaits_event job) (takes_at job (awaits_call (n - 1) job))
unfolding awaits_call
awaits_next zero job some = absurd (omega (arith, some))
awaits_next (suc n) job some = let less : suc n - 1 ≡ n = omega arith in rw less refl

-- events, the oldest first
pub with_oldest : (events : List Event) {e : Event} → slice_get events 0 ≡ Some e → events ≡ e ∷ drop 1 events
with_oldest [] is = cc is
with_oldest (f ∷ events) {e} is = let same : f ≡ e = cc in rw same refl

pub no_oldest : (events : List Event) → slice_get events 0 ≡ None → events ≡ []
no_oldest [] is = refl
no_oldest (f ∷ events) is = cc is

-- a command does not run once the caller has hung up, and else it does
abbrev pub by_gone : AttendantJob → (call : ℕ) → (text : List ℕ) → (gone : Bool) → (digits : List ℕ) → AttendantPart Ran
by_gone job call text gone digits = if gone then has_value working not_run else runs_text job call text digits

run_as : (job : AttendantJob) (call : ℕ) (text : List ℕ) (p : Sight) {gone : Bool} → is_some p.line.gone ≡ gone → SameAt p (runs_command job call text) (by_gone job call text gone p.line.digits)
unfolding runs_command
run_as job call text p is later a stands = by_line (λ l. by_gone job call text (is_some l.gone) l.digits) p refl later a stands ∙ ap (λ (b : Bool). by_gone job call text b p.line.digits a) is

pub run_gone : (job : AttendantJob) (call : ℕ) (text : List ℕ) {p : Sight} → is_some p.line.gone ≡ true → Went (runs_command job call text) (Ok not_run) p p
run_gone job call text {p} is = went_as (run_as job call text p is) (went_value not_run)

pub run_here : (job : AttendantJob) (call : ℕ) (text : List ℕ) {result : Result Ran AnswerEnd} {p q : Sight} → is_some p.line.gone ≡ false → Went (runs_text job call text p.line.digits) result p q → Went (runs_command job call text) result p q
run_here job call text {p = p} is w = went_as (run_as job call text p is) w

-- what follows what was heard beside a command, and a look
abbrev pub watch_on : ℕ → AttendantJob → (runs : Bool) → Option EndCause → AttendantPart Ran
watch_on n job runs asked = if runs && not (is_some asked) then watches n job else waits_for asked

pub watches_next : (n : ℕ) (job : AttendantJob) → 0 < n → watches n job ≡ goes_on working looks (λ runs. goes_on working (asks_time job) (λ _. goes_on working (hears_all job runs) (watch_on (n - 1) job runs)))
unfolding watches
watches_next zero job some = absurd (omega (arith, some))
watches_next (suc n) job some = let less : suc n - 1 ≡ n = omega arith in rw less refl

-- what follows a call, by how it ran
abbrev pub after_call : ℕ → AttendantJob → Tally → CallRuns → AttendantPart Tally
after_call n job t runs = if is_starved runs then stops working command_starved else attends n job (tally_after runs t)

pub attends_next : (n : ℕ) (job : AttendantJob) (t : Tally) → 0 < n → attends n job t ≡ goes_on working (awaits_call most_for_a_call job) (λ time. goes_on working (takes_call job (t.answered + 1) time) (after_call (n - 1) job t))
unfolding attends
attends_next zero job t some = absurd (omega (arith, some))
attends_next (suc n) job t some = let less : suc n - 1 ≡ n = omega arith in rw less refl
