-- What a machine that hears its caller has done at its end.
use Rattle.std.proofs.Common.{◌≡◌, ◌≢◌, ◌∙◌, ◌⊎◌, inl, inr, ℕ, Bool, true, false, List, [], ◌++◌, length, refl, sym, ap, subst, append-nil, append_assoc, Result, Ok, Err, Option, None, Some}
use Rattle.std.specs.Prelude.{option_map}
use Rattle.std.specs.Option.{option_map_or}
use Rattle.af_io.specs.declared.flow.Put.{Put}
use Rattle.af_io.specs.declared.flow.Put.TheVariants as puts
use Rattle.af_io.specs.Flow.{Written as Wrote}
use Rattle.af_io.proofs.AppendedLemmas.{appended_none}
use Rattle.af_toolkit.specs.Parts.{IsFront, Outcome, Stopped, followed, goes_on, stops}
use Rattle.af_toolkit.specs.ToolParts.{LinkSight}
use Rattle.af_toolkit.specs.Trace.{ClientState}
use Rattle.af_toolkit.proofs.PartLemmas.{front_followed}
use Rattle.af_request.specs.declared.reply.DeviceInfo.{DeviceInfo}
use Rattle.af_command.specs.Acts.{Told}
use Rattle.af_answer.specs.declared.end.AnswerEnd.{AnswerEnd}
use Rattle.af_answer.specs.declared.end.AnswerEnd.TheVariants as end
use Rattle.af_answer.specs.AnswerParts.{is_from_outside}
use Rattle.af_answer.specs.AnswerTrace.{machine_end as answer_end, missing as answer_missing}
use Rattle.af_attendant.specs.declared.job.AttendantJob.{AttendantJob}
use Rattle.af_attendant.specs.declared.tally.Tally.{Tally}
use Rattle.af_attendant.specs.Line.{LineState, fresh_line}
use Rattle.af_attendant.specs.Ran.{tally_text}
use Rattle.af_attendant.specs.AttendantTrace.{all_answered, AttendantFinish, AttendantOutcome, AttendantTrace, Reply, ToCome, Work, answers, attends_all, finish_of, line_at, machine_end, missing, working, writes_tally, writing}
use Rattle.af_answer.proofs.MachineLemmas.{is_of_line}
use Rattle.af_attendant.specs.AttendantParts.{is_of_taking, Added, Seen, Sight, Went, attending, seen_as, shown}
use Rattle.af_attendant.specs.Attended.{AttendantRan, FollowsTrace, KeepsRules}
use Rattle.af_attendant.specs.Rules.{LeftAt, Stage, on_hook, stages}
use Rattle.af_attendant.proofs.EffectLemmas.{acts_writing, sent_writing, writing_on, written_writing}
use Rattle.af_attendant.proofs.AttendantPartLemmas.{added_none, added_on, is_attending}
use Rattle.af_attendant.proofs.RuleLemmas.{EndsSo, Keeps, front_stages}
use Rattle.af_attendant.proofs.MachineRuleLemmas.{all_keep}

-- the stage at the end of a trace that keeps the rules
finish_left : (job : AttendantJob) (e : Result (Unit {0} × ToCome) AttendantFinish) (s : Stage) → EndsSo job e (λ x b t. t ≡ on_hook) s → LeftAt (elim e as (λ r. AttendantFinish) [ Ok y ↦ all_answered | Err finish ↦ finish ]) s
finish_left job (Ok y) s ends = ends
finish_left job (Err finish) s ends = ends

-- what was done of a trace that keeps the rules keeps them
pub rules_kept : (job : AttendantJob) (trace : AttendantTrace) {how : AnswerEnd} {done : Work} → Keeps job on_hook trace (λ x b t. t ≡ on_hook) → FollowsTrace trace how done → KeepsRules job how (finish_of trace) done
rules_kept job trace {how} {done} k (inl within) =
    let front = front_stages job done within.1.0 on_hook (ap (λ (w : Work). stages job w on_hook) (sym within.1.1) ∙ k.rules) in
    record { stage = front.0; rules = front.1; left = λ inner. (let bad : true ≡ false = sym within.0 ∙ inner in cc bad) }
rules_kept job trace {how} {done} k (inr ended) =
    record { stage = k.stage; rules = ap (λ (w : Work). stages job w on_hook) (sym ended.1) ∙ k.rules; left = λ inner. finish_left job trace.end k.stage k.ends }

-- a machine by whether its device exists, and has a line
module _ (job : AttendantJob) (devices : List DeviceInfo) where
  abbrev pub answers_on : Option Bool → ToCome → AttendantTrace
  answers_on line a = option_map_or (λ finish. stops working finish) (missing job line (length devices)) (goes_on working (attends_all job) writes_tally) a

  abbrev pub starts_so : ClientState → List Reply → ToCome
  starts_so w replies = record { wire = w; replies = replies; line = fresh_line }

  module _ (line : line_at job devices ≡ Some true) where
    ended_ran : (w : ClientState) (replies : List Reply) {how : AnswerEnd} {s s' : Seen (Option (List ℕ))} (done : Work) → FollowsTrace (goes_on working (attends_all job) writes_tally (starts_so w replies)) how done → Added s done s' → AttendantRan job devices w how s s'
    ended_ran w replies {how} {s} {s'} done follows added =
        let a = starts_so w replies in
        let same : goes_on working (attends_all job) writes_tally a ≡ answers job devices a = sym (ap (λ (l : Option Bool). answers_on l a) line) in
        record {
          replies = replies;
          done = done;
          added = added;
          followed = subst (λ (t : AttendantTrace). FollowsTrace t how done) same follows;
          kept = subst (λ (t : AttendantTrace). KeepsRules job how (finish_of t) done) same (rules_kept job _ (all_keep job a) follows);
        }

    stopped_follows : (o : AttendantOutcome Tally) (next : Tally × ToCome → AttendantOutcome (Unit {0})) (how : AnswerEnd) (did : Work) → Stopped attending o how did → FollowsTrace (followed working o.did o.end next) how did
    stopped_follows o next how did (inl within) = inl (within.0, front_followed is_attending did o.did o.end next within.1)
    stopped_follows o next how did (inr ended) = subst (λ (x : AttendantOutcome Tally). FollowsTrace (followed working x.did x.end next) how did) (sym ended.2) (inr (ended.1, refl))

    -- where it stands before its calls
    stands_so : (old : Sight) {input : List ℕ} → old.line ≡ fresh_line → (replies : List Reply) → starts_so (old.link.client input) replies ≡ record { wire = old.link.client input; replies = replies; line = old.line }
    stands_so old {input} fresh replies = ap (λ (l : LineState). (let a : ToCome = record { wire = old.link.client input; replies = replies; line = l } in a)) (sym fresh)

    -- it ended within its calls
    pub stopped_ran : {old new : Sight} {input : List ℕ} {how : AnswerEnd} → old.link.left ≡ Some input → old.line ≡ fresh_line → Went {X = Tally} (attends_all job) (Err how) old new → AttendantRan job devices (old.link.client input) how (shown old) (shown new)
    unfolding goes_on
    stopped_ran {old} {new} {input} {how} told fresh w =
        let a = starts_so (old.link.client input) (w.replies []) in
        let c = (w.goes []).came a (input, told, stands_so old fresh (w.replies [])) in
        ended_ran (old.link.client input) (w.replies []) c.0 (stopped_follows (attends_all job a) (λ y. writes_tally y.0 y.1) how c.0 c.1) c.2

    -- it took all calls, and wrote the line, or a part of it
    pub done_ran : {old new : Sight} {input : List ℕ} {tally : Tally} {last : Option (List ℕ)} → old.link.left ≡ Some input → old.line ≡ fresh_line → Went (attends_all job) (Ok tally) old new → Wrote puts.Done new.held (tally_text tally) last → AttendantRan job devices (old.link.client input) end.Done (shown old) (seen_as new.link.sent new.acts last)
    unfolding goes_on
    done_ran {old} {new} {input} {tally} {last} told fresh w wrote =
        let a = starts_so (old.link.client input) (w.replies []) in
        let c = (w.goes []).came a (input, told, stands_so old fresh (w.replies [])) in
        let text = writing (tally_text tally) in
        let follows = subst (λ (o : AttendantOutcome Tally). FollowsTrace (followed working o.did o.end (λ y. writes_tally y.0 y.1)) end.Done (c.2 ++ text)) (sym c.3) (inr (refl, refl)) in
        ended_ran (old.link.client input) (w.replies []) (c.2 ++ text) follows
        (added_on c.4 (record { link = rw (sent_writing (tally_text tally)) (appended_none new.link.sent); commands = rw (acts_writing (tally_text tally)) (appended_none new.acts); sink = rw (written_writing (tally_text tally)) wrote }))

    pub failed_ran : {old new : Sight} {input : List ℕ} {tally : Tally} {last : Option (List ℕ)} → old.link.left ≡ Some input → old.line ≡ fresh_line → Went (attends_all job) (Ok tally) old new → Wrote puts.Failed new.held (tally_text tally) last → AttendantRan job devices (old.link.client input) end.SinkFault (shown old) (seen_as new.link.sent new.acts last)
    unfolding goes_on
    failed_ran {old} {new} {input} {tally} {last} told fresh w wrote =
        let a = starts_so (old.link.client input) (w.replies []) in
        let c = (w.goes []).came a (input, told, stands_so old fresh (w.replies [])) in
        let text = writing wrote.front in
        let whole : c.2 ++ writing (tally_text tally) ≡ (c.2 ++ text) ++ writing wrote.rest = ap (λ (l : List ℕ). c.2 ++ writing l) wrote.whole ∙ ap (λ (v : Work). c.2 ++ v) (writing_on wrote.front wrote.rest) ∙ sym (append_assoc c.2 text (writing wrote.rest)) in
        ended_ran (old.link.client input) (w.replies []) (c.2 ++ text)
        (subst (λ (o : AttendantOutcome Tally). FollowsTrace (followed working o.did o.end (λ y. writes_tally y.0 y.1)) end.SinkFault (c.2 ++ text)) (sym c.3) (inl (refl, (writing wrote.rest, whole))))
        (added_on c.4 (record { link = rw (sent_writing wrote.front) (appended_none new.link.sent); commands = rw (acts_writing wrote.front) (appended_none new.acts); sink = rw (written_writing wrote.front) wrote.appended }))

  -- a machine whose device is missing, or has no line, does nothing
  lacking_trace : (line : Option Bool) (a : ToCome) {how : AnswerEnd} → option_map machine_end (missing job line (length devices)) ≡ Some how → FollowsTrace (answers_on line a) how [] × KeepsRules job how (finish_of (answers_on line a)) []
  lacking_trace (Some true) a lacks = cc lacks
  lacking_trace (Some false) a {how} lacks = let is : how ≡ end.NoLine job.answer.device = cc in (inr (is, refl), record { stage = on_hook; rules = refl; left = λ inner. refl })
  lacking_trace None a {how} lacks = let is : how ≡ end.NoDevice (length devices) = cc in (inr (is, refl), record { stage = on_hook; rules = refl; left = λ inner. refl })

  pub lacking_by : (line : Option Bool) → line_at job devices ≡ line → (w : ClientState) {how : AnswerEnd} {s : Seen (Option (List ℕ))} → option_map machine_end (missing job line (length devices)) ≡ Some how → AttendantRan job devices w how s s
  lacking_by line is w {how} {s} lacks =
      let a = starts_so w [] in
      let same : answers_on line a ≡ answers job devices a = sym (ap (λ (l : Option Bool). answers_on l a) is) in
      let both = lacking_trace line a lacks in
      record {
        replies = [];
        done = [];
        added = added_none s;
        followed = subst (λ (t : AttendantTrace). FollowsTrace t how []) same both.0;
        kept = subst (λ (t : AttendantTrace). KeepsRules job how (finish_of t) []) same both.1;
      }

-- what is missing is what an answering machine with that job misses
pub same_missing : (job : AttendantJob) (line : Option Bool) (devices : ℕ) → option_map machine_end (missing job line devices) ≡ option_map answer_end (answer_missing job.answer line devices)
same_missing job (Some true) devices = refl
same_missing job (Some false) devices = refl
same_missing job None devices = refl

pub line_there : (job : AttendantJob) (line : Option Bool) (devices : ℕ) → option_map machine_end (missing job line devices) ≡ None → line ≡ Some true
line_there job (Some true) devices is = refl
line_there job (Some false) devices is = cc is
line_there job None devices is = cc is

-- an end within calls is one of a machine that has a line
pub taking_line : (how : AnswerEnd) → is_of_taking how ≡ true → is_of_line how ≡ true
taking_line end.Done way = refl
taking_line end.SinkFault way = refl
taking_line how way = way
