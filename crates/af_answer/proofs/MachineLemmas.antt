-- What a machine has done at its end.
use Rattle.std.proofs.Common.{◌≡◌, ◌≢◌, ◌≤◌, ◌⊎◌, ◌↔◌, inl, inr, ℕ, Bool, true, false, List, [], ◌++◌, map, length, arith, refl, sym, ap, ap₂, ◌∙◌, subst, append-nil, Ok, Err, Option, None, Some}
use Rattle.std.proofs.lemmas.Bool.{ne_eqb}
use Rattle.std.specs.Prelude.{option_map}
use Rattle.std.specs.Option.{option_map_or}
use Rattle.std.proofs.lemmas.Option.{slice_get_cases, slice_get_past}
use Rattle.af_io.specs.declared.flow.Put.{Put}
use Rattle.af_io.specs.declared.flow.Put.TheVariants as puts
use Rattle.af_io.specs.Flow.{AppendedPrefix, Written as Wrote}
use Rattle.af_io.proofs.AppendedLemmas.{appended_none}
use Rattle.af_toolkit.specs.Parts.{followed, goes_on, stops}
use Rattle.af_wire.specs.declared.order.Order.{Order}
use Rattle.af_process.specs.Acts.{Told}
use Rattle.af_request.specs.declared.reply.DeviceInfo.{DeviceInfo}
use Rattle.af_lib.specs.declared.fault.ConnFault.{ConnFault}
use Rattle.af_lib.specs.declared.fault.ConnFault.TheVariants as fault
use Rattle.af_toolkit.specs.Trace.{ClientState}
use Rattle.af_toolkit.specs.ToolParts.{LinkSight}
use Rattle.af_answer.specs.declared.end.AnswerEnd.{AnswerEnd}
use Rattle.af_answer.specs.declared.end.AnswerEnd.TheVariants as end
use Rattle.af_answer.specs.declared.job.AnswerJob.{AnswerJob}
use Rattle.af_answer.specs.declared.tally.Tally.{Tally}
use Rattle.af_answer.specs.Acts.{MachineAct, no_calls}
use Rattle.af_answer.specs.AnswerTrace.{MachineTrace, ToCome, AnswerFinish, MachineDeeds, MachineOutcome, MachinePart, Work, acts_of, all_answered, attends_all, working, child_starved, connection_end, deeds_of_work, device_missing, doing, finish_of, line_at, line_missing, missing, machine_end, met_fault, off_hook_fault, on_hook_fault, rang_too_little, sent_by, tally_text, writes_tally, writing}
use Rattle.af_answer.specs.AnswerParts.{Added, MachineEnd, MatchesAnswer, Seen, Went, is_from_outside, is_of_calls, seen_as}
use Rattle.af_answer.specs.Answered.{AnswerRan, HangsUp, HasLine, KeepsToActs, LeavesHook, PutsOn, RanAs, StopsAtOffHook, SwitchesHook, acts_asked, work_of_job}
use Rattle.af_answer.specs.Children.{ChildRun, run_end}
use Rattle.af_answer.proofs.WorkLemmas.{acts_on, acts_writing, sent_on, sent_writing, writing_on, written_writing}
use Rattle.af_answer.proofs.AnswerPartLemmas.{added_none, added_on, matches_after, stopped_matches, works_end, works_on}
use Rattle.af_answer.proofs.KeptActLemmas.{KeepsAll, acts_leave_on, line_keeps}

-- the ends of a machine that has a line: it takes its calls, and writes
abbrev pub is_of_line : AnswerEnd → Bool
is_of_line end.Done = true
is_of_line end.SinkFault = true
is_of_line how = is_of_calls how

pub line_of_calls : (how : AnswerEnd) → is_of_calls how ≡ true → is_of_line how ≡ true
line_of_calls end.Done way = refl
line_of_calls end.SinkFault way = refl
line_of_calls how way = way

-- what lacks, or comes within calls, or is a fault of the connection, ends a machine as a machine can end
pub lacking_ends : (job : AnswerJob) (line : Option Bool) (devices : ℕ) {how : AnswerEnd} → option_map machine_end (missing job line devices) ≡ Some how → MachineEnd how
lacking_ends job (Some true) devices is = cc is
lacking_ends job (Some false) devices {how} is = let same : how ≡ end.NoLine job.device = cc in rw same refl
lacking_ends job None devices {how} is = let same : how ≡ end.NoDevice devices = cc in rw same refl

pub calls_end : (how : AnswerEnd) → is_of_calls how ≡ true → MachineEnd how
calls_end end.Usage way = cc way
calls_end end.DialFault way = cc way
calls_end how way = refl

pub fault_ends : (f : ConnFault) → MachineEnd (connection_end f)
fault_ends fault.LinkFault = refl
fault_ends f = refl

-- an end that passes a test is none that fails it
is_other : (test : AnswerEnd → Bool) {how x : AnswerEnd} → test how ≡ true → test x ≡ false → how ≢ x
is_other test passes fails same = let bad : true ≡ false = sym passes ∙ ap test same ∙ fails in cc bad

-- no fault of a connection is Done
fault_is_other : (f : ConnFault) → connection_end f ≡ end.Done → ⊥
fault_is_other fault.LinkFault is = cc
fault_is_other f is = cc

switched_where_done : (finish : AnswerFinish) → end.Done ≡ machine_end finish → SwitchesHook finish
switched_where_done finish is = (λ f met. fault_is_other f (ap machine_end (sym met) ∙ sym is), λ f met. fault_is_other f (ap machine_end (sym met) ∙ sym is))

-- a machine that its trace ended is done, unless memory ran out for a child
by_finish : (finish : AnswerFinish) (how : AnswerEnd) → how ≡ machine_end finish → is_of_line how ≡ true → SwitchesHook finish → ((f : ConnFault) → finish ≢ met_fault f) → finish ≢ rang_too_little → (how ≡ end.Done) ⊎ (finish ≡ child_starved) ⊎ (is_from_outside how ≡ true)
by_finish all_answered how is way switched met enough = inl is
by_finish (device_missing n) how is way switched met enough = absurd (is_other is_of_line way refl is)
by_finish (line_missing n) how is way switched met enough = absurd (is_other is_of_line way refl is)
by_finish (off_hook_fault x) how is way switched met enough = absurd (switched.1 x refl)
by_finish (on_hook_fault x) how is way switched met enough = absurd (switched.0 x refl)
by_finish (met_fault x) how is way switched met enough = absurd (met x refl)
by_finish rang_too_little how is way switched met enough = absurd (enough refl)
by_finish child_starved how is way switched met enough = inr (inl refl)

-- if no OnHook was answered with a fault, none of the two was, or an OffHook was
refused_by : (finish : AnswerFinish) → PutsOn finish → SwitchesHook finish ⊎ ((f : ConnFault) × (finish ≡ off_hook_fault f))
refused_by (off_hook_fault x) puts_on = inr (x, refl)
refused_by (on_hook_fault x) puts_on = absurd (puts_on x refl)
refused_by finish puts_on = inl (λ f e. cc e, λ f e. cc e)

-- a machine on a line, by what of its trace was done
module _ (order : Order) (job : AnswerJob) (t : MachineTrace) (runs : List ChildRun) (k : KeepsAll order job t runs) (done : MachineDeeds) where
  abbrev acts : List MachineAct
  acts = acts_asked job t runs

  all_acted : {how : AnswerEnd} → MatchesAnswer t how done → how ≢ end.LinkFault → (sent_by t.did.work ≡ sent_by done.work) × (acts_of t.did.work ≡ acts_of done.work)
  all_acted m acting =
      let undone = m.acted acting in (
        ap (λ (d : MachineDeeds). sent_by d.work) m.all ∙ sent_on done.work m.undone.work ∙ ap (λ l. sent_by done.work ++ l) undone.0 ∙ append-nil (sent_by done.work),
        ap (λ (d : MachineDeeds). acts_of d.work) m.all ∙ acts_on done.work m.undone.work ∙ ap (λ l. acts_of done.work ++ l) undone.1 ∙ append-nil (acts_of done.work),
      )

  hangs : {how : AnswerEnd} → MatchesAnswer t how done → how ≢ end.LinkFault → SwitchesHook (finish_of t) → HangsUp (work_of_job order job acts runs) acts done.work
  hangs m acting switched =
      let same : work_of_job order job acts runs ≡ t.did.work = k.all ∙ ap (λ (w : Work). working.joined t.did.work w) (k.whole switched) ∙ works_end t.did.work in
      record {
        sent = sym (ap sent_by same ∙ (all_acted m acting).0);
        children = sym (ap acts_of same ∙ (all_acted m acting).1);
        on = acts_leave_on job 0 no_calls t.did.heard (map run_end runs);
      }

  hook_left : (how : AnswerEnd) → is_of_line how ≡ true → MatchesAnswer t how done → LeavesHook how (finish_of t) (HangsUp (work_of_job order job acts runs) acts done.work) (StopsAtOffHook order job acts runs (sent_by done.work)) (sent_by done.work)
  hook_left end.Done way m = hangs m (λ e. cc e) (switched_where_done (finish_of t) (m.whole refl).0)
  hook_left end.SinkFault way m = hangs m (λ e. cc e) (rw (m.reported refl) (λ f e. cc e, λ f e. cc e))
  hook_left end.OutOfMemory way m = hangs m (λ e. cc e) (rw (m.starved refl) (λ f e. cc e, λ f e. cc e))
  hook_left end.LinkFault way m = tt
  hook_left end.LinkEnded way m = hangs m (λ e. cc e)
  hook_left (end.BadReply header first) way m = hangs m (λ e. cc e)
  hook_left end.EventFlood way m = hangs m (λ e. cc e)
  hook_left (end.Refused code value) way m = λ puts_on.
      elim (refused_by (finish_of t) puts_on) [
        | inl switched ↦ inl (hangs m (λ e. cc e) switched)
        | inr off ↦ inr (subst (λ l. StopsAtOffHook order job acts runs l) (all_acted m (λ e. cc e)).0 (k.stops off.0 off.1))
      ]
  hook_left how way m = cc way

  module _ (how : AnswerEnd) (m : MatchesAnswer t how done) where
    kept_acts : KeepsToActs (work_of_job order job acts runs) how done.work
    kept_acts = record {
      undone = working.joined m.undone.work k.undone;
      all = k.all ∙ ap (λ (d : MachineDeeds). working.joined d.work k.undone) m.all ∙ works_on done.work m.undone.work k.undone;
      whole = λ is.
          let w = m.whole (ap is_from_outside is) in
          ap₂ (λ (w v : Work). working.joined w v) (ap (λ (d : MachineDeeds). d.work) w.1) (k.whole (switched_where_done (finish_of t) (sym is ∙ w.0)));
    }

    -- it ended as its trace does, unless something from outside ended it
    by_cause : {A : Type 0} → (is_from_outside how ≡ true → A) → (how ≡ machine_end (finish_of t) → A) → A
    by_cause {A} outside inside = elim (is_from_outside how) as (λ b. is_from_outside how ≡ b → A) [ true ↦ λ outer. outside outer | false ↦ λ inner. inside (m.whole inner).0 ] refl

-- how the machine ends by what came of writing the line
abbrev pub put_end : Put → AnswerEnd
put_end puts.Done = end.Done
put_end puts.Failed = end.SinkFault

line_of_put : (put : Put) → is_of_line (put_end put) ≡ true
line_of_put puts.Done = refl
line_of_put puts.Failed = refl

-- the line was written, or a part of it
module _ (tally : Tally) (a : ToCome) (s : Seen (Option (List ℕ))) (held : Option (List ℕ)) where
  abbrev Written : AnswerEnd → Type 0
  Written how = (front : List ℕ) × MatchesAnswer (writes_tally tally a) how (deeds_of_work (writing front)) × Added s (writing front) (record s { held = held })

  writes : (how : AnswerEnd) (p : AppendedPrefix s.held (tally_text tally) held) → (is_from_outside how ≡ false → (how ≡ end.Done) × (p.rest ≡ [])) → how ≢ end.OutOfMemory → Written how
  writes how p only other = (
    p.front,
    record {
      undone = deeds_of_work (writing p.rest);
      all = ap deeds_of_work (ap writing p.whole ∙ writing_on p.front p.rest);
      whole = λ inner. ((only inner).0, ap (λ l. deeds_of_work (writing l)) (only inner).1);
      acted = λ _. (sent_writing p.rest, acts_writing p.rest);
      starved = λ e. absurd (other e);
      reported = λ e. refl;
    },
    record {
      link = rw (sent_writing p.front) (appended_none s.far);
      children = rw (acts_writing p.front) (appended_none s.acts);
      sink = rw (written_writing p.front) p.appended;
    },
  )

  written : (put : Put) → Wrote put s.held (tally_text tally) held → Written (put_end put)
  written puts.Done wrote = writes end.Done (record { front = tally_text tally; rest = []; whole = sym (append-nil (tally_text tally)); appended = wrote }) (λ inner. (refl, refl)) (λ e. cc e)
  written puts.Failed wrote = writes end.SinkFault wrote (λ inner. cc inner) (λ e. cc e)

-- a machine by whether its device exists, and has a line
abbrev answers_on : AnswerJob → Option Bool → List DeviceInfo → MachinePart (Unit {0})
answers_on job line devices = option_map_or (λ finish. stops doing finish) (missing job line (length devices)) (goes_on doing (attends_all job) writes_tally)

-- a machine on a line, by how it came through its calls
module _ (job : AnswerJob) (devices : List DeviceInfo) (some : 1 ≤ job.calls) (line : HasLine job devices) where
  abbrev line_trace : ToCome → MachineTrace
  line_trace a = goes_on doing (attends_all job) writes_tally a

  -- it ran as its trace
  ended_ran : (w : ClientState) (runs : List ChildRun) {how : AnswerEnd} {s s' : Seen (Option (List ℕ))} (done : MachineDeeds) → is_of_line how ≡ true → MatchesAnswer (line_trace (record { wire = w; runs = runs })) how done → Added s done.work s' → AnswerRan job devices w how s s'
  ended_ran w runs {how} {s} {s'} done way m added =
      let a : ToCome = record { wire = w; runs = runs } in
      let t = line_trace a in
      let k = line_keeps job w runs (ne_eqb 0 job.calls (λ none. absurd (omega (arith, some, none)))) in
      let ran : RanAs w.order job devices t runs how done = record {
        followed = m;
        answered = λ _. kept_acts w.order job t runs k done how m;
        hung_up = hook_left w.order job t runs k done how way m;
        starves = λ starved. by_cause w.order job t runs k done how m inr (λ ends. inl (ends ∙ ap machine_end starved));
        complete = λ _ switched met enough. by_cause w.order job t runs k done how m (λ outer. inr (inr outer)) (λ ends. by_finish (finish_of t) how ends way switched met enough);
      } in
      record { runs = runs; done = done; added = added; ran = subst (λ (x : MachineTrace). RanAs w.order job devices x runs how done) (sym (ap (λ (x : Option Bool). answers_on job x devices a) line)) ran }

  module _ {link link' : LinkSight} {acts acts' : Option (List Told)} {held : Option (List ℕ)} {input : List ℕ} (told : link.left ≡ Some input) where
    -- it ended within them
    pub stopped_ran : {how : AnswerEnd} → is_of_calls how ≡ true → Went {X = Tally} (attends_all job) (Err how) (seen_as link acts held) (seen_as link' acts' held) → AnswerRan job devices (link.client input) how (seen_as link.sent acts held) (seen_as link'.sent acts' held)
    unfolding goes_on
    stopped_ran {how} way w =
        let a : ToCome = record { wire = link.client input; runs = w.runs [] } in
        let c = (w.goes []).came a (input, told, refl) in
        ended_ran (link.client input) (w.runs []) c.0 (line_of_calls how way) (stopped_matches (attends_all job a) (λ y. writes_tally y.0 y.1) how c.0 way c.1) c.2

    -- it took them all, and wrote the line, or a part of it
    pub reported_ran : {tally : Tally} {held' : Option (List ℕ)} (put : Put) → Went (attends_all job) (Ok tally) (seen_as link acts held) (seen_as link' acts' held) → Wrote put held (tally_text tally) held' →
        AnswerRan job devices (link.client input) (put_end put) (seen_as link.sent acts held) (seen_as link'.sent acts' held')
    unfolding goes_on
    reported_ran {tally} {held'} put w wrote =
        let a : ToCome = record { wire = link.client input; runs = w.runs [] } in
        let c = (w.goes []).came a (input, told, refl) in
        let t = written tally c.0 (seen_as link'.sent acts' held) held' put wrote in
        let whole = λ (o : MachineOutcome Tally). followed doing o.did o.end (λ y. writes_tally y.0 y.1) in
        ended_ran (link.client input) (w.runs []) (doing.joined c.2 (deeds_of_work (writing t.0))) (line_of_put put) (matches_after c.2 (ap whole c.3) t.1) (added_on c.4 t.2)

-- a machine whose device is missing, or has no line
module _ (job : AnswerJob) (devices : List DeviceInfo) (w : ClientState) where
  lacking_by : (HasLine job devices → ⊥) → (finish : AnswerFinish) → machine_end finish ≢ end.OutOfMemory → machine_end finish ≢ end.SinkFault → ((hung_up refused_off : Type 0) → LeavesHook (machine_end finish) finish hung_up refused_off []) →
      RanAs w.order job devices (stops doing finish (record { wire = w; runs = [] })) [] (machine_end finish) doing.nothing
  lacking_by none finish fed wrote untouched = record {
    followed = record { undone = doing.nothing; all = refl; whole = λ inner. (refl, refl); acted = λ other. (refl, refl); starved = λ e. absurd (fed e); reported = λ e. absurd (wrote e) };
    answered = λ l. absurd (none l);
    hung_up = untouched _ _;
    starves = λ e. absurd (fed (ap machine_end e));
    complete = λ l. absurd (none l);
  }

  lacking_at : {how : AnswerEnd} (line : Option Bool) → line_at job devices ≡ line → option_map machine_end (missing job line (length devices)) ≡ Some how → RanAs w.order job devices (answers_on job line devices (record { wire = w; runs = [] })) [] how doing.nothing
  lacking_at (Some true) at is = cc is
  lacking_at {how} (Some false) at is =
      let same : how ≡ end.NoLine job.device = cc in
      rw same (lacking_by (λ l. (let bad : Some false ≡ Some true = sym at ∙ l in cc bad)) (line_missing job.device) (λ e. cc e) (λ e. cc e) (λ _ _. refl))
  lacking_at {how} None at is =
      let same : how ≡ end.NoDevice (length devices) = cc in
      rw same (lacking_by (λ l. (let bad : None ≡ Some true = sym at ∙ l in cc bad)) (device_missing (length devices)) (λ e. cc e) (λ e. cc e) (λ _ _. refl))

  pub lacking_ran : {how : AnswerEnd} {s : Seen (Option (List ℕ))} → option_map machine_end (missing job (line_at job devices) (length devices)) ≡ Some how → AnswerRan job devices w how s s
  lacking_ran {s} is = record { runs = []; done = doing.nothing; added = added_none s; ran = lacking_at (line_at job devices) refl is }

-- a device with a number past the last does not exist
past_last : (job : AnswerJob) (devices : List DeviceInfo) → (line_at job devices ≡ None) ↔ (length devices ≤ job.device)
past_last job devices = (
  λ none. elim ((slice_get_cases devices job.device).1) [
    | inl there ↦ (let bad : Some ((there.0).line) ≡ None = sym (ap (option_map (λ (device : DeviceInfo). device.line)) there.2) ∙ none in cc bad)
    | inr past ↦ past.0
  ],
  λ past. ap (option_map (λ (device : DeviceInfo). device.line)) (slice_get_past devices job.device past),
)

missing_at : (job : AnswerJob) (line : Option Bool) (devices n : ℕ) (how : AnswerEnd) → option_map machine_end (missing job line devices) ≡ Some how → (how ≡ end.NoDevice n) ↔ ((n ≡ devices) × (line ≡ None))
missing_at job (Some true) devices n how is = cc is
missing_at job (Some false) devices n how is = (λ e. cc, λ r. cc)
missing_at job None devices n how is = (λ e. (cc, refl), λ r. cc)

-- a machine ends with NoDevice exactly if its device number is not below the number of devices, which the end carries
abbrev pub LacksItsDevice : AnswerJob → List DeviceInfo → AnswerEnd → Type 0
LacksItsDevice job devices how = (n : ℕ) → (how ≡ end.NoDevice n) ↔ ((n ≡ length devices) × (length devices ≤ job.device))

module _ (job : AnswerJob) (devices : List DeviceInfo) (how : AnswerEnd) where
  pub lacks_device : option_map machine_end (missing job (line_at job devices) (length devices)) ≡ Some how → LacksItsDevice job devices how
  lacks_device is n =
      let missing = missing_at job (line_at job devices) (length devices) n how is in
      let past = past_last job devices in
      (λ e. ((missing.0 e).0, past.0 (missing.0 e).1), λ r. missing.1 (r.0, past.1 r.1))

  pub has_device : HasLine job devices → is_of_line how ≡ true → LacksItsDevice job devices how
  has_device line way n = (λ e. absurd (is_other is_of_line way refl e), λ r. (let bad : Some true ≡ None = sym line ∙ (past_last job devices).1 r.1 in cc bad))

pub line_there : (job : AnswerJob) (line : Option Bool) (devices : ℕ) → option_map machine_end (missing job line devices) ≡ None → line ≡ Some true
line_there job (Some true) devices is = refl
line_there job (Some false) devices is = cc is
line_there job None devices is = cc is
