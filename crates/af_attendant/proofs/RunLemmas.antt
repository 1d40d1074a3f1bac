-- A machine that hears its caller on a link that is set up first.
use Rattle.std.proofs.Common.{◌≡◌, ◌≢◌, inl, inr, ℕ, true, false, Bool, List, [], ◌∷◌, ◌++◌, refl, sym, ap, ◌∙◌, subst, append_assoc, Result, Ok, Err, Option, None, Some}
use Rattle.clap.specs.Words.{Text}
use Rattle.af_io.specs.Observed.{Appended}
use Rattle.af_io.specs.Dial.{AppendedBack, IsFirstOf, ToldLink}
use Rattle.af_wire.specs.declared.order.Order.TheVariants.{Big}
use Rattle.af_wire.specs.Front.{setup_bytes}
use Rattle.af_toolkit.specs.Parts.{Stopped, after_deeds, called, end_among, followed, goes_on}
use Rattle.af_toolkit.proofs.PartLemmas.{front_followed}
use Rattle.af_command.specs.Acts.{Told}
use Rattle.af_request.specs.declared.reply.DeviceInfo.{DeviceInfo}
use Rattle.af_lib.specs.declared.fault.ConnFault.{ConnFault}
use Rattle.af_lib.specs.declared.fault.ConnFault.TheVariants as fault
use Rattle.af_lib.specs.Calls.{ConnState, IsSetUp}
use Rattle.af_lib.specs.Ring.{RingState}
use Rattle.af_toolkit.specs.Trace.{ClientState, new_client, client_after_setup, client_before_setup, setup_answer}
use Rattle.af_toolkit.specs.Ends.{client_of}
use Rattle.af_toolkit.proofs.ToolPartLemmas.{client_begun, setup_known}
use Rattle.af_answer.specs.declared.end.AnswerEnd.{AnswerEnd}
use Rattle.af_answer.specs.AnswerTrace.{connection_end}
use Rattle.af_answer.specs.AnswerRun.{DialSight}
use Rattle.af_attendant.specs.declared.job.AttendantJob.{AttendantJob}
use Rattle.af_attendant.specs.Line.{fresh_line}
use Rattle.af_attendant.specs.AttendantTrace.{AttendantOutcome, AttendantTrace, ToCome, Work, answers, exchanges, line_at, met_fault, sending, working}
use Rattle.af_attendant.specs.AttendantParts.{Seen, Went, attending, seen_as}
use Rattle.af_attendant.specs.Attended.{AttendantRan, FollowsTrace}
use Rattle.af_attendant.specs.AttendantWords.{AttendantWords, attendant_call, words_of_job}
use Rattle.af_attendant.specs.AttendantRun.{LinkRan, RanAsked, RanOver, sets_up, whole_trace}
use Rattle.af_attendant.specs.Rules.{on_hook}
use Rattle.af_attendant.proofs.AttendantPartLemmas.{added_on, is_attending}
use Rattle.af_attendant.proofs.AttendantStepLemmas.{added_sent, exchange_went, no_mark}
use Rattle.af_attendant.proofs.RuleLemmas.{Keeps, keeps_exchange, keeps_on}
use Rattle.af_attendant.proofs.MachineRuleLemmas.{all_keep}
use Rattle.af_attendant.proofs.MachineLemmas.{answers_on, rules_kept}

-- a machine on a link keeps the rules, whatever its setup is answered with
answers_keep : (job : AttendantJob) (devices : List DeviceInfo) (line : Option Bool) (b : ToCome) → Keeps job on_hook (answers_on job devices line b) (λ x c s. s ≡ on_hook)
answers_keep job devices (Some true) b = all_keep job b
answers_keep job devices (Some false) b = record { stage = on_hook; rules = refl; ends = refl }
answers_keep job devices None b = record { stage = on_hook; rules = refl; ends = refl }

whole_keep : (job : AttendantJob) (a : ToCome) → Keeps job on_hook (goes_on working sets_up (answers job) a) (λ x c s. s ≡ on_hook)
whole_keep job a =
    keeps_on job sets_up (answers job) a
    (keeps_exchange job met_fault [] (λ w. setup_bytes Big) (λ w. setup_answer Big w.input) (λ w. client_after_setup Big w.input) a on_hook on_hook refl refl (λ f. refl))
    (λ devices b s q. rw q.0 (answers_keep job devices (line_at job devices) b))

-- deeds that come before
follows_after : (d : Work) (t : AttendantTrace) {how : AnswerEnd} {done : Work} → FollowsTrace t how done → FollowsTrace (after_deeds working d t) how (d ++ done)
follows_after d t {how} {done} (inl within) = inl (within.0, (within.1.0, ap (λ (w : Work). d ++ w) within.1.1 ∙ sym (append_assoc d done within.1.0)))
follows_after d t {how} {done} (inr ended) = inr (ended.0, ap (λ (w : Work). d ++ w) ended.1)

stopped_follows : (o : AttendantOutcome (List DeviceInfo)) (next : List DeviceInfo × ToCome → AttendantTrace) (how : AnswerEnd) (did : Work) → Stopped attending o how did → FollowsTrace (followed working o.did o.end next) how did
stopped_follows o next how did (inl within) = inl (within.0, front_followed is_attending did o.did o.end next within.1)
stopped_follows o next how did (inr ended) = subst (λ (x : AttendantOutcome (List DeviceInfo)). FollowsTrace (followed working x.did x.end next) how did) (sym ended.2) (inr (ended.1, refl))

pub not_set_up_ran : {L : Type 0} {left sent : L → Option (List ℕ)} {faults : L → ℕ} (job : AttendantJob) {input : List ℕ} {old new : L} {ring : RingState} {f : ConnFault} {acts : Option (List Told)} {held : Option (List ℕ)} →
    IsSetUp Big left sent faults old new ring (Err f) → left old ≡ Some input → LinkRan job input (connection_end f) (seen_as (sent old) acts held) (seen_as (sent new) acts held)
unfolding whole_trace goes_on
not_set_up_ran {left} {sent} {faults} job {input} {old} {new} {ring} {f} {acts} {held} is told =
    let went : Went {X = List DeviceInfo} sets_up (Err (connection_end f)) (record { link = record { left = left old; client = client_before_setup Big; sent = sent old }; acts = acts; held = held; line = fresh_line }) (record { link = record { left = left new; client = new_client Big ring; sent = sent new }; acts = acts; held = held; line = fresh_line }) =
    exchange_went met_fault (λ f. refl) no_mark (λ w. setup_bytes Big) (λ w. setup_answer Big w.input) (λ w. client_after_setup Big w.input) _ _ acts held fresh_line (Err f) is.fresh (λ i t. (is.sends, setup_known Big left sent faults old new ring i (Err f) is t)) in
    let at : ToCome = record { wire = client_before_setup Big input; replies = went.replies []; line = fresh_line } in
    let c = (went.goes []).came at (input, told, refl) in
    let follows = stopped_follows (sets_up at) (λ y. answers job y.0 y.1) (connection_end f) c.0 c.1 in
    record { replies = went.replies []; done = c.0; added = c.2; followed = follows; kept = rules_kept job _ (whole_keep job at) follows }

-- one that was
pub set_up_ran : {L : Type 0} {left sent : L → Option (List ℕ)} {faults : L → ℕ} (job : AttendantJob) {input : List ℕ} {far : L} (conn : ConnState L) {how : AnswerEnd} {s' : Option (List ℕ)} {a a' : Option (List Told)} {h h' : Option (List ℕ)} →
    conn.order ≡ Big → conn.sequence ≡ 0 → IsSetUp Big left sent faults far conn.link conn.ring (Ok conn.devices) → left far ≡ Some input →
    ((i : List ℕ) → left conn.link ≡ Some i → AttendantRan job conn.devices (client_of conn i) how (seen_as (sent conn.link) a h) (seen_as s' a' h')) → LinkRan job input how (seen_as (sent far) a h) (seen_as s' a' h')
unfolding whole_trace goes_on
set_up_ran {left} {sent} {faults} job {input} {far} conn {how} {s'} {a} {a'} {h} {h'} same_order first is told answered =
    let k = setup_known Big left sent faults far conn.link conn.ring input (Ok conn.devices) is told (λ e. cc e) in
    let r = answered k.0 k.1 in
    let place : client_of conn k.0 ≡ client_after_setup Big input = client_begun Big conn k.0 same_order first ∙ k.3 in
    let at = λ (v : ClientState). (let b : ToCome = record { wire = v; replies = r.replies; line = fresh_line } in b) in
    let later = subst (λ (v : ClientState). FollowsTrace (answers job conn.devices (at v)) how r.done) place r.followed in
    let set : Appended (sent far) (setup_bytes Big) (sent conn.link) = is.sends.whole (λ e. cc e) in
    let setup = sending (setup_bytes Big) in
    let whole = λ (x : Result (List DeviceInfo) ConnFault).
    let o : AttendantOutcome (List DeviceInfo) = called setup (end_among met_fault x) (at (client_after_setup Big input)) in
    followed working o.did o.end (λ y. answers job y.0 y.1) in
    let follows = subst (λ (t : AttendantTrace). FollowsTrace t how (setup ++ r.done)) (ap whole k.2) (follows_after setup (answers job conn.devices (at (client_after_setup Big input))) later) in
    record {
      replies = r.replies;
      done = setup ++ r.done;
      added = added_on {b = seen_as (sent conn.link) a h} {w = setup} {v = r.done} (added_sent no_mark (setup_bytes Big) set) r.added;
      followed = follows;
      kept = rules_kept job _ (whole_keep job (record { wire = client_before_setup Big input; replies = r.replies; line = fresh_line })) follows;
    }

-- the first link of a dial
pub first_ran : {F : Type 0} (left sent : F → Option (List ℕ)) {asked : AttendantWords} (job : AttendantJob) {how : AnswerEnd} (far : F) {after : Option (List ℕ)} (links : List ToldLink) {between : Option (List ToldLink)} {back : Option (List (List ℕ))} {old new : Seen DialSight} →
    words_of_job asked.server job ≡ asked → old.far.links ≡ Some links → IsFirstOf left sent far old.far.links between → new.far.links ≡ between → back ≡ old.far.back → AppendedBack back after new.far.back →
    ((input : List ℕ) → left far ≡ Some input → RanOver job input how (seen_as (sent far) old.acts old.held) (seen_as after new.acts new.held)) → RanAsked asked how old new
first_ran left sent job far [] {between} of told first stay same added ran = absurd (subst (λ (l : Option (List ToldLink)). IsFirstOf left sent far l between) told first)
first_ran left sent job {how} far {after} (link ∷ links) {between} {old} {new} of told first stay same added ran =
    let is = subst (λ (l : Option (List ToldLink)). IsFirstOf left sent far l between) told first in
    record {
      job = job;
      is = of;
      first = link;
      rest = links;
      links_are = told;
      links_stay = stay ∙ is.2;
      sent = after;
      given_back = subst (λ (b : Option (List (List ℕ))). AppendedBack b after new.far.back) same added;
      ran = subst (λ (s : Option (List ℕ)). RanOver job link.gives how (seen_as s old.acts old.held) (seen_as after new.acts new.held)) is.1 (ran link.gives is.0);
    }

-- words ask one thing
pub one_asked : (words : List Text) (a b : AttendantWords) → attendant_call words ≡ Some a → attendant_call words ≡ Some b → b ≡ a
one_asked words a b is also = let both : Some b ≡ Some a = sym also ∙ is in cc both
