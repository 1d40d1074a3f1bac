-- A machine on a link that is set up first.
use Rattle.std.proofs.Common.{◌≡◌, ◌≢◌, inl, inr, ℕ, true, List, [], ◌∷◌, refl, sym, ap, ◌∙◌, subst, Result, Ok, Err, Option, Some}
use Rattle.clap.specs.Words.{Text}
use Rattle.af_io.specs.Observed.{Appended}
use Rattle.af_io.specs.Flow.{AppendedPrefix}
use Rattle.af_io.specs.Dial.{AppendedBack, IsFirstOf, ToldLink}
use Rattle.af_wire.specs.declared.order.Order.TheVariants.{Big}
use Rattle.af_wire.specs.Front.{setup_bytes}
use Rattle.af_toolkit.specs.Parts.{called, end_among, followed, goes_on}
use Rattle.af_process.specs.Acts.{Told}
use Rattle.af_request.specs.declared.reply.DeviceInfo.{DeviceInfo}
use Rattle.af_lib.specs.declared.fault.ConnFault.{ConnFault}
use Rattle.af_lib.specs.declared.fault.ConnFault.TheVariants as fault
use Rattle.af_lib.specs.Calls.{ConnState, IsSetUp}
use Rattle.af_lib.specs.Ring.{RingState}
use Rattle.af_toolkit.specs.Trace.{ClientState, new_client, client_after_setup, client_before_setup, setup_answer}
use Rattle.af_toolkit.specs.Ends.{client_of}
use Rattle.af_toolkit.proofs.ToolPartLemmas.{client_begun, setup_known}
use Rattle.af_answer.specs.declared.end.AnswerEnd.{AnswerEnd}
use Rattle.af_answer.specs.declared.end.AnswerEnd.TheVariants as end
use Rattle.af_answer.specs.declared.job.AnswerJob.{AnswerJob}
use Rattle.af_answer.specs.AnswerTrace.{MachineOutcome, ToCome, answers, connection_end, deeds_of_work, doing, met_fault, sending}
use Rattle.af_answer.specs.AnswerParts.{Seen, Went, is_of_calls, seen_as}
use Rattle.af_answer.specs.Answered.{AnswerRan, RanAs}
use Rattle.af_answer.specs.AnswerWords.{AnswerWords, answer_words, words_of_job}
use Rattle.af_answer.specs.AnswerRun.{DialSight, LinkRan, RanAsked, RanOver, sets_up, whole_trace}
use Rattle.af_answer.proofs.AnswerPartLemmas.{added_on, matches_after, stopped_matches}
use Rattle.af_answer.proofs.AnswerStepLemmas.{added_sent, exchange_went}

-- a fault of a connection is an end of calls
fault_of_calls : (f : ConnFault) → is_of_calls (connection_end f) ≡ true
fault_of_calls fault.LinkFault = refl
fault_of_calls f = refl

-- a link that was not set up was answered with a fault, unless it failed
setup_failed : (input : List ℕ) (f : ConnFault) {sent sent' : Option (List ℕ)} → AppendedPrefix sent (setup_bytes Big) sent' →
    (let r : Result (List DeviceInfo) ConnFault = Err f in r ≢ Err fault.LinkFault → r ≡ setup_answer Big input) →
    (devices : List DeviceInfo) → setup_answer Big input ≡ Ok devices → (connection_end f ≡ end.LinkFault) × AppendedPrefix sent (setup_bytes Big) sent'
setup_failed input fault.LinkFault front known devices set = (refl, front)
setup_failed input f front known devices set = let bad : (let r : Result (List DeviceInfo) ConnFault = Err f in r ≡ Ok devices) = known (λ e. cc e) ∙ set in cc bad

pub not_set_up_ran : {L : Type 0} {left sent : L → Option (List ℕ)} {faults : L → ℕ} (job : AnswerJob) {input : List ℕ} {old new : L} {ring : RingState} {f : ConnFault} {acts : Option (List Told)} {held : Option (List ℕ)} →
    IsSetUp Big left sent faults old new ring (Err f) → left old ≡ Some input → LinkRan job input (connection_end f) (seen_as (sent old) acts held) (seen_as (sent new) acts held)
unfolding whole_trace goes_on
not_set_up_ran {left} {sent} {faults} job {input} {old} {new} {ring} {f} {acts} {held} is told =
    let known = setup_known Big left sent faults old new ring input (Err f) is told in
    let went : Went {X = List DeviceInfo} sets_up (Err (connection_end f)) (seen_as (record { left = left old; client = client_before_setup Big; sent = sent old }) acts held) (seen_as (record { left = left new; client = new_client Big ring; sent = sent new }) acts held) =
    exchange_went met_fault (λ f. refl) (λ w. setup_bytes Big) (λ w. setup_answer Big w.input) (λ w. client_after_setup Big w.input) _ _ acts held (Err f) is.fresh (λ i t. (is.sends, setup_known Big left sent faults old new ring i (Err f) is t)) in
    let at : ToCome = record { wire = client_before_setup Big input; runs = went.runs [] } in
    let c = (went.goes []).came at (input, told, refl) in
    record {
      runs = went.runs [];
      done = c.0;
      added = c.2;
      followed = stopped_matches (sets_up at) (λ y. answers job y.0 y.1) (connection_end f) c.0 (fault_of_calls f) c.1;
      attended = λ devices set. inl (setup_failed input f is.sends.part (λ sound. (known sound).2) devices set);
    }

-- one that was
pub set_up_ran : {L : Type 0} {left sent : L → Option (List ℕ)} {faults : L → ℕ} (job : AnswerJob) {input : List ℕ} {far : L} (conn : ConnState L) {how : AnswerEnd} {s' : Option (List ℕ)} {a a' : Option (List Told)} {h h' : Option (List ℕ)} →
    conn.order ≡ Big → conn.sequence ≡ 0 → IsSetUp Big left sent faults far conn.link conn.ring (Ok conn.devices) → left far ≡ Some input →
    ((i : List ℕ) → left conn.link ≡ Some i → AnswerRan job conn.devices (client_of conn i) how (seen_as (sent conn.link) a h) (seen_as s' a' h')) → LinkRan job input how (seen_as (sent far) a h) (seen_as s' a' h')
unfolding whole_trace goes_on
set_up_ran {left} {sent} {faults} job {input} {far} conn {how} {s'} {a} {a'} {h} {h'} same_order first is told answered =
    let k = setup_known Big left sent faults far conn.link conn.ring input (Ok conn.devices) is told (λ e. cc e) in
    let r = answered k.0 k.1 in
    let place : client_of conn k.0 ≡ client_after_setup Big input = client_begun Big conn k.0 same_order first ∙ k.3 in
    let ran = subst (λ (v : ClientState). RanAs v.order job conn.devices (answers job conn.devices (record { wire = v; runs = r.runs })) r.runs how r.done) place r.ran in
    let set : Appended (sent far) (setup_bytes Big) (sent conn.link) = is.sends.whole (λ e. cc e) in
    let setup = deeds_of_work (sending (setup_bytes Big)) in
    let whole = λ (x : Result (List DeviceInfo) ConnFault).
    let o : MachineOutcome (List DeviceInfo) = called setup (end_among met_fault x) (record { wire = client_after_setup Big input; runs = r.runs }) in
    followed doing o.did o.end (λ y. answers job y.0 y.1) in
    record {
      runs = r.runs;
      done = doing.joined setup r.done;
      added = added_on {b = seen_as (sent conn.link) a h} {w = sending (setup_bytes Big)} {v = r.done.work} (added_sent (setup_bytes Big) set) r.added;
      followed = matches_after setup (ap whole (sym k.2)) ran.followed;
      attended = λ devices same.
          let both : (let x : Result (List DeviceInfo) ConnFault = Ok conn.devices in x ≡ Ok devices) = k.2 ∙ same in
          let devices_are : conn.devices ≡ devices = cc in
          inr (r.done, refl, subst (λ (ds : List DeviceInfo). RanAs Big job ds (answers job ds (record { wire = client_after_setup Big input; runs = r.runs })) r.runs how r.done) devices_are ran);
    }

-- the first link of a dial
pub first_ran : {F : Type 0} (left sent : F → Option (List ℕ)) {asked : AnswerWords} (job : AnswerJob) {how : AnswerEnd} (far : F) {after : Option (List ℕ)} (links : List ToldLink) {between : Option (List ToldLink)} {back : Option (List (List ℕ))} {old new : Seen DialSight} →
    words_of_job asked.server job ≡ asked → old.far.links ≡ Some links → IsFirstOf left sent far old.far.links between → new.far.links ≡ between → back ≡ old.far.back → AppendedBack back after new.far.back →
    ((input : List ℕ) → left far ≡ Some input → RanOver job input how (seen_as (sent far) old.acts old.held) (seen_as after new.acts new.held)) → RanAsked asked how old new
first_ran left sent job far [] {between} of told first stay same added ran = absurd (subst (λ (l : Option (List ToldLink)). IsFirstOf left sent far l between) told first)
first_ran left sent job {how} far {after} (link ∷ links) {between} {old} {new} of told first stay same added ran =
    let is = subst (λ (l : Option (List ToldLink)). IsFirstOf left sent far l between) told first in
    record {
      job = job;
      is = of;
      first = link;
      rest = links;
      links_are = told;
      links_stay = stay ∙ is.2;
      sent = after;
      given_back = subst (λ (b : Option (List (List ℕ))). AppendedBack b after new.far.back) same added;
      ran = subst (λ (s : Option (List ℕ)). RanOver job link.gives how (seen_as s old.acts old.held) (seen_as after new.acts new.held)) is.1 (ran link.gives is.0);
    }

-- words ask one thing
pub one_asked : (words : List Text) (a b : AnswerWords) → answer_words words ≡ Some a → answer_words words ≡ Some b → b ≡ a
one_asked words a b is also = let both : Some b ≡ Some a = sym also ∙ is in cc both
