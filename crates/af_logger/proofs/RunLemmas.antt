-- The tool log on a link that is set up first.
use Rattle.std.proofs.Common.{◌≡◌, inl, inr, ℕ, List, [], ◌∷◌, refl, sym, ◌∙◌, subst, Ok, Err, Option, Some}
use Rattle.clap.specs.Words.{Text}
use Rattle.af_io.proofs.AppendedLemmas.{appended_none}
use Rattle.af_io.specs.Dial.{AppendedBack, IsFirstOf, ToldLink}
use Rattle.af_wire.specs.declared.order.Order.{Order}
use Rattle.af_wire.specs.Front.{setup_bytes}
use Rattle.af_lib.specs.declared.fault.ConnFault.{ConnFault}
use Rattle.af_lib.specs.Calls.{ConnState, IsSetUp}
use Rattle.af_lib.specs.Ring.{RingState}
use Rattle.af_toolkit.specs.declared.end.ToolEnd.{ToolEnd}
use Rattle.af_toolkit.specs.declared.end.ToolEnd.TheVariants as tool
use Rattle.af_toolkit.specs.Trace.{ClientState, client_after_setup, fault_end, new_client, setup_answer}
use Rattle.af_toolkit.specs.Ends.{client_of}
use Rattle.af_toolkit.specs.ToolParts.{LinkSight}
use Rattle.af_toolkit.proofs.ToolPartLemmas.{client_begun, on_link, setup_known}
use Rattle.af_logger.specs.declared.job.LogJob.{LogJob}
use Rattle.af_logger.specs.Logged.{RanBy, device_of}
use Rattle.af_logger.specs.LogWords.{LogWords, log_call, words_of_job}
use Rattle.af_logger.specs.LogRun.{IsNotSetUp, RanAsked, RanOver, Seen}

module _ {L : Type 0} (order : Order) {left sent : L → Option (List ℕ)} {faults : L → ℕ} {old new : L} {ring : RingState} {input : List ℕ} where
  -- a link that was not set up
  pub not_set_up : (f : ConnFault) → IsSetUp order left sent faults old new ring (Err f) → left old ≡ Some input → IsNotSetUp order input (fault_end f) (sent old) (sent new)
  not_set_up f is told =
      let sight : L → LinkSight = λ l. record { left = left l; client = new_client order ring; sent = sent l } in
      on_link (Err f) (setup_answer order input) (client_after_setup order input) (setup_bytes order) (sight old) (sight new) is.sends (setup_known order left sent faults old new ring input (Err f) is told)

-- memory ran out before anything was sent
pub starved : (order : Order) (input : List ℕ) (sent : Option (List ℕ)) → IsNotSetUp order input tool.OutOfMemory sent sent
starved order input sent = inl (refl, record { front = []; rest = setup_bytes order; whole = refl; appended = appended_none sent })

-- one that was
pub set_up_ran : {L : Type 0} {order : Order} {left sent : L → Option (List ℕ)} {faults : L → ℕ} (job : LogJob) {input : List ℕ} {far : L} (conn : ConnState L) {how : ToolEnd} (s' : Option (List ℕ)) {seen seen' : Seen} →
    conn.order ≡ order → conn.sequence ≡ 0 → IsSetUp order left sent faults far conn.link conn.ring (Ok conn.devices) → left far ≡ Some input →
    ((i : List ℕ) → left conn.link ≡ Some i → RanBy (device_of job conn.devices) job (client_of conn i) how (sent conn.link) s' seen.desk seen'.desk seen.held seen'.held) → RanOver order job input how (sent far) s' seen seen'
set_up_ran {order = order} {left} {sent} {faults} job {input} {far} conn {how} s' {seen} {seen'} same first is told ran =
    let k = setup_known order left sent faults far conn.link conn.ring input (Ok conn.devices) is told (λ e. cc e) in
    let place : client_of conn k.0 ≡ client_after_setup order input = client_begun order conn k.0 same first ∙ k.3 in
    inr (
      conn.devices,
      sent conn.link,
      sym k.2,
      is.sends.whole (λ e. cc e),
      subst (λ (w : ClientState). RanBy (device_of job conn.devices) job w how (sent conn.link) s' seen.desk seen'.desk seen.held seen'.held) place (ran k.0 k.1),
    )

-- the first link of a dial
pub first_ran : {F : Type 0} (left sent : F → Option (List ℕ)) (server : Text) (order : Order) (job : LogJob) {how : ToolEnd} (far : F) (after : Option (List ℕ)) (links : List ToldLink) {before between links' : Option (List ToldLink)} {back back' middle : Option (List (List ℕ))} {seen seen' : Seen} →
    before ≡ Some links → IsFirstOf left sent far before between → links' ≡ between → middle ≡ back → AppendedBack middle after back' →
    ((input : List ℕ) → left far ≡ Some input → RanOver order job input how (sent far) after seen seen') → RanAsked (words_of_job server order job) how links links' back back' seen seen'
first_ran left sent server order job far after [] {between = between} told first stay same added ran = absurd (subst (λ (l : Option (List ToldLink)). IsFirstOf left sent far l between) told first)
first_ran left sent server order job {how} far after (link ∷ links) {between = between} {back' = back'} {seen = seen} {seen' = seen'} told first stay same added ran =
    let is = subst (λ (l : Option (List ToldLink)). IsFirstOf left sent far l between) told first in
    record {
      job = job;
      is_asked = refl;
      first = link;
      rest = links;
      links_are = refl;
      links_stay = stay ∙ is.2;
      sent = after;
      given_back = subst (λ (b : Option (List (List ℕ))). AppendedBack b after back') same added;
      ran = subst (λ (s : Option (List ℕ)). RanOver order job link.gives how s after seen seen') is.1 (ran link.gives is.0);
    }

-- words ask one thing
pub one_asked : (words : List Text) (a b : LogWords) → log_call words ≡ Some a → log_call words ≡ Some b → b ≡ a
one_asked words a b is also = let both : Some b ≡ Some a = sym also ∙ is in cc both
