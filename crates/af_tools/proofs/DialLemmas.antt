-- Tools that dial: one server, or the two of a relay.
use Rattle.std.proofs.Common.{◌≡◌, ℕ, ◌≤◌, ◌⊎◌, inl, inr, Bool, true, false, List, [], ◌∷◌, ◌++◌, length, sym, ap, ◌∙◌, subst, refl, append-nil, ◌+◌, arith, length-append, Result, Ok, Err, Option, None, Some}
use Rattle.std.proofs.lemmas.List.{append_cancel_left}
use Rattle.clap.specs.Words.{Text}
use Rattle.af_io.specs.Observed.{Appended}
use Rattle.af_io.specs.Dial.{AppendedBack, IsFirstOf, ToldLink}
use Rattle.af_request.specs.declared.reply.DeviceInfo.{DeviceInfo}
use Rattle.af_lib.specs.declared.fault.ConnFault.{ConnFault}
use Rattle.af_lib.specs.declared.fault.ConnFault.TheVariants as fault
use Rattle.af_lib.specs.Ring.{RingState}
use Rattle.af_wire.specs.declared.order.Order.{Order}
use Rattle.af_wire.specs.Front.{setup_bytes}
use Rattle.af_lib.specs.Calls.{IsFresh, IsSetUp}
use Rattle.af_toolkit.specs.declared.end.ToolEnd.{ToolEnd}
use Rattle.af_toolkit.specs.declared.end.ToolEnd.TheVariants as end
use Rattle.af_cli.specs.declared.job.PassJob.{PassJob}
use Rattle.af_cli.specs.declared.job.Task.{Task}
use Rattle.af_toolkit.specs.Trace.{Trace, ClientState, new_client, connects, fault_end, client_after_setup, setup_answer, Finish, done, not_dialled, refused, sound_lost, too_long}
use Rattle.af_toolkit.specs.Parts.{Stopped, called}
use Rattle.af_toolkit.specs.ToolParts.{LinkSight}
use Rattle.af_relay.specs.RelayParts.{MatchesRelay, RelayDid, SendsBoth, relaying}
use Rattle.af_tools.specs.Run.{is_of_job, job_reads, job_strict, no_client, relay_trace, relays_to, sets_up_from, sets_up_to, task_trace, IsEarly, IsServed, JobRan, ReturnsBoth}
use Rattle.af_tools.specs.Reading.{TellsIfRead, UsesSource, is_unfit}
use Rattle.af_toolkit.specs.Ends.{MatchesTrace, ObservedTrace, is_outer}
use Rattle.af_relay.specs.Pass.{Both, RelayDeeds, RelayTrace, apass_trace, both, deeds, doing, relay_of, relays}
use Rattle.af_tools.specs.Sounds.{most_bytes}
use Rattle.af_cli.specs.Words.{Job, one, relay}
use Rattle.af_io.proofs.ConsumedLemmas.{consumed_known}
use Rattle.af_io.proofs.AppendedLemmas.{appended_none, appended_on}
use Rattle.af_toolkit.proofs.ToolPartLemmas.{OnLink, on_link, part_answer, setup_known}
use Rattle.af_toolkit.proofs.ToolEndLemmas.{done_unless_outer, ends_as}
use Rattle.af_tools.proofs.EndLemmas.{never}
use Rattle.af_relay.proofs.RelayPartLemmas.{matches_early, on_first, on_second, relay_goes_on, relay_stops, sent_stopped}
use Rattle.af_cli.specs.declared.job.Task.TheVariants as task
use Rattle.af_sound.specs.declared.head.SoundForm.{SoundForm}

-- what a link was sent in all is its entry
pub consumed_entry : (back back' : Option (List (List ℕ))) (before after : Option (List ℕ)) (first sends : List ℕ) → before ≡ Some first → Appended before sends after → AppendedBack back after back' → Appended back ((first ++ sends) ∷ []) back'
consumed_entry back back' before None first sends is appended entry = subst (λ (b : Option (List (List ℕ))). Appended back ((first ++ sends) ∷ []) b) (sym entry) tt
consumed_entry back back' None (Some all) first sends is appended entry = cc is
consumed_entry back back' (Some x) (Some all) first sends is appended entry =
    let same : x ≡ first = cc in
    let whole : all ≡ first ++ sends = appended ∙ ap (λ (l : List ℕ). l ++ sends) same in
    subst (λ (e : List ℕ). Appended back (e ∷ []) back') whole entry

-- a list that stays has grown by nothing
pub appended_nothing : (before after : Option (List ℕ)) (first sends : List ℕ) → before ≡ Some first → Appended before sends after → after ≡ before → sends ≡ []
appended_nothing before after first sends is appended same =
    let whole : first ≡ first ++ sends = subst (λ (b : Option (List ℕ)). Appended b sends (Some first)) is (subst (λ (a : Option (List ℕ)). Appended before sends a) (same ∙ is) appended) in
    append_cancel_left first sends [] (sym whole ∙ sym (append-nil first))

early_none : (j : Job) → IsEarly j doing.nothing
early_none (one server order task) = (refl, refl)
early_none (relay from to order job) = (inl refl, refl)

-- a relay that something from outside ended before it did anything
idle : {relay : RelayTrace} {how : ToolEnd} → is_outer how ≡ true → MatchesRelay relay how doing.nothing
idle {relay} outer = matches_early outer (relay.did, refl)

-- nothing was dialled, or no link came
pub ran_none : (j : Job) (bytes : List ℕ) (how : ToolEnd) (links : List ToldLink) (links' : Option (List ToldLink)) (held : Option (List ℕ)) (back back' : Option (List (List ℕ))) → is_outer how ≡ true → links' ≡ Some links → back' ≡ back →
    JobRan j bytes how links links' held held back back'
ran_none j bytes how links links' held back back' outer same is = record { ran = record { did = doing.nothing; matches = idle outer; sink = appended_none held; sent = inl (refl, same, is) }; early = λ memory. early_none j }

-- nothing was sent on the second link: memory ran out
pub over_none : (whole : RelayTrace) (how : ToolEnd) (sent : Both (Option (List ℕ))) (held : Option (List ℕ)) → is_outer how ≡ true → RelayDid whole how held held (λ did. SendsBoth did sent sent × (how ≡ end.OutOfMemory → did ≡ doing.nothing))
over_none whole how sent held outer = record { did = doing.nothing; matches = idle outer; sink = appended_none held; sent = ((appended_none sent.from, appended_none sent.to), λ memory. refl) }

pub setup_memory : (f : ConnFault) → (let r : Result (List DeviceInfo) ConnFault = Err f in IsFresh r) → fault_end f ≡ end.OutOfMemory → ⊥
setup_memory fault.OutOfMemory fresh e = absurd fresh
setup_memory (fault.Spent first) fresh e = absurd fresh
setup_memory f fresh e = cc

module _ (order : Order) where
  -- the link of the one server was used, and given back
  pub ran_one : (server : Text) (task : Task) (bytes : List ℕ) (how : ToolEnd) {F : Type 0} (left_of sent_of : F → Option (List ℕ)) (far : F) (links : List ToldLink) {links' links'' : Option (List ToldLink)} {after held held' : Option (List ℕ)} {back back' back'' : Option (List (List ℕ))} →
      IsFirstOf left_of sent_of far (Some links) links' → ((input : List ℕ) → left_of far ≡ Some input → ObservedTrace (connects order input (λ devices w. task_trace task devices bytes w)) how (sent_of far) after held held') → back' ≡ back → AppendedBack back' after back'' → links'' ≡ links' →
      (how ≡ end.OutOfMemory → after ≡ sent_of far) → JobRan (one server order task) bytes how links links'' held held' back back''
  ran_one server task bytes how left_of sent_of far [] first follows is_back entry is_links memory = absurd first
  ran_one server task bytes how left_of sent_of far (link ∷ rest) {after} {back} {back''} first follows is_back entry is_links memory =
      let f = follows link.gives first.0 in
      let e = f.ended in
      record {
        ran = record {
          did = deeds f.sends [] f.output;
          matches = record { recorded = e; played = record { unsent = []; unwritten = e.unwritten; sent = refl; wrote = e.wrote; whole = λ inner. (let w = e.whole inner in (w.0, refl, w.2)) } };
          sink = f.sink;
          sent = inr (link, rest, back'', refl, consumed_entry back back'' (sent_of far) after link.sent f.sends first.1 f.link (subst (λ (b : Option (List (List ℕ))). AppendedBack b after back'') is_back entry), inl (refl, is_links ∙ first.2, refl));
        };
        early = λ none. (appended_nothing (sent_of far) after link.sent f.sends first.1 f.link (memory none), refl);
      }

  -- a link that was to be set up, as it tells
  module _ {L : Type 0} (left sent : L → Option (List ℕ)) (faults : L → ℕ) (old new : L) (ring : RingState) (input : List ℕ) where
    abbrev set_up_link : L → LinkSight
    set_up_link link = record { left = left link; client = new_client order ring; sent = sent link }

    on_setup : (result : Result (List DeviceInfo) ConnFault) → IsSetUp order left sent faults old new ring result → left old ≡ Some input → OnLink (part_answer result) (setup_answer order input) (client_after_setup order input) (setup_bytes order) (set_up_link old) (set_up_link new)
    on_setup result is told = on_link result _ _ _ (set_up_link old) (set_up_link new) is.sends (setup_known order left sent faults old new ring input result is told)

    -- one that was not set up: what it was sent, and where the part that sets it up stopped
    unset : (place : List ℕ → RelayDeeds) → ((a b : List ℕ) → place (a ++ b) ≡ doing.joined (place a) (place b)) → (f : ConnFault) (there : Both ClientState) → IsSetUp order left sent faults old new ring (Err f) → left old ≡ Some input →
        (sends : List ℕ) × Stopped (relaying refused) (called (place (setup_bytes order)) (setup_answer order input) there) (fault_end f) (place sends) × Appended (sent old) sends (sent new)
    unset place placed f there is told = sent_stopped place placed (setup_answer order input) (client_after_setup order input) (setup_bytes order) there (set_up_link old) (set_up_link new) (on_setup (Err f) is told)

  -- A relay whose first link is set up: the second link was set up, and the relay went on.
  module _ (job : PassJob) (from : List DeviceInfo) (v : ClientState) where
    pub over_answered : {L : Type 0} (left sent : L → Option (List ℕ)) (faults : L → ℕ) (link : ToldLink) (old new : L) (ring : RingState) (devices : List DeviceInfo) {how : ToolEnd} (s s' t'' : Option (List ℕ)) {h h' : Option (List ℕ)} → IsSetUp order left sent faults old new ring (Ok devices) → left old ≡ Some link.gives → (how ≡ end.OutOfMemory → ⊥) →
        ((a : List ℕ) → left new ≡ Some a → RelayDid (apass_trace job from devices v (new_client order ring a)) how h h' (λ did. SendsBoth did (both s (sent new)) (both s' t''))) →
        RelayDid (relay_of (relays_to order job (link ∷ []) from (both v (no_client order)))) how h h' (λ did. SendsBoth did (both s (sent old)) (both s' t'') × (how ≡ end.OutOfMemory → did ≡ doing.nothing))
    over_answered left sent faults link old new ring devices s s' t'' is told undone follows =
        let bytes = setup_bytes order in
        let on = on_setup left sent faults old new ring link.gives (Ok devices) is told in
        let f = follows on.1.0 on.1.1 in
        let set = ap (λ (r : Result (List DeviceInfo) ConnFault). called (on_second bytes) r (both v (client_after_setup order link.gives))) on.0 ∙ ap (λ (w : ClientState). called (on_second bytes) (let r : Result (List DeviceInfo) ConnFault = Ok devices in r) (both v w)) on.1.2 in
        record {
          did = doing.joined (on_second bytes) f.did;
          matches = relay_goes_on (sets_up_to order link.gives) (λ to. relays job from to) set f.matches;
          sink = f.sink;
          sent = ((f.sent.0, appended_on (sent old) (sent new) t'' bytes f.did.to on.2 f.sent.1), λ memory. absurd (undone memory));
        }

    -- it was not set up
    pub over_refused : {L : Type 0} (left sent : L → Option (List ℕ)) (faults : L → ℕ) (link : ToldLink) (old new : L) (ring : RingState) (f : ConnFault) (s : Option (List ℕ)) {h : Option (List ℕ)} → IsSetUp order left sent faults old new ring (Err f) → left old ≡ Some link.gives → (fault_end f ≡ end.OutOfMemory → ⊥) →
        RelayDid (relay_of (relays_to order job (link ∷ []) from (both v (no_client order)))) (fault_end f) h h (λ did. SendsBoth did (both s (sent old)) (both s (sent new)) × (fault_end f ≡ end.OutOfMemory → did ≡ doing.nothing))
    over_refused left sent faults link old new ring f s {h} is told undone =
        let u = unset left sent faults old new ring link.gives on_second (λ a b. refl) f (both v (client_after_setup order link.gives)) is told in
        record { did = on_second u.0; matches = relay_stops (sets_up_to order link.gives) (λ to. relays job from to) u.1; sink = appended_none h; sent = ((appended_none s, u.2), λ memory. absurd (undone memory)) }

    -- the second server could not be dialled
    pub to_none : {how : ToolEnd} (links : List ToldLink) (links' : Option (List ToldLink)) (sent held : Option (List ℕ)) (back back' back'' : Option (List (List ℕ))) → is_outer how ≡ true → links' ≡ Some links → back' ≡ back → {given : Option (List ℕ)} → given ≡ sent → AppendedBack back' given back'' →
        RelayDid (relay_of (relays_to order job links from (both v (no_client order)))) how held held (λ did. ReturnsBoth sent links links' did back back'' × (how ≡ end.OutOfMemory → did ≡ doing.nothing))
    to_none links links' sent held back back' back'' outer same is alike entry =
        let first = subst (λ (b : Option (List (List ℕ))). AppendedBack b sent back'') is (subst (λ (x : Option (List ℕ)). AppendedBack back' x back'') alike entry) in
        record { did = doing.nothing; matches = idle outer; sink = appended_none held; sent = ((sent, back'', appended_none sent, first, inl (refl, same, refl)), λ memory. refl) }

    -- both links were used, and given back
    pub to_over : {F : Type 0} (left_of sent_of : F → Option (List ℕ)) (far : F) {how : ToolEnd} (links : List ToldLink) {links' links'' : Option (List ToldLink)} (sent sent' after : Option (List ℕ)) {held held' : Option (List ℕ)} {back back' : Option (List (List ℕ))} (between : Option (List (List ℕ))) {back'' : Option (List (List ℕ))} →
        IsFirstOf left_of sent_of far (Some links) links' → ((link : ToldLink) → left_of far ≡ Some link.gives → RelayDid (relay_of (relays_to order job (link ∷ []) from (both v (no_client order)))) how held held' (λ did. SendsBoth did (both sent (sent_of far)) (both sent' after) × (how ≡ end.OutOfMemory → did ≡ doing.nothing))) →
        back' ≡ back → AppendedBack back' sent' between → AppendedBack between after back'' → links'' ≡ links' →
        RelayDid (relay_of (relays_to order job links from (both v (no_client order)))) how held held' (λ did. ReturnsBoth sent links links'' did back back'' × (how ≡ end.OutOfMemory → did ≡ doing.nothing))
    to_over left_of sent_of far [] sent sent' after between gives goes is_back first second is_links = absurd gives
    to_over left_of sent_of far (link ∷ rest) sent sent' after between {back''} gives goes is_back first second is_links =
        let r = goes link gives.0 in
        let entry = consumed_entry between back'' (sent_of far) after link.sent r.did.to gives.1 r.sent.0.1 second in
        let before = subst (λ (b : Option (List (List ℕ))). AppendedBack b sent' between) is_back first in
        record { did = r.did; matches = r.matches; sink = r.sink; sent = ((sent', between, r.sent.0.0, before, inr (link, rest, back'', refl, entry, (is_links ∙ gives.2, refl))), r.sent.1) }

  module _ (from to : Text) (job : PassJob) (bytes : List ℕ) where
    -- the first link was set up, and the relay went on
    pub ran_over_both : {F : Type 0} (left_of sent_of : F → Option (List ℕ)) (faults : F → ℕ) (old new : F) (ring : RingState) (devices : List DeviceInfo) {how : ToolEnd} (links : List ToldLink) {links1 links' : Option (List ToldLink)} {held held' : Option (List ℕ)} {back back1 back' : Option (List (List ℕ))} →
        IsFirstOf left_of sent_of old (Some links) links1 → IsSetUp order left_of sent_of faults old new ring (Ok devices) → back1 ≡ back →
        ((rest : List ToldLink) (a : List ℕ) → links1 ≡ Some rest → left_of new ≡ Some a →
        RelayDid (relay_of (relays_to order job rest devices (both (new_client order ring a) (no_client order)))) how held held' (λ did. ReturnsBoth (sent_of new) rest links' did back1 back' × (how ≡ end.OutOfMemory → did ≡ doing.nothing))) →
        JobRan (relay from to order job) bytes how links links' held held' back back'
    ran_over_both left_of sent_of faults old new ring devices [] gives is same goes = absurd gives
    ran_over_both left_of sent_of faults old new ring devices (link ∷ rest) {back} gives is same goes =
        let setup = setup_bytes order in
        let on = on_setup left_of sent_of faults old new ring link.gives (Ok devices) is gives.0 in
        let r = goes rest on.1.0 gives.2 on.1.1 in
        let back_given = r.sent.0 in
        let set = ap (λ (r : Result (List DeviceInfo) ConnFault). called (on_first setup) r (both (client_after_setup order link.gives) (no_client order))) on.0 ∙ ap (λ (w : ClientState). called (on_first setup) (let r : Result (List DeviceInfo) ConnFault = Ok devices in r) (both w (no_client order))) on.1.2 in
        let first = subst (λ (x : Option (List (List ℕ))). AppendedBack x back_given.0 back_given.1) same back_given.3 in
        let whole = appended_on (sent_of old) (sent_of new) back_given.0 setup r.did.from on.2 back_given.2 in
        record {
          ran = record {
            did = doing.joined (on_first setup) r.did;
            matches = relay_goes_on (sets_up_from order link.gives) (λ from. relays_to order job rest from) set r.matches;
            sink = r.sink;
            sent = inr (link, rest, back_given.1, refl, consumed_entry back back_given.1 (sent_of old) back_given.0 link.sent (setup ++ r.did.from) gives.1 whole first, back_given.4);
          };
          early = λ memory. (let none = r.sent.1 memory in (inr (ap (λ (d : RelayDeeds). setup ++ d.from) none ∙ append-nil setup), ap (λ (d : RelayDeeds). d.to) none));
        }

    -- the first link was given back with what it had been sent
    ran_first : {F : Type 0} (left_of sent_of : F → Option (List ℕ)) (far : F) {how : ToolEnd} (links : List ToldLink) {links' links'' : Option (List ToldLink)} (after : Option (List ℕ)) {held : Option (List ℕ)} {back back' back'' : Option (List (List ℕ))} (sends : List ℕ) → IsFirstOf left_of sent_of far (Some links) links' →
        MatchesRelay (relay_trace order job links) how (on_first sends) → Appended (sent_of far) sends after → back' ≡ back → AppendedBack back' after back'' → links'' ≡ links' → (how ≡ end.OutOfMemory → (sends ≡ []) ⊎ (sends ≡ setup_bytes order)) → JobRan (relay from to order job) bytes how links links'' held held back back''
    ran_first left_of sent_of far [] after sends gives matches appended is_back entry is_links early = absurd gives
    ran_first left_of sent_of far (link ∷ rest) after {held} {back} {back''} sends gives matches appended is_back entry is_links early = record {
      ran = record {
        did = on_first sends;
        matches = matches;
        sink = appended_none held;
        sent = inr (link, rest, back'', refl, consumed_entry back back'' (sent_of far) after link.sent sends gives.1 appended (subst (λ (b : Option (List (List ℕ))). AppendedBack b after back'') is_back entry), inl (refl, is_links ∙ gives.2, refl));
      };
      early = λ memory. (early memory, refl);
    }

    pub ran_unset : {F : Type 0} (left_of sent_of : F → Option (List ℕ)) (far : F) (links : List ToldLink) {links' links'' : Option (List ToldLink)} {held : Option (List ℕ)} {back back' back'' : Option (List (List ℕ))} →
        IsFirstOf left_of sent_of far (Some links) links' → back' ≡ back → AppendedBack back' (sent_of far) back'' → links'' ≡ links' → JobRan (relay from to order job) bytes end.OutOfMemory links links'' held held back back''
    ran_unset left_of sent_of far links gives is_back entry is_links = ran_first left_of sent_of far links (sent_of far) [] gives (idle refl) (appended_none (sent_of far)) is_back entry is_links (λ memory. inl refl)

    pub ran_refused : {F : Type 0} (left_of sent_of : F → Option (List ℕ)) (faults : F → ℕ) (old new : F) (ring : RingState) (f : ConnFault) (links : List ToldLink) {links' links'' : Option (List ToldLink)} {held : Option (List ℕ)} {back back' back'' : Option (List (List ℕ))} →
        IsFirstOf left_of sent_of old (Some links) links' → IsSetUp order left_of sent_of faults old new ring (Err f) → back' ≡ back → AppendedBack back' (sent_of new) back'' → links'' ≡ links' → JobRan (relay from to order job) bytes (fault_end f) links links'' held held back back''
    ran_refused left_of sent_of faults old new ring f [] gives is is_back entry is_links = absurd gives
    ran_refused left_of sent_of faults old new ring f (link ∷ rest) gives is is_back entry is_links =
        let u = unset left_of sent_of faults old new ring link.gives on_first (λ a b. refl) f (both (client_after_setup order link.gives) (no_client order)) is gives.0 in
        ran_first left_of sent_of old (link ∷ rest) (sent_of new) u.0 gives (relay_stops (sets_up_from order link.gives) (λ from. relays_to order job rest from) u.1) u.2 is_back entry is_links (λ memory. absurd (setup_memory f is.fresh memory))

-- a tool whose source gives no more than it may does not end as too long
pub not_too_long : {S : Type 0} {left : S → Option (List ℕ)} {faults : S → ℕ} {form : Option SoundForm} {how : ToolEnd} {bytes : List ℕ} {source source' : S} (j : Job) → is_of_job j how ≡ true →
    UsesSource left faults (job_reads j) form how source source' → TellsIfRead left (job_reads j) bytes source source' → length bytes ≤ most_bytes → how ≡ end.TooLong → ⊥
not_too_long {left} {bytes} {source} {source'} (one server order (task.Play job)) is uses tells few long =
    let given = uses.shows.long long in
    let known = consumed_known (left source) (left source') bytes given.text (tells refl).0 given.consumed (tells refl).1 in
    let beyond = given.beyond in
    let all : length bytes ≡ length given.text + length known.0 = ap length known.2 ∙ length-append given.text known.0 in
    omega arith
not_too_long {how} (one server order t) is uses tells few long = never (λ (e : ToolEnd). is_of_job (one server order t) e) how end.TooLong is refl long
not_too_long {how} (relay from to order job) is uses tells few long = never (λ (e : ToolEnd). is_of_job (relay from to order job) e) how end.TooLong is refl long

-- a tool that ends for lost sound is strict
pub lost_strict : (j : Job) → is_of_job j end.SoundLost ≡ true → job_strict j ≡ true
lost_strict (one server order (task.Play job)) is = is
lost_strict (one server order (task.Record job)) is = is
lost_strict (one server order (task.Set job)) is = cc
lost_strict (one server order task.List) is = cc
lost_strict (relay from to order job) is = cc

-- a tool that is served is done, unless something from outside ends it
pub served_done : (strict : Bool) (trace : Trace) (how : ToolEnd) (sends output : List ℕ) → MatchesTrace trace how sends output → (how ≡ end.TooLong → ⊥) → (how ≡ end.SoundLost → strict ≡ true) → IsServed strict trace → (how ≡ end.Done) ⊎ (is_outer how ≡ true)
served_done strict trace how sends output e short lost served = by trace.finish refl where
  by : (finish : Finish) → trace.finish ≡ finish → (how ≡ end.Done) ⊎ (is_outer how ≡ true)
  by done is = done_unless_outer trace how sends output e is
  by not_dialled is = elim (ends_as trace how sends output e not_dialled is) [ inl way ↦ inr (ap is_outer way) | inr outer ↦ inr outer ]
  by too_long is = elim (ends_as trace how sends output e too_long is) [ inl way ↦ absurd (short way) | inr outer ↦ inr outer ]
  by sound_lost is = elim (ends_as trace how sends output e sound_lost is) [ inl way ↦ absurd (served.kept (lost way) is) | inr outer ↦ inr outer ]
  by (refused f) is = absurd (served.answered f is)
  by finish is = absurd (let fits : is_unfit finish ≡ false = ap is_unfit (sym is) ∙ served.fits in cc fits)
