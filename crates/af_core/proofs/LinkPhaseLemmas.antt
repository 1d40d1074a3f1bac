-- What each phase of a link's turn takes off a log.
use Rattle.std.proofs.Common.{◌≡◌, ◌≢◌, ◌==◌, eqb-true, ℕ, zero, suc, ◌≤◌, ◌<◌, ◌+◌, ◌-◌, Bool, true, false, not, ◌&&◌, nat_le, nat_lt, ◌⊎◌, ⊎_elim, is_none, cond, List, [], ◌∷◌, ◌++◌, length, take, drop, slice_get, slice_set, get_or, refl, sym, ap, ◌∙◌, subst, arith, length-take-le}
use Rattle.std.proofs.lemmas.List.{length-drop}
use Rattle.std.proofs.lemmas.Option.{slice_get-get_or}
use Rattle.std.proofs.lemmas.Bool.Decides.{nat_tests}
use Rattle.std.specs.declared.option.Option.{Option}
use Rattle.std.specs.declared.option.Option.TheVariants.{None, Some}
use Rattle.af_limits.specs.Limits.{longest_read, perform_limit}
use Rattle.af_world.specs.declared.happening.Happening.TheVariants.{Read, Wrote, Closed}
use Rattle.af_world.specs.declared.happening.ReadGot.{ReadGot}
use Rattle.af_world.specs.declared.happening.ReadGot.TheVariants.{Given}
use Rattle.af_world.specs.declared.happening.Why.{Why}
use Rattle.af_io.specs.Observed.{Appended}
use Rattle.af_world.specs.Log.{Log}
use Rattle.af_world.proofs.EqualityTestLemmas.{same_bytes-refl, eq-refl}
use Rattle.af_model.specs.State.{OpenLink, EnvironmentState, LinkState, open_link, new_link_state, link_in_slot, slot_link_at, with_slot_link}
use Rattle.af_model.specs.Waiting.{has_deferral}
use Rattle.af_model.specs.Advance.{absorb, advance, takes_more}
use Rattle.af_model.specs.Turn.{accept, parse_then, and_then, parse_one, wants_read, is_read, read_by, read_phase, after_read, wants_write, send_pending, write_by, after_bytes_taken, write_phase, same_why, number_of_why, close_due, close_for, close_phase, serve_link, serve_open, serve_slot_link, serve_from, serve_all, in_open}
use Rattle.af_model.proofs.BoolTestLemmas.{both-true}
use Rattle.af_model.proofs.ListLemmas.{get-set_other}
use Rattle.af_model.proofs.SlotLemmas.{some_link, slot_link, links_of-set, length-links_of}
use Rattle.af_state.specs.Deferrals.{KeptDeferral, has_waiting}
use Rattle.af_state.specs.SharedState.{StandsForLink, KeptSharedState, StandsForSharedState, StepsLink}
use Rattle.af_state.proofs.DeferralLemmas.{same_waiting}
use Rattle.af_core.specs.Stands.{AdvancesOn, AreSettled, StandsForSlot, IsSettled, IsSettledSlot, Kept, StandsFor, kept_of, writes_left}
use Rattle.af_core.specs.Simulates.{Simulates}
use Rattle.af_core.proofs.SimulationLemmas.{simulates_more, simulates_nothing, simulates_one, simulates_then, simulates_within}

-- what holds for a link in any environment holds for each open link
pub at_open_link : (env env' : KeptSharedState) (l l' : LinkState) (f : OpenLink → OpenLink) → ((a : EnvironmentState) → StandsForSharedState env a → StandsForLink env' l' (f (open_link a l))) → (p : OpenLink) → StandsForLink env l p → StandsForLink env' l' (f p)
at_open_link env env' l l' f h p s = subst (λ m. StandsForLink env' l' (f (open_link p.environment m))) (sym s.1) (h p.environment s.0)

pub at_update : (env : KeptSharedState) (l l' : LinkState) (f : LinkState → LinkState) → l' ≡ f l → (p : OpenLink) → StandsForLink env l p → StandsForLink env l' (open_link p.environment (f p.link))
at_update env l l' f e p s = (s.0, ap f s.1 ∙ sym e)

-- Reads

-- whether a link is to be read is what the state says
reads_same : (env : KeptSharedState) (k : ℕ) (l : LinkState) (p : OpenLink) → StandsForLink env l p → wants_read (has_deferral p.environment.waiting k) p.link ≡ wants_read (has_waiting env.waits k) l
reads_same env k l p s = ap (λ b. wants_read b p.link) (sym (same_waiting p.environment.devices env.waits p.environment.waiting k s.0.1)) ∙ ap (wants_read (has_waiting env.waits k)) s.1

pub reads_nothing : (t : Option Log) (k : ℕ) (env : KeptSharedState) (l : LinkState) → wants_read (has_waiting env.waits k) l ≡ false → Simulates t t (StandsForLink env l) (StandsForLink env l) (read_phase k) accept
unfolding read_phase
reads_nothing t k env l idle =
    simulates_nothing t (StandsForLink env l) (StandsForLink env l) (read_phase k) accept (λ p. p) (λ p s. s)
    (λ p s log. ap (λ b. cond b (parse_one (read_by k p) log) (accept p log)) (reads_same env k l p s ∙ idle))

pub reads : (a b : Option Log) (k : ℕ) (env env' : KeptSharedState) (l l' : LinkState) (got : ReadGot) → wants_read (has_waiting env.waits k) l ≡ true → is_read got ≡ true → Appended a (Read k got ∷ []) b →
    ((p : OpenLink) → StandsForLink env l p → StandsForLink env' l' (after_read k got p)) → Simulates a b (StandsForLink env l) (StandsForLink env' l') (read_phase k) accept
unfolding read_phase
reads a b k env env' l l' got wants fits told step =
    simulates_one (Read k got) (StandsForLink env l) (StandsForLink env' l') (read_phase k) accept (λ p. after_read k got p) refl told step
    (λ p s log. ap (λ b. cond b (parse_one (read_by k p) (Read k got ∷ log)) (accept p (Read k got ∷ log))) (reads_same env k l p s ∙ wants) ∙ rw (eq-refl k, fits))

pub given_fits : (n : ℕ) (xs : List ℕ) → 1 ≤ n → n ≤ longest_read → n ≤ length xs → is_read (Given (take n xs)) ≡ true
given_fits n xs some few within = let e : length (take n xs) ≡ n = length-take-le n xs within in rw e (grind arith)

-- bytes that come are taken in, and then what they complete is taken off
pub absorbed : (k : ℕ) (env env1 env' : KeptSharedState) (l l1 l' : LinkState) (bytes : List ℕ) → wants_read (has_waiting env.waits k) l ≡ true → AdvancesOn k env (record l { rest = l.rest ++ bytes }) env1 l1 →
    StepsLink (advance k) env1 l1 env' l' → StepsLink (absorb k bytes) env l env' l'
absorbed k env env1 env' l l1 l' bytes wants on step a h =
    let waits = has_waiting env.waits k in
    let open_to : is_none l.closing ≡ true = (both-true (is_none l.closing) (nat_le (length l.pending) perform_limit) (both-true (not waits) (is_none l.closing && nat_le (length l.pending) perform_limit) (both-true l.is_ready (takes_more waits l) wants).1).1).0 in
    let came = on a h in
    subst (λ b. StandsForLink env' l' (cond b (advance k (open_link a (record l { rest = l.rest ++ bytes }))) (open_link a l))) (sym open_to)
    (subst (λ p. StandsForLink env' l' p) came.2 (step came.0 came.1))

-- Writes

-- a link that is not to be written takes nothing off
pub write_phase-idle : (k : ℕ) (p : OpenLink) (log : Log) → wants_write p.link ≡ false → write_phase k p log ≡ accept p log
write_phase-idle k p [] e = rw e
write_phase-idle k p (h ∷ log) e = rw e

pub writes_nothing : (t : Option Log) (k : ℕ) (env : KeptSharedState) (l : LinkState) → wants_write l ≡ false → Simulates t t (StandsForLink env l) (StandsForLink env l) (write_phase k) accept
writes_nothing t k env l idle =
    simulates_nothing t (StandsForLink env l) (StandsForLink env l) (write_phase k) accept (λ p. p) (λ p s. s) (λ p s log. write_phase-idle k p log (ap wants_write s.1 ∙ idle))

pub writes : (a b : Option Log) (k : ℕ) (env env' : KeptSharedState) (l l' : LinkState) (took : Option (List ℕ)) (f : OpenLink → OpenLink) → wants_write l ≡ true →
    ((a : EnvironmentState) → after_bytes_taken k took (open_link a l) ≡ Some (f (open_link a l))) → Appended a (Wrote k (length l.pending) took ∷ []) b →
    ((a : EnvironmentState) → StandsForSharedState env a → StandsForLink env' l' (f (open_link a l))) → Simulates a b (StandsForLink env l) (StandsForLink env' l') (write_phase k) (write_phase k)
writes a b k env env' l l' took f wants takes told step =
    simulates_one (Wrote k (length l.pending) took) (StandsForLink env l) (StandsForLink env' l') (write_phase k) (write_phase k) f refl told (at_open_link env env' l l' f step)
    (λ p s log.
    let e : wants_write p.link ≡ true = ap wants_write s.1 ∙ wants in
    let here : write_by k p (Wrote k (length l.pending) took) ≡ Some (f p) =
    subst (λ m. write_by k (open_link p.environment m) (Wrote k (length l.pending) took) ≡ Some (f (open_link p.environment m))) (sym s.1)
    (rw (eq-refl k, eq-refl (length l.pending)) (takes p.environment)) in
    ap (λ b. cond b (and_then (write_by k p (Wrote k (length l.pending) took)) (λ q. write_phase k q log)) (accept p (Wrote k (length l.pending) took ∷ log))) e
    ∙ ap (λ o. and_then o (λ q. write_phase k q log)) here)

-- the first bytes that wait to be sent may be taken
pub first_taken : (k n : ℕ) (p : OpenLink) → n ≤ length p.link.pending → after_bytes_taken k (Some (take n p.link.pending)) p ≡ Some (advance k (open_link p.environment (send_pending n p.link)))
first_taken k n p within =
    let count : length (take n p.link.pending) ≡ n = length-take-le n p.link.pending within in
    rw (count, same_bytes-refl (take n p.link.pending)) refl

-- a link whose first bytes were sent is not to be written again: it has nothing to send, or is blocked
pub sent_idle : (n : ℕ) (l : LinkState) → n ≤ length l.pending → wants_write (send_pending n l) ≡ false
sent_idle n l within =
    elim (nat_lt n (length l.pending)) as (λ b. nat_lt n (length l.pending) ≡ b → (not (length (drop n l.pending) == 0) && not b) ≡ false) [
      | true ↦ λ t. elim (length (drop n l.pending) == 0) as (λ b. (not b && false) ≡ false) [ true ↦ refl | false ↦ refl ]
      | false ↦ λ t.
          let none : length (drop n l.pending) ≡ 0 = let size = length-drop n l.pending in grind (arith, nat_tests) in
          ap (λ m. not (m == 0) && true) none
    ] refl

-- there is a write to come if the link is to be written
pub writes_some : (l : LinkState) → wants_write l ≡ true → 0 < writes_left l
writes_some l wants = let one : writes_left l ≡ length l.rest + 1 = ap (λ b. length l.rest + (cond b 1 0)) wants in omega arith

-- a bound on the writes to come falls with each write
pub fewer_writes : (n : ℕ) (l l' : LinkState) → n ≤ length l.pending → wants_write l ≡ true → (l' ≡ send_pending n l) ⊎ (length l'.rest < length l.rest) → writes_left l' < writes_left l
fewer_writes n l l' within wants answered =
    let before : writes_left l ≡ length l.rest + 1 = ap (λ b. length l.rest + (cond b 1 0)) wants in
    ⊎_elim (λ e. let after : writes_left l' ≡ length l.rest + 0 = ap writes_left e ∙ ap (λ b. length l.rest + (cond b 1 0)) (sent_idle n l within) in omega arith)
    (λ less. elim (wants_write l') as (λ b. length l'.rest + (cond b 1 0) < writes_left l) [ true ↦ omega arith | false ↦ omega arith ]) answered

-- Closes

pub closes_nothing : (t : Option Log) (k : ℕ) (env : KeptSharedState) (l : LinkState) → close_due l ≡ None → Simulates t t (StandsForLink env l) (StandsForSlot env (Some l)) (close_phase k) accept
unfolding close_phase
closes_nothing t k env l idle =
    simulates_nothing t (StandsForLink env l) (StandsForSlot env (Some l)) (close_phase k) accept (λ p. link_in_slot p.environment (Some p.link)) (λ p s. (s.0, ap (λ m. Some m) s.1))
    (λ p s log. ap (λ o. close_for k p o log) (ap close_due s.1 ∙ idle))

same_why-refl : (cause : Why) → same_why cause cause ≡ true
same_why-refl cause = eq-refl (number_of_why cause)

pub closes : (a b : Option Log) (k : ℕ) (env : KeptSharedState) (l : LinkState) (cause : Why) → close_due l ≡ Some cause → Appended a (Closed k cause ∷ []) b → Simulates a b (StandsForLink env l) (StandsForSlot env None) (close_phase k) accept
unfolding close_phase
closes a b k env l cause due told =
    simulates_one (Closed k cause) (StandsForLink env l) (StandsForSlot env None) (close_phase k) accept (λ p. link_in_slot p.environment None) refl told (λ p s. (s.0, refl))
    (λ p s log. ap (λ o. close_for k p o (Closed k cause ∷ log)) (ap close_due s.1 ∙ due) ∙ rw (eq-refl k, same_why-refl cause))

-- A link, and all links

pub serves : (a b c d : Option Log) (k : ℕ) (env env' env'' : KeptSharedState) (l l' l'' : LinkState) (link : Option LinkState) →
    Simulates a b (StandsForLink env l) (StandsForLink env' l') (read_phase k) accept → Simulates b c (StandsForLink env' l') (StandsForLink env'' l'') (write_phase k) accept → Simulates c d (StandsForLink env'' l'') (StandsForSlot env'' link) (close_phase k) accept →
    Simulates a d (StandsForLink env l) (StandsForSlot env'' link) (serve_link k) accept
unfolding serve_link
serves a b c d k env env' env'' l l' l'' link read write close =
    simulates_more (simulates_then (λ p log. parse_then (write_phase k p log) (close_phase k)) read) (simulates_more (simulates_then (close_phase k) write) close)

pub door_serves : (a b : Option Log) (k : ℕ) (env env' : KeptSharedState) (l : LinkState) (link : Option LinkState) →
    Simulates a b (StandsForLink env l) (StandsForSlot env' link) (serve_link k) accept → Simulates a b (StandsForSlot env (Some l)) (StandsForSlot env' link) (serve_slot_link k) accept
door_serves a b k env env' l link d =
    simulates_within d (λ s. open_link s.environment l) (λ s t. t) (λ s h. (h.0, refl)) (λ s h t q. q) (λ s h t log more same. ap (λ o. serve_open k s.environment o log) h.1 ∙ same)

-- the same, as a slot shows it
pub door_shows : (a b : Option Log) (k : ℕ) (env env' : KeptSharedState) (old : Option LinkState) (l l' : LinkState) (is_closed : Bool) → old ≡ Some l →
    Simulates a b (StandsForLink env l) (StandsForSlot env' (cond is_closed None (Some l'))) (serve_link k) accept →
    Simulates a b (StandsForSlot env old) (StandsForSlot env' (cond (not is_closed) (Some l') None)) (serve_slot_link k) accept
door_shows a b k env env' old l l' true e d = subst (λ o. Simulates a b (StandsForSlot env o) (StandsForSlot env' None) (serve_slot_link k) accept) (sym e) (door_serves a b k env env' l None d)
door_shows a b k env env' old l l' false e d = subst (λ o. Simulates a b (StandsForSlot env o) (StandsForSlot env' (Some l')) (serve_slot_link k) accept) (sym e) (door_serves a b k env env' l (Some l') d)

-- one link of all
pub one_served : (a b : Option Log) (n k : ℕ) (env env' : KeptSharedState) (links : List (Option LinkState)) (link link' : Option LinkState) → some_link (slice_get links k) ≡ link →
    Simulates a b (StandsForSlot env link) (StandsForSlot env' link') (serve_slot_link k) accept →
    Simulates a b (StandsFor (kept_of env links)) (StandsFor (kept_of env' (slice_set links k link'))) (serve_from (suc n) k) (serve_from n (k + 1))
unfolding serve_from
one_served a b n k env env' links link link' here d =
    simulates_within d (slot_link_at k) (with_slot_link k) (λ s h. ((h.devices, h.waiting), slot_link s.slots k ∙ ap (λ ls. some_link (slice_get ls k)) h.links ∙ here))
    (λ s h t q. record {
      devices = q.0.0;
      waiting = q.0.1;
      links = links_of-set s.slots k (record { link = t.link; said = t.environment.said }) ∙ ap (λ ls. slice_set ls k t.link) h.links ∙ ap (λ o. slice_set links k o) q.1;
    })
    (λ s h t log more same. ap (λ o. parse_then (parse_then o (λ d log. accept (with_slot_link k s d) log)) (serve_from n (k + 1))) same)

pub next_served : (a b c : Option Log) (count n k : ℕ) (kept : Kept) (env env' : KeptSharedState) (links : List (Option LinkState)) (link link' : Option LinkState) → n ≡ suc (count - (k + 1)) → some_link (slice_get links k) ≡ link →
    Simulates a b (StandsFor kept) (StandsFor (kept_of env links)) (serve_from count 0) (serve_from n k) → Simulates b c (StandsForSlot env link) (StandsForSlot env' link') (serve_slot_link k) accept →
    Simulates a c (StandsFor kept) (StandsFor (kept_of env' (slice_set links k link'))) (serve_from count 0) (serve_from (count - (k + 1)) (k + 1))
next_served a b c count n k kept env env' links link link' e here d one =
    simulates_more d (subst (λ m. Simulates b c (StandsFor (kept_of env links)) (StandsFor (kept_of env' (slice_set links k link'))) (serve_from m k) (serve_from (count - (k + 1)) (k + 1))) (sym e) (one_served b c (count - (k + 1)) k env env' links link link' here one))

pub none_served : (t : Option Log) (n m : ℕ) (kept : Kept) → n ≡ m → Simulates t t (StandsFor kept) (StandsFor kept) (serve_from n 0) (serve_from m 0)
none_served t n m kept e = simulates_nothing t (StandsFor kept) (StandsFor kept) (serve_from n 0) (serve_from m 0) (λ s. s) (λ s h. h) (λ s h log. ap (λ x. serve_from x 0 s log) e)

pub all_served : (a b : Option Log) (m k : ℕ) (kept kept' : Kept) → m ≡ 0 → Simulates a b (StandsFor kept) (StandsFor kept') (serve_from (length kept.links) 0) (serve_from m k) → Simulates a b (StandsFor kept) (StandsFor kept') serve_all accept
unfolding serve_from
all_served a b m k kept kept' e d =
    simulates_within d (λ s. s) (λ s t. t) (λ s h. h) (λ s h t q. q)
    (λ s h t log more same. ap (λ n. serve_from n 0 s log) (sym (length-links_of s.slots) ∙ ap length h.links) ∙ same ∙ ap (λ x. serve_from x k t more) e)

pub link_here : (links : List (Option LinkState)) (i : ℕ) (d : Option LinkState) → i < length links → some_link (slice_get links i) ≡ get_or links i d
link_here [] i d h = absurd (omega arith)
link_here (x ∷ links) zero d h = refl
link_here (x ∷ links) (suc i) d h = link_here links i d (omega arith)

-- Links that are settled

set_here : (links : List (Option LinkState)) (k : ℕ) (link : Option LinkState) (l : LinkState) → slice_get (slice_set links k link) k ≡ Some (Some l) → link ≡ Some l
set_here [] k link l e = absurd cc
set_here (x ∷ links) zero link l e = cc
set_here (x ∷ links) (suc k) link l e = set_here links k link l e

-- one link changes, and no other link's deferred request comes or goes
pub settled_set : (ks ks' : List KeptDeferral) (links : List (Option LinkState)) (k : ℕ) (link : Option LinkState) → AreSettled ks links → ((j : ℕ) → j ≢ k → has_waiting ks' j ≡ has_waiting ks j) →
    IsSettledSlot (has_waiting ks' k) link → AreSettled ks' (slice_set links k link)
settled_set ks ks' links k link h others one j l e =
    elim (j == k) as (λ b. (j == k) ≡ b → IsSettled (has_waiting ks' j) l) [
      | true ↦ λ t.
          let same : j ≡ k = eqb-true j k t in
          subst (λ i. IsSettled (has_waiting ks' i) l) (sym same) (one l (set_here links k link l (subst (λ i. slice_get (slice_set links k link) i ≡ Some (Some l)) same e)))
      | false ↦ λ t.
          let apart : j ≢ k = grind (arith, nat_tests) in
          subst (λ b. IsSettled b l) (sym (others j apart)) (h j l (sym (get-set_other links k j link apart) ∙ e))
    ] refl

pub settled_here : (ks : List KeptDeferral) (links : List (Option LinkState)) (k n : ℕ) (d link : Option LinkState) → AreSettled ks links → n ≡ k → link ≡ get_or links k d → k < length links → IsSettledSlot (has_waiting ks n) link
settled_here ks links k n d link h number is low l e =
    subst (λ i. IsSettled (has_waiting ks i) l) (sym number) (h k l (slice_get-get_or links k d low ∙ ap (λ x. Some x) (sym is ∙ e)))

pub opened_settled : (waits : Bool) (link : Option LinkState) → link ≡ Some new_link_state → IsSettledSlot waits link
opened_settled waits link is l e =
    let same : new_link_state ≡ l = let both : Some new_link_state ≡ Some l = sym is ∙ e in cc in
    subst (IsSettled waits) same (record { bounds = record { rest = omega arith; pending = omega arith }; short = λ t. omega arith; room = λ t. omega arith })

-- a flag of a link is set, or cleared
pub flag_settled : (f : LinkState → LinkState) (waits : Bool) (old link : Option LinkState) → ((l : LinkState) → IsSettled waits l → IsSettled waits (f l)) → IsSettledSlot waits old → link ≡ in_open f old → IsSettledSlot waits link
flag_settled f waits None link keeps h is l e = let both : None ≡ Some l = sym is ∙ e in absurd cc
flag_settled f waits (Some m) link keeps h is l e =
    let same : f m ≡ l = let both : Some (f m) ≡ Some l = sym is ∙ e in cc in
    subst (IsSettled waits) same (keeps m (h m refl))
