-- Links are served alike: what the outside states determines the reads, the writes and the close of a link.
use Rattle.std.proofs.Common.{◌≡◌, ℕ, zero, suc, ◌+◌, Bool, true, false, not, cond, ◌&&◌, ◌==◌, List, [], ◌∷◌, length, take, drop, option_map, slice_set, is_some, refl, sym, ap, ◌∙◌, subst, eqb-true}
use Rattle.std.specs.declared.option.Option.{Option}
use Rattle.std.specs.declared.option.Option.TheVariants.{None, Some}
use Rattle.af_limits.specs.Limits.{longest_read}
use Rattle.af_world.specs.declared.happening.Happening.{Happening}
use Rattle.af_world.specs.declared.happening.Happening.TheVariants.{Read, Wrote, Closed}
use Rattle.af_world.specs.declared.happening.ReadGot.{ReadGot}
use Rattle.af_world.specs.declared.happening.ReadGot.TheVariants.{Given, NotYet, Ended, Failed}
use Rattle.af_world.specs.declared.happening.Why.{Why}
use Rattle.af_world.specs.declared.script.Step.{Step}
use Rattle.af_world.specs.Log.{Log}
use Rattle.af_world.specs.Outside.{Outside, ScriptedClient, outside_after_happening, client_after_call, client_after_read, client_after_give, client_after_fault, client_after_write, room_taken_of, fresh_client, client_at, with_client, same_bytes}
use Rattle.af_model.specs.State.{State, EnvironmentState, OpenLink, SlotLink, LinkState, link_in_slot, slot_link_at, with_slot_link, open_link}
use Rattle.af_model.specs.Waiting.{has_deferral}
use Rattle.af_model.specs.Turn.{Parsed, accept, parse_then, and_then, parse_one, wants_read, is_read, read_by, read_phase, after_read, wants_write, write_by, after_bytes_offered, after_bytes_taken, write_phase, after_write, same_why, close_due, close_by, close_for, close_phase, serve_link, serve_open, serve_slot_link, serve_at, serve_from, serve_all}
use Rattle.af_model.specs.Script.{AnswersTo}
use Rattle.af_model.proofs.BoolTestLemmas.{cond-some, cond-true, both-true, not_true, none_some, same_bytes-true, same_why-true}
use Rattle.af_model.proofs.AlikeLemmas.{GoesAlike, Agreed, TakesOne, headed, go_inv, alike_then, alike_one, alike_nothing}
use Rattle.af_model.proofs.OpenLinkLemmas.{opens, open_links, Agree, AtPlace, StandsForSlot, opens-set, set-set, opens_stay, open_links-set, open_links-same}

-- Calls on a link

-- the client that answers a call
abbrev client_or : Option ScriptedClient → ScriptedClient
client_or None = fresh_client
client_or (Some client) = client

-- an answered call: the client answered, and the links stay as open as they are
record Called (o o' : Outside) (k : ℕ) (call : ScriptedClient → Option ScriptedClient) : Type 0 where
  after : ScriptedClient
  is : call (client_or (client_at o k)) ≡ Some after
  opens : opens o' ≡ opens o

record CalledBy (call : ScriptedClient → Option ScriptedClient) (client client' : Option ScriptedClient) : Type 0 where
  after : ScriptedClient
  is : call (client_or client) ≡ Some after
  stays : is_some client' ≡ is_some client

called_by : (call : ScriptedClient → Option ScriptedClient) (client client' : Option ScriptedClient) → client_after_call call client ≡ Some client' → CalledBy call client client'
called_by call None client' e =
    elim (call fresh_client) as (λ x. call fresh_client ≡ x → option_map (λ (q : ScriptedClient). (let none : Option ScriptedClient = None in none)) x ≡ Some client' → CalledBy call None client') [
      | None ↦ λ i e. absurd (none_some e)
      | Some q ↦ λ i e. let same : None ≡ client' = cc in record { after = q; is = i; stays = ap is_some (sym same) }
    ] refl e
called_by call (Some client) client' e =
    elim (call client) as (λ x. call client ≡ x → option_map (λ (q : ScriptedClient). Some q) x ≡ Some client' → CalledBy call (Some client) client') [
      | None ↦ λ i e. absurd (none_some e)
      | Some q ↦ λ i e. let same : Some q ≡ client' = cc in record { after = q; is = i; stays = ap is_some (sym same) }
    ] refl e

called : (o o' : Outside) (k : ℕ) (call : ScriptedClient → Option ScriptedClient) → option_map (with_client o k) (client_after_call call (client_at o k)) ≡ Some o' → Called o o' k call
called o o' k call e =
    elim (client_after_call call (client_at o k)) as (λ x. client_after_call call (client_at o k) ≡ x → option_map (with_client o k) x ≡ Some o' → Called o o' k call) [
      | None ↦ λ i e. absurd (none_some e)
      | Some client' ↦ λ i e.
          let c = called_by call (client_at o k) client' i in
          let same : with_client o k client' ≡ o' = cc in
          record { after = c.after; is = c.is; opens = ap opens (sym same) ∙ opens_stay o k client' c.stays }
    ] refl e

-- Reads

-- the one answer of a read that does not fail
expected_given : List ℕ → ScriptedClient → ReadGot
expected_given [] client = cond client.ends Ended NotYet
expected_given (x ∷ xs) client = Given (take longest_read (x ∷ xs))

-- the one answer of a read
expected : ScriptedClient → ReadGot
expected client = cond client.fails_read Failed (expected_given client.gives client)

failed_is : (got : ReadGot) (client q : ScriptedClient) → client_after_fault got client ≡ Some q → got ≡ Failed
failed_is Failed client q e = refl
failed_is other client q e = absurd (none_some e)

given_is : (got : ReadGot) (xs : List ℕ) (client q : ScriptedClient) → client_after_give got xs client ≡ Some q → got ≡ expected_given xs client
unfolding expected_given
given_is (Given bytes) (x ∷ xs) client q e = ap Given (same_bytes-true bytes (take longest_read (x ∷ xs)) (cond-some (same_bytes bytes (take longest_read (x ∷ xs))) (Some (record client { gives = drop longest_read (x ∷ xs) })) q e).0)
given_is NotYet [] client q e = elim client.ends as (λ b. cond b None (Some client) ≡ Some q → NotYet ≡ cond b Ended NotYet) [ true ↦ λ e. absurd (none_some e) | false ↦ λ e. refl ] e
given_is Ended [] client q e = elim client.ends as (λ b. cond b (Some client) None ≡ Some q → Ended ≡ cond b Ended NotYet) [ true ↦ λ e. refl | false ↦ λ e. absurd (none_some e) ] e
given_is got xs client q e = absurd (none_some e)

read_is : (got : ReadGot) (client q : ScriptedClient) → client_after_read got client ≡ Some q → got ≡ expected client
unfolding expected
read_is got client q e =
    elim client.fails_read as (λ b. cond b (client_after_fault got client) (client_after_give got client.gives client) ≡ Some q → got ≡ cond b Failed (expected_given client.gives client)) [
      | true ↦ λ e. failed_is got client q e
      | false ↦ λ e. given_is got client.gives client q e
    ] e

read_one : (w : List Bool) (k : ℕ) (p : OpenLink) (o : Outside) (h : Happening) (t : OpenLink) → read_by k p h ≡ Some t →
    TakesOne (read_by k) (AtPlace w k) (AtPlace w k) p o h (Read k (expected (client_or (client_at o k))))
read_one w k p o (Read j got) t e =
    let i = cond-some (j == k && is_read got) (Some (after_read k got p)) t e in
    let n : j ≡ k = eqb-true j k (both-true (j == k) (is_read got) i.0).0 in
    let here : (o' : Outside) → outside_after_happening o (Read j got) ≡ Some o' → Called o o' k (client_after_read got) =
    λ o' a. called o o' k (client_after_read got) (subst (λ m. option_map (with_client o m) (client_after_call (client_after_read got) (client_at o m)) ≡ Some o') n a) in
    record {
      quiet = refl;
      is = λ o' a. ap (λ m. Read m got) n ∙ ap (Read k) (read_is got (client_or (client_at o k)) (here o' a).after (here o' a).is);
      stands = λ t o' p' f a. (here o' a).opens ∙ p';
    }
read_one w k p o other t e = absurd (none_some e)

read_alike : (w : List Bool) (k : ℕ) → GoesAlike (read_phase k) (AtPlace w k) (AtPlace w k)
unfolding read_phase
read_alike w k steps p o log1 log2 b1 b2 e1 e2 at f1 f2 r1 r2 =
    elim (wants_read (has_deferral p.environment.waiting k) p.link) as (λ t. cond t (parse_one (read_by k p) log1) (accept p log1) ≡ Some b1 → cond t (parse_one (read_by k p) log2) (accept p log2) ≡ Some b2 → Agreed steps (AtPlace w k) log1 log2 e1 e2 b1 b2) [
      | true ↦ λ f1 f2. alike_one (read_by k) (AtPlace w k) (AtPlace w k) (λ p o. Read k (expected (client_or (client_at o k)))) (read_one w k) steps p o log1 log2 b1 b2 e1 e2 at f1 f2 r1 r2
      | false ↦ λ f1 f2. alike_nothing (λ (p : OpenLink). p) (AtPlace w k) (AtPlace w k) (λ p o at. at) steps p o log1 log2 b1 b2 e1 e2 at f1 f2 r1 r2
    ] f1 f2

-- Writes

-- the one answer of a write that offers these bytes
expected_write : ScriptedClient → List ℕ → Option (List ℕ)
expected_write client pending = cond client.fails_write None (Some (take (room_taken_of (length pending) client.takes) pending))

-- the first bytes were taken
abbrev AreFirst : Option (List ℕ) → List ℕ → Type 0
AreFirst None pending = Unit {0}
AreFirst (Some bytes) pending = bytes ≡ take (length bytes) pending

write_is : (took : Option (List ℕ)) (pending : List ℕ) (client q : ScriptedClient) → client_after_write (length pending) took client ≡ Some q → AreFirst took pending → took ≡ expected_write client pending
unfolding expected_write
write_is None pending client q e first =
    ap (λ b. cond b None (Some (take (room_taken_of (length pending) client.takes) pending))) (sym (cond-some client.fails_write (Some (record client { fails_write = false })) q e).0)
write_is (Some bytes) pending client q e first =
    let room = room_taken_of (length pending) client.takes in
    let v = both-true (not client.fails_write) (length bytes == room) (cond-some (not client.fails_write && (length bytes == room)) _ q e).0 in
    ap (λ x. Some x) (first ∙ ap (λ n. take n pending) (eqb-true (length bytes) room v.1))
    ∙ ap (λ b. cond b None (Some (take room pending))) (sym (not_true client.fails_write v.0))

taken_first : (k : ℕ) (took : Option (List ℕ)) (p t : OpenLink) → after_bytes_taken k took p ≡ Some t → AreFirst took p.link.pending
taken_first k None p t e = tt
taken_first k (Some bytes) p t e =
    same_bytes-true bytes (take (length bytes) p.link.pending) (cond-some (same_bytes bytes (take (length bytes) p.link.pending)) (Some (after_write k bytes p)) t e).0

write_one : (w : List Bool) (k : ℕ) (p : OpenLink) (o : Outside) (h : Happening) (t : OpenLink) → write_by k p h ≡ Some t →
    TakesOne (write_by k) (AtPlace w k) (AtPlace w k) p o h (Wrote k (length p.link.pending) (expected_write (client_or (client_at o k)) p.link.pending))
write_one w k p o (Wrote j offered took) t e =
    let pending = p.link.pending in
    let i = cond-some (j == k) (after_bytes_offered k offered took p) t e in
    let n : j ≡ k = eqb-true j k i.0 in
    let v = cond-some (offered == length pending) (after_bytes_taken k took p) t i.1 in
    let all : offered ≡ length pending = eqb-true offered (length pending) v.0 in
    let here : (o' : Outside) → outside_after_happening o (Wrote j offered took) ≡ Some o' → Called o o' k (client_after_write (length pending) took) =
    λ o' a. called o o' k (client_after_write (length pending) took)
    (subst (λ m. option_map (with_client o k) (client_after_call (client_after_write m took) (client_at o k)) ≡ Some o') all
    (subst (λ m. option_map (with_client o m) (client_after_call (client_after_write offered took) (client_at o m)) ≡ Some o') n a)) in
    record {
      quiet = refl;
      is = λ o' a. ap (λ m. Wrote m offered took) n ∙ ap (λ m. Wrote k m took) all
          ∙ ap (Wrote k (length pending)) (write_is took pending (client_or (client_at o k)) (here o' a).after (here o' a).is (taken_first k took p t v.1));
      stands = λ t o' p' f a. (here o' a).opens ∙ p';
    }
write_one w k p o other t e = absurd (none_some e)

write_idle : (w : List Bool) (k : ℕ) (steps : List Step) (p : OpenLink) (o : Outside) (log1 log2 : Log) (b1 b2 : Parsed OpenLink) (e1 e2 : Outside) → wants_write p.link ≡ false →
    AtPlace w k p o → write_phase k p log1 ≡ Some b1 → write_phase k p log2 ≡ Some b2 → AnswersTo o log1 steps e1 → AnswersTo o log2 steps e2 → Agreed steps (AtPlace w k) log1 log2 e1 e2 b1 b2
write_idle w k steps p o log1 log2 b1 b2 e1 e2 idle at f1 f2 r1 r2 =
    alike_nothing (λ (p : OpenLink). p) (AtPlace w k) (AtPlace w k) (λ p o at. at) steps p o log1 log2 b1 b2 e1 e2 at (sym (nothing log1) ∙ f1) (sym (nothing log2) ∙ f2) r1 r2
  where
    nothing : (log : Log) → write_phase k p log ≡ accept p log
    nothing [] = rw idle
    nothing (h ∷ log) = rw idle

write_none : (k : ℕ) (p : OpenLink) (b : Parsed OpenLink) → wants_write p.link ≡ true → write_phase k p [] ≡ Some b → ⊥
write_none k p b wants e = none_some (cond-true (wants_write p.link) None (accept p []) (Some b) wants e)

write_inv : (k : ℕ) (p : OpenLink) (h : Happening) (log : Log) (b : Parsed OpenLink) → wants_write p.link ≡ true → write_phase k p (h ∷ log) ≡ Some b →
    (q : OpenLink) × (write_by k p h ≡ Some q) × (write_phase k q log ≡ Some b)
write_inv k p h log b wants e = go_inv (write_by k p h) (λ q. write_phase k q log) b (cond-true (wants_write p.link) (and_then (write_by k p h) (λ q. write_phase k q log)) (accept p (h ∷ log)) (Some b) wants e)

write_alike : (w : List Bool) (k : ℕ) (steps : List Step) (p : OpenLink) (o : Outside) (log1 log2 : Log) (b1 b2 : Parsed OpenLink) (e1 e2 : Outside) →
    AtPlace w k p o → write_phase k p log1 ≡ Some b1 → write_phase k p log2 ≡ Some b2 → AnswersTo o log1 steps e1 → AnswersTo o log2 steps e2 → Agreed steps (AtPlace w k) log1 log2 e1 e2 b1 b2
write_alike w k steps p o [] log2 b1 b2 e1 e2 at f1 f2 r1 r2 =
    elim (wants_write p.link) as (λ t. wants_write p.link ≡ t → Agreed steps (AtPlace w k) [] log2 e1 e2 b1 b2) [
      | true ↦ λ wants. absurd (write_none k p b1 wants f1)
      | false ↦ λ idle. write_idle w k steps p o [] log2 b1 b2 e1 e2 idle at f1 f2 r1 r2
    ] refl
write_alike w k steps p o (h1 ∷ log1) [] b1 b2 e1 e2 at f1 f2 r1 r2 =
    elim (wants_write p.link) as (λ t. wants_write p.link ≡ t → Agreed steps (AtPlace w k) (h1 ∷ log1) [] e1 e2 b1 b2) [
      | true ↦ λ wants. absurd (write_none k p b2 wants f2)
      | false ↦ λ idle. write_idle w k steps p o (h1 ∷ log1) [] b1 b2 e1 e2 idle at f1 f2 r1 r2
    ] refl
write_alike w k steps p o (h1 ∷ log1) (h2 ∷ log2) b1 b2 e1 e2 at f1 f2 r1 r2 =
    elim (wants_write p.link) as (λ t. wants_write p.link ≡ t → Agreed steps (AtPlace w k) (h1 ∷ log1) (h2 ∷ log2) e1 e2 b1 b2) [
      | true ↦ λ wants.
          let i1 = write_inv k p h1 log1 b1 wants f1 in
          let i2 = write_inv k p h2 log2 b2 wants f2 in
          let h = headed (write_by k) (AtPlace w k) (AtPlace w k) (λ p o. Wrote k (length p.link.pending) (expected_write (client_or (client_at o k)) p.link.pending)) (write_one w k) steps p o h1 h2 log1 log2 e1 e2 i1.0 i2.0 at i1.1 i2.1 r1 r2 in
          let next2 : write_phase k i1.0 log2 ≡ Some b2 = subst (λ q. write_phase k q log2 ≡ Some b2) (sym h.state) i2.2 in
          let a = write_alike w k steps i1.0 h.outside log1 log2 b1 b2 e1 e2 h.stands i1.2 next2 h.first h.second in
          record { outside = a.outside; stands = a.stands; state = a.state; first = a.first; second = a.second; same = λ e. ap (λ x. x ∷ log1) h.happening ∙ ap (λ r. h2 ∷ r) (a.same e) }
      | false ↦ λ idle. write_idle w k steps p o (h1 ∷ log1) (h2 ∷ log2) b1 b2 e1 e2 idle at f1 f2 r1 r2
    ] refl

-- Closes

close_one : (w : List Bool) (k : ℕ) (cause : Why) (p : OpenLink) (o : Outside) (h : Happening) (t : SlotLink) → close_by k p.environment cause h ≡ Some t →
    TakesOne (λ p. close_by k p.environment cause) (AtPlace w k) (StandsForSlot w k) p o h (Closed k cause)
close_one w k cause p o (Closed j why) t e =
    let i = cond-some (j == k && same_why why cause) (Some (link_in_slot p.environment None)) t e in
    let v = both-true (j == k) (same_why why cause) i.0 in
    let n : j ≡ k = eqb-true j k v.0 in
    record {
      quiet = refl;
      is = λ o' a. ap (λ m. Closed m why) n ∙ ap (Closed k) (same_why-true why cause v.1);
      stands = λ u o' p' f a.
          let g : Some (link_in_slot p.environment None) ≡ Some u = (cond-some (j == k && same_why why cause) (Some (link_in_slot p.environment None)) u f).1 in
          let shut : link_in_slot p.environment None ≡ u = cc in
          let gone : with_client o j None ≡ o' = cc in
          let closed : opens (with_client o k None) ≡ slice_set w k false = opens-set o k None ∙ ap (λ v. slice_set v k false) p' ∙ set-set w k true false in
          subst (λ y. opens y ≡ slice_set w k (is_some u.link)) gone
          (subst (λ m. opens (with_client o m None) ≡ slice_set w k (is_some u.link)) (sym n) (subst (λ d. opens (with_client o k None) ≡ slice_set w k (is_some d.link)) shut closed));
    }
close_one w k cause p o other t e = absurd (none_some e)

close_alike : (w : List Bool) (k : ℕ) → GoesAlike (close_phase k) (AtPlace w k) (StandsForSlot w k)
unfolding close_phase
close_alike w k steps p o log1 log2 b1 b2 e1 e2 at f1 f2 r1 r2 =
    elim (close_due p.link) as (λ d. close_for k p d log1 ≡ Some b1 → close_for k p d log2 ≡ Some b2 → Agreed steps (StandsForSlot w k) log1 log2 e1 e2 b1 b2) [
      | None ↦ λ f1 f2. alike_nothing (λ (p : OpenLink). link_in_slot p.environment (Some p.link)) (AtPlace w k) (StandsForSlot w k) (λ p o at. at) steps p o log1 log2 b1 b2 e1 e2 at f1 f2 r1 r2
      | Some cause ↦ λ f1 f2. alike_one (λ (p : OpenLink). close_by k p.environment cause) (AtPlace w k) (StandsForSlot w k) (λ p o. Closed k cause) (close_one w k cause) steps p o log1 log2 b1 b2 e1 e2 at f1 f2 r1 r2
    ] f1 f2

-- A link, and all links

link_alike : (w : List Bool) (k : ℕ) → GoesAlike (serve_link k) (AtPlace w k) (StandsForSlot w k)
unfolding serve_link
link_alike w k = alike_then (read_phase k) (λ p log. parse_then (write_phase k p log) (close_phase k)) (AtPlace w k) (AtPlace w k) (StandsForSlot w k) (read_alike w k)
    (alike_then (write_phase k) (close_phase k) (AtPlace w k) (AtPlace w k) (StandsForSlot w k) (write_alike w k) (close_alike w k))

open_alike : (w : List Bool) (k : ℕ) (steps : List Step) (a : EnvironmentState) (link : Option LinkState) (o : Outside) (log1 log2 : Log) (b1 b2 : Parsed SlotLink) (e1 e2 : Outside) →
    opens o ≡ slice_set w k (is_some link) → serve_open k a link log1 ≡ Some b1 → serve_open k a link log2 ≡ Some b2 → AnswersTo o log1 steps e1 → AnswersTo o log2 steps e2 → Agreed steps (StandsForSlot w k) log1 log2 e1 e2 b1 b2
open_alike w k steps a None o log1 log2 b1 b2 e1 e2 at f1 f2 r1 r2 =
    alike_nothing (λ (d : SlotLink). d) (StandsForSlot w k) (StandsForSlot w k) (λ d o at. at) steps (link_in_slot a None) o log1 log2 b1 b2 e1 e2 at f1 f2 r1 r2
open_alike w k steps a (Some l) o log1 log2 b1 b2 e1 e2 at f1 f2 r1 r2 = link_alike w k steps (open_link a l) o log1 log2 b1 b2 e1 e2 at f1 f2 r1 r2

door_alike : (w : List Bool) (k : ℕ) → GoesAlike (serve_slot_link k) (StandsForSlot w k) (StandsForSlot w k)
door_alike w k steps d o log1 log2 b1 b2 e1 e2 at f1 f2 r1 r2 = open_alike w k steps d.environment d.link o log1 log2 b1 b2 e1 e2 at f1 f2 r1 r2

at_alike : (k : ℕ) → GoesAlike (serve_at k) Agree Agree
at_alike k steps s o log1 log2 b1 b2 e1 e2 at f1 f2 r1 r2 =
    alike_then (λ (u : State) log. serve_slot_link k (slot_link_at k s) log) (λ d log. accept (with_slot_link k s d) log) (λ u o. Agree s o) (StandsForSlot (open_links s.slots) k) Agree
    (λ steps u o log1 log2 b1 b2 e1 e2 at f1 f2 r1 r2. door_alike (open_links s.slots) k steps (slot_link_at k s) o log1 log2 b1 b2 e1 e2 (at ∙ sym (open_links-same s.slots k)) f1 f2 r1 r2)
    (alike_nothing (with_slot_link k s) (StandsForSlot (open_links s.slots) k) Agree (λ d o at. at ∙ sym (open_links-set s.slots k (record { link = d.link; said = d.environment.said }))))
    steps s o log1 log2 b1 b2 e1 e2 at f1 f2 r1 r2

from_alike : (n k : ℕ) → GoesAlike (serve_from n k) Agree Agree
unfolding serve_from
from_alike zero k = alike_nothing (λ s. s) Agree Agree (λ s o at. at)
from_alike (suc n) k = alike_then (serve_at k) (serve_from n (k + 1)) Agree Agree Agree (at_alike k) (from_alike n (k + 1))

pub all_alike : GoesAlike serve_all Agree Agree
all_alike steps s o log1 log2 b1 b2 e1 e2 at f1 f2 r1 r2 = from_alike (length s.slots) 0 steps s o log1 log2 b1 b2 e1 e2 at f1 f2 r1 r2
