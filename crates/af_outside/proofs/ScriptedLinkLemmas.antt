-- The scripted links of a tape, and the outside that they make up.
use Rattle.std.proofs.Common.{◌≡◌, ◌⊎◌, inl, inr, ℕ, zero, suc, ◌+◌, ◌<◌, ◌≤◌, List, [], ◌∷◌, length, get_or, set, refl, sym, ap, ◌∙◌, subst, arith, slice_get, slice_set, ◌++◌, false, is_some, replicate}
use Rattle.std.proofs.lemmas.List.{map-set, set_past, map-append, replicate-append-replicate, length-replicate}
use Rattle.std.proofs.lemmas.List.Sums.{sum_by-cons}
use Rattle.std.proofs.lemmas.Option.{slice_get-get_or}
use Rattle.std.specs.Prelude.{sum_by, option_map}
use Rattle.std.specs.declared.option.Option.{Option}
use Rattle.std.specs.declared.option.Option.TheVariants.{None, Some}
use Rattle.af_world.specs.declared.script.Step.{Step}
use Rattle.af_world.specs.declared.script.Step.TheVariants as step
use Rattle.af_world.specs.Outside.{Outside, ScriptedClient, ScriptedDevice, with_changed_client, client_after_call, fresh_client, with_open_client, client_at, client_after_step, outside_after_step, with_client}
use Rattle.af_outside.specs.Tape.{KeptClient, clients_of, outside_of, HasRoomForSteps, bytes_sent_by, sent_in}

-- the client of a link is that of its scripted link
pub client_at-outside_of : (links : List KeptClient) (devices : List ScriptedDevice) (k : ℕ) (d : KeptClient) → k < length links → client_at (outside_of links devices) k ≡ (get_or links k d).client
client_at-outside_of [] devices k d below = absurd (omega arith)
client_at-outside_of (x ∷ links) devices zero d below = refl
client_at-outside_of (x ∷ links) devices (suc k) d below = client_at-outside_of links devices k d (omega arith)

-- there is no client past the scripted links
pub client_at-past : (links : List KeptClient) (devices : List ScriptedDevice) (k : ℕ) → length links ≤ k → client_at (outside_of links devices) k ≡ None
client_at-past [] devices k past = refl
client_at-past (x ∷ links) devices zero past = absurd (omega arith)
client_at-past (x ∷ links) devices (suc k) past = client_at-past links devices k (omega arith)

-- a change of one scripted link is a change of its client
pub outside_of-set : (links : List KeptClient) (devices : List ScriptedDevice) (k : ℕ) (scripted_link : KeptClient) → outside_of (set links k scripted_link) devices ≡ with_client (outside_of links devices) k scripted_link.client
outside_of-set links devices k scripted_link = ap (λ (clients : List (Option ScriptedClient)). (let o : Outside = record { clients = clients; devices = devices } in o)) (map-set (λ (e : KeptClient). e.client) links k scripted_link)

length-clients : (links : List KeptClient) → length (clients_of links) ≡ length links
length-clients [] = refl
length-clients (x ∷ links) = ap suc (length-clients links)

slice_get-set_cases : {A : Type 0} (xs : List A) (k j : ℕ) (x y : A) → slice_get (set xs k x) j ≡ Some y → (P : Type 0) → (j ≡ k → x ≡ y → P) → (slice_get xs j ≡ Some y → P) → P
slice_get-set_cases [] k j x y e P here there = there e
slice_get-set_cases (z ∷ xs) zero zero x y e P here there = here refl cc
slice_get-set_cases (z ∷ xs) zero (suc j) x y e P here there = there e
slice_get-set_cases (z ∷ xs) (suc k) zero x y e P here there = there e
slice_get-set_cases (z ∷ xs) (suc k) (suc j) x y e P here there = slice_get-set_cases xs k j x y e P (λ same. here (ap suc same)) there

-- the scripted links have room for the steps that are left, once one of them is changed that has room
pub HasRoomForSteps-set : (links : List KeptClient) (k : ℕ) (scripted_link : KeptClient) (before after : List Step) → HasRoomForSteps links before →
    ((j : ℕ) → sum_by (bytes_sent_by j) after ≤ sum_by (bytes_sent_by j) before) → sum_by (bytes_sent_by k) after ≤ scripted_link.room → HasRoomForSteps (set links k scripted_link) after
HasRoomForSteps-set links k scripted_link before after room fewer here = record {
  each = λ j e at. slice_get-set_cases links k j scripted_link e at (sum_by (bytes_sent_by j) after ≤ e.room)
      (λ same is. let P : KeptClient → Type 0 = λ e. sum_by (bytes_sent_by j) after ≤ e.room in subst P is (let Q : ℕ → Type 0 = λ i. sum_by (bytes_sent_by i) after ≤ scripted_link.room in subst Q (sym same) here))
      (λ at. let r = room.each j e at in let f = fewer j in omega arith);
}

-- the scripted links have room for the steps that are left, when one of them is changed, and has room
pub HasRoomForSteps-changed : (links : List KeptClient) (k : ℕ) (d new : KeptClient) (before after : List Step) → k < length links → HasRoomForSteps links before →
    ((j : ℕ) → sum_by (bytes_sent_by j) after ≤ sum_by (bytes_sent_by j) before) → (sum_by (bytes_sent_by k) before ≤ (get_or links k d).room → sum_by (bytes_sent_by k) after ≤ new.room) → HasRoomForSteps (slice_set links k new) after
HasRoomForSteps-changed links k d new before after below room fewer here =
    HasRoomForSteps-set links k new before after room fewer (here (room.each k (get_or links k d) (slice_get-get_or links k d below)))

-- as much room as before is room enough
pub HasRoomForSteps-kept : (links : List KeptClient) (k : ℕ) (d new : KeptClient) (steps : List Step) → k < length links → HasRoomForSteps links steps → (get_or links k d).room ≤ new.room → HasRoomForSteps (slice_set links k new) steps
HasRoomForSteps-kept links k d new steps below room more = HasRoomForSteps-changed links k d new steps steps below room (λ j. omega arith) (λ fits. omega arith)

-- what is not sent needs no room
pub HasRoomForSteps-less : (links : List KeptClient) (step : Step) (steps : List Step) → HasRoomForSteps links (step ∷ steps) → HasRoomForSteps links steps
HasRoomForSteps-less links step steps room = record { each = λ k e at. let r = room.each k e at in let more = sum_by-cons (bytes_sent_by k) step steps in omega arith }

-- a step's bytes take the room that was kept for them
pub HasRoomForSteps-sent : (links : List KeptClient) (k : ℕ) (step : Step) (d new : KeptClient) (steps : List Step) → k < length links → bytes_sent_by k step ≡ length (sent_in step) → HasRoomForSteps links (step ∷ steps) →
    (get_or links k d).room ≤ new.room + length (sent_in step) → HasRoomForSteps (slice_set links k new) steps
HasRoomForSteps-sent links k step d new steps below sent room more =
    HasRoomForSteps-changed links k d new (step ∷ steps) steps below room
    (λ j. let all = sum_by-cons (bytes_sent_by j) step steps in omega arith)
    (λ fits. let all = sum_by-cons (bytes_sent_by k) step steps in omega arith)

-- a change of one scripted link's client by a step
pub adjusted_here : (links : List KeptClient) (devices : List ScriptedDevice) (k : ℕ) (d new : KeptClient) (change : ScriptedClient → ScriptedClient) → k < length links → new.client ≡ option_map change (get_or links k d).client →
    outside_of (slice_set links k new) devices ≡ with_changed_client (outside_of links devices) k change
adjusted_here links devices k d new change below e =
    outside_of-set links devices k new
    ∙ ap (with_client (outside_of links devices) k) (e ∙ ap (option_map change) (sym (client_at-outside_of links devices k d below)))

-- what a step states of a link is what it does to the outside
pub outside_after_step-sends : (o : Outside) (k : ℕ) (s : Step) → ((bytes : List ℕ) × (s ≡ step.Send k bytes)) ⊎ (s ≡ step.End k) → with_changed_client o k (client_after_step s) ≡ outside_after_step o s
outside_after_step-sends o k s (inl p) = subst (λ s. with_changed_client o k (client_after_step s) ≡ outside_after_step o s) (sym p.1) refl
outside_after_step-sends o k s (inr e) = subst (λ s. with_changed_client o k (client_after_step s) ≡ outside_after_step o s) (sym e) refl

pub outside_after_step-takes : (o : Outside) (k : ℕ) (room : Option ℕ) (s : Step) → s ≡ step.Room k room → with_changed_client o k (client_after_step s) ≡ outside_after_step o s
outside_after_step-takes o k room s e = subst (λ s. with_changed_client o k (client_after_step s) ≡ outside_after_step o s) (sym e) refl

pub outside_after_step-fails : (o : Outside) (k : ℕ) (s : Step) → (s ≡ step.FailRead k) ⊎ (s ≡ step.FailWrite k) → with_changed_client o k (client_after_step s) ≡ outside_after_step o s
outside_after_step-fails o k s (inl e) = subst (λ s. with_changed_client o k (client_after_step s) ≡ outside_after_step o s) (sym e) refl
outside_after_step-fails o k s (inr e) = subst (λ s. with_changed_client o k (client_after_step s) ≡ outside_after_step o s) (sym e) refl

-- no client past the scripted links is set
pub with_client-past : (links : List KeptClient) (devices : List ScriptedDevice) (k : ℕ) (client : Option ScriptedClient) → length links ≤ k → with_client (outside_of links devices) k client ≡ outside_of links devices
with_client-past links devices k client past =
    let counted = length-clients links in
    ap (λ (clients : List (Option ScriptedClient)). (let o : Outside = record { clients = clients; devices = devices } in o)) (set_past (clients_of links) k client (omega arith))

-- a step on a link past the scripted links changes nothing
pub adjusted_past : (links : List KeptClient) (devices : List ScriptedDevice) (k : ℕ) (change : ScriptedClient → ScriptedClient) → length links ≤ k → outside_of links devices ≡ with_changed_client (outside_of links devices) k change
adjusted_past links devices k change past = sym (with_client-past links devices k _ past)

-- what a scripted link answers is what its link answers
pub answered_here : (links : List KeptClient) (devices : List ScriptedDevice) (k : ℕ) (d new : KeptClient) (call : ScriptedClient → Option ScriptedClient) → k < length links →
    client_after_call call (get_or links k d).client ≡ Some new.client →
    option_map (with_client (outside_of links devices) k) (client_after_call call (client_at (outside_of links devices) k)) ≡ Some (outside_of (slice_set links k new) devices)
answered_here links devices k d new call below e =
    ap (option_map (with_client (outside_of links devices) k)) (ap (client_after_call call) (client_at-outside_of links devices k d below) ∙ e)
    ∙ ap (λ (o : Outside). Some o) (sym (outside_of-set links devices k new))

-- a link past the scripted links answers as one that is not open
pub answered_past : (links : List KeptClient) (devices : List ScriptedDevice) (k : ℕ) (call : ScriptedClient → Option ScriptedClient) → length links ≤ k → client_after_call call None ≡ Some None →
    option_map (with_client (outside_of links devices) k) (client_after_call call (client_at (outside_of links devices) k)) ≡ Some (outside_of links devices)
answered_past links devices k call past e =
    ap (option_map (with_client (outside_of links devices) k)) (ap (client_after_call call) (client_at-past links devices k past) ∙ e)
    ∙ ap (λ (o : Outside). Some o) (with_client-past links devices k None past)

-- what opening does to a link that is not open
pub opened_here : (o : Outside) (k : ℕ) (client client' : Option ScriptedClient) → is_some client ≡ false → client' ≡ Some fresh_client → with_client o k client' ≡ with_open_client o k client
opened_here o k None client' none e = ap (with_client o k) e
opened_here o k (Some client) client' none e = absurd cc

slice_get-push_cases : {A : Type 0} (xs : List A) (k : ℕ) (x y : A) → slice_get (xs ++ x ∷ []) k ≡ Some y → (P : Type 0) → (k ≡ length xs → x ≡ y → P) → (slice_get xs k ≡ Some y → P) → P
slice_get-push_cases [] zero x y e P here there = here refl cc
slice_get-push_cases [] (suc k) x y e P here there = absurd cc
slice_get-push_cases (z ∷ xs) zero x y e P here there = there e
slice_get-push_cases (z ∷ xs) (suc k) x y e P here there = slice_get-push_cases xs k x y e P (λ same. here (ap suc same)) there

-- one more scripted link, which has room
pub HasRoomForSteps-push : (links links' : List KeptClient) (k : ℕ) (scripted_link : KeptClient) (steps : List Step) → HasRoomForSteps links steps → length links ≡ k → links' ≡ links ++ scripted_link ∷ [] → sum_by (bytes_sent_by k) steps ≤ scripted_link.room → HasRoomForSteps links' steps
HasRoomForSteps-push links links' k scripted_link steps room number more here =
    let P : List KeptClient → Type 0 = λ ends. HasRoomForSteps ends steps in
    subst P (sym more) (record {
      each = λ j e at. slice_get-push_cases links j scripted_link e at (sum_by (bytes_sent_by j) steps ≤ e.room)
          (λ same is. let Q : KeptClient → Type 0 = λ e. sum_by (bytes_sent_by j) steps ≤ e.room in subst Q is (let R : ℕ → Type 0 = λ i. sum_by (bytes_sent_by i) steps ≤ scripted_link.room in subst R (sym (same ∙ number)) here))
          (λ at. room.each j e at);
    })

-- one more link that is not open
pub clients_of-push : (links links' : List KeptClient) (k : ℕ) (scripted_link : KeptClient) → clients_of links ≡ replicate k None → links' ≡ links ++ scripted_link ∷ [] → scripted_link.client ≡ None → clients_of links' ≡ replicate (k + 1) None
clients_of-push links links' k scripted_link closed more none =
    ap clients_of more ∙ map-append (λ (e : KeptClient). e.client) links (scripted_link ∷ []) ∙ ap (λ xs. xs ++ scripted_link.client ∷ []) closed ∙ ap (λ x. replicate k None ++ x ∷ []) none ∙ replicate-append-replicate k 1 None

-- so many scripted links as there are clients
pub length-closed : (links : List KeptClient) (k : ℕ) → clients_of links ≡ replicate k None → length links ≡ k
length-closed links k closed = sym (length-clients links) ∙ ap length closed ∙ length-replicate k None
