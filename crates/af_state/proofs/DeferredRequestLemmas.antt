-- Deferred requests, and the room that holds them.
use Rattle.std.proofs.Common.{◌≡◌, ◌≢◌, ℕ, ℤ, zero, suc, ◌%◌, ◌^◌, ◌<◌, ◌==◌, ◌||◌, Bool, true, false, not, cond, List, [], ◌∷◌, ◌++◌, length, map, find, get_or, slice_set, option_map, IfSome, refl, sym, ap, ◌∙◌, subst, arith}
use Rattle.std.proofs.lemmas.Bool.Decides.{nat_tests}
use Rattle.std.proofs.Math.Bool.{or-true}
use Rattle.std.specs.declared.option.Option.{Option}
use Rattle.std.specs.declared.option.Option.TheVariants.{None, Some}
use Rattle.af_context.specs.declared.Context.{Context}
use Rattle.af_wait.specs.declared.Wait.{Wait}
use Rattle.af_wait.specs.Waits.{first_due, is_due, is_waiting, wait_after_frames, without_first, without_link, without_taken}
use Rattle.af_wait.proofs.WaitLemmas.{wait_after_frames-link}
use Rattle.af_model.specs.State.{Deferred, deferred_play, deferred_record}
use Rattle.af_state.specs.Deferrals.{KeptDeferral, has_waiting, kept_due, deferral_after_frames, kept_deferral, kept_without, waits_of, with_start_word}

-- a deferred request is of one kind
pub play_is : (deferred : Deferred) (quiet : Bool) (start : ℕ) (sound : List ℤ) (preempt : Bool) → deferred_play quiet start sound preempt ≡ with_start_word deferred → (whole : ℕ) × (deferred ≡ deferred_play quiet whole sound preempt) × (start ≡ whole % 2 ^ 32)
play_is (deferred_play q whole xs p) quiet start sound preempt e = (whole, cc, cc)
play_is (deferred_record c whole n) quiet start sound preempt e = absurd cc

pub record_is : (deferred : Deferred) (c : Context) (start frames : ℕ) → deferred_record c start frames ≡ with_start_word deferred → (whole : ℕ) × (deferred ≡ deferred_record c whole frames) × (start ≡ whole % 2 ^ 32)
record_is (deferred_play q whole xs p) c start frames e = absurd cc
record_is (deferred_record d whole n) c start frames e = (whole, cc, cc)

-- the order is that of what is kept
pub waits_of-kept : (room : List Deferred) (order : List Wait) → waits_of (map (kept_deferral room) order) ≡ order
waits_of-kept room [] = refl
waits_of-kept room (w ∷ order) = ap (λ l. w ∷ l) (waits_of-kept room order)

-- the room of a link is only that link's
other_room : (room : List Deferred) (i j : ℕ) (h d : Deferred) → i ≢ j → get_or (slice_set room i h) j d ≡ get_or room j d
other_room [] i j h d apart = refl
other_room (x ∷ room) zero zero h d apart = absurd (apart refl)
other_room (x ∷ room) zero (suc j) h d apart = refl
other_room (x ∷ room) (suc i) zero h d apart = refl
other_room (x ∷ room) (suc i) (suc j) h d apart = other_room room i j h d (λ e. apart (ap suc e))

own_room : (room : List Deferred) (i : ℕ) (h d : Deferred) → i < length room → get_or (slice_set room i h) i d ≡ h
own_room [] i h d low = absurd (omega arith)
own_room (x ∷ room) zero h d low = refl
own_room (x ∷ room) (suc i) h d low = own_room room i h d (omega arith)

others_kept : (room : List Deferred) (order : List Wait) (link : ℕ) (h : Deferred) → is_waiting order link ≡ false → map (kept_deferral (slice_set room link h)) order ≡ map (kept_deferral room) order
others_kept room [] link h free = refl
others_kept room (w ∷ order) link h free =
    elim (w.link == link) as (λ b. (w.link == link) ≡ b → (b || is_waiting order link) ≡ false → map (kept_deferral (slice_set room link h)) (w ∷ order) ≡ map (kept_deferral room) (w ∷ order)) [
      | true ↦ λ t f. absurd cc
      | false ↦ λ t f.
          let apart : link ≢ w.link = grind (arith, nat_tests) in
          let one : kept_deferral (slice_set room link h) w ≡ kept_deferral room w = ap (λ x. record { wait = w; deferred = x }) (other_room room link w.link h (deferred_play false 0 [] false) apart) in
          ap (λ x. x ∷ map (kept_deferral (slice_set room link h)) order) one ∙ ap (λ l. kept_deferral room w ∷ l) (others_kept room order link h f)
    ] refl free

kept_push : (room : List Deferred) (order : List Wait) (w : Wait) → map (kept_deferral room) (order ++ w ∷ []) ≡ map (kept_deferral room) order ++ kept_deferral room w ∷ []
kept_push room [] w = refl
kept_push room (x ∷ order) w = ap (λ l. kept_deferral room x ∷ l) (kept_push room order w)

-- a link's request is deferred
begins : (room : List Deferred) (order order' : List Wait) (w : Wait) (h : Deferred) → w.link < length room → is_waiting order w.link ≡ false → order' ≡ order ++ w ∷ [] →
    map (kept_deferral (slice_set room w.link h)) order' ≡ map (kept_deferral room) order ++ record { wait = w; deferred = h } ∷ []
begins room order order' w h low free is =
    ap (map (kept_deferral (slice_set room w.link h))) is ∙ kept_push (slice_set room w.link h) order w
    ∙ ap (λ l. l ++ kept_deferral (slice_set room w.link h) w ∷ []) (others_kept room order w.link h free)
    ∙ ap (λ x. map (kept_deferral room) order ++ record { wait = w; deferred = x } ∷ []) (own_room room w.link h (deferred_play false 0 [] false) low)

-- no deferred request of a link waits, as is known of what is kept
pub none_waits : (room : List Deferred) (order : List Wait) (ks : List KeptDeferral) (link : ℕ) → map (kept_deferral room) order ≡ ks → has_waiting ks link ≡ false → is_waiting order link ≡ false
none_waits room order ks link kept free = ap (λ ws. is_waiting ws link) (sym (waits_of-kept room order)) ∙ ap (λ (ks : List KeptDeferral). has_waiting ks link) kept ∙ free

-- the place of its link becomes the deferred request that begins to wait
pub begins_at : (room : List Deferred) (order order' : List Wait) (ks : List KeptDeferral) (i : ℕ) (at h : Deferred) (w : Wait) → i ≡ w.link → at ≡ h → w.link < length room → has_waiting ks w.link ≡ false → order' ≡ order ++ w ∷ [] → map (kept_deferral room) order ≡ ks →
    map (kept_deferral (slice_set room i at)) order' ≡ ks ++ record { wait = w; deferred = h } ∷ []
begins_at room order order' ks i at h w own is low free added kept =
    ap (λ i. map (kept_deferral (slice_set room i at)) order') own ∙ ap (λ x. map (kept_deferral (slice_set room w.link x)) order') is
    ∙ begins room order order' w h low (none_waits room order ks w.link kept free) added ∙ ap (λ ks. ks ++ record { wait = w; deferred = h } ∷ []) kept

-- frames pass
pub kept_pass : (room : List Deferred) (order : List Wait) (d n : ℕ) → map (kept_deferral room) (map (wait_after_frames d n) order) ≡ map (deferral_after_frames d n) (map (kept_deferral room) order)
kept_pass room [] d n = refl
kept_pass room (w ∷ order) d n =
    let one : kept_deferral room (wait_after_frames d n w) ≡ deferral_after_frames d n (kept_deferral room w) = ap (λ i. record { wait = wait_after_frames d n w; deferred = get_or room i (deferred_play false 0 [] false) }) (wait_after_frames-link d n w) in
    ap (λ x. x ∷ map (kept_deferral room) (map (wait_after_frames d n) order)) one ∙ ap (λ l. deferral_after_frames d n (kept_deferral room w) ∷ l) (kept_pass room order d n)

-- what is due
pub kept_first : (room : List Deferred) (order : List Wait) (d : ℕ) → option_map (λ w. w.link) (first_due d order) ≡ option_map (λ k. k.wait.link) (find (kept_due d) (map (kept_deferral room) order))
kept_first room [] d = refl
kept_first room (w ∷ order) d =
    elim (is_due d w) as (λ b. option_map (λ (w : Wait). w.link) (cond b (Some w) (first_due d order)) ≡ option_map (λ (k : KeptDeferral). k.wait.link) (cond b (Some (kept_deferral room w)) (find (kept_due d) (map (kept_deferral room) order)))) [
      | true ↦ refl
      | false ↦ kept_first room order d
    ]

pub kept_taken : (room : List Deferred) (order : List Wait) (d : ℕ) → map (kept_deferral room) (without_first (is_due d) order) ≡ without_first (kept_due d) (map (kept_deferral room) order)
kept_taken room [] d = refl
kept_taken room (w ∷ order) d =
    elim (is_due d w) as (λ b. map (kept_deferral room) (cond b order (w ∷ without_first (is_due d) order)) ≡ cond b (map (kept_deferral room) order) (kept_deferral room w ∷ without_first (kept_due d) (map (kept_deferral room) order))) [
      | true ↦ refl
      | false ↦ ap (λ l. kept_deferral room w ∷ l) (kept_taken room order d)
    ]

-- a room that exists
pub same_room : (room : List Deferred) (i : ℕ) (d e : Deferred) → i < length room → get_or room i d ≡ get_or room i e
same_room [] i d e low = absurd (omega arith)
same_room (x ∷ room) zero d e low = refl
same_room (x ∷ room) (suc i) d e low = same_room room i d e (omega arith)

-- what the room of a link holds is its request
pub room_of : (room : List Deferred) (order : List Wait) (link : ℕ) (h : Deferred) → h ≡ get_or room link (deferred_play false 0 [] false) → (k : ℕ) (d : KeptDeferral) → k < length (map (kept_deferral room) order) →
    (get_or (map (kept_deferral room) order) k d).wait.link ≡ link → h ≡ (get_or (map (kept_deferral room) order) k d).deferred
room_of room [] link h is k d low e = absurd (omega arith)
room_of room (w ∷ order) link h is zero d low e = is ∙ ap (λ i. get_or room i (deferred_play false 0 [] false)) (sym e)
room_of room (w ∷ order) link h is (suc k) d low e = room_of room order link h is k d (omega arith) e

-- a link that is taken out has no deferred request
without_gone : (order : List Wait) (link : ℕ) → is_waiting (without_link order link) link ≡ false
without_gone [] link = refl
without_gone (w ∷ order) link =
    elim (w.link == link) as (λ b. (w.link == link) ≡ b → is_waiting (cond (not b) (w ∷ without_link order link) (without_link order link)) link ≡ false) [
      | true ↦ λ e. without_gone order link
      | false ↦ λ e. ap (λ b. b || is_waiting (without_link order link) link) e ∙ without_gone order link
    ] refl

pub taken_free : (room : List Deferred) (order order' : List Wait) (d : ℕ) (taken : Option ℕ) → taken ≡ option_map (λ w. w.link) (first_due d order) → order' ≡ without_taken order taken →
    IfSome (option_map (λ k. k.wait.link) (find (kept_due d) (map (kept_deferral room) order))) (λ link. has_waiting (map (kept_deferral room) order') link ≡ false)
taken_free room order order' d taken is rest =
    subst (λ o. IfSome o (λ link. has_waiting (map (kept_deferral room) order') link ≡ false)) (is ∙ kept_first room order d)
    (elim taken as (λ o. order' ≡ without_taken order o → IfSome o (λ link. has_waiting (map (kept_deferral room) order') link ≡ false)) [
      | None ↦ λ e. tt
      | Some link ↦ λ e. ap (λ ws. is_waiting ws link) (waits_of-kept room order') ∙ ap (λ ws. is_waiting ws link) e ∙ without_gone order link
    ] rest)

-- a link whose request is due has one
pub due_waits : (d : ℕ) (ks : List KeptDeferral) (link : ℕ) → option_map (λ k. k.wait.link) (find (kept_due d) ks) ≡ Some link → has_waiting ks link ≡ true
due_waits d [] link e = absurd cc
due_waits d (k ∷ ks) link e =
    elim (kept_due d k) as (λ b. option_map (λ (k : KeptDeferral). k.wait.link) (cond b (Some k) (find (kept_due d) ks)) ≡ Some link → has_waiting (k ∷ ks) link ≡ true) [
      | true ↦ λ f. let is : k.wait.link ≡ link = cc in let same : (k.wait.link == link) ≡ true = grind (arith, nat_tests) in ap (λ b. b || has_waiting ks link) same
      | false ↦ λ f. ap (λ b. k.wait.link == link || b) (due_waits d ks link f) ∙ or-true (k.wait.link == link)
    ] e

-- a link is dropped
pub kept_dropped : (room : List Deferred) (order : List Wait) (link : ℕ) → map (kept_deferral room) (without_link order link) ≡ kept_without link (map (kept_deferral room) order)
kept_dropped room [] link = refl
kept_dropped room (w ∷ order) link =
    elim (w.link == link) as (λ b. map (kept_deferral room) (cond (not b) (w ∷ without_link order link) (without_link order link)) ≡ cond (not b) (kept_deferral room w ∷ kept_without link (map (kept_deferral room) order)) (kept_without link (map (kept_deferral room) order))) [
      | true ↦ kept_dropped room order link
      | false ↦ ap (λ l. kept_deferral room w ∷ l) (kept_dropped room order link)
    ]
