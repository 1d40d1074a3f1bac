-- How far a link has come in a turn: what it took off its input, and what that came to.
use Rattle.std.proofs.Common.{◌≡◌, ◌⊎◌, inl, inr, ◌≤◌, ℕ, zero, suc, ◌+◌, ◌%◌, ◌^◌, ◌==◌, Bool, true, false, cond, ℤ, List, [], ◌∷◌, ◌++◌, length, take, drop, find, option_map, slice_get, refl, sym, ap, ◌∙◌, subst, eqb-true, append_assoc, append-nil, arith}
use Rattle.std.proofs.lemmas.List.{take-append-le, drop-append-le}
use Rattle.std.proofs.lemmas.List.Elements.{All-append, All-cons, All-nil, All-weaker}
use Rattle.std.proofs.lemmas.List.Sums.{fold-append}
use Rattle.std.proofs.lemmas.Bool.{or_parts}
use Rattle.std.specs.List.{All, fold}
use Rattle.std.specs.declared.option.Option.{Option}
use Rattle.std.specs.declared.option.Option.TheVariants.{None, Some}
use Rattle.af_limits.specs.Limits.{longest_tick}
use Rattle.af_time.specs.DeviceTime.{unwrap}
use Rattle.af_context.specs.declared.Context.{Context}
use Rattle.af_context.specs.Contexts.{context_of}
use Rattle.af_wait.specs.Waits.{without_first}
use Rattle.af_wire.specs.declared.order.Order.{Order}
use Rattle.af_wire.specs.declared.front.Front.TheVariants.{Frame}
use Rattle.af_wire.specs.declared.front.SetupFront.TheVariants as setup
use Rattle.af_wire.specs.Event.{event_bytes}
use Rattle.af_wire.specs.Front.{frame_front, setup_front, IsFrameWithin, IsSetupWithin}
use Rattle.af_sample.specs.Heard.{AcceptedPlay}
use Rattle.af_request.specs.Asked.{Asked, create_ac, play_run}
use Rattle.af_request.specs.Requests.{asked_in}
use Rattle.af_request.specs.Answer.{setup as setup_reply}
use Rattle.af_request.specs.Opcodes as opcodes
use Rattle.af_model.specs.State.{Deferral, Deferred, DeviceState, EnvironmentState, LinkState, OpenLink, deferred_play, deferred_record, device_set, open_link, say, slot_at, slot_link_at, with_device}
use Rattle.af_model.specs.Reply.{infos_of, reply_message}
use Rattle.af_model.specs.Play.{entry_now, sent_sound, tell_played}
use Rattle.af_model.specs.Waiting.{has_deferral}
use Rattle.af_model.specs.Perform.{channels_at, perform}
use Rattle.af_model.specs.Advance.{without_front}
use Rattle.af_model.specs.Tick.{answer_deferred, complete_deferred, device_after}
use Rattle.af_model.specs.LinkHistory.{LinkHistory, history, no_history, note_happening}
use Rattle.af_model.proofs.AdvanceLemmas.{frame_within, setup_within}
use Rattle.af_model.proofs.BoolTestLemmas.{some_is}
use Rattle.af_model.proofs.CuttingLawLemmas.{Unchanged, UnchangedSetup, frame_stays, setup_stays}
use Rattle.af_model.proofs.DeviceHistoryLemmas.{lives_completing, with_other, with_there}
use Rattle.af_end_to_end.specs.Performing.{AllGoOn, AreAsked, GoesOn, AreTaken, IsAcceptedNow, IsFollowedUp, IsPlayedNow, IsTakenUp, PerformsInTurns, SentPlay, Takes, contexts_after, contexts_by, counted, ends_prompt, is_prompt, own_waiting, play_by, play_of_request, play_on, plays_by}
use Rattle.af_end_to_end.proofs.DeviceAlikeLemmas.{Alike, AlikeAt, AllAlike, alike_with, lives_alike}
use Rattle.af_end_to_end.proofs.LastingLemmas.{InSlot, Lasts}
use Rattle.af_end_to_end.proofs.TurnLemmas.{lasts_turn}
use Rattle.af_end_to_end.proofs.PerformedLemmas.{Performed, get_front, get_last, performs}

-- What is taken off the input

pub frame_more : (order : Order) (xs ys : List ℕ) (n : ℕ) → frame_front order xs ≡ Frame n → frame_front order (xs ++ ys) ≡ Frame n
frame_more order xs ys n e = subst (λ f. Unchanged f (frame_front order (xs ++ ys))) e (frame_stays order xs ys)

frame_size : (order : Order) (xs : List ℕ) (n : ℕ) → frame_front order xs ≡ Frame n → n ≤ length xs
frame_size order xs n e = (subst (λ f. IsFrameWithin f (length xs)) e (frame_within order xs)).1

-- more comes
asked_more : (order : Order) (asked : List Asked) (bytes rest ys : List ℕ) → AreAsked order asked bytes rest → AreAsked order asked (bytes ++ ys) (rest ++ ys)
asked_more order [] bytes rest ys h = ap (λ l. l ++ ys) h
asked_more order (a ∷ asked) bytes rest ys h =
    let n = h.0 in
    let within = frame_size order bytes n h.1 in (
      n,
      frame_more order bytes ys n h.1,
      ap (asked_in order) (take-append-le n bytes ys within) ∙ h.2,
      subst (λ l. AreAsked order asked l (rest ++ ys)) (sym (drop-append-le n bytes ys within)) (asked_more order asked (drop n bytes) rest ys h.3),
    )

pub taken_more : (a b : Bool) (before after : Order) (asked : List Asked) (bytes rest ys : List ℕ) → AreTaken a b before after asked bytes rest → AreTaken a b before after asked (bytes ++ ys) (rest ++ ys)
taken_more false false before after asked bytes rest ys h = (h.0, ap (λ l. l ++ ys) h.1)
taken_more false true before after asked bytes rest ys h =
    let within : 8 ≤ length bytes = subst (λ f. IsSetupWithin f (length bytes)) h.0 (setup_within bytes) in (
      subst (λ f. UnchangedSetup f (setup_front (bytes ++ ys))) h.0 (setup_stays bytes ys),
      subst (λ l. AreAsked after asked l (rest ++ ys)) (sym (drop-append-le 8 bytes ys within)) (asked_more after asked (drop 8 bytes) rest ys h.1),
    )
taken_more true true before after asked bytes rest ys h = (h.0, asked_more before asked bytes rest ys h.1)
taken_more true false before after asked bytes rest ys h = absurd h

-- a request more is taken
asked_then : (order : Order) (asked : List Asked) (bytes rest : List ℕ) (n : ℕ) (a : Asked) → AreAsked order asked bytes rest → frame_front order rest ≡ Frame n → asked_in order (take n rest) ≡ Some a → AreAsked order (asked ++ a ∷ []) bytes (drop n rest)
asked_then order [] bytes rest n a h e f = (n, subst (λ l. frame_front order l ≡ Frame n) h e, subst (λ l. asked_in order (take n l) ≡ Some a) h f, ap (drop n) h)
asked_then order (b ∷ asked) bytes rest n a h e f = (h.0, h.1, h.2, asked_then order asked (drop h.0 bytes) rest n a h.3 e f)

pub taken_then : (s t : Bool) (before after : Order) (asked : List Asked) (bytes rest : List ℕ) (n : ℕ) (a : Asked) → t ≡ true → AreTaken s t before after asked bytes rest → frame_front after rest ≡ Frame n → asked_in after (take n rest) ≡ Some a →
    AreTaken s t before after (asked ++ a ∷ []) bytes (drop n rest)
taken_then s false before after asked bytes rest n a set h e f = absurd (clash set)
  where
    clash : false ≡ true → ⊥
    clash e = cc
taken_then false true before after asked bytes rest n a set h e f = (h.0, asked_then after asked (drop 8 bytes) rest n a h.1 e f)
taken_then true true before after asked bytes rest n a set h e f =
    (h.0, asked_then before asked bytes rest n a h.1 (subst (λ o. frame_front o rest ≡ Frame n) h.0 e) (subst (λ o. asked_in o (take n rest) ≡ Some a) h.0 f))

-- a setup is taken
pub taken_setup : (s t : Bool) (before after order : Order) (asked : List Asked) (bytes rest : List ℕ) → t ≡ false → AreTaken s t before after asked bytes rest → setup_front rest ≡ setup.Setup order → AreTaken s true before order asked bytes (drop 8 rest)
taken_setup s true before after order asked bytes rest unset h e = absurd (clash unset)
  where
    clash : true ≡ false → ⊥
    clash e = cc
taken_setup true false before after order asked bytes rest unset h e = absurd h
taken_setup false false before after order asked bytes rest unset h e =
    (subst (λ l. setup_front l ≡ setup.Setup order) h.1 e, subst (λ a. AreAsked order a (drop 8 bytes) (drop 8 rest)) (sym h.0) (ap (drop 8) h.1))

-- nothing is taken
pub taken_none : (s : Bool) (order : Order) (bytes rest : List ℕ) → rest ≡ bytes → AreTaken s s order order [] bytes rest
taken_none false order bytes rest e = (refl, e)
taken_none true order bytes rest e = (refl, e)

-- The channels of devices

pub channels_alike : (o p : Option DeviceState) → AlikeAt o p → option_map (λ (device : DeviceState). device.channels) p ≡ option_map (λ (device : DeviceState). device.channels) o
channels_alike None None a = refl
channels_alike None (Some e) a = absurd a
channels_alike (Some d) None a = absurd a
channels_alike (Some d) (Some e) a = ap (λ n. Some n) a.channels

pub contexts_same : (c d : ℕ → Option ℕ) → ((i : ℕ) → c i ≡ d i) → (contexts : List Context) (a : Asked) → contexts_after c contexts a ≡ contexts_after d contexts a
contexts_same c d h contexts (create_ac i ac ty n preempt play_gain record_gain) =
    ap (λ o. contexts_after (λ j. o) contexts (create_ac i ac ty n preempt play_gain record_gain)) (h i)
contexts_same c d h contexts a = refl

pub plays_same : (c d : ℕ → Option ℕ) → ((i : ℕ) → c i ≡ d i) → (contexts : List Context) (a : Asked) → play_of_request c contexts a ≡ play_of_request d contexts a
plays_same c d h contexts (play_run quiet ac time bytes) = by (context_of contexts ac)
  where
    by : (o : Option Context) → play_by c o time bytes ≡ play_by d o time bytes
    by None = refl
    by (Some x) = ap (λ o. play_on o x time bytes) (h x.device)
plays_same c d h contexts a = refl

pub plays_append : (channels : ℕ → Option ℕ) (contexts : List Context) (xs ys : List Asked) → plays_by channels contexts (xs ++ ys) ≡ plays_by channels contexts xs ++ plays_by channels (contexts_by channels contexts xs) ys
plays_append channels contexts [] ys = refl
plays_append channels contexts (x ∷ xs) ys =
    ap (λ l. play_of_request channels contexts x ++ l) (plays_append channels (contexts_after channels contexts x) xs ys)
    ∙ sym (append_assoc (play_of_request channels contexts x) (plays_by channels (contexts_after channels contexts x) xs) (plays_by channels (contexts_by channels (contexts_after channels contexts x) xs) ys))

-- Devices become later

-- what became of a device
pub record Became (d : DeviceState) (es : List DeviceState) (i : ℕ) : Type 0 where
  pub e : DeviceState
  pub is_there : slice_get es i ≡ Some e
  pub alike : Alike d e

pub became : (ds es : List DeviceState) (i : ℕ) (d : DeviceState) → AllAlike ds es → slice_get ds i ≡ Some d → Became d es i
became ds es i d alike there =
    elim (slice_get es i) as (λ o. slice_get es i ≡ o → AlikeAt (Some d) o → Became d es i) [
      | None ↦ λ is a. absurd a
      | Some e ↦ λ is a. record { e = e; is_there = is; alike = a }
    ] refl (subst (λ o. AlikeAt o (slice_get es i)) there (alike i))

-- an accepted play stays at its place
stays_accepted : (d e : DeviceState) (i : ℕ) (x : AcceptedPlay) → Alike d e → slice_get d.accepted i ≡ Some x → slice_get e.accepted i ≡ Some x
stays_accepted d e i x a h = ap (λ l. slice_get l i) a.later.accepted ∙ get_front d.accepted a.later.more i x h

module _ (k : ℕ) (ds es : List DeviceState) (ws vs : List Deferral) (alike : AllAlike ds es)
    (follows : (i : ℕ) (w : Deferral) → slice_get (own_waiting k ws) i ≡ Some w → IsFollowedUp k es vs w) where
  -- a play is still accepted or deferred
  played_moves : (x : SentPlay) → IsPlayedNow k ds ws x → IsPlayedNow k es vs x
  played_moves x h =
      let b = became ds es x.context.device h.device alike h.is_there in
      record { device = b.e; is_there = b.is_there; has_frame = h.has_frame; taken_up = taken b h.taken_up }
    where
      sound : List ℤ
      sound = sent_sound x.context x.bytes

      follow : (quiet : Bool) (start : ℕ) (b : Became h.device es x.context.device) → start ≡ unwrap b.e.now x.time → IsFollowedUp k es vs (record { link = k; device = x.context.device; deferred = deferred_play quiet start sound x.context.preempt }) → IsTakenUp k b.e vs x
      follow quiet start b same (inl f) = inr (f.0, quiet, f.1 ∙ ap (λ t. Some (record { link = k; device = x.context.device; deferred = deferred_play quiet t sound x.context.preempt })) same)
      follow quiet start b same (inr (inl none)) = absurd (clash (sym (ap (λ n. n == 0) none) ∙ h.has_frame))
        where
          clash : true ≡ false → ⊥
          clash e = cc
      follow quiet start b same (inr (inr f)) =
          let is : f.0 ≡ b.e = some_is (sym f.2 ∙ b.is_there) in
          inl (
            f.1,
            subst (λ (d : DeviceState). slice_get d.accepted f.1 ≡ Some (record { start = start; samples = sound; preempt = x.context.preempt; at = d.now })) is f.3
                ∙ ap (λ t. Some (record { start = t; samples = sound; preempt = x.context.preempt; at = b.e.now })) same,
          )

      taken : (b : Became h.device es x.context.device) → IsTakenUp k h.device ws x → IsTakenUp k b.e vs x
      taken b (inl t) =
          inl (
            t.0,
            stays_accepted h.device b.e t.0 (entry_now x.context h.device x.time x.bytes) b.alike t.1
                ∙ ap (λ n. Some (record { start = unwrap n x.time; samples = sound; preempt = x.context.preempt; at = n })) (sym b.alike.now),
          )
      taken b (inr t) =
          follow t.1 (unwrap h.device.now x.time) b (ap (λ n. unwrap n x.time) (sym b.alike.now))
          (follows t.0 (record { link = k; device = x.context.device; deferred = deferred_play t.1 (unwrap h.device.now x.time) sound x.context.preempt }) t.2)

  accepted_moves : (d : ℕ) (deferred : Deferred) → IsAcceptedNow ds d deferred → IsAcceptedNow es d deferred
  accepted_moves d (deferred_record c start frames) h = tt
  accepted_moves d (deferred_play quiet start sound preempt) (inl none) = inl none
  accepted_moves d (deferred_play quiet start sound preempt) (inr h) =
      let b = became ds es d h.0 alike h.2 in
      inr (b.e, h.1, b.is_there, stays_accepted h.0 b.e h.1 (record { start = start; samples = sound; preempt = preempt; at = h.0.now }) b.alike h.3 ∙ ap (λ n. Some (record { start = start; samples = sound; preempt = preempt; at = n })) (sym b.alike.now))

  -- a request that was deferred still is, or completed
  followed_moves : (w : Deferral) → IsFollowedUp k ds ws w → IsFollowedUp k es vs w
  followed_moves w (inl h) = follows h.0 w h.1
  followed_moves w (inr h) = inr (accepted_moves w.device w.deferred h)

-- A deferred request completes

-- the others of its link still wait
own_follows : (passes : Deferral → Bool) (ws : List Deferral) (w : Deferral) (k i : ℕ) (v : Deferral) → find passes ws ≡ Some w → slice_get (own_waiting k ws) i ≡ Some v → (v ≡ w) ⊎ ((j : ℕ) × (slice_get (own_waiting k (without_first passes ws)) j ≡ Some v))
own_follows passes [] w k i v found h = absurd cc
own_follows passes (x ∷ ws) w k i v found h =
    elim (passes x) as (λ t. cond t (Some x) (find passes ws) ≡ Some w → (v ≡ w) ⊎ ((j : ℕ) × (slice_get (own_waiting k (cond t ws (x ∷ without_first passes ws))) j ≡ Some v))) [
      | true ↦ λ e. first (x.link == k) i (some_is e) h
      | false ↦ λ e. later (λ j h. own_follows passes ws w k j v e h) (x.link == k) i h
    ] found
  where
    first : (t : Bool) (i : ℕ) → x ≡ w → slice_get (cond t (x ∷ own_waiting k ws) (own_waiting k ws)) i ≡ Some v → (v ≡ w) ⊎ ((j : ℕ) × (slice_get (own_waiting k ws) j ≡ Some v))
    first true zero same h = inl (sym (some_is h) ∙ same)
    first true (suc i) same h = inr (i, h)
    first false i same h = inr (i, h)

    push : (t : Bool) → (v ≡ w) ⊎ ((j : ℕ) × (slice_get (own_waiting k (without_first passes ws)) j ≡ Some v)) →
        (v ≡ w) ⊎ ((j : ℕ) × (slice_get (cond t (x ∷ own_waiting k (without_first passes ws)) (own_waiting k (without_first passes ws))) j ≡ Some v))
    push t (inl e) = inl e
    push true (inr h) = inr (suc h.0, h.1)
    push false (inr h) = inr h

    later : ((j : ℕ) → slice_get (own_waiting k ws) j ≡ Some v → (v ≡ w) ⊎ ((i : ℕ) × (slice_get (own_waiting k (without_first passes ws)) i ≡ Some v))) → (t : Bool) (i : ℕ) → slice_get (cond t (x ∷ own_waiting k ws) (own_waiting k ws)) i ≡ Some v →
        (v ≡ w) ⊎ ((j : ℕ) × (slice_get (cond t (x ∷ own_waiting k (without_first passes ws)) (own_waiting k (without_first passes ws))) j ≡ Some v))
    later again true zero h = inr (zero, h)
    later again true (suc i) h = push true (again i h)
    later again false i h = push false (again i h)

-- a link of which nothing is deferred
pub idle_none : (ws : List Deferral) (k : ℕ) → has_deferral ws k ≡ false → own_waiting k ws ≡ []
idle_none [] k e = refl
idle_none (w ∷ ws) k e =
    let both = or_parts (w.link == k) (has_deferral ws k) e in
    ap (λ t. cond t (w ∷ own_waiting k ws) (own_waiting k ws)) both.0 ∙ idle_none ws k both.1

own_none : (passes : Deferral → Bool) (ws : List Deferral) (k : ℕ) → own_waiting k ws ≡ [] → own_waiting k (without_first passes ws) ≡ []
own_none passes [] k e = refl
own_none passes (w ∷ ws) k e = by (passes w) (w.link == k) refl e (λ e. own_none passes ws k e)
  where
    clash : {A : Type 0} → w ∷ own_waiting k ws ≡ [] → A
    clash e = absurd (no e)
      where
        no : w ∷ own_waiting k ws ≡ [] → ⊥
        no e = cc

    by : (t own : Bool) → (w.link == k) ≡ own → cond own (w ∷ own_waiting k ws) (own_waiting k ws) ≡ [] → (own_waiting k ws ≡ [] → own_waiting k (without_first passes ws) ≡ []) →
        own_waiting k (cond t ws (w ∷ without_first passes ws)) ≡ []
    by true true is e again = clash e
    by true false is e again = e
    by false true is e again = clash e
    by false false is e again = ap (λ t. cond t (w ∷ own_waiting k (without_first passes ws)) (own_waiting k (without_first passes ws))) is ∙ again e

completed_now : (k d : ℕ) (ds : List DeviceState) (device : DeviceState) (deferred : Deferred) → slice_get ds d ≡ Some device → IsAcceptedNow (with_device d (complete_deferred k deferred) ds) d deferred
completed_now k d ds device (deferred_record c start frames) there = tt
completed_now k d ds device (deferred_play quiet start sound preempt) there =
    let e : AcceptedPlay = record { start = start; samples = sound; preempt = preempt; at = device.now } in
    elim (length sound == 0) as (λ t. (length sound == 0) ≡ t → IsAcceptedNow (with_device d (complete_deferred k (deferred_play quiet start sound preempt)) ds) d (deferred_play quiet start sound preempt)) [
      | true ↦ λ none. inl (eqb-true (length sound) 0 none)
      | false ↦ λ some. inr (
        complete_deferred k (deferred_play quiet start sound preempt) device,
        length device.accepted,
        with_there d (complete_deferred k (deferred_play quiet start sound preempt)) ds device there,
        ap (λ t. slice_get (cond t device.accepted (device.accepted ++ e ∷ [])) (length device.accepted)) some ∙ get_last device.accepted e,
      )
    ] refl

-- The devices go on

-- with some devices, and those that they became
pub goes_on_then : (bs ds es : List DeviceState) → AllGoOn bs ds → AllAlike ds es → AllGoOn bs es
goes_on_then bs ds es h alike i b there =
    let d = h i b there in
    let e = became ds es i d.0 alike d.1 in (
      e.e,
      e.is_there,
      record {
        rises = subst (λ n. b.now ≤ n) (sym e.alike.now) d.2.rises;
        few = subst (λ n. n ≤ b.now + longest_tick) (sym e.alike.now) d.2.few;
        rate = e.alike.rate ∙ d.2.rate;
        channels = e.alike.channels ∙ d.2.channels;
        more = d.2.more ++ e.alike.later.more;
        accepted = e.alike.later.accepted ∙ ap (λ l. l ++ e.alike.later.more) d.2.accepted ∙ append_assoc b.accepted d.2.more e.alike.later.more;
      },
    )

-- Progress

-- since a turn began for a link that was so, with these channels of devices and deferred requests of the link
pub record Progress (k : ℕ) (bs : List DeviceState) (channels : ℕ → Option ℕ) (l : LinkState) (owned : List Deferral) (g : LinkHistory) (p : OpenLink) : Type 0 where
  pub asked : List Asked
  pub takes : Takes l g.gave asked p.link
  pub numbered : p.link.sequence ≡ counted l.sequence asked
  pub contexts : p.link.contexts ≡ contexts_by channels l.contexts asked
  pub has_channels : (d : ℕ) → channels_at p.environment.devices d ≡ channels d
  pub devices : AllGoOn bs p.environment.devices
  pub plays : All (IsPlayedNow k p.environment.devices p.environment.waiting) (plays_by channels l.contexts asked)
  pub followed : All (IsFollowedUp k p.environment.devices p.environment.waiting) owned
  pub idle : (b : Bool) → (b ≡ true → owned ≡ []) → ends_prompt b asked ≡ true → own_waiting k p.environment.waiting ≡ []

module _ (k : ℕ) (bs : List DeviceState) (channels : ℕ → Option ℕ) (l : LinkState) (owned : List Deferral) where
  abbrev J : LinkHistory → OpenLink → Type 0
  J g p = Progress k bs channels l owned g p

  -- devices become later, and the deferred requests of the link still are, or complete
  environment_moves : (g : LinkHistory) (p : OpenLink) (a : EnvironmentState) → AllAlike p.environment.devices a.devices → ((i : ℕ) (w : Deferral) → slice_get (own_waiting k p.environment.waiting) i ≡ Some w → IsFollowedUp k a.devices a.waiting w) → (own_waiting k p.environment.waiting ≡ [] → own_waiting k a.waiting ≡ []) → J g p → J g (open_link a p.link)
  environment_moves g p a alike follows none h =
      let ds = p.environment.devices in
      let ws = p.environment.waiting in
      record {
        asked = h.asked;
        takes = h.takes;
        numbered = h.numbered;
        contexts = h.contexts;
        has_channels = λ d. channels_alike (slice_get ds d) (slice_get a.devices d) (alike d) ∙ h.has_channels d;
        devices = goes_on_then bs ds a.devices h.devices alike;
        plays = All-weaker (IsPlayedNow k ds ws) (IsPlayedNow k a.devices a.waiting) (played_moves k ds a.devices ws a.waiting alike follows) (plays_by channels l.contexts h.asked) h.plays;
        followed = All-weaker (IsFollowedUp k ds ws) (IsFollowedUp k a.devices a.waiting) (followed_moves k ds a.devices ws a.waiting alike follows) owned h.followed;
        idle = λ b e f. none (h.idle b e f);
      }

  -- something is queued for it
  says : (g : LinkHistory) (p : OpenLink) (bytes : List ℕ) → J g p → J g (say p bytes)
  says g p bytes h = record { asked = h.asked; takes = h.takes; numbered = h.numbered; contexts = h.contexts; has_channels = h.has_channels; devices = h.devices; plays = h.plays; followed = h.followed; idle = h.idle }

  answered : (g : LinkHistory) (p : OpenLink) (deferred : Deferred) (device : DeviceState) → J g p → J g (answer_deferred deferred device p)
  answered g p (deferred_play quiet start sound preempt) device h = elim quiet as (λ b. J g (tell_played b device p)) [ true ↦ h | false ↦ says g p _ h ]
  answered g p (deferred_record c start frames) device h = says g p _ h

  -- its input, and what was taken off it, become others
  becomes : (g f : LinkHistory) (p : OpenLink) (m : LinkState) (h : J g p) → m.sequence ≡ p.link.sequence → m.contexts ≡ p.link.contexts → Takes l f.gave h.asked m → J f (open_link p.environment m)
  becomes g f p m h sequence contexts takes = record {
    asked = h.asked;
    takes = takes;
    numbered = sequence ∙ h.numbered;
    contexts = contexts ∙ h.contexts;
    has_channels = h.has_channels;
    devices = h.devices;
    plays = h.plays;
    followed = h.followed;
    idle = h.idle;
  }

  one_more : (g : LinkHistory) (p : OpenLink) (n : ℕ) (q : OpenLink) (request : Asked) (h : J g p) → own_waiting k p.environment.waiting ≡ [] → Performed k request (open_link p.environment (without_front n p.link)) q →
      AreTaken l.is_set_up p.link.is_set_up l.order p.link.order (h.asked ++ request ∷ []) (l.rest ++ g.gave) (drop n p.link.rest) → J g q
  one_more g p n q request h none r taken =
      let ds = p.environment.devices in
      let ws = p.environment.waiting in
      let es = q.environment.devices in
      let vs = q.environment.waiting in
      let follows : (i : ℕ) (w : Deferral) → slice_get (own_waiting k ws) i ≡ Some w → IsFollowedUp k es vs w =
      λ i w e. inl (i, ap (λ l. slice_get l i) r.waiting ∙ get_front (own_waiting k ws) r.deferred i w e) in
      let old = All-weaker (IsPlayedNow k ds ws) (IsPlayedNow k es vs) (played_moves k ds es ws vs r.devices follows) (plays_by channels l.contexts h.asked) h.plays in
      let own = contexts_by channels l.contexts h.asked in
      let is : play_of_request (channels_at ds) p.link.contexts request ≡ play_of_request channels own request =
      plays_same (channels_at ds) channels h.has_channels p.link.contexts request ∙ ap (λ c. play_of_request channels c request) h.contexts in
      let new : All (IsPlayedNow k es vs) (play_of_request channels own request ++ []) =
      subst (All (IsPlayedNow k es vs)) (is ∙ sym (append-nil (play_of_request channels own request))) r.plays in
      record {
        asked = h.asked ++ request ∷ [];
        takes =
            subst (λ x. AreTaken l.is_set_up q.link.is_set_up l.order q.link.order (h.asked ++ request ∷ []) (l.rest ++ g.gave) x) (sym r.rest)
            (subst (λ o. AreTaken l.is_set_up q.link.is_set_up l.order o (h.asked ++ request ∷ []) (l.rest ++ g.gave) (drop n p.link.rest)) (sym r.order)
            (subst (λ b. AreTaken l.is_set_up b l.order p.link.order (h.asked ++ request ∷ []) (l.rest ++ g.gave) (drop n p.link.rest)) (sym r.set) taken));
        numbered = r.sequence ∙ ap (λ n. (n + 1) % 2 ^ 16) h.numbered ∙ sym (fold-append (λ n a. (n + 1) % 2 ^ 16) l.sequence h.asked (request ∷ []));
        contexts = r.contexts ∙ contexts_same (channels_at ds) channels h.has_channels p.link.contexts request ∙ ap (λ c. contexts_after channels c request) h.contexts
            ∙ sym (fold-append (contexts_after channels) l.contexts h.asked (request ∷ []));
        has_channels = λ d. channels_alike (slice_get ds d) (slice_get es d) (r.devices d) ∙ h.has_channels d;
        devices = goes_on_then bs ds es h.devices r.devices;
        plays = subst (All (IsPlayedNow k es vs)) (sym (plays_append channels l.contexts h.asked (request ∷ [])))
            (All-append (IsPlayedNow k es vs) (plays_by channels l.contexts h.asked) (play_of_request channels own request ++ []) old new);
        followed = All-weaker (IsFollowedUp k ds ws) (IsFollowedUp k es vs) (followed_moves k ds es ws vs r.devices follows) owned h.followed;
        idle = λ b e f. r.waiting ∙ ap (λ l. l ++ r.deferred) none ∙ r.prompt (sym (fold-append (λ b a. is_prompt a) b h.asked (request ∷ [])) ∙ f);
      }

  pub progress_lasts : Lasts k J
  progress_lasts = record {
    link = λ g p m rest set order sequence contexts selections h.
        becomes g g p m h sequence contexts
        (subst (λ x. AreTaken l.is_set_up m.is_set_up l.order m.order h.asked (l.rest ++ g.gave) x) (sym rest)
        (subst (λ o. AreTaken l.is_set_up m.is_set_up l.order o h.asked (l.rest ++ g.gave) p.link.rest) (sym order)
        (subst (λ b. AreTaken l.is_set_up b l.order p.link.order h.asked (l.rest ++ g.gave) p.link.rest) (sym set) h.takes)));
    tells = λ g p e selected h. says g p (event_bytes p.link.order e p.link.sequence) h;
    quiet = λ g f p same h. becomes g f p p.link h refl refl (subst (λ x. Takes l x h.asked p.link) (sym same) h.takes);
    given = λ g p bytes h.
        becomes g (record g { gave = g.gave ++ bytes }) p (record p.link { rest = p.link.rest ++ bytes }) h refl refl
        (subst (λ x. AreTaken l.is_set_up p.link.is_set_up l.order p.link.order h.asked x (p.link.rest ++ bytes)) (append_assoc l.rest g.gave bytes)
        (taken_more l.is_set_up p.link.is_set_up l.order p.link.order h.asked (l.rest ++ g.gave) p.link.rest bytes h.takes));
    sets_up = λ g p order unset e h.
        says g (open_link p.environment (record (without_front 8 p.link) { is_set_up = true; order = order })) (reply_message order opcodes.setup (setup_reply (infos_of p.environment.devices)) 0)
        (becomes g g p (record (without_front 8 p.link) { is_set_up = true; order = order }) h refl refl (taken_setup l.is_set_up p.link.is_set_up l.order p.link.order order h.asked (l.rest ++ g.gave) p.link.rest unset h.takes e));
    performs = λ g p n request set idle e asked h.
        let from = open_link p.environment (without_front n p.link) in
        let taken = taken_then l.is_set_up p.link.is_set_up l.order p.link.order h.asked (l.rest ++ g.gave) p.link.rest n request set h.takes e asked in
        one_more g p n (perform k request from) request h (idle_none p.environment.waiting k idle) (performs k request from) taken;
    others = λ g p a alike same said h. environment_moves g p a alike (λ i w e. inl (i, ap (λ l. slice_get l i) same ∙ e)) (λ none. same ∙ none) h;
    completes = λ g p passes w device found own there h.
        let fewer = without_first passes p.environment.waiting in
        let ds = p.environment.devices in
        let f = complete_deferred k w.deferred in
        let es = with_device w.device f ds in
        answered g (open_link (record p.environment { devices = es; waiting = fewer }) p.link) w.deferred device (environment_moves g p (record p.environment { devices = es; waiting = fewer }) (alike_with w.device f ds (λ x is. lives_alike x (f x) refl refl (lives_completing k x w.deferred)))
        (λ i v e. completes_follow passes p.environment.waiting w i v ds device found there (own_follows passes p.environment.waiting w k i v found e)) (λ none. own_none passes p.environment.waiting k none) h);
  }
    where
      completes_follow : (passes : Deferral → Bool) (ws : List Deferral) (w : Deferral) (i : ℕ) (v : Deferral) (ds : List DeviceState) (device : DeviceState) → find passes ws ≡ Some w → slice_get ds w.device ≡ Some device →
          (v ≡ w) ⊎ ((j : ℕ) × (slice_get (own_waiting k (without_first passes ws)) j ≡ Some v)) → IsFollowedUp k (with_device w.device (complete_deferred k w.deferred) ds) (without_first passes ws) v
      completes_follow passes ws w i v ds device found there (inl same) = subst (λ x. IsFollowedUp k (with_device w.device (complete_deferred k w.deferred) ds) (without_first passes ws) x) (sym same) (inr (completed_now k w.device ds device w.deferred there))
      completes_follow passes ws w i v ds device found there (inr h) = inl h

-- A turn

-- a link has made no progress as its turn begins, or once sample periods have gone by
begins : (k : ℕ) (bs : List DeviceState) (channels : ℕ → Option ℕ) (l : LinkState) (a : EnvironmentState) → ((d : ℕ) → channels_at a.devices d ≡ channels d) → AllGoOn bs a.devices → Progress k bs channels l (own_waiting k a.waiting) no_history (open_link a l)
begins k bs channels l a has_channels devices = record {
  asked = [];
  takes = taken_none l.is_set_up l.order (l.rest ++ []) l.rest (sym (append-nil l.rest));
  numbered = refl;
  contexts = refl;
  has_channels = has_channels;
  devices = devices;
  plays = All-nil (IsPlayedNow k a.devices a.waiting);
  followed = all_follow (own_waiting k a.waiting) (λ i w e. inl (i, e));
  idle = λ b e f. e f;
}
  where
    all_follow : (ws : List Deferral) → ((i : ℕ) (w : Deferral) → slice_get ws i ≡ Some w → IsFollowedUp k a.devices a.waiting w) → All (IsFollowedUp k a.devices a.waiting) ws
    all_follow [] h = All-nil (IsFollowedUp k a.devices a.waiting)
    all_follow (w ∷ ws) h = All-cons (IsFollowedUp k a.devices a.waiting) w ws (h 0 w refl) (all_follow ws (λ i w e. h (suc i) w e))

-- sample periods go by
pub record IsPassed (bs ds : List DeviceState) : Type 0 where
  pub has_channels : (d : ℕ) → channels_at ds d ≡ channels_at bs d
  pub devices : AllGoOn bs ds

pub not_passed : (ds : List DeviceState) → IsPassed ds ds
not_passed ds = record { has_channels = λ d. refl; devices = λ i d there. (d, there, record { rises = omega arith; few = omega arith; rate = refl; channels = refl; more = []; accepted = sym (append-nil d.accepted) }) }

pub passed : (d n : ℕ) (captured : List ℤ) (is_dead : Bool) (ds : List DeviceState) → n ≤ longest_tick → IsPassed ds (with_device d (device_after n captured is_dead) ds)
passed d n captured is_dead ds few = record {
  has_channels = λ c. channels c (d == c) refl (slice_get ds d) refl;
  devices = λ i x there. goes i x there (d == i) refl;
}
  where
    channels : (c : ℕ) (t : Bool) → (d == c) ≡ t → (o : Option DeviceState) → slice_get ds d ≡ o → channels_at (with_device d (device_after n captured is_dead) ds) c ≡ channels_at ds c
    channels c false other o is = ap (λ o. option_map (λ (x : DeviceState). x.channels) o) (with_other d (device_after n captured is_dead) ds c other)
    channels c true same None is = ap (λ o. channels_at (device_set d (device_after n captured is_dead) ds o) c) is
    channels c true same (Some x) is =
        subst (λ m. channels_at (with_device d (device_after n captured is_dead) ds) m ≡ channels_at ds m) (eqb-true d c same)
        (ap (λ o. option_map (λ (x : DeviceState). x.channels) o) (with_there d (device_after n captured is_dead) ds x is) ∙ sym (ap (λ o. option_map (λ (x : DeviceState). x.channels) o) is))

    goes : (i : ℕ) (x : DeviceState) → slice_get ds i ≡ Some x → (t : Bool) → (d == i) ≡ t → (e : DeviceState) × (slice_get (with_device d (device_after n captured is_dead) ds) i ≡ Some e) × GoesOn x e
    goes i x there false other = (x, with_other d (device_after n captured is_dead) ds i other ∙ there, record { rises = omega arith; few = omega arith; rate = refl; channels = refl; more = []; accepted = sym (append-nil x.accepted) })
    goes i x there true same =
        let own : slice_get ds d ≡ Some x = ap (slice_get ds) (eqb-true d i same) ∙ there in (
          device_after n captured is_dead x,
          ap (slice_get (with_device d (device_after n captured is_dead) ds)) (sym (eqb-true d i same)) ∙ with_there d (device_after n captured is_dead) ds x own,
          record { rises = omega arith; few = omega (arith, few); rate = refl; channels = refl; more = []; accepted = sym (append-nil x.accepted) },
        )

pub performs_in_turns : PerformsInTurns
performs_in_turns k s part t l m turns is was open' =
    let bs = s.devices in
    let channels = channels_at s.devices in
    let owned = own_waiting k s.waiting in
    let kept = progress_lasts k bs channels l owned in
    let taken = lasts_turn k (J k bs channels l owned) kept s l is (part ++ []) (record { state = t; log = [] }) (turns []) in
    let same : taken.part ≡ part = sym (append-nil taken.part) ∙ sym taken.whole ∙ append-nil part in
    let said = (slot_at k s).said in
    let start : (ds : List DeviceState) → IsPassed bs ds → InSlot (J k bs channels l owned) no_history (record { devices = ds; waiting = s.waiting; said = said }) (slot_at k s).link =
    λ ds p. subst (λ o. InSlot (J k bs channels l owned) no_history (record { devices = ds; waiting = s.waiting; said = said }) o) (sym is) (λ open'. begins k bs channels l (record { devices = ds; waiting = s.waiting; said = said }) p.has_channels p.devices) in
    let end : InSlot (J k bs channels l owned) (fold (note_happening k) no_history taken.part) (slot_link_at k t).environment (slot_at k t).link =
    taken.holds no_history (start s.devices (not_passed s.devices), λ d n captured is_dead few. start (with_device d (device_after n captured is_dead) s.devices) (passed d n captured is_dead s.devices few)) in
    let progress : Progress k bs channels l owned (history k part) (open_link (slot_link_at k t).environment m) =
    subst (λ x. Progress k bs channels l owned (fold (note_happening k) no_history x) (open_link (slot_link_at k t).environment m)) same
    (subst (λ o. InSlot (J k bs channels l owned) (fold (note_happening k) no_history taken.part) (slot_link_at k t).environment o) was end open') in
    record {
      asked = progress.asked;
      takes = progress.takes;
      numbered = progress.numbered;
      contexts = progress.contexts;
      channels = progress.has_channels;
      devices = progress.devices;
      plays = progress.plays;
      followed = progress.followed;
      idle = progress.idle;
    }
