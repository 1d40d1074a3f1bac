-- What a link is told in a run of the requests that it performs, as one that only records.
use Rattle.std.proofs.Common.{◌≡◌, ◌≤◌, ◌⊎◌, inl, inr, ℕ, ◌+◌, ◌%◌, ◌^◌, ◌==◌, Bool, true, false, ℤ, List, [], ◌∷◌, ◌++◌, drop, find, slice_get, refl, sym, ap, ◌∙◌, subst, append_assoc, append-nil, eqb-true, arith, IfSome, IsSomeAnd}
use Rattle.std.proofs.Math.Path.{fun_ext}
use Rattle.std.proofs.lemmas.List.Elements.{All-cons, All-head, All-nil, All-tail}
use Rattle.std.proofs.lemmas.List.Sums.{fold-append}
use Rattle.std.specs.List.{All, fold}
use Rattle.std.specs.declared.option.Option.{Option}
use Rattle.std.specs.declared.option.Option.TheVariants.{None, Some}
use Rattle.af_context.specs.declared.Context.{Context}
use Rattle.af_wait.specs.Waits.{without_first}
use Rattle.af_wire.specs.declared.order.Order.{Order}
use Rattle.af_wire.specs.Begins.{BeginsWith}
use Rattle.af_wire.specs.Event.{event_bytes}
use Rattle.af_request.specs.Asked.{Asked}
use Rattle.af_request.specs.Answer.{setup as setup_answer}
use Rattle.af_request.specs.Opcodes as opcodes
use Rattle.af_request.specs.Requests.{IsWritable}
use Rattle.af_world.specs.declared.script.DeviceSpec.{DeviceSpec}
use Rattle.af_world.specs.Log.{Log}
use Rattle.af_model.specs.State.{Deferral, DeviceState, EnvironmentState, LinkState, OpenLink, State, none_selected, open_link, say, slot_at, slot_link_at, with_device}
use Rattle.af_model.specs.Controls.{through_input_control}
use Rattle.af_model.specs.Reply.{infos_of, reply_message}
use Rattle.af_model.specs.Play.{in_devices}
use Rattle.af_model.specs.Perform.{channels_at, perform}
use Rattle.af_model.specs.Advance.{without_front}
use Rattle.af_model.specs.Tick.{answer_deferred, complete_deferred, device_after}
use Rattle.af_model.specs.LinkHistory.{LinkHistory, history, no_history, note_happening}
use Rattle.af_model.specs.Turn.{IsTurn}
use Rattle.af_model.specs.Run.{end_state}
use Rattle.af_model.proofs.BoolTestLemmas.{same_number}
use Rattle.af_model.proofs.DeviceHistoryLemmas.{later_passed, laters, lives_completing, with_other, with_there}
use Rattle.af_end_to_end.specs.Sent.{client_bytes}
use Rattle.af_end_to_end.specs.Performing.{AreTaken, Takes, contexts_after, contexts_by, counted, own_waiting}
use Rattle.af_end_to_end.specs.Playing.{AreTurns, StaysOpen, Turn, end_of, given_in}
use Rattle.af_end_to_end.specs.Told.{AreTold, IsAnswered, IsAnsweredInRun, IsEarlier, IsFresh, IsOfRecorder}
use Rattle.af_end_to_end.proofs.DeviceAlikeLemmas.{AlikeAt, AllAlike, alike_with, lives_alike}
use Rattle.af_end_to_end.proofs.ReadingLemmas.{its_setup}
use Rattle.af_end_to_end.proofs.LastingLemmas.{InSlot, Lasts}
use Rattle.af_end_to_end.proofs.TurnLemmas.{lasts_turn}
use Rattle.af_end_to_end.proofs.PerformedLemmas.{Performed, performs}
use Rattle.af_end_to_end.proofs.ToldLemmas.{AreLate, Says, earlier_refl, says}
use Rattle.af_end_to_end.proofs.ProgressLemmas.{channels_alike, idle_none, passed, taken_more, taken_none, taken_setup, taken_then}
use Rattle.af_end_to_end.proofs.PlayingLemmas.{late_run}
use Rattle.af_end_to_end.proofs.SoundingLemmas.{new_takes}
use Rattle.af_end_to_end.proofs.ToldChangeLemmas.{AllEarlier, all_alike, answer_by, found_own, message_of, none_selects, only_one, told_append, told_completes, told_moves}

-- How far a link was told

-- what was queued for a link that made these requests, as one that only records
record SpokenTo (channels : ℕ → Option ℕ) (k : ℕ) (asked : List Asked) (p : OpenLink) : Type 0 where
  selections : p.link.selections ≡ none_selected
  setup_said : List ℕ
  replies : List ℕ
  said : p.environment.said ≡ setup_said ++ replies
  told : AreTold channels p.link.order 0 p.environment.devices (own_waiting k p.environment.waiting) [] asked replies

-- since a link was opened that was so, if its reads gave these bytes before
record Telling (k : ℕ) (channels : ℕ → Option ℕ) (l : LinkState) (before : List ℕ) (g : LinkHistory) (p : OpenLink) : Type 0 where
  asked : List Asked
  takes : Takes l (before ++ g.gave) asked p.link
  numbered : p.link.sequence ≡ counted 0 asked
  contexts : p.link.contexts ≡ contexts_by channels [] asked
  has_channels : (d : ℕ) → channels_at p.environment.devices d ≡ channels d
  late : AreLate p.environment.devices
  told : All IsOfRecorder asked → SpokenTo channels k asked p

alike_late : (ds es : List DeviceState) → AllAlike ds es → AreLate ds → AreLate es
alike_late ds es alike late i e there = by (slice_get ds i) refl (subst (λ o. AlikeAt (slice_get ds i) o) there (alike i))
  where
    by : (o : Option DeviceState) → slice_get ds i ≡ o → AlikeAt o (Some e) → 2 ^ 32 ≤ e.now
    by None is a = absurd a
    by (Some d) is a = let first = late i d is in omega (arith, first, a.now)

-- nothing was asked for before the setup
taken_unset : (s t : Bool) (before after : Order) (asked : List Asked) (bytes rest : List ℕ) → t ≡ false → AreTaken s t before after asked bytes rest → asked ≡ []
taken_unset false false before after asked bytes rest unset h = h.0
taken_unset true false before after asked bytes rest unset h = absurd h
taken_unset s true before after asked bytes rest unset h = absurd (clash unset)
  where
    clash : true ≡ false → ⊥
    clash e = cc

-- all but the last, and the last
all_front : (xs : List Asked) (y : Asked) → All IsOfRecorder (xs ++ y ∷ []) → All IsOfRecorder xs × IsOfRecorder y
all_front [] y h = (All-nil IsOfRecorder, All-head IsOfRecorder y [] h)
all_front (x ∷ xs) y h = let r = all_front xs y (All-tail IsOfRecorder x (xs ++ y ∷ []) h) in (All-cons IsOfRecorder x xs (All-head IsOfRecorder x (xs ++ y ∷ []) h) r.0, r.1)

-- a link has one deferred request at most
abbrev HasOneAtMost : List Deferral → Type 0
HasOneAtMost own = (own ≡ []) ⊎ ((v : Deferral) × (own ≡ v ∷ []))

one_at_most : (channels : ℕ → Option ℕ) (order : Order) (ds : List DeviceState) (own : List Deferral) (asked : List Asked) (number : ℕ) (contexts : List Context) (told : List ℕ) → AreTold channels order number ds own contexts asked told → HasOneAtMost own
one_at_most channels order ds own [] number contexts told h = inl h.1
one_at_most channels order ds own (a ∷ asked) number contexts told (inl t) = one_at_most channels order ds own asked ((number + 1) % 2 ^ 16) (contexts_after channels contexts a) t.1 t.4
one_at_most channels order ds own (a ∷ asked) number contexts told (inr h) = inr (h.2, h.3)

module _ (k : ℕ) (channels : ℕ → Option ℕ) (l : LinkState) (before : List ℕ) where
  abbrev J : LinkHistory → OpenLink → Type 0
  J g p = Telling k channels l before g p

  becomes : (g f : LinkHistory) (p q : OpenLink) (h : J g p) → Takes l (before ++ f.gave) h.asked q.link → q.link.sequence ≡ p.link.sequence → q.link.contexts ≡ p.link.contexts → ((d : ℕ) → channels_at q.environment.devices d ≡ channels_at p.environment.devices d) → AreLate q.environment.devices →
      (SpokenTo channels k h.asked p → SpokenTo channels k h.asked q) → J f q
  becomes g f p q h takes sequence contexts same late spoken = record {
    asked = h.asked;
    takes = takes;
    numbered = sequence ∙ h.numbered;
    contexts = contexts ∙ h.contexts;
    has_channels = λ d. same d ∙ h.has_channels d;
    late = late;
    told = λ all. spoken (h.told all);
  }

  -- devices become later
  moves : (g : LinkHistory) (p : OpenLink) (a : EnvironmentState) (h : J g p) → AllEarlier p.environment.devices a.devices → AreLate a.devices → ((d : ℕ) → channels_at a.devices d ≡ channels_at p.environment.devices d) → own_waiting k a.waiting ≡ own_waiting k p.environment.waiting → a.said ≡ p.environment.said → J g (open_link a p.link)
  moves g p a h later late same waiting said = becomes g g p (open_link a p.link) h h.takes refl refl same late (λ s. record {
    selections = s.selections;
    setup_said = s.setup_said;
    replies = s.replies;
    said = said ∙ s.said;
    told = subst (λ w. AreTold channels p.link.order 0 a.devices w [] h.asked s.replies) (sym waiting) (told_moves channels p.link.order p.environment.devices a.devices later h.asked 0 (own_waiting k p.environment.waiting) [] s.replies s.told);
  })

  one_more : (g : LinkHistory) (p : OpenLink) (n : ℕ) (request : Asked) (h : J g p) → own_waiting k p.environment.waiting ≡ [] → (q : OpenLink) → Performed k request (open_link p.environment (without_front n p.link)) q → (IsOfRecorder request → Says k request (open_link p.environment (without_front n p.link)) q) →
      AreTaken l.is_set_up p.link.is_set_up l.order p.link.order (h.asked ++ request ∷ []) (l.rest ++ (before ++ g.gave)) (drop n p.link.rest) → J g q
  one_more g p n request h none q r saying taken =
      let ds = p.environment.devices in
      let es = q.environment.devices in
      let given = l.rest ++ (before ++ g.gave) in
      let same : channels_at ds ≡ channels = fun_ext h.has_channels in
      record {
        asked = h.asked ++ request ∷ [];
        takes =
            subst (λ x. AreTaken l.is_set_up q.link.is_set_up l.order q.link.order (h.asked ++ request ∷ []) given x) (sym r.rest)
            (subst (λ o. AreTaken l.is_set_up q.link.is_set_up l.order o (h.asked ++ request ∷ []) given (drop n p.link.rest)) (sym r.order)
            (subst (λ b. AreTaken l.is_set_up b l.order p.link.order (h.asked ++ request ∷ []) given (drop n p.link.rest)) (sym r.set) taken));
        numbered = r.sequence ∙ ap (λ n. (n + 1) % 2 ^ 16) h.numbered ∙ sym (fold-append (λ n a. (n + 1) % 2 ^ 16) 0 h.asked (request ∷ []));
        contexts = r.contexts ∙ ap (λ c. contexts_after c p.link.contexts request) same ∙ ap (λ c. contexts_after channels c request) h.contexts ∙ sym (fold-append (contexts_after channels) [] h.asked (request ∷ []));
        has_channels = λ d. channels_alike (slice_get ds d) (slice_get es d) (r.devices d) ∙ h.has_channels d;
        late = alike_late ds es r.devices h.late;
        told = λ all. spoken same (all_front h.asked request all);
      }
    where
      spoken : channels_at p.environment.devices ≡ channels → All IsOfRecorder h.asked × IsOfRecorder request → SpokenTo channels k (h.asked ++ request ∷ []) q
      spoken same all =
          let ds = p.environment.devices in
          let es = q.environment.devices in
          let own = own_waiting k q.environment.waiting in
          let s = h.told all.0 in
          let t = saying all.1 in
          let old : AreTold channels p.link.order 0 es [] [] h.asked s.replies =
          told_moves channels p.link.order ds es (all_alike ds es r.devices) h.asked 0 [] [] s.replies (subst (λ w. AreTold channels p.link.order 0 ds w [] h.asked s.replies) none s.told) in
          let new : AreTold channels p.link.order (counted 0 h.asked) es own (contexts_by channels [] h.asked) (request ∷ []) t.message =
          subst (λ c. AreTold channels p.link.order (counted 0 h.asked) es own c (request ∷ []) t.message) h.contexts
          (subst (λ m. AreTold channels p.link.order m es own p.link.contexts (request ∷ []) t.message) h.numbered
          (subst (λ c. AreTold c p.link.order p.link.sequence es own p.link.contexts (request ∷ []) t.message) same (t.told none))) in
          record {
            selections = t.selections ∙ s.selections;
            setup_said = s.setup_said;
            replies = s.replies ++ t.message;
            said = t.said ∙ ap (λ l. l ++ t.message) s.said ∙ append_assoc s.setup_said s.replies t.message;
            told = subst (λ o. AreTold channels o 0 es own [] (h.asked ++ request ∷ []) (s.replies ++ t.message)) (sym r.order) (told_append channels p.link.order es own (request ∷ []) t.message h.asked 0 [] s.replies old new);
          }

  -- its deferred request completes
  completed : (g : LinkHistory) (p : OpenLink) (passes : Deferral → Bool) (w : Deferral) (device : DeviceState) → find passes p.environment.waiting ≡ Some w → (w.link == k) ≡ true → slice_get p.environment.devices w.device ≡ Some device → J g p →
      J g (answer_deferred w.deferred device (in_devices w.device (complete_deferred k w.deferred) (open_link (record p.environment { waiting = without_first passes p.environment.waiting }) p.link)))
  completed g p passes w device found own there h =
      answer_by (λ r. J g r) w.deferred device q
      (λ none. becomes g g p q h h.takes refl refl same late (λ s. record {
        selections = s.selections;
        setup_said = s.setup_said;
        replies = s.replies;
        said = s.said;
        told = subst (λ x. AreTold channels p.link.order 0 es (own_waiting k fewer) [] h.asked x) (ap (λ m. s.replies ++ m) none ∙ append-nil s.replies) (spoken s);
      }))
      (becomes g g p (say q message) h h.takes refl refl same late (λ s. record {
        selections = s.selections;
        setup_said = s.setup_said;
        replies = s.replies ++ message;
        said = ap (λ x. x ++ message) s.said ∙ append_assoc s.setup_said s.replies message;
        told = spoken s;
      }))
    where
      fewer : List Deferral
      fewer = without_first passes p.environment.waiting

      ds : List DeviceState
      ds = p.environment.devices

      es : List DeviceState
      es = with_device w.device (complete_deferred k w.deferred) ds

      q : OpenLink
      q = open_link (record p.environment { devices = es; waiting = fewer }) p.link

      message : List ℕ
      message = message_of p.link.order p.link.sequence device w.deferred

      alike : AllAlike ds es
      alike = alike_with w.device (complete_deferred k w.deferred) ds (λ x is. lives_alike x (complete_deferred k w.deferred x) refl refl (lives_completing k x w.deferred))

      same : (d : ℕ) → channels_at es d ≡ channels_at ds d
      same d = channels_alike (slice_get ds d) (slice_get es d) (alike d)

      late : AreLate es
      late = alike_late ds es alike h.late

      own_one : HasOneAtMost (own_waiting k p.environment.waiting) → (v : Deferral) × (own_waiting k p.environment.waiting ≡ v ∷ [])
      own_one (inl none) = absurd (found_own passes k p.environment.waiting w found own none)
      own_one (inr one) = one

      spoken : (s : SpokenTo channels k h.asked p) → AreTold channels p.link.order 0 es (own_waiting k fewer) [] h.asked (s.replies ++ message)
      spoken s =
          let one = own_one (one_at_most channels p.link.order ds (own_waiting k p.environment.waiting) h.asked 0 [] s.replies s.told) in
          subst (λ x. AreTold channels p.link.order 0 es x [] h.asked (s.replies ++ message)) (sym (only_one passes k p.environment.waiting w one.0 found own one.1).none_left)
          (told_completes channels p.link.order ds es (all_alike ds es alike) (own_waiting k p.environment.waiting) w device there (found_own passes k p.environment.waiting w found own) (λ v is. (only_one passes k p.environment.waiting w v found own is).is)
          h.asked 0 p.link.sequence [] s.replies s.told (sym h.numbered))

  telling_lasts : Lasts k J
  telling_lasts = record {
    link = λ g p m rest set order sequence contexts selections h.
        becomes g g p (open_link p.environment m) h
        (subst (λ x. AreTaken l.is_set_up m.is_set_up l.order m.order h.asked (l.rest ++ (before ++ g.gave)) x) (sym rest)
        (subst (λ o. AreTaken l.is_set_up m.is_set_up l.order o h.asked (l.rest ++ (before ++ g.gave)) p.link.rest) (sym order)
        (subst (λ b. AreTaken l.is_set_up b l.order p.link.order h.asked (l.rest ++ (before ++ g.gave)) p.link.rest) (sym set) h.takes)))
        sequence contexts (λ d. refl) h.late
        (λ s. record { selections = selections ∙ s.selections; setup_said = s.setup_said; replies = s.replies; said = s.said; told = subst (λ o. AreTold channels o 0 p.environment.devices (own_waiting k p.environment.waiting) [] h.asked s.replies) (sym order) s.told });
    tells = λ g p e selected h. becomes g g p (say p (event_bytes p.link.order e p.link.sequence)) h h.takes refl refl (λ d. refl) h.late (λ s. absurd (clash (sym (none_selects p.link e.device e.kind s.selections) ∙ selected)));
    quiet = λ g f p same h. becomes g f p p h (subst (λ x. Takes l (before ++ x) h.asked p.link) (sym same) h.takes) refl refl (λ d. refl) h.late (λ s. s);
    given = λ g p bytes h.
        becomes g (record g { gave = g.gave ++ bytes }) p (open_link p.environment (record p.link { rest = p.link.rest ++ bytes })) h
        (subst (λ x. AreTaken l.is_set_up p.link.is_set_up l.order p.link.order h.asked x (p.link.rest ++ bytes)) (append_assoc l.rest (before ++ g.gave) bytes ∙ ap (λ x. l.rest ++ x) (append_assoc before g.gave bytes))
        (taken_more l.is_set_up p.link.is_set_up l.order p.link.order h.asked (l.rest ++ (before ++ g.gave)) p.link.rest bytes h.takes))
        refl refl (λ d. refl) h.late (λ s. record { selections = s.selections; setup_said = s.setup_said; replies = s.replies; said = s.said; told = s.told });
    sets_up = λ g p order unset e h.
        let m : LinkState = record (without_front 8 p.link) { is_set_up = true; order = order } in
        let bytes = reply_message order opcodes.setup (setup_answer (infos_of p.environment.devices)) 0 in
        let none : h.asked ≡ [] = taken_unset l.is_set_up p.link.is_set_up l.order p.link.order h.asked (l.rest ++ (before ++ g.gave)) p.link.rest unset h.takes in
        becomes g g p (say (open_link p.environment m) bytes) h (taken_setup l.is_set_up p.link.is_set_up l.order p.link.order order h.asked (l.rest ++ (before ++ g.gave)) p.link.rest unset h.takes e) refl refl (λ d. refl) h.late
        (λ s. record {
          selections = s.selections;
          setup_said = p.environment.said ++ bytes;
          replies = [];
          said = sym (append-nil (p.environment.said ++ bytes));
          told = new_told p order h.asked s.replies none s.told;
        });
    performs = λ g p n request set idle e asked h.
        let from = open_link p.environment (without_front n p.link) in
        one_more g p n request h (idle_none p.environment.waiting k idle) (perform k request from) (performs k request from) (λ its. says k request from h.late its)
        (taken_then l.is_set_up p.link.is_set_up l.order p.link.order h.asked (l.rest ++ (before ++ g.gave)) p.link.rest n request set h.takes e asked);
    others = λ g p a alike same said h.
        moves g p a h (all_alike p.environment.devices a.devices alike) (alike_late p.environment.devices a.devices alike h.late) (λ d. channels_alike (slice_get p.environment.devices d) (slice_get a.devices d) (alike d)) same said;
    completes = λ g p passes w device found own there h. completed g p passes w device found (ap (λ n. n == k) own ∙ same_number k) there h;
  }
    where
      clash : false ≡ true → ⊥
      clash e = cc

      new_told : (p : OpenLink) (order : Order) (asked : List Asked) (replies : List ℕ) → asked ≡ [] → AreTold channels p.link.order 0 p.environment.devices (own_waiting k p.environment.waiting) [] asked replies → AreTold channels order 0 p.environment.devices (own_waiting k p.environment.waiting) [] asked []
      new_told p order asked replies none told =
          let old : AreTold channels p.link.order 0 p.environment.devices (own_waiting k p.environment.waiting) [] [] replies = subst (λ a. AreTold channels p.link.order 0 p.environment.devices (own_waiting k p.environment.waiting) [] a replies) none told in
          subst (λ a. AreTold channels order 0 p.environment.devices (own_waiting k p.environment.waiting) [] a []) (sym none) (refl, old.1)

-- Turns

-- sample periods go by
passed_earlier : (d n : ℕ) (captured : List ℤ) (is_dead : Bool) (ds : List DeviceState) → AllEarlier ds (with_device d (device_after n captured is_dead) ds)
passed_earlier d n captured is_dead ds i x there = by (d == i) refl
  where
    by : (t : Bool) → (d == i) ≡ t → (e : DeviceState) × (slice_get (with_device d (device_after n captured is_dead) ds) i ≡ Some e) × IsEarlier x e
    by false other = (x, with_other d (device_after n captured is_dead) ds i other ∙ there, earlier_refl x)
    by true same =
        let own : slice_get ds d ≡ Some x = ap (slice_get ds) (eqb-true d i same) ∙ there in (
          device_after n captured is_dead x,
          ap (slice_get (with_device d (device_after n captured is_dead) ds)) (sym (eqb-true d i same)) ∙ with_there d (device_after n captured is_dead) ds x own,
          record { now = omega arith; begin = refl; rate = refl; channels = refl; more = through_input_control x.controls captured; captured = refl },
        )

passed_late : (d n : ℕ) (captured : List ℤ) (is_dead : Bool) (ds : List DeviceState) → AreLate ds → AreLate (with_device d (device_after n captured is_dead) ds)
passed_late d n captured is_dead ds late i e there =
    let es = with_device d (device_after n captured is_dead) ds in
    let b = laters.back ds es i e (laters.change d (device_after n captured is_dead) ds (λ x is. later_passed x n captured is_dead)) there in
    let first = late i b.0 b.1 in
    omega (arith, first, b.2.now)

module _ (k : ℕ) (channels : ℕ → Option ℕ) (l : LinkState) where
  telling_turn : (before : List ℕ) (s : State) (part : Log) (t : State) (m n : LinkState) → IsTurn s part t → (slot_at k s).link ≡ Some m → (slot_at k t).link ≡ Some n → n.closing ≡ None → Telling k channels l before no_history (open_link (slot_link_at k s).environment m) →
      Telling k channels l before (history k part) (open_link (slot_link_at k t).environment n)
  telling_turn before s part t m n turns is was open' h =
      let taken = lasts_turn k (J k channels l before) (telling_lasts k channels l before) s m is (part ++ []) (record { state = t; log = [] }) (turns []) in
      let same : taken.part ≡ part = sym (append-nil taken.part) ∙ sym taken.whole ∙ append-nil part in
      let said = (slot_at k s).said in
      let start : (ds : List DeviceState) → Telling k channels l before no_history (open_link (record { devices = ds; waiting = s.waiting; said = said }) m) → InSlot (J k channels l before) no_history (record { devices = ds; waiting = s.waiting; said = said }) (slot_at k s).link =
      λ ds p. subst (λ o. InSlot (J k channels l before) no_history (record { devices = ds; waiting = s.waiting; said = said }) o) (sym is) (λ open'. p) in
      let end : InSlot (J k channels l before) (fold (note_happening k) no_history taken.part) (slot_link_at k t).environment (slot_at k t).link =
      taken.holds no_history (
        start s.devices h,
        λ d c captured is_dead few.
            let ds = with_device d (device_after c captured is_dead) s.devices in
            start ds
            (moves k channels l before no_history (open_link (slot_link_at k s).environment m) (record { devices = ds; waiting = s.waiting; said = said }) h (passed_earlier d c captured is_dead s.devices) (passed_late d c captured is_dead s.devices h.late) (passed d c captured is_dead s.devices few).has_channels refl refl),
      ) in
      subst (λ x. Telling k channels l before (fold (note_happening k) no_history x) (open_link (slot_link_at k t).environment n)) same
      (subst (λ o. InSlot (J k channels l before) (fold (note_happening k) no_history taken.part) (slot_link_at k t).environment o) was end open')

  -- the next turn begins
  next_turn : (before : List ℕ) (g : LinkHistory) (p : OpenLink) → Telling k channels l before g p → Telling k channels l (before ++ g.gave) no_history p
  next_turn before g p h = record {
    asked = h.asked;
    takes = subst (λ x. Takes l x h.asked p.link) (sym (append-nil (before ++ g.gave))) h.takes;
    numbered = h.numbered;
    contexts = h.contexts;
    has_channels = h.has_channels;
    late = h.late;
    told = h.told;
  }

  -- a link that is open at the end, and how far it was told
  record TellingAt (given : List ℕ) (s : State) : Type 0 where
    link : LinkState
    is : (slot_at k s).link ≡ Some link
    telling : Telling k channels l given no_history (open_link (slot_link_at k s).environment link)

  telling_on : (turns : List Turn) (before : List ℕ) (s : State) → TellingAt before s → AreTurns s turns → All (StaysOpen k) turns → TellingAt (before ++ given_in k turns) (end_of s turns)
  telling_on [] before s h are stays = subst (λ x. TellingAt x s) (sym (append-nil before)) h
  telling_on (turn ∷ more) before s h are stays =
      goes (slot_at k turn.after).link refl (All-head (StaysOpen k) turn more stays) (λ next. telling_on more (before ++ (history k turn.part).gave) turn.after next are.1 (All-tail (StaysOpen k) turn more stays))
    where
      goes : (o : Option LinkState) → (slot_at k turn.after).link ≡ o → IsSomeAnd o (λ l. l.closing ≡ None) → (TellingAt (before ++ (history k turn.part).gave) turn.after → TellingAt ((before ++ (history k turn.part).gave) ++ given_in k more) (end_of turn.after more)) →
          TellingAt (before ++ given_in k (turn ∷ more)) (end_of s (turn ∷ more))
      goes None was open' again = absurd open'
      goes (Some n) was open' again =
          let gave = (history k turn.part).gave in
          let now = telling_turn before s turn.part turn.after h.link n are.0 h.is was open' h.telling in
          subst (λ x. TellingAt x (end_of turn.after more)) (append_assoc before gave (given_in k more))
          (again (record { link = n; is = was; telling = next_turn before (history k turn.part) (open_link (slot_link_at k turn.after).environment n) now }))

fresh_telling : (k : ℕ) (s : State) (l : LinkState) → AreLate s.devices → (slot_at k s).link ≡ Some l → IsFresh s k l → TellingAt k (channels_at s.devices) l [] s
fresh_telling k s l late is fresh = record {
  link = l;
  is = is;
  telling = record {
    asked = [];
    takes = taken_none l.is_set_up l.order (l.rest ++ []) l.rest (sym (append-nil l.rest));
    numbered = fresh.none_made;
    contexts = fresh.new.no_contexts;
    has_channels = λ d. refl;
    late = late;
    told = λ all. record { selections = fresh.none_selected; setup_said = []; replies = []; said = fresh.unsaid; told = (refl, fresh.none_waits) };
  };
}

-- the first of requests of a client that only records
all_first : (xs ys : List Asked) → All IsOfRecorder (xs ++ ys) → All IsOfRecorder xs
all_first [] ys h = All-nil IsOfRecorder
all_first (x ∷ xs) ys h = All-cons IsOfRecorder x xs (All-head IsOfRecorder x (xs ++ ys) h) (all_first xs ys (All-tail IsOfRecorder x (xs ++ ys) h))

-- the byte order of the link is that of its client, once it is set up
ordered : (set : Bool) (before after order : Order) (asked requests : List Asked) (bytes more rest : List ℕ) → bytes ++ more ≡ client_bytes order requests → AreTaken false set before after asked bytes rest → (asked ≡ []) ⊎ (after ≡ order)
ordered false before after order asked requests bytes more rest same h = inl h.0
ordered true before after order asked requests bytes more rest same h = inr (its_setup order after requests bytes more same h.0).same

told_ordered : (channels : ℕ → Option ℕ) (after order : Order) (ds : List DeviceState) (own : List Deferral) (asked : List Asked) (told : List ℕ) → (asked ≡ []) ⊎ (after ≡ order) → AreTold channels after 0 ds own [] asked told → AreTold channels order 0 ds own [] asked told
told_ordered channels after order ds own asked told (inr same) h = subst (λ o. AreTold channels o 0 ds own [] asked told) same h
told_ordered channels after order ds own asked told (inl none) h =
    let old : AreTold channels after 0 ds own [] [] told = subst (λ a. AreTold channels after 0 ds own [] a told) none h in
    subst (λ a. AreTold channels order 0 ds own [] a told) (sym none) old

pub is_answered : (config : List DeviceSpec) (log : Log) (s : State) → end_state config log ≡ Some s → (k : ℕ) (l : LinkState) (turns : List Turn) → (slot_at k s).link ≡ Some l → IsFresh s k l → AreTurns s turns → All (StaysOpen k) turns →
    (order : Order) (requests : List Asked) → All IsWritable requests → All IsOfRecorder requests → BeginsWith (given_in k turns) (client_bytes order requests) → IsAnswered k s (end_of s turns) order requests
is_answered config log s r k l turns is fresh are stays order requests fit its begins =
    let end = telling_on k (channels_at s.devices) l turns [] s (fresh_telling k s l (late_run config log s r) is fresh) are stays in
    let h = end.telling in
    let takes : Takes l (given_in k turns) h.asked end.link = subst (λ x. Takes l x h.asked end.link) (append-nil (given_in k turns)) h.takes in
    let a = new_takes l end.link order h.asked requests (given_in k turns) fresh.new fit begins takes in
    let which = ordered end.link.is_set_up l.order end.link.order order h.asked requests (given_in k turns) begins.rest end.link.rest (sym begins.is)
    (subst (λ x. AreTaken false end.link.is_set_up l.order end.link.order h.asked (x ++ given_in k turns) end.link.rest) fresh.new.unread
    (subst (λ b. AreTaken b end.link.is_set_up l.order end.link.order h.asked (l.rest ++ given_in k turns) end.link.rest) fresh.new.unset takes)) in
    let spoken = h.told (all_first h.asked a.more (subst (All IsOfRecorder) a.in_order its)) in
    record {
      done = h.asked;
      more = a.more;
      in_order = a.in_order;
      channels = h.has_channels;
      setup_reply = spoken.setup_said;
      replies = spoken.replies;
      said = spoken.said;
      told = told_ordered (channels_at s.devices) end.link.order order (end_of s turns).devices (own_waiting k (end_of s turns).waiting) h.asked spoken.replies which spoken.told;
    }

pub is_answered_in_run : (config : List DeviceSpec) (log : Log) → IsAnsweredInRun config log
is_answered_in_run config log =
    elim (end_state config log) as (λ o. end_state config log ≡ o → IfSome o (λ s. (k : ℕ) (l : LinkState) (turns : List Turn) → (slot_at k s).link ≡ Some l → IsFresh s k l → AreTurns s turns →
    All (StaysOpen k) turns → (order : Order) (requests : List Asked) → All IsWritable requests → All IsOfRecorder requests → BeginsWith (given_in k turns) (client_bytes order requests) → IsAnswered k s (end_of s turns) order requests)) [
      | None ↦ λ r. tt
      | Some s ↦ λ r. is_answered config log s r
    ] refl
