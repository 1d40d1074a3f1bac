-- What a link performs in a run.
use Rattle.std.proofs.Common.{◌≡◌, ◌≤◌, ◌⊎◌, inl, inr, ℕ, zero, suc, ◌+◌, ◌%◌, ◌^◌, ◌==◌, Bool, true, false, cond, List, [], ◌∷◌, ◌++◌, length, drop, map, slice_get, refl, sym, ap, ◌∙◌, subst, append_assoc, append-nil, arith, IfSome, IsSomeAnd}
use Rattle.std.proofs.Math.Nat.{div-le_self}
use Rattle.std.proofs.lemmas.Bool.Decides.{nat_tests}
use Rattle.std.proofs.lemmas.List.Elements.{All-append, All-cons, All-filter, All-head, All-nil, All-tail}
use Rattle.std.proofs.lemmas.List.Sums.{fold-append}
use Rattle.std.specs.List.{All}
use Rattle.std.specs.declared.option.Option.{Option}
use Rattle.std.specs.declared.option.Option.TheVariants.{None, Some}
use Rattle.af_time.specs.DeviceTime.{unwrap}
use Rattle.af_sample.specs.Rates.{IsListedRate}
use Rattle.af_context.specs.declared.Context.{Context}
use Rattle.af_wire.specs.declared.order.Order.{Order}
use Rattle.af_request.specs.Asked.{Asked}
use Rattle.af_world.specs.declared.script.DeviceSpec.{DeviceSpec}
use Rattle.af_world.specs.Log.{Log}
use Rattle.af_model.specs.State.{Deferral, DeviceState, LinkState, State, deferred_play, opening_device, opening_state, slot_at}
use Rattle.af_model.specs.Play.{sent_sound}
use Rattle.af_model.specs.Perform.{channels_at}
use Rattle.af_model.specs.LinkHistory.{history}
use Rattle.af_model.specs.Turn.{IsTurn, turn}
use Rattle.af_model.specs.Run.{end_by, end_state, wakes}
use Rattle.af_model.proofs.BoolTestLemmas.{none_some, some_is}
use Rattle.af_model.proofs.DeviceHistoryLemmas.{Laters, laters}
use Rattle.af_model.proofs.RunLemmas.{run_inv}
use Rattle.af_model.proofs.SafeLemmas.{AwaitedIn, IsAwaited, IsSafe, SafeState, all_at, slack_for}
use Rattle.af_model.proofs.WakeLemmas.{turned}
use Rattle.af_end_to_end.specs.Performing.{AreAsked, AreTaken, GoesOn, IsFollowedUp, IsPlayedNow, IsTakenUp, Performs, SentPlay, Takes, contexts_after, contexts_by, counted, ends_prompt, is_prompt, own_waiting, play_of_request, plays_by}
use Rattle.af_end_to_end.specs.Playing.{AreTurns, IsAccepted, IsDeferred, IsTakenUpBy, Performance, PerformsIn, PlaysInRun, PlaysOn, StaysOpen, Turn, end_of, given_in, performed_in, played_at, plays_in, requests_of}
use Rattle.af_end_to_end.proofs.PerformedLemmas.{get_front}
use Rattle.af_end_to_end.proofs.ProgressLemmas.{contexts_same, performs_in_turns, plays_same, taken_more, taken_none}

-- What is safe

opening_safe : (config : List DeviceSpec) → All (λ c. IsListedRate c.rate) config → All (λ device. IsSafe device) (map opening_device config)
opening_safe [] listed = All-nil (λ device. IsSafe device)
opening_safe (c ∷ config) listed =
    All-cons (λ device. IsSafe device) (opening_device c) (map opening_device config) (record { rate = least c.rate (All-head (λ c. IsListedRate c.rate) c config listed); loses_none = λ k d low. absurd (omega arith) })
    (opening_safe config (All-tail (λ c. IsListedRate c.rate) c config listed))
  where
    least : (rate : ℕ) → IsListedRate rate → 8000 ≤ rate
    least rate listed = grind (arith, nat_tests)

run_safe : (n : ℕ) (s : State) (log : Log) (e : State) → SafeState 0 0 s → end_by n s log ≡ Some e → SafeState 0 0 e
run_safe zero s [] e h r = subst (SafeState 0 0) (some_is r) h
run_safe zero s (x ∷ log) e h r = absurd (none_some r)
run_safe (suc n) s log e h r =
    let i = run_inv (turn s log) (end_by n) e r in
    run_safe n i.0.state i.0.log e ((turned s log i.0 i.1).holds.goes.safe h) i.2

turn_safe : (s : State) (part : Log) (t : State) → IsTurn s part t → SafeState 0 0 s → SafeState 0 0 t
turn_safe s part t is h = (turned s (part ++ []) (record { state = t; log = [] }) (is [])).holds.goes.safe h

-- Times begin at 2^32

abbrev pub IsLate : State → Type 0
IsLate s = (d : ℕ) (x : DeviceState) → slice_get s.devices d ≡ Some x → 2 ^ 32 ≤ x.now

later_late : (s t : State) → Laters s.devices t.devices → IsLate s → IsLate t
later_late s t l h d x there = let b = laters.back s.devices t.devices d x l there in let first = h d b.0 b.1 in omega (arith, first, b.2.now)

turn_late : (s : State) (part : Log) (t : State) → IsTurn s part t → IsLate s → IsLate t
turn_late s part t is h = later_late s t (turned s (part ++ []) (record { state = t; log = [] }) (is [])).holds.goes.devices h

run_late : (n : ℕ) (s : State) (log : Log) (e : State) → IsLate s → end_by n s log ≡ Some e → IsLate e
run_late zero s [] e h r = subst (λ t. IsLate t) (some_is r) h
run_late zero s (x ∷ log) e h r = absurd (none_some r)
run_late (suc n) s log e h r =
    let i = run_inv (turn s log) (end_by n) e r in
    run_late n i.0.state i.0.log e (later_late s i.0.state (turned s log i.0 i.1).holds.goes.devices h) i.2

opening_late : (config : List DeviceSpec) → IsLate (opening_state config)
opening_late config d x there = at config d there
  where
    at : (config : List DeviceSpec) (d : ℕ) → slice_get (map opening_device config) d ≡ Some x → 2 ^ 32 ≤ x.now
    at [] d there = absurd (none_some there)
    at (c ∷ config) zero there = subst (λ (y : DeviceState). 2 ^ 32 ≤ y.now) (some_is there) (omega arith)
    at (c ∷ config) (suc d) there = at config d there

pub late_run : (config : List DeviceSpec) (log : Log) (s : State) → end_state config log ≡ Some s → IsLate s
unfolding end_state
late_run config log s r = run_late (wakes log) (opening_state config) log s (opening_late config) r

-- a deferred request of a link that is safe

awaited : (k : ℕ) (s : State) (i : ℕ) (w : Deferral) → SafeState 0 0 s → slice_get (own_waiting k s.waiting) i ≡ Some w → AwaitedIn 0 0 s.devices w
awaited k s i w h there = all_at (λ v. AwaitedIn 0 0 s.devices v) (own_waiting k s.waiting) i w (All-filter (λ v. v.link == k) (λ v. AwaitedIn 0 0 s.devices v) s.waiting h.waiting) there

-- A play, from one state to the next

-- a play that was performed when the time of its device was this, by a later state
record Sofar (k now channels : ℕ) (sent : SentPlay) (s : State) : Type 0 where
  device : DeviceState
  is_there : slice_get s.devices sent.context.device ≡ Some device
  rises : now ≤ device.now
  same : device.channels ≡ channels
  has_frame : (length (sent_sound sent.context sent.bytes) == 0) ≡ false
  taken_up : IsAccepted now device sent ⊎ IsDeferred k now s sent

sofar_goes : (k now channels : ℕ) (sent : SentPlay) (s : State) (l : LinkState) (given : List ℕ) (t : State) (m : LinkState) → SafeState 0 0 s → Performs k s l given t m → Sofar k now channels sent s → Sofar k now channels sent t
sofar_goes k now channels sent s l given t m safe p h =
    let d = p.devices sent.context.device h.device h.is_there in
    record {
      device = d.0;
      is_there = d.1;
      rises = omega (arith, h.rises, d.2.rises);
      same = d.2.channels ∙ h.same;
      has_frame = h.has_frame;
      taken_up = goes d.0 d.1 d.2 h.taken_up;
    }
  where
    -- it was accepted in this turn
    by : (e : DeviceState) → GoesOn h.device e → (quiet : Bool) (w : Deferral) → w ≡ record { link = k; device = sent.context.device; deferred = deferred_play quiet (unwrap now sent.time) (sent_sound sent.context sent.bytes) sent.context.preempt } → AwaitedIn 0 0 s.devices w → e.now ≤ unwrap now sent.time
    by e g quiet w is one =
        let a : AwaitedIn 0 0 s.devices (record { link = k; device = sent.context.device; deferred = deferred_play quiet (unwrap now sent.time) (sent_sound sent.context sent.bytes) sent.context.preempt }) = subst (AwaitedIn 0 0 s.devices) is one in
        let rate = (all_at (λ x. IsSafe x) s.devices sent.context.device h.device safe.devices h.is_there).rate in
        soon e g (slack_for 0 0 (record { link = k; device = sent.context.device; deferred = deferred_play quiet (unwrap now sent.time) (sent_sound sent.context sent.bytes) sent.context.preempt })) (nothing (sent.context.device == 0)) quiet rate (a h.device h.is_there)
      where
        nothing : (b : Bool) → cond {A = ℕ} b 0 0 ≡ 0
        nothing true = refl
        nothing false = refl

        soon : (e : DeviceState) → GoesOn h.device e → (slack : ℕ) → slack ≡ 0 → (quiet : Bool) → 8000 ≤ h.device.rate → IsAwaited slack h.device (deferred_play quiet (unwrap now sent.time) (sent_sound sent.context sent.bytes) sent.context.preempt) → e.now ≤ unwrap now sent.time
        soon e g slack none quiet rate a = omega (arith, none, rate, g.few, a.soon, a.ever, a.short, div-le_self (length (sent_sound sent.context sent.bytes)) h.device.channels)

    goes : (e : DeviceState) → slice_get t.devices sent.context.device ≡ Some e → GoesOn h.device e → IsAccepted now h.device sent ⊎ IsDeferred k now s sent → IsAccepted now e sent ⊎ IsDeferred k now t sent
    goes e there g (inl a) = inl (record { place = a.place; at = a.at; is = ap (λ x. slice_get x a.place) g.accepted ∙ get_front h.device.accepted g.more a.place _ a.is; not_before = a.not_before; by_start = a.by_start })
    goes e there g (inr w) =
        let own : Deferral = record { link = k; device = sent.context.device; deferred = deferred_play w.1 (unwrap now sent.time) (sent_sound sent.context sent.bytes) sent.context.preempt } in
        follow e there g w.1 (by e g w.1 own refl (awaited k s w.0 own safe w.2)) (all_at (IsFollowedUp k t.devices t.waiting) (own_waiting k s.waiting) w.0 own p.followed w.2)
      where
        follow : (e : DeviceState) → slice_get t.devices sent.context.device ≡ Some e → GoesOn h.device e → (quiet : Bool) → e.now ≤ unwrap now sent.time →
            IsFollowedUp k t.devices t.waiting (record { link = k; device = sent.context.device; deferred = deferred_play quiet (unwrap now sent.time) (sent_sound sent.context sent.bytes) sent.context.preempt }) → IsAccepted now e sent ⊎ IsDeferred k now t sent
        follow e there g quiet early (inl f) = inr (f.0, quiet, f.1)
        follow e there g quiet early (inr (inl none)) = absurd (clash (sym (ap (λ n. n == 0) none) ∙ h.has_frame))
          where
            clash : true ≡ false → ⊥
            clash e = cc
        follow e there g quiet early (inr (inr f)) =
            let is : f.0 ≡ e = some_is (sym f.2 ∙ there) in
            inl (record {
              place = f.1;
              at = e.now;
              is = subst (λ (x : DeviceState). slice_get x.accepted f.1 ≡ Some (record { start = unwrap now sent.time; samples = sent_sound sent.context sent.bytes; preempt = sent.context.preempt; at = x.now })) is f.3;
              not_before = omega (arith, h.rises, g.rises);
              by_start = inr early;
            })

sofar_ends : (k now channels : ℕ) (sent : SentPlay) (turns : List Turn) (s : State) (l : LinkState) (done : List Performance) (end : LinkState) → SafeState 0 0 s → AreTurns s turns → PerformsIn k s l turns done end → Sofar k now channels sent s →
    Sofar k now channels sent (end_of s turns)
sofar_ends k now channels sent [] s l done end safe are p h = h
sofar_ends k now channels sent (turn ∷ more) s l done end safe are p h =
    sofar_ends k now channels sent more turn.after p.0 p.3 end (turn_safe s turn.part turn.after are.0 safe) are.1 p.5 (sofar_goes k now channels sent s l (history k turn.part).gave turn.after p.0 safe p.2 h)

-- a play that was performed in a turn
begun : (k : ℕ) (t : State) (sent : SentPlay) (h : IsPlayedNow k t.devices t.waiting sent) → Sofar k h.device.now h.device.channels sent t
begun k t sent h = record { device = h.device; is_there = h.is_there; rises = omega arith; same = refl; has_frame = h.has_frame; taken_up = up h.taken_up }
  where
    up : IsTakenUp k h.device t.waiting sent → IsAccepted h.device.now h.device sent ⊎ IsDeferred k h.device.now t sent
    up (inl e) = inl (record { place = e.0; at = h.device.now; is = e.1; not_before = omega arith; by_start = inl refl })
    up (inr e) = inr (e.0, e.1, e.2)

taken_up_by : (k : ℕ) (turns : List Turn) (t : State) (m : LinkState) (done : List Performance) (end : LinkState) → SafeState 0 0 t → IsLate t → AreTurns t turns → PerformsIn k t m turns done end → (plays : List SentPlay) → All (IsPlayedNow k t.devices t.waiting) plays →
    All (IsTakenUpBy k (end_of t turns)) (played_at t plays)
taken_up_by k turns t m done end safe late are p [] h = All-nil (IsTakenUpBy k (end_of t turns))
taken_up_by k turns t m done end safe late are p (sent ∷ plays) h =
    let now = All-head (IsPlayedNow k t.devices t.waiting) sent plays h in
    let last = sofar_ends k now.device.now now.device.channels sent turns t m done end safe are p (begun k t sent now) in
    All-cons (IsTakenUpBy k (end_of t turns)) (record { sent = sent; after = t }) (played_at t plays)
    (record { then_device = now.device; was_there = now.is_there; since_begin = late sent.context.device now.device now.is_there; device = last.device; is_there = last.is_there; rises = last.rises; channels = last.same; taken_up = last.taken_up })
    (taken_up_by k turns t m done end safe late are p plays (All-tail (IsPlayedNow k t.devices t.waiting) sent plays h))

-- Turns, one after another

asked_joined : (order : Order) (xs ys : List Asked) (bytes rest end : List ℕ) → AreAsked order xs bytes rest → AreAsked order ys rest end → AreAsked order (xs ++ ys) bytes end
asked_joined order [] ys bytes rest end a b = subst (λ l. AreAsked order ys l end) a b
asked_joined order (x ∷ xs) ys bytes rest end a b = (a.0, a.1, a.2, asked_joined order xs ys (drop a.0 bytes) rest end a.3 b)

taken_joined : (a b c : Bool) (o p q : Order) (xs ys : List Asked) (bytes rest end : List ℕ) → AreTaken a b o p xs bytes rest → AreTaken b c p q ys rest end → AreTaken a c o q (xs ++ ys) bytes end
taken_joined false false false o p q xs ys bytes rest end s t = (ap (λ l. l ++ ys) s.0 ∙ t.0, t.1 ∙ s.1)
taken_joined false false true o p q xs ys bytes rest end s t =
    subst (λ l. AreTaken false true o q (l ++ ys) bytes end) (sym s.0) (subst (λ l. AreTaken false true o q ys l end) s.1 t)
taken_joined false true true o p q xs ys bytes rest end s t =
    subst (λ r. AreTaken false true o r (xs ++ ys) bytes end) (sym t.0) (s.0, asked_joined p xs ys (drop 8 bytes) rest end s.1 t.1)
taken_joined true true true o p q xs ys bytes rest end s t = (t.0 ∙ s.0, asked_joined o xs ys bytes rest end s.1 (subst (λ r. AreAsked r ys rest end) s.0 t.1))
taken_joined false true false o p q xs ys bytes rest end s t = absurd t
taken_joined true true false o p q xs ys bytes rest end s t = absurd t
taken_joined true false c o p q xs ys bytes rest end s t = absurd s

takes_joined : (l m end : LinkState) (g h : List ℕ) (xs ys : List Asked) → Takes l g xs m → Takes m h ys end → Takes l (g ++ h) (xs ++ ys) end
takes_joined l m end g h xs ys s t =
    subst (λ b. AreTaken l.is_set_up end.is_set_up l.order end.order (xs ++ ys) b end.rest) (append_assoc l.rest g h)
    (taken_joined l.is_set_up m.is_set_up end.is_set_up l.order m.order end.order xs ys ((l.rest ++ g) ++ h) (m.rest ++ h) end.rest (taken_more l.is_set_up m.is_set_up l.order m.order xs (l.rest ++ g) m.rest h s) t)

requests_in : (turn : Turn) (asked : List Asked) (rest : List Performance) → requests_of (performed_in turn asked ++ rest) ≡ asked ++ requests_of rest
requests_in turn [] rest = refl
requests_in turn (a ∷ asked) rest = ap (λ l. a ∷ l) (requests_in turn asked rest)

played_append : (t : State) (xs ys : List SentPlay) → played_at t (xs ++ ys) ≡ played_at t xs ++ played_at t ys
played_append t [] ys = refl
played_append t (x ∷ xs) ys = ap (λ l. record { sent = x; after = t } ∷ l) (played_append t xs ys)

plays_of_turn : (channels : ℕ → Option ℕ) (contexts : List Context) (turn : Turn) (asked : List Asked) (rest : List Performance) →
    plays_in channels contexts (performed_in turn asked ++ rest) ≡ played_at turn.after (plays_by channels contexts asked) ++ plays_in channels (contexts_by channels contexts asked) rest
plays_of_turn channels contexts turn [] rest = refl
plays_of_turn channels contexts turn (a ∷ asked) rest =
    let first = play_of_request channels contexts a in
    let next = contexts_after channels contexts a in
    let last = plays_in channels (contexts_by channels next asked) rest in
    ap (λ l. played_at turn.after first ++ l) (plays_of_turn channels next turn asked rest)
    ∙ sym (append_assoc (played_at turn.after first) (played_at turn.after (plays_by channels next asked)) last)
    ∙ ap (λ l. l ++ last) (sym (played_append turn.after first (plays_by channels next asked)))

by_same : (c d : ℕ → Option ℕ) → ((i : ℕ) → c i ≡ d i) → (asked : List Asked) (contexts : List Context) → contexts_by c contexts asked ≡ contexts_by d contexts asked
by_same c d h [] contexts = refl
by_same c d h (a ∷ asked) contexts = by_same c d h asked (contexts_after c contexts a) ∙ ap (λ l. contexts_by d l asked) (contexts_same c d h contexts a)

in_same : (c d : ℕ → Option ℕ) → ((i : ℕ) → c i ≡ d i) → (done : List Performance) (contexts : List Context) → plays_in c contexts done ≡ plays_in d contexts done
in_same c d h [] contexts = refl
in_same c d h (p ∷ done) contexts =
    ap (λ l. played_at p.after (play_of_request c contexts p.asked) ++ l) (in_same c d h done (contexts_after c contexts p.asked))
    ∙ ap (λ l. played_at p.after l ++ plays_in d (contexts_after c contexts p.asked) done) (plays_same c d h contexts p.asked)
    ∙ ap (λ x. played_at p.after (play_of_request d contexts p.asked) ++ plays_in d x done) (contexts_same c d h contexts p.asked)

pub plays_on : (k : ℕ) (turns : List Turn) (s : State) (l : LinkState) → SafeState 0 0 s → IsLate s → (slot_at k s).link ≡ Some l → AreTurns s turns → All (StaysOpen k) turns → PlaysOn k s l turns
plays_on k [] s l safe late is are stays = record {
  done = [];
  end = l;
  performs = (refl, refl);
  takes = taken_none l.is_set_up l.order (l.rest ++ []) l.rest (sym (append-nil l.rest));
  numbered = refl;
  contexts = refl;
  plays = All-nil (IsTakenUpBy k s);
  idle = λ b e f. e f;
}
plays_on k (turn ∷ more) s l safe late is are stays =
    goes (slot_at k turn.after).link refl (All-head (StaysOpen k) turn more stays) (λ m was. plays_on k more turn.after m (turn_safe s turn.part turn.after are.0 safe) (turn_late s turn.part turn.after are.0 late) was are.1 (All-tail (StaysOpen k) turn more stays))
  where
    goes : (o : Option LinkState) → (slot_at k turn.after).link ≡ o → IsSomeAnd o (λ l. l.closing ≡ None) → ((m : LinkState) → (slot_at k turn.after).link ≡ Some m → PlaysOn k turn.after m more) → PlaysOn k s l (turn ∷ more)
    goes None was open' next = absurd open'
    goes (Some m) was open' next =
        let t = turn.after in
        let p = performs_in_turns k s turn.part t l m are.0 is was open' in
        let r = next m was in
        let cs = channels_at s.devices in
        let cm = contexts_by cs l.contexts p.asked in
        let all = performed_in turn p.asked ++ r.done in
        let which : requests_of all ≡ p.asked ++ requests_of r.done = requests_in turn p.asked r.done in
        record {
          done = all;
          end = r.end;
          performs = (m, was, p, r.done, refl, r.performs);
          takes = subst (λ x. Takes l (given_in k (turn ∷ more)) x r.end) (sym which) (takes_joined l m r.end (history k turn.part).gave (given_in k more) p.asked (requests_of r.done) p.takes r.takes);
          numbered = r.numbered ∙ ap (λ n. counted n (requests_of r.done)) p.numbered ∙ sym (fold-append (λ n a. (n + 1) % 2 ^ 16) l.sequence p.asked (requests_of r.done)) ∙ ap (counted l.sequence) (sym which);
          contexts = r.contexts ∙ by_same (channels_at t.devices) cs p.channels (requests_of r.done) m.contexts ∙ ap (λ c. contexts_by cs c (requests_of r.done)) p.contexts
              ∙ sym (fold-append (contexts_after cs) l.contexts p.asked (requests_of r.done)) ∙ ap (contexts_by cs l.contexts) (sym which);
          idle = λ b e f. r.idle (ends_prompt b p.asked) (p.idle b e) (sym (fold-append (λ b a. is_prompt a) b p.asked (requests_of r.done)) ∙ ap (ends_prompt b) (sym which) ∙ f);
          plays = subst (All (IsTakenUpBy k (end_of t more))) (sym (plays_of_turn cs l.contexts turn p.asked r.done))
              (All-append (IsTakenUpBy k (end_of t more)) (played_at t (plays_by cs l.contexts p.asked)) (plays_in cs cm r.done)
              (taken_up_by k more t m r.done r.end (turn_safe s turn.part t are.0 safe) (turn_late s turn.part t are.0 late) are.1 r.performs (plays_by cs l.contexts p.asked) p.plays)
              (subst (λ c. All (IsTakenUpBy k (end_of t more)) (plays_in cs c r.done)) p.contexts (subst (All (IsTakenUpBy k (end_of t more))) (in_same (channels_at t.devices) cs p.channels r.done m.contexts) r.plays)));
        }

pub safe_run : (config : List DeviceSpec) (log : Log) (s : State) → All (λ c. IsListedRate c.rate) config → end_state config log ≡ Some s → SafeState 0 0 s
unfolding end_state
safe_run config log s listed r =
    let first : SafeState 0 0 (opening_state config) = record { devices = opening_safe config listed; waiting = All-nil (λ (w : Deferral). AwaitedIn 0 0 (opening_state config).devices w) } in
    run_safe (wakes log) (opening_state config) log s first r

pub plays_in_run : (config : List DeviceSpec) (log : Log) → PlaysInRun config log
plays_in_run config log listed =
    elim (end_state config log) as (λ o. end_state config log ≡ o → IfSome o (λ s. (k : ℕ) (l : LinkState) (turns : List Turn) → (slot_at k s).link ≡ Some l → AreTurns s turns → All (StaysOpen k) turns → PlaysOn k s l turns)) [
      | None ↦ λ r. tt
      | Some s ↦ λ r k l turns is are stays. plays_on k turns s l (safe_run config log s listed r) (late_run config log s r) is are stays
    ] refl
