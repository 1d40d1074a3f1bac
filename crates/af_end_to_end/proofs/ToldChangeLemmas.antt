-- What a link was told stays told, and more is told after it.
use Rattle.std.proofs.Common.{◌≡◌, ◌≤◌, inl, inr, ℕ, zero, suc, ◌+◌, ◌%◌, ◌^◌, ◌==◌, Bool, true, false, cond, List, [], ◌∷◌, ◌++◌, find, replicate, slice_get, refl, sym, ap, ◌∙◌, subst, append_assoc, append-nil, arith}
use Rattle.std.specs.declared.option.Option.{Option}
use Rattle.std.specs.declared.option.Option.TheVariants.{Some}
use Rattle.af_limits.specs.Limits.{most_devices}
use Rattle.af_time.specs.DeviceTime.{unwrap}
use Rattle.af_context.specs.declared.Context.{Context}
use Rattle.af_wait.specs.Waits.{without_first}
use Rattle.af_wire.specs.declared.order.Order.{Order}
use Rattle.af_wire.specs.declared.event.EventKind.{EventKind}
use Rattle.af_wire.specs.declared.event.EventKind.TheVariants as kind
use Rattle.af_phone.specs.Lines.{selects}
use Rattle.af_request.specs.Asked.{Asked, no_op, get_time, create_ac, change_ac, free_ac, play_run, record_run, select_events, set_controls, query_controls, hook_switch, query_phone}
use Rattle.af_request.specs.Answer.{played, recorded}
use Rattle.af_request.specs.Opcodes as opcodes
use Rattle.af_model.specs.State.{Deferral, Deferred, DeviceState, LinkState, OpenLink, deferred_play, deferred_record, none_selected, say}
use Rattle.af_model.specs.Events.{mask_of, some_mask}
use Rattle.af_model.specs.Reply.{reply_message}
use Rattle.af_model.specs.Play.{frames_of}
use Rattle.af_model.specs.Record.{recorded_bytes}
use Rattle.af_model.specs.Tick.{answer_deferred}
use Rattle.af_model.proofs.BoolTestLemmas.{none_some, some_is}
use Rattle.af_end_to_end.specs.Performing.{contexts_after, contexts_by, counted, own_waiting}
use Rattle.af_end_to_end.specs.Told.{AreTold, IsEarlier, IsHeld, IsTold, WasSo}
use Rattle.af_end_to_end.proofs.DeviceAlikeLemmas.{Alike, AllAlike}
use Rattle.af_end_to_end.proofs.ProgressLemmas.{became}

-- Devices that were so

pub earlier_trans : (d e f : DeviceState) → IsEarlier d e → IsEarlier e f → IsEarlier d f
earlier_trans d e f a b = record {
  now = omega (arith, a.now, b.now);
  begin = b.begin ∙ a.begin;
  rate = b.rate ∙ a.rate;
  channels = b.channels ∙ a.channels;
  more = a.more ++ b.more;
  captured = b.captured ∙ ap (λ l. l ++ b.more) a.captured ∙ append_assoc d.captured a.more b.more;
}

pub alike_earlier : (d e : DeviceState) → Alike d e → IsEarlier d e
alike_earlier d e a = record { now = omega (arith, a.now); begin = a.begin; rate = a.rate; channels = a.channels; more = []; captured = a.captured ∙ sym (append-nil d.captured) }

abbrev pub AllEarlier : List DeviceState → List DeviceState → Type 0
AllEarlier ds es = (i : ℕ) (d : DeviceState) → slice_get ds i ≡ Some d → (e : DeviceState) × (slice_get es i ≡ Some e) × IsEarlier d e

pub all_alike : (ds es : List DeviceState) → AllAlike ds es → AllEarlier ds es
all_alike ds es h i d there = let b = became ds es i d h there in (b.e, b.is_there, alike_earlier d b.e b.alike)

-- What was told stays told

module _ (channels : ℕ → Option ℕ) (order : Order) (ds es : List DeviceState) (later : AllEarlier ds es) where
  was_moves : (d : ℕ) (past : DeviceState) → WasSo ds d past → WasSo es d past
  was_moves d past w =
      let e = later d w.device w.is_there in
      record { device = e.0; is_there = e.1; earlier = earlier_trans past w.device e.0 w.earlier e.2 }

  told_later : (number : ℕ) (contexts : List Context) (a : Asked) (message : List ℕ) → IsTold channels order number ds contexts a message → IsTold channels order number es contexts a message
  told_later number contexts no_op message h = tt
  told_later number contexts (get_time d) message h = λ m there. let t = h m there in (t.0, was_moves d t.0 t.1, t.2)
  told_later number contexts (create_ac d ac ty n preempt play_gain record_gain) message h = h
  told_later number contexts (change_ac mask ac preempt play_gain record_gain) message h = tt
  told_later number contexts (free_ac ac) message h = h
  told_later number contexts (play_run quiet ac word bytes) message h = tt
  told_later number contexts (record_run blocking ac word n) message h = λ c m is shape fits.
      let t = h c m is shape fits in
      record { performed = t.performed; since_begin = t.since_begin; device = t.device; was_so = was_moves c.device t.device t.was_so; later = t.later; is = t.is }
  told_later number contexts (select_events d mask) message h = tt
  told_later number contexts (set_controls d mask input_on output_on input_gain output_gain) message h = tt
  told_later number contexts (query_controls d) message h = tt
  told_later number contexts (hook_switch d off) message h = tt
  told_later number contexts (query_phone d) message h = tt

  held_later : (contexts : List Context) (a : Asked) (w : Deferral) → IsHeld channels ds contexts a w → IsHeld channels es contexts a w
  held_later contexts (record_run blocking ac word n) w h = λ c m is shape fits.
      let t = h c m is shape fits in
      let e = later c.device t.device t.is_there in
      record {
        performed = t.performed;
        since_begin = t.since_begin;
        device = e.0;
        is_there = e.1;
        later = omega (arith, t.later, e.2.now);
        on_it = t.on_it;
        held = t.held ∙ ap (λ x. deferred_record c (unwrap t.performed word) (frames_of x c n)) (sym e.2.channels);
      }
  held_later contexts no_op w h = absurd h
  held_later contexts (get_time d) w h = absurd h
  held_later contexts (create_ac d ac ty n preempt play_gain record_gain) w h = absurd h
  held_later contexts (change_ac mask ac preempt play_gain record_gain) w h = absurd h
  held_later contexts (free_ac ac) w h = absurd h
  held_later contexts (play_run quiet ac word bytes) w h = absurd h
  held_later contexts (select_events d mask) w h = absurd h
  held_later contexts (set_controls d mask input_on output_on input_gain output_gain) w h = absurd h
  held_later contexts (query_controls d) w h = absurd h
  held_later contexts (hook_switch d off) w h = absurd h
  held_later contexts (query_phone d) w h = absurd h

  pub told_moves : (asked : List Asked) (number : ℕ) (waiting : List Deferral) (contexts : List Context) (told : List ℕ) → AreTold channels order number ds waiting contexts asked told → AreTold channels order number es waiting contexts asked told
  told_moves [] number waiting contexts told h = h
  told_moves (a ∷ asked) number waiting contexts told (inl t) =
      inl (t.0, t.1, t.2, told_later ((number + 1) % 2 ^ 16) contexts a t.0 t.3, told_moves asked ((number + 1) % 2 ^ 16) waiting (contexts_after channels contexts a) t.1 t.4)
  told_moves (a ∷ asked) number waiting contexts told (inr h) = inr (h.0, h.1, h.2, h.3, held_later contexts a h.2 h.4)

-- one that was told of all, and then of more
pub told_append : (channels : ℕ → Option ℕ) (order : Order) (ds : List DeviceState) (ws : List Deferral) (ys : List Asked) (more : List ℕ) (xs : List Asked) (number : ℕ) (contexts : List Context) (told : List ℕ) → AreTold channels order number ds [] contexts xs told →
    AreTold channels order (counted number xs) ds ws (contexts_by channels contexts xs) ys more → AreTold channels order number ds ws contexts (xs ++ ys) (told ++ more)
told_append channels order ds ws ys more [] number contexts told h then = subst (λ l. AreTold channels order number ds ws contexts ys (l ++ more)) (sym h.0) then
told_append channels order ds ws ys more (x ∷ xs) number contexts told (inl t) then =
    inl (t.0, t.1 ++ more, ap (λ l. l ++ more) t.2 ∙ append_assoc t.0 t.1 more, t.3, told_append channels order ds ws ys more xs ((number + 1) % 2 ^ 16) (contexts_after channels contexts x) t.1 t.4 then)
told_append channels order ds ws ys more (x ∷ xs) number contexts told (inr h) then = absurd (clash h.3)
  where
    clash : [] ≡ h.2 ∷ [] → ⊥
    clash e = cc

-- A deferred request that completes

-- what the link is told then
abbrev pub message_of : Order → ℕ → DeviceState → Deferred → List ℕ
message_of order number device (deferred_play true start sound preempt) = []
message_of order number device (deferred_play false start sound preempt) = reply_message order opcodes.play (played (device.now % 2 ^ 32)) number
message_of order number device (deferred_record c start frames) = reply_message order opcodes.record (recorded (device.now % 2 ^ 32) (recorded_bytes c device start frames)) number

pub answer_by : (P : OpenLink → Type 0) (deferred : Deferred) (device : DeviceState) (q : OpenLink) → (message_of q.link.order q.link.sequence device deferred ≡ [] → P q) → P (say q (message_of q.link.order q.link.sequence device deferred)) → P (answer_deferred deferred device q)
answer_by P (deferred_play true start sound preempt) device q none some = none refl
answer_by P (deferred_play false start sound preempt) device q none some = some
answer_by P (deferred_record c start frames) device q none some = some

module _ (channels : ℕ → Option ℕ) (order : Order) (ds es : List DeviceState) (later : AllEarlier ds es) (own : List Deferral) (w : Deferral) (device : DeviceState) (there : slice_get ds w.device ≡ Some device)
    (some : own ≡ [] → ⊥) (only : (v : Deferral) → own ≡ v ∷ [] → v ≡ w) where
  held_told : (number : ℕ) (contexts : List Context) (a : Asked) → IsHeld channels ds contexts a w → IsTold channels order number es contexts a (message_of order number device w.deferred)
  held_told number contexts (record_run blocking ac word n) h = λ c m is shape fits.
      let t = h c m is shape fits in
      let same : t.device ≡ device = some_is (sym t.is_there ∙ ap (slice_get ds) (sym t.on_it) ∙ there) in
      let e = later c.device t.device t.is_there in
      record {
        performed = t.performed;
        since_begin = t.since_begin;
        device = device;
        was_so = record { device = e.0; is_there = e.1; earlier = subst (λ x. IsEarlier x e.0) same e.2 };
        later = subst (λ (x : DeviceState). t.performed ≤ x.now) same t.later;
        is = ap (message_of order number device) t.held ∙ ap (λ (x : DeviceState). reply_message order opcodes.record (recorded (device.now % 2 ^ 32) (recorded_bytes c device (unwrap t.performed word) (frames_of x.channels c n))) number) same;
      }
  held_told number contexts no_op h = absurd h
  held_told number contexts (get_time d) h = absurd h
  held_told number contexts (create_ac d ac ty n preempt play_gain record_gain) h = absurd h
  held_told number contexts (change_ac mask ac preempt play_gain record_gain) h = absurd h
  held_told number contexts (free_ac ac) h = absurd h
  held_told number contexts (play_run quiet ac word bytes) h = absurd h
  held_told number contexts (select_events d mask) h = absurd h
  held_told number contexts (set_controls d mask input_on output_on input_gain output_gain) h = absurd h
  held_told number contexts (query_controls d) h = absurd h
  held_told number contexts (hook_switch d off) h = absurd h
  held_told number contexts (query_phone d) h = absurd h

  pub told_completes : (asked : List Asked) (number last : ℕ) (contexts : List Context) (told : List ℕ) → AreTold channels order number ds own contexts asked told → counted number asked ≡ last →
      AreTold channels order number es [] contexts asked (told ++ message_of order last device w.deferred)
  told_completes [] number last contexts told h e = absurd (some h.1)
  told_completes (a ∷ asked) number last contexts told (inl t) e =
      let next = (number + 1) % 2 ^ 16 in
      inl (t.0, t.1 ++ message_of order last device w.deferred, ap (λ l. l ++ message_of order last device w.deferred) t.2 ∙ append_assoc t.0 t.1 (message_of order last device w.deferred), told_later channels order ds es later next contexts a t.0 t.3, told_completes asked next last (contexts_after channels contexts a) t.1 t.4 e)
  told_completes (a ∷ asked) number last contexts told (inr h) e =
      let next = (number + 1) % 2 ^ 16 in
      let is : next ≡ last = sym (ap (counted next) h.0) ∙ e in
      let held : IsHeld channels ds contexts a w = subst (IsHeld channels ds contexts a) (only h.2 h.3) h.4 in
      let message = message_of order last device w.deferred in
      subst (λ l. AreTold channels order number es [] contexts (a ∷ l) (told ++ message)) (sym h.0)
      (inl (message, [], ap (λ l. l ++ message) h.1 ∙ sym (append-nil message), subst (λ m. IsTold channels order next es contexts a (message_of order m device w.deferred)) is (held_told next contexts a held), (refl, refl)))

-- the one deferred request of a link

pub found_own : (passes : Deferral → Bool) (k : ℕ) (ws : List Deferral) (w : Deferral) → find passes ws ≡ Some w → (w.link == k) ≡ true → own_waiting k ws ≡ [] → ⊥
found_own passes k [] w found own none = none_some found
found_own passes k (v ∷ ws) w found own none = by (passes v) (v.link == k) refl found none (λ e none. found_own passes k ws w e own none)
  where
    clash : v ∷ own_waiting k ws ≡ [] → ⊥
    clash e = cc

    by : (t o : Bool) → (v.link == k) ≡ o → cond t (Some v) (find passes ws) ≡ Some w → cond o (v ∷ own_waiting k ws) (own_waiting k ws) ≡ [] → (find passes ws ≡ Some w → own_waiting k ws ≡ [] → ⊥) → ⊥
    by t true is e none again = clash none
    by true false is e none again = false_true (sym is ∙ ap (λ (u : Deferral). u.link == k) (some_is e) ∙ own)
      where
        false_true : false ≡ true → ⊥
        false_true e = cc
    by false false is e none again = again e none

pub record OnlyOne (passes : Deferral → Bool) (k : ℕ) (ws : List Deferral) (w v : Deferral) : Type 0 where
  pub is : v ≡ w
  pub none_left : own_waiting k (without_first passes ws) ≡ []

pub only_one : (passes : Deferral → Bool) (k : ℕ) (ws : List Deferral) (w v : Deferral) → find passes ws ≡ Some w → (w.link == k) ≡ true → own_waiting k ws ≡ v ∷ [] → OnlyOne passes k ws w v
only_one passes k [] w v found own one = absurd (none_some found)
only_one passes k (x ∷ ws) w v found own one = by (passes x) (x.link == k) refl refl found one (λ e one. only_one passes k ws w v e own one)
  where
    by : (t o : Bool) → passes x ≡ t → (x.link == k) ≡ o → cond t (Some x) (find passes ws) ≡ Some w → cond o (x ∷ own_waiting k ws) (own_waiting k ws) ≡ v ∷ [] → (find passes ws ≡ Some w → own_waiting k ws ≡ v ∷ [] → OnlyOne passes k ws w v) → OnlyOne passes k (x ∷ ws) w v
    by true true is mine e one again =
        let first : x ≡ v = cc in
        let none : own_waiting k ws ≡ [] = cc in
        record { is = sym first ∙ some_is e; none_left = ap (λ t. own_waiting k (cond t ws (x ∷ without_first passes ws))) is ∙ none }
    by true false is mine e one again = absurd (false_true (sym mine ∙ ap (λ (u : Deferral). u.link == k) (some_is e) ∙ own))
      where
        false_true : false ≡ true → ⊥
        false_true e = cc
    by false true is mine e one again =
        let none : own_waiting k ws ≡ [] = cc in
        absurd (found_own passes k ws w e own none)
    by false false is mine e one again =
        let r = again e one in
        record { is = r.is; none_left = ap (λ t. own_waiting k (cond t ws (x ∷ without_first passes ws))) is ∙ ap (λ t. cond t (x ∷ own_waiting k (without_first passes ws)) (own_waiting k (without_first passes ws))) mine ∙ r.none_left }

-- No event is selected

zero_mask : (n d : ℕ) → some_mask (slice_get (replicate n 0) d) ≡ 0
zero_mask zero d = refl
zero_mask (suc n) zero = refl
zero_mask (suc n) (suc d) = zero_mask n d

pub none_selects : (l : LinkState) (d : ℕ) (k : EventKind) → l.selections ≡ none_selected → selects (mask_of l d) k ≡ false
none_selects l d k e = ap (λ s. selects (some_mask (slice_get s d)) k) e ∙ ap (λ m. selects m k) (zero_mask most_devices d) ∙ none k
  where
    none : (k : EventKind) → selects 0 k ≡ false
    none kind.Ring = refl
    none kind.Current = refl
    none kind.Digit = refl
    none kind.Hook = refl
