-- A wake, and the hooks that are moved after it, lead on alike: what the outside states determines what a device captures and
-- emits, and its hook calls.
use Rattle.std.proofs.Common.{◌≡◌, ℕ, ℤ, zero, suc, ◌+◌, ◌*◌, Bool, true, false, not, cond, ◌&&◌, ◌==◌, List, [], length, slice_get, refl, sym, ap, ◌∙◌, subst, eqb-true, IfSome}
use Rattle.std.specs.declared.option.Option.{Option}
use Rattle.std.specs.declared.option.Option.TheVariants.{None, Some}
use Rattle.af_world.specs.declared.happening.Happening.{Happening}
use Rattle.af_world.specs.declared.happening.Happening.TheVariants.{Captured, Emitted, Hooked}
use Rattle.af_world.specs.declared.happening.Wake.{Wake}
use Rattle.af_world.specs.declared.happening.Wake.TheVariants.{Opened, Readable, Writable, Ticked, Line, Idle, Stop}
use Rattle.af_world.specs.declared.script.Step.{Step}
use Rattle.af_world.specs.Log.{Log}
use Rattle.af_world.specs.Outside.{Outside, ScriptedDevice, outside_after_happening, outside_after_capture, outside_after_emit, outside_after_hook, captured_bytes, scripted_at, with_scripted, same_bytes}
use Rattle.af_sample.specs.SampleTypes.{frame_bytes}
use Rattle.af_model.specs.State.{State, DeviceState, new_link_state, slot_at, with_slot}
use Rattle.af_model.specs.Tick.{sound, captured_samples, tick}
use Rattle.af_model.specs.Turn.{Parsed, accept, parse_then, parse_one, serve_all, mark_readable, mark_writable, in_slot, is_capture, capture_by, emit_by, after_capture, tick_phase, line_phase, wake_phase, same_flag, wanted_hook, hook_by, hook_for, hook_at, hook_from, hook_all, serve_and_hook}
use Rattle.af_wire.specs.declared.event.EventKind.TheVariants as kind
use Rattle.af_phone.specs.declared.line.LineChange.{LineChange}
use Rattle.af_phone.specs.Lines.{line_after_change, flag_value, line_after_hook, event_kind_of, value_of}
use Rattle.af_model.specs.Events.{after_hook, after_hook_failure, line_changes}
use Rattle.af_model.specs.Script.{AnswersTo}
use Rattle.af_model.proofs.BoolTestLemmas.{cond-some, both-true, not_true, none_some, same_bytes-true}
use Rattle.af_model.proofs.AlikeLemmas.{GoesAlike, Agreed, TakesOne, alike_then, alike_one, alike_nothing}
use Rattle.af_model.proofs.OpenLinkLemmas.{opens, open_links, Agree, open_links-set, Woken, flagged, tick-opens, becomes-opens}
use Rattle.af_model.proofs.LinkDeterminismLemmas.{all_alike}

-- Captures

-- the one answer of a capture of n bytes
expected_capture : ℕ → ScriptedDevice → Option (List ℕ)
expected_capture size scripted = cond scripted.fails_capture None (Some (captured_bytes scripted size))

record CaptureAnswered (w : List Bool) (o o' : Outside) (size : ℕ) (scripted : ScriptedDevice) (got : Option (List ℕ)) : Type 0 where
  is : got ≡ expected_capture size scripted
  opens : opens o ≡ w → opens o' ≡ w

capture_answer : (w : List Bool) (o o' : Outside) (d size : ℕ) (scripted : ScriptedDevice) (got : Option (List ℕ)) → outside_after_capture o d scripted got ≡ Some o' → IfSome got (λ bytes. length bytes ≡ size) →
    CaptureAnswered w o o' size scripted got
unfolding expected_capture
capture_answer w o o' d size scripted None e l =
    let i = cond-some scripted.fails_capture (Some (with_scripted o d (record scripted { fails_capture = false }))) o' e in
    let fails = i.0 in
    let g = i.1 in
    let same : with_scripted o d (record scripted { fails_capture = false }) ≡ o' = cc in
    record { is = ap (λ b. cond b None (Some (captured_bytes scripted size))) (sym fails); opens = λ p. subst (λ x. opens x ≡ w) same p }
capture_answer w o o' d size scripted (Some bytes) e l =
    let i = cond-some (not scripted.fails_capture && same_bytes bytes (captured_bytes scripted (length bytes))) (Some o) o' e in
    let v = both-true (not scripted.fails_capture) (same_bytes bytes (captured_bytes scripted (length bytes))) i.0 in
    let g = i.1 in
    let same : o ≡ o' = cc in
    let live : scripted.fails_capture ≡ false = not_true scripted.fails_capture v.0 in
    record {
      is = ap (λ x. Some x) (same_bytes-true bytes (captured_bytes scripted (length bytes)) v.1 ∙ ap (captured_bytes scripted) l) ∙ ap (λ b. cond b None (Some (captured_bytes scripted size))) (sym live);
      opens = λ p. subst (λ x. opens x ≡ w) same p;
    }

is_capture-size : (n : ℕ) (device : DeviceState) (got : Option (List ℕ)) → is_capture n device got ≡ true → IfSome got (λ bytes. length bytes ≡ n * frame_bytes device.ty device.channels)
is_capture-size n device None e = tt
is_capture-size n device (Some bytes) e = eqb-true (length bytes) (n * frame_bytes device.ty device.channels) e

capture_one : (w : List Bool) (d n : ℕ) (device : DeviceState) (s : State) (o : Outside) (h : Happening) (t : Option (List ℕ)) → capture_by d n device h ≡ Some t →
    TakesOne (λ (s : State). capture_by d n device) (λ s o. opens o ≡ w) (λ t o. opens o ≡ w) s o h (Captured d n (expected_capture (n * frame_bytes device.ty device.channels) (scripted_at o d)))
capture_one w d n device s o (Captured j frames got) t e =
    let i = cond-some (j == d && frames == n && is_capture n device got) (Some got) t e in
    let v = both-true (j == d && frames == n) (is_capture n device got) i.0 in
    let u = both-true (j == d) (frames == n) v.0 in
    let at : j ≡ d = eqb-true j d u.0 in
    let size = is_capture-size n device got v.1 in
    let here : (o' : Outside) → outside_after_happening o (Captured j frames got) ≡ Some o' → outside_after_capture o d (scripted_at o d) got ≡ Some o' = λ o' a. subst (λ m. outside_after_capture o m (scripted_at o m) got ≡ Some o') at a in
    record {
      quiet = refl;
      is = λ o' a. ap (λ m. Captured m frames got) at ∙ ap (λ m. Captured d m got) (eqb-true frames n u.1)
          ∙ ap (Captured d n) (capture_answer w o o' d (n * frame_bytes device.ty device.channels) (scripted_at o d) got (here o' a) size).is;
      stands = λ t o' p f a. (capture_answer w o o' d (n * frame_bytes device.ty device.channels) (scripted_at o d) got (here o' a) size).opens p;
    }
capture_one w d n device s o other t e = absurd (none_some e)

-- Emits

-- A call that only says whether it was done: it fails exactly if that is stated, and leaves the links as open as they are.
done_answer : (w : List Bool) (o o' spent : Outside) (fails done : Bool) → opens spent ≡ opens o → cond done (cond fails None (Some o)) (cond fails (Some spent) None) ≡ Some o' →
    (done ≡ not fails) × (opens o ≡ w → opens o' ≡ w)
done_answer w o o' spent true true stay e = absurd (none_some e)
done_answer w o o' spent true false stay e = let same : spent ≡ o' = cc in (refl, λ p. subst (λ x. opens x ≡ w) same (stay ∙ p))
done_answer w o o' spent false true stay e = let same : o ≡ o' = cc in (refl, λ p. subst (λ x. opens x ≡ w) same p)
done_answer w o o' spent false false stay e = absurd (none_some e)

emit_answer : (w : List Bool) (o o' : Outside) (d : ℕ) (scripted : ScriptedDevice) (done : Bool) → outside_after_emit o d scripted done ≡ Some o' → (done ≡ not scripted.fails_emit) × (opens o ≡ w → opens o' ≡ w)
emit_answer w o o' d scripted false e = done_answer w o o' (with_scripted o d (record scripted { fails_emit = false })) scripted.fails_emit false refl e
emit_answer w o o' d scripted true e = done_answer w o o' (with_scripted o d (record scripted { fails_emit = false })) scripted.fails_emit true refl e

emit_one : (d n : ℕ) (device : DeviceState) (heard : List ℤ) (s : State) (o : Outside) (h : Happening) (t : State) → emit_by d n device heard s h ≡ Some t →
    TakesOne (λ s. emit_by d n device heard s) Agree Agree s o h (Emitted d (sound device n) (not (scripted_at o d).fails_emit))
emit_one d n device heard s o (Emitted j bytes done) t e =
    let i = cond-some (j == d && same_bytes bytes (sound device n)) (Some (tick d n heard (not done) s)) t e in
    let u = both-true (j == d) (same_bytes bytes (sound device n)) i.0 in
    let at : j ≡ d = eqb-true j d u.0 in
    let here : (o' : Outside) → outside_after_happening o (Emitted j bytes done) ≡ Some o' → outside_after_emit o d (scripted_at o d) done ≡ Some o' = λ o' a. subst (λ m. outside_after_emit o m (scripted_at o m) done ≡ Some o') at a in
    record {
      quiet = refl;
      is = λ o' a. ap (λ m. Emitted m bytes done) at ∙ ap (λ b. Emitted d b done) (same_bytes-true bytes (sound device n) u.1) ∙ ap (Emitted d (sound device n)) (emit_answer (opens o) o o' d (scripted_at o d) done (here o' a)).0;
      stands = λ t o' p f a.
          let g : Some (tick d n heard (not done) s) ≡ Some t = (cond-some (j == d && same_bytes bytes (sound device n)) (Some (tick d n heard (not done) s)) t f).1 in
          let next : tick d n heard (not done) s ≡ t = cc in
          subst (λ x. Agree x o') next ((emit_answer (open_links s.slots) o o' d (scripted_at o d) done (here o' a)).1 p ∙ sym (tick-opens d n heard (not done) s));
    }
emit_one d n device heard s o other t e = absurd (none_some e)

-- Ticks

after_capture_alike : (d n : ℕ) (device : DeviceState) (s : State) → GoesAlike (after_capture d n device s) (λ (t : Option (List ℕ)) o. opens o ≡ open_links s.slots) Agree
after_capture_alike d n device s steps None o log1 log2 b1 b2 e1 e2 at f1 f2 r1 r2 =
    alike_nothing (λ (t : Option (List ℕ)). tick d n (captured_samples device n None) true s) (λ t o. opens o ≡ open_links s.slots) Agree (λ t o at. at ∙ sym (tick-opens d n (captured_samples device n None) true s)) steps None o log1 log2 b1 b2 e1 e2 at f1 f2 r1 r2
after_capture_alike d n device s steps (Some bytes) o log1 log2 b1 b2 e1 e2 at f1 f2 r1 r2 =
    alike_one (λ s. emit_by d n device (captured_samples device n (Some bytes)) s) Agree Agree (λ s o. Emitted d (sound device n) (not (scripted_at o d).fails_emit)) (emit_one d n device (captured_samples device n (Some bytes))) steps s o log1 log2 b1 b2 e1 e2 at f1 f2 r1 r2

live_alike : (d n : ℕ) (device : DeviceState) (steps : List Step) (s : State) (o : Outside) (log1 log2 : Log) (b1 b2 : Parsed State) (e1 e2 : Outside) → Agree s o →
    parse_then (parse_one (capture_by d n device) log1) (after_capture d n device s) ≡ Some b1 → parse_then (parse_one (capture_by d n device) log2) (after_capture d n device s) ≡ Some b2 →
    AnswersTo o log1 steps e1 → AnswersTo o log2 steps e2 → Agreed steps Agree log1 log2 e1 e2 b1 b2
live_alike d n device steps s o log1 log2 b1 b2 e1 e2 at f1 f2 r1 r2 =
    let w = open_links s.slots in
    alike_then (λ (u : State) log. parse_one (capture_by d n device) log) (after_capture d n device s) (λ u o. opens o ≡ w) (λ t o. opens o ≡ w) Agree
    (alike_one (λ (s : State). capture_by d n device) (λ s o. opens o ≡ w) (λ (t : Option (List ℕ)) o. opens o ≡ w) (λ s o. Captured d n (expected_capture (n * frame_bytes device.ty device.channels) (scripted_at o d))) (capture_one w d n device))
    (after_capture_alike d n device s)
    steps s o log1 log2 b1 b2 e1 e2 at f1 f2 r1 r2

tick_alike : (d n : ℕ) (device : Option DeviceState) (steps : List Step) (s : State) (o : Outside) (log1 log2 : Log) (b1 b2 : Parsed State) (e1 e2 : Outside) →
    Agree s o → tick_phase d n device s log1 ≡ Some b1 → tick_phase d n device s log2 ≡ Some b2 → AnswersTo o log1 steps e1 → AnswersTo o log2 steps e2 → Agreed steps Agree log1 log2 e1 e2 b1 b2
tick_alike d n None steps s o log1 log2 b1 b2 e1 e2 at f1 f2 r1 r2 = absurd (none_some f1)
tick_alike d n (Some device) steps s o log1 log2 b1 b2 e1 e2 at f1 f2 r1 r2 =
    elim device.is_dead as (λ t. cond t (accept (tick d n (captured_samples device n None) true s) log1) (parse_then (parse_one (capture_by d n device) log1) (after_capture d n device s)) ≡ Some b1 →
    cond t (accept (tick d n (captured_samples device n None) true s) log2) (parse_then (parse_one (capture_by d n device) log2) (after_capture d n device s)) ≡ Some b2 → Agreed steps Agree log1 log2 e1 e2 b1 b2) [
      | true ↦ λ f1 f2. alike_nothing (λ s. tick d n (captured_samples device n None) true s) Agree Agree (λ s o at. at ∙ sym (tick-opens d n (captured_samples device n None) true s)) steps s o log1 log2 b1 b2 e1 e2 at f1 f2 r1 r2
      | false ↦ λ f1 f2. live_alike d n device steps s o log1 log2 b1 b2 e1 e2 at f1 f2 r1 r2
    ] f1 f2

line_alike : (change : LineChange) (d : ℕ) (device : Option DeviceState) (steps : List Step) (s : State) (o : Outside) (log1 log2 : Log) (b1 b2 : Parsed State) (e1 e2 : Outside) →
    Agree s o → line_phase change d device s log1 ≡ Some b1 → line_phase change d device s log2 ≡ Some b2 → AnswersTo o log1 steps e1 → AnswersTo o log2 steps e2 → Agreed steps Agree log1 log2 e1 e2 b1 b2
line_alike change d None steps s o log1 log2 b1 b2 e1 e2 at f1 f2 r1 r2 = absurd (none_some f1)
line_alike change d (Some device) steps s o log1 log2 b1 b2 e1 e2 at f1 f2 r1 r2 =
    alike_nothing (line_changes change d device) Agree Agree (λ s o at. at ∙ sym (becomes-opens (line_after_change change) (event_kind_of change) (value_of change) d device s)) steps s o log1 log2 b1 b2 e1 e2 at f1 f2 r1 r2

pub wake_alike : (wake : Wake) → GoesAlike (wake_phase wake) (Woken wake) Agree
unfolding wake_phase
wake_alike (Opened k) = alike_nothing (λ s. with_slot k (record { link = Some new_link_state; said = [] }) s) (Woken (Opened k)) Agree (λ s o at. at ∙ sym (open_links-set s.slots k (record { link = Some new_link_state; said = [] })))
wake_alike (Readable k) = alike_nothing (λ s. with_slot k (in_slot mark_readable (slot_at k s)) s) (Woken (Readable k)) Agree (λ s o at. at ∙ sym (flagged mark_readable s k))
wake_alike (Writable k) = alike_nothing (λ s. with_slot k (in_slot mark_writable (slot_at k s)) s) (Woken (Writable k)) Agree (λ s o at. at ∙ sym (flagged mark_writable s k))
wake_alike (Ticked d n) = λ steps s o log1 log2 b1 b2 e1 e2 at f1 f2 r1 r2. tick_alike d n (slice_get s.devices d) steps s o log1 log2 b1 b2 e1 e2 at f1 f2 r1 r2
wake_alike (Line d change) = λ steps s o log1 log2 b1 b2 e1 e2 at f1 f2 r1 r2. line_alike change d (slice_get s.devices d) steps s o log1 log2 b1 b2 e1 e2 at f1 f2 r1 r2
wake_alike Idle = alike_nothing (λ s. s) (Woken Idle) Agree (λ s o at. at)
wake_alike Stop = alike_nothing (λ s. s) (Woken Stop) Agree (λ s o at. at)

-- Hooks

hook_answer : (w : List Bool) (o o' : Outside) (d : ℕ) (scripted : ScriptedDevice) (done : Bool) → outside_after_hook o d scripted done ≡ Some o' → (done ≡ not scripted.fails_hook) × (opens o ≡ w → opens o' ≡ w)
hook_answer w o o' d scripted false e = done_answer w o o' (with_scripted o d (record scripted { fails_hook = false })) scripted.fails_hook false refl e
hook_answer w o o' d scripted true e = done_answer w o o' (with_scripted o d (record scripted { fails_hook = false })) scripted.fails_hook true refl e

same_flag-true : (a b : Bool) → same_flag a b ≡ true → a ≡ b
same_flag-true true true e = refl
same_flag-true true false e = absurd cc
same_flag-true false true e = absurd cc
same_flag-true false false e = refl

hook_opens : (d : ℕ) (off done : Bool) (device : DeviceState) (s : State) → open_links (cond done (after_hook off d device s) (after_hook_failure d s)).slots ≡ open_links s.slots
hook_opens d off true device s = becomes-opens (line_after_hook true) kind.Hook (flag_value off) d device s
hook_opens d off false device s = refl

hook_one : (d : ℕ) (off : Bool) (device : DeviceState) (s : State) (o : Outside) (h : Happening) (t : State) → hook_by d off device s h ≡ Some t →
    TakesOne (hook_by d off device) Agree Agree s o h (Hooked d off (not (scripted_at o d).fails_hook))
hook_one d off device s o (Hooked j wanted done) t e =
    let next = cond done (after_hook off d device s) (after_hook_failure d s) in
    let i = cond-some (j == d && same_flag wanted off) (Some next) t e in
    let u = both-true (j == d) (same_flag wanted off) i.0 in
    let at : j ≡ d = eqb-true j d u.0 in
    let here : (o' : Outside) → outside_after_happening o (Hooked j wanted done) ≡ Some o' → outside_after_hook o d (scripted_at o d) done ≡ Some o' = λ o' a. subst (λ m. outside_after_hook o m (scripted_at o m) done ≡ Some o') at a in
    record {
      quiet = refl;
      is = λ o' a. ap (λ m. Hooked m wanted done) at ∙ ap (λ b. Hooked d b done) (same_flag-true wanted off u.1) ∙ ap (Hooked d off) (hook_answer (opens o) o o' d (scripted_at o d) done (here o' a)).0;
      stands = λ t o' p f a.
          let g : Some next ≡ Some t = (cond-some (j == d && same_flag wanted off) (Some next) t f).1 in
          let same : next ≡ t = cc in
          subst (λ x. Agree x o') same ((hook_answer (open_links s.slots) o o' d (scripted_at o d) done (here o' a)).1 p ∙ sym (hook_opens d off done device s));
    }
hook_one d off device s o other t e = absurd (none_some e)

hook_for-alike : (d : ℕ) (device : DeviceState) (off : Option Bool) → GoesAlike (hook_for d device off) Agree Agree
hook_for-alike d device None = alike_nothing (λ s. s) Agree Agree (λ s o at. at)
hook_for-alike d device (Some off) = alike_one (hook_by d off device) Agree Agree (λ s o. Hooked d off (not (scripted_at o d).fails_hook)) (hook_one d off device)

hook_at-alike : (d : ℕ) (device : Option DeviceState) → GoesAlike (hook_at d device) Agree Agree
hook_at-alike d None = alike_nothing (λ s. s) Agree Agree (λ s o at. at)
hook_at-alike d (Some device) = hook_for-alike d device (wanted_hook device)

hook_from-alike : (n d : ℕ) → GoesAlike (hook_from n d) Agree Agree
unfolding hook_from
hook_from-alike zero d = alike_nothing (λ s. s) Agree Agree (λ s o at. at)
hook_from-alike (suc n) d =
    alike_then (λ s log. hook_at d (slice_get s.devices d) s log) (hook_from n (d + 1)) Agree Agree Agree
    (λ steps s o log1 log2 b1 b2 e1 e2 at f1 f2 r1 r2. hook_at-alike d (slice_get s.devices d) steps s o log1 log2 b1 b2 e1 e2 at f1 f2 r1 r2) (hook_from-alike n (d + 1))

pub hooks_alike : GoesAlike serve_and_hook Agree Agree
hooks_alike = alike_then serve_all hook_all Agree Agree Agree all_alike (λ steps s o log1 log2 b1 b2 e1 e2 at f1 f2 r1 r2. hook_from-alike (length s.devices) 0 steps s o log1 log2 b1 b2 e1 e2 at f1 f2 r1 r2)
