-- What a phase takes off the front of a log is a part, whatever follows it. All laws of whole runs begin here.
use Rattle.std.proofs.Common.{◌≡◌, ℕ, ◌*◌, ◌==◌, Bool, true, false, not, cond, ◌&&◌, List, [], ◌∷◌, ◌++◌, length, refl, sym, ap, ◌∙◌, subst, eqb-true, append_assoc}
use Rattle.std.specs.declared.option.Option.{Option}
use Rattle.std.specs.declared.option.Option.TheVariants.{None, Some}
use Rattle.af_sample.specs.SampleTypes.{frame_bytes}
use Rattle.af_world.specs.declared.happening.Happening.{Happening}
use Rattle.af_world.specs.declared.happening.Happening.TheVariants.{Read, Closed, Captured, Emitted, Hooked}
use Rattle.af_world.specs.declared.happening.ReadGot.{ReadGot}
use Rattle.af_world.specs.declared.happening.Why.{Why}
use Rattle.af_world.specs.Log.{Log}
use Rattle.af_world.specs.Outside.{same_bytes}
use Rattle.af_model.specs.State.{State, DeviceState, OpenLink, SlotLink, link_in_slot}
use Rattle.af_model.specs.Waiting.{has_deferral}
use Rattle.af_model.specs.Tick.{captured_samples, sound, tick}
use Rattle.af_model.specs.Events.{after_hook, after_hook_failure}
use Rattle.af_model.specs.Turn.{Parsed, accept, parse_then, and_then, parse_one, wants_read, is_read, read_by, read_phase, after_read, wants_write, write_by, write_phase, close_due, close_by, close_for, close_phase, same_flag, same_why, is_capture, capture_by, emit_by, after_capture, wanted_hook, hook_by, hook_for}
use Rattle.af_model.proofs.BoolTestLemmas.{both-true, cond-some, none_some, some_is, same_bytes-true, same_why-true}

-- the part, which is taken whatever follows it, and what holds of it and of what comes after it
pub record Taken {T : Type 0} (f : Log → Option (Parsed T)) (M : Log → T → Type 0) (log : Log) (b : Parsed T) : Type 0 where
  pub part : Log
  pub whole : log ≡ part ++ b.log
  pub again : (more : Log) → f (part ++ more) ≡ accept b.state more
  pub holds : M part b.state

abbrev pub Takes : {T : Type 0} → (Log → Option (Parsed T)) → (Log → T → Type 0) → Type 0
Takes {T} f M = (log : Log) (b : Parsed T) → f log ≡ Some b → Taken f M log b

module _ {S T : Type 0} where
  pub then_inv : (x : Option (Parsed S)) (g : S → Log → Option (Parsed T)) (b : Parsed T) → parse_then x g ≡ Some b → (c : Parsed S) × (x ≡ Some c) × (g c.state c.log ≡ Some b)
  then_inv None g b e = absurd (none_some e)
  then_inv (Some c) g b e = (c, refl, e)

module _ {T : Type 0} where
  -- a phase that takes nothing off
  pub takes_nothing : (t : T) (M : Log → T → Type 0) → M [] t → Takes (λ log. accept t log) M
  takes_nothing t M h log b e = subst (λ (c : Parsed T). Taken (λ log. accept t log) M log c) (some_is e) (record { part = []; whole = refl; again = λ more. refl; holds = h })

  -- a phase that takes one happening off
  pub takes_one : (f : Happening → Option T) (M : Log → T → Type 0) → ((h : Happening) (t : T) → f h ≡ Some t → M (h ∷ []) t) → Takes (parse_one f) M
  takes_one f M one [] b e = absurd (none_some e)
  takes_one f M one (h ∷ log) b e =
      elim (f h) as (λ x. f h ≡ x → and_then x (λ t. accept t log) ≡ Some b → Taken (parse_one f) M (h ∷ log) b) [
        | None ↦ λ i e. absurd (none_some e)
        | Some t ↦ λ i e. subst (λ (c : Parsed T). Taken (parse_one f) M (h ∷ log) c) (some_is e)
            (record { part = h ∷ []; whole = refl; again = λ more. ap (λ x. and_then x (λ t. accept t more)) i; holds = one h t i })
      ] refl e

  pub takes_map : (f : Log → Option (Parsed T)) (M N : Log → T → Type 0) → ((part : Log) (t : T) → M part t → N part t) → Takes f M → Takes f N
  takes_map f M N g h log b e = let a = h log b e in record { part = a.part; whole = a.whole; again = a.again; holds = g a.part b.state a.holds }

module _ {S T : Type 0} where
  -- one phase after another
  pub takes_then : (f : Log → Option (Parsed S)) (g : S → Log → Option (Parsed T)) (M : Log → S → Type 0) (N : Log → T → Type 0) → Takes f M → ((part : Log) (s : S) → M part s → Takes (g s) (λ more t. N (part ++ more) t)) → Takes (λ log. parse_then (f log) g) N
  takes_then f g M N tf tg log b e =
      let i = then_inv (f log) g b e in
      let a = tf log i.0 i.1 in
      let c = tg a.part i.0.state a.holds i.0.log b i.2 in
      record {
        part = a.part ++ c.part;
        whole = a.whole ∙ ap (λ l. a.part ++ l) c.whole ∙ sym (append_assoc a.part c.part b.log);
        again = λ more. ap (λ l. parse_then (f l) g) (append_assoc a.part c.part more) ∙ ap (λ x. parse_then x g) (a.again (c.part ++ more)) ∙ c.again more;
        holds = c.holds;
      }

module _ {S T U : Type 0} where
  -- the same, if what holds of both phases is joined
  pub takes_chain : (f : S → Log → Option (Parsed T)) (g : T → Log → Option (Parsed U)) (A : S → Log → T → Type 0) (B : T → Log → U → Type 0) (C : S → Log → U → Type 0) →
      ((s : S) (p : Log) (t : T) (q : Log) (u : U) → A s p t → B t q u → C s (p ++ q) u) → ((s : S) → Takes (f s) (A s)) → ((t : T) → Takes (g t) (B t)) → (s : S) → Takes (λ log. parse_then (f s log) g) (C s)
  takes_chain f g A B C joins tf tg s = takes_then (f s) g (A s) (C s) (tf s) (λ part t a. takes_map (g t) (B t) (λ more u. C s (part ++ more) u) (λ more u b. joins s part t more u a b) (tg t))

-- Reads

module _ (k : ℕ) (p : OpenLink) (M : Log → OpenLink → Type 0) where
  read_one : ((got : ReadGot) → is_read got ≡ true → M (Read k got ∷ []) (after_read k got p)) → (h : Happening) (t : OpenLink) → read_by k p h ≡ Some t → M (h ∷ []) t
  read_one read (Read j got) t e =
      let i = cond-some (j == k && is_read got) (Some (after_read k got p)) t e in
      let both = both-true (j == k) (is_read got) i.0 in
      subst (λ q. M (Read j got ∷ []) q) (some_is i.1) (subst (λ n. M (Read n got ∷ []) (after_read k got p)) (sym (eqb-true j k both.0)) (read got both.1))
  read_one read other t e = absurd (none_some e)

  pub read_takes : (wants_read (has_deferral p.environment.waiting k) p.link ≡ false → M [] p) → (wants_read (has_deferral p.environment.waiting k) p.link ≡ true → (got : ReadGot) → is_read got ≡ true → M (Read k got ∷ []) (after_read k got p)) → Takes (read_phase k p) M
  unfolding read_phase
  read_takes idle read =
      elim (wants_read (has_deferral p.environment.waiting k) p.link) as (λ t. (t ≡ false → M [] p) → (t ≡ true → (got : ReadGot) → is_read got ≡ true → M (Read k got ∷ []) (after_read k got p)) → Takes (λ log. cond t (parse_one (read_by k p) log) (accept p log)) M) [
        | true ↦ λ idle read. takes_one (read_by k p) M (read_one (read refl))
        | false ↦ λ idle read. takes_nothing p M (idle refl)
      ] idle read

-- Writes

write_rests : (k : ℕ) (p : OpenLink) → wants_write p.link ≡ false → (more : Log) → write_phase k p more ≡ accept p more
write_rests k p w [] = ap (λ t. cond t None (accept p [])) w
write_rests k p w (h ∷ log) = ap (λ t. cond t (and_then (write_by k p h) (λ q. write_phase k q log)) (accept p (h ∷ log))) w

write_goes : (k : ℕ) (p q : OpenLink) (h : Happening) → wants_write p.link ≡ true → write_by k p h ≡ Some q → (more : Log) → write_phase k p (h ∷ more) ≡ write_phase k q more
write_goes k p q h w e more = ap (λ t. cond t (and_then (write_by k p h) (λ q. write_phase k q more)) (accept p (h ∷ more))) w ∙ ap (λ x. and_then x (λ q. write_phase k q more)) e

module _ (k : ℕ) (R : OpenLink → Log → OpenLink → Type 0) (rests : (p : OpenLink) → R p [] p)
    (goes : (p q : OpenLink) (h : Happening) → wants_write p.link ≡ true → write_by k p h ≡ Some q → (part : Log) (r : OpenLink) → R q part r → R p (h ∷ part) r) where
  write_done : (p : OpenLink) (log : Log) (b : Parsed OpenLink) → wants_write p.link ≡ false → accept p log ≡ Some b → Taken (write_phase k p) (R p) log b
  write_done p log b w e = subst (λ (c : Parsed OpenLink). Taken (write_phase k p) (R p) log c) (some_is e) (record { part = []; whole = refl; again = write_rests k p w; holds = rests p })

  pub write_takes : (log : Log) (p : OpenLink) (b : Parsed OpenLink) → write_phase k p log ≡ Some b → Taken (write_phase k p) (R p) log b
  write_takes [] p b e =
      elim (wants_write p.link) as (λ t. wants_write p.link ≡ t → cond t None (accept p []) ≡ Some b → Taken (write_phase k p) (R p) [] b) [
        | true ↦ λ w e. absurd (none_some e)
        | false ↦ λ w e. write_done p [] b w e
      ] refl e
  write_takes (h ∷ log) p b e =
      elim (wants_write p.link) as (λ t. wants_write p.link ≡ t → cond t (and_then (write_by k p h) (λ q. write_phase k q log)) (accept p (h ∷ log)) ≡ Some b → Taken (write_phase k p) (R p) (h ∷ log) b) [
        | true ↦ λ w e. elim (write_by k p h) as (λ x. write_by k p h ≡ x → and_then x (λ q. write_phase k q log) ≡ Some b → Taken (write_phase k p) (R p) (h ∷ log) b) [
          | None ↦ λ i e. absurd (none_some e)
          | Some q ↦ λ i e.
              let a = write_takes log q b e in
              record { part = h ∷ a.part; whole = ap (λ l. h ∷ l) a.whole; again = λ more. write_goes k p q h w i (a.part ++ more) ∙ a.again more; holds = goes p q h w i a.part b.state a.holds }
        ] refl e
        | false ↦ λ w e. write_done p (h ∷ log) b w e
      ] refl e

-- Closes

module _ (k : ℕ) (p : OpenLink) (M : Log → SlotLink → Type 0) (stays : M [] (link_in_slot p.environment (Some p.link))) (closes : (cause : Why) → close_due p.link ≡ Some cause → M (Closed k cause ∷ []) (link_in_slot p.environment None)) where
  close_one : (cause : Why) → close_due p.link ≡ Some cause → (h : Happening) (t : SlotLink) → close_by k p.environment cause h ≡ Some t → M (h ∷ []) t
  close_one cause due (Closed j why) t e =
      let i = cond-some (j == k && same_why why cause) (Some (link_in_slot p.environment None)) t e in
      let both = both-true (j == k) (same_why why cause) i.0 in
      subst (λ q. M (Closed j why ∷ []) q) (some_is i.1)
      (subst (λ n. M (Closed n why ∷ []) (link_in_slot p.environment None)) (sym (eqb-true j k both.0)) (subst (λ w. M (Closed k w ∷ []) (link_in_slot p.environment None)) (sym (same_why-true why cause both.1)) (closes cause due)))
  close_one cause due other t e = absurd (none_some e)

  pub close_takes : Takes (close_phase k p) M
  unfolding close_phase
  close_takes =
      elim (close_due p.link) as (λ o. close_due p.link ≡ o → Takes (close_for k p o) M) [
        | None ↦ λ due. takes_nothing (link_in_slot p.environment (Some p.link)) M stays
        | Some cause ↦ λ due. takes_one (close_by k p.environment cause) M (close_one cause due)
      ] refl

-- Ticks

capture_one : (d n : ℕ) (device : DeviceState) (h : Happening) (got : Option (List ℕ)) → capture_by d n device h ≡ Some got → (h ∷ [] ≡ Captured d n got ∷ []) × (is_capture n device got ≡ true)
capture_one d n device (Captured j m x) got e =
    let i = cond-some (j == d && m == n && is_capture n device x) (Some x) got e in
    let first = both-true (j == d && m == n) (is_capture n device x) i.0 in
    let both = both-true (j == d) (m == n) first.0 in
    let here : j ≡ d = eqb-true j d both.0 in
    let size : m ≡ n = eqb-true m n both.1 in
    let same : x ≡ got = some_is i.1 in
    (cc, ap (is_capture n device) (sym same) ∙ first.1)
capture_one d n device other got e = absurd (none_some e)

module _ (d n : ℕ) (device : DeviceState) (s : State) (M : Log → State → Type 0)
    (failed : M (Captured d n None ∷ []) (tick d n (captured_samples device n None) true s))
    (sounded : (bytes : List ℕ) (done : Bool) → length bytes ≡ n * frame_bytes device.ty device.channels → M (Captured d n (Some bytes) ∷ Emitted d (sound device n) done ∷ []) (tick d n (captured_samples device n (Some bytes)) (not done) s)) where
  emit_one : (bytes : List ℕ) → length bytes ≡ n * frame_bytes device.ty device.channels → (h : Happening) (t : State) → emit_by d n device (captured_samples device n (Some bytes)) s h ≡ Some t → M (Captured d n (Some bytes) ∷ h ∷ []) t
  emit_one bytes size (Emitted j out done) t e =
      let next = tick d n (captured_samples device n (Some bytes)) (not done) s in
      let i = cond-some (j == d && same_bytes out (sound device n)) (Some next) t e in
      let both = both-true (j == d) (same_bytes out (sound device n)) i.0 in
      let here : d ≡ j = sym (eqb-true j d both.0) in
      let same : sound device n ≡ out = sym (same_bytes-true out (sound device n) both.1) in
      subst (λ q. M (Captured d n (Some bytes) ∷ Emitted j out done ∷ []) q) (some_is i.1)
      (subst (λ m. M (Captured d n (Some bytes) ∷ Emitted m out done ∷ []) next) here (subst (λ x. M (Captured d n (Some bytes) ∷ Emitted d x done ∷ []) next) same (sounded bytes done size)))
  emit_one bytes size other t e = absurd (none_some e)

  captured_takes : (part : Log) (got : Option (List ℕ)) → (part ≡ Captured d n got ∷ []) × (is_capture n device got ≡ true) → Takes (after_capture d n device s got) (λ more t. M (part ++ more) t)
  captured_takes part None h = takes_nothing (tick d n (captured_samples device n None) true s) (λ more t. M (part ++ more) t) (subst (λ l. M (l ++ []) (tick d n (captured_samples device n None) true s)) (sym h.0) failed)
  captured_takes part (Some bytes) h =
      takes_one (emit_by d n device (captured_samples device n (Some bytes)) s) (λ more t. M (part ++ more) t)
      (λ x t e. subst (λ l. M (l ++ x ∷ []) t) (sym h.0) (emit_one bytes (eqb-true (length bytes) (n * frame_bytes device.ty device.channels) h.1) x t e))

  pub live_takes : Takes (λ log. parse_then (parse_one (capture_by d n device) log) (after_capture d n device s)) M
  live_takes =
      takes_then (parse_one (capture_by d n device)) (after_capture d n device s) (λ part got. (part ≡ Captured d n got ∷ []) × (is_capture n device got ≡ true)) M
      (takes_one (capture_by d n device) (λ part got. (part ≡ Captured d n got ∷ []) × (is_capture n device got ≡ true)) (capture_one d n device)) captured_takes

-- Hooks

module _ (d : ℕ) (device : DeviceState) (s : State) (M : Log → State → Type 0) (rests : M [] s)
    (hooks : (wanted off done : Bool) → M (Hooked d wanted done ∷ []) (cond done (after_hook off d device s) (after_hook_failure d s))) where
  hook_one : (off : Bool) (h : Happening) (t : State) → hook_by d off device s h ≡ Some t → M (h ∷ []) t
  hook_one off (Hooked j wanted done) t e =
      let i = cond-some (j == d && same_flag wanted off) (Some (cond done (after_hook off d device s) (after_hook_failure d s))) t e in
      let both = both-true (j == d) (same_flag wanted off) i.0 in
      subst (λ q. M (Hooked j wanted done ∷ []) q) (some_is i.1) (subst (λ n. M (Hooked n wanted done ∷ []) (cond done (after_hook off d device s) (after_hook_failure d s))) (sym (eqb-true j d both.0)) (hooks wanted off done))
  hook_one off other t e = absurd (none_some e)

  pub hook_takes : Takes (hook_for d device (wanted_hook device) s) M
  hook_takes =
      elim (wanted_hook device) as (λ o. Takes (hook_for d device o s) M) [
        | None ↦ takes_nothing s M rests
        | Some off ↦ takes_one (hook_by d off device s) M (hook_one off)
      ]
