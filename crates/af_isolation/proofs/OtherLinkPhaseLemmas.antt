-- Another link is served alike by the log without link k, and comes to the same without it.
use Rattle.std.proofs.Common.{◌≡◌, ℕ, ◌==◌, true, false, cond, ◌&&◌, List, [], ◌∷◌, length, take, option_map, refl, ap, ◌∙◌, eqb-true}
use Rattle.std.specs.declared.option.Option.{Option}
use Rattle.std.specs.declared.option.Option.TheVariants.{None, Some}
use Rattle.af_world.specs.declared.happening.Happening.{Happening}
use Rattle.af_world.specs.declared.happening.Happening.TheVariants.{Read, Wrote, Closed, Captured, Emitted, Hooked}
use Rattle.af_world.specs.declared.happening.Why.{Why}
use Rattle.af_world.specs.declared.happening.Why.TheVariants as why
use Rattle.af_world.specs.Log.{Log}
use Rattle.af_world.specs.Outside.{same_bytes}
use Rattle.af_model.specs.State.{EnvironmentState, OpenLink, SlotLink, link_in_slot}
use Rattle.af_model.specs.Waiting.{has_deferral}
use Rattle.af_model.specs.Turn.{Parsed, accept, parse_then, and_then, parse_one, wants_read, is_read, read_by, read_phase, after_read, wants_write, write_by, after_bytes_offered, after_bytes_taken, write_phase, after_write, close_due, close_by, close_for, close_phase, same_why, serve_link}
use Rattle.af_model.proofs.BoolTestLemmas.{both-true, cond-some, none_some, some_is}
use Rattle.af_model.proofs.PhasePartLemmas.{then_inv}
use Rattle.af_isolation.specs.Without.{without}
use Rattle.af_isolation.proofs.OtherLinkLemmas.{after_read_other, after_write_other, dropped_other, environment_without, open_without, slot_without, waits_without}

-- If a phase goes on from a log, another goes on from the log without link k, to what m makes of the state.
abbrev pub Follows : {T : Type 0} → ℕ → (T → T) → (Log → Option (Parsed T)) → (Log → Option (Parsed T)) → Type 0
Follows {T} k m f g = (log : Log) (b : Parsed T) → f log ≡ Some b → g (without k log) ≡ accept (m b.state) (without k b.log)

module _ {T : Type 0} (k : ℕ) (m : T → T) where
  -- a phase that takes nothing off
  pub follows_nothing : (t : T) → Follows k m (λ log. accept t log) (λ log. accept (m t) log)
  follows_nothing t log b e = ap (λ (c : Parsed T). accept (m c.state) (without k c.log)) (some_is e)

  -- a phase that takes one happening off, which does not name link k
  pub follows_one : (f g : Happening → Option T) → ((h : Happening) → g h ≡ option_map m (f h)) → ((h : Happening) (t : T) → f h ≡ Some t → (log : Log) → without k (h ∷ log) ≡ h ∷ without k log) → Follows k m (parse_one f) (parse_one g)
  follows_one f g same kept [] b e = absurd (none_some e)
  follows_one f g same kept (h ∷ log) b e =
      elim (f h) as (λ o. f h ≡ o → and_then o (λ t. accept t log) ≡ Some b → parse_one g (without k (h ∷ log)) ≡ accept (m b.state) (without k b.log)) [
        | None ↦ λ i e. absurd (none_some e)
        | Some t ↦ λ i e.
            ap (parse_one g) (kept h t i log) ∙ ap (λ o. and_then o (λ t. accept t (without k log))) (same h ∙ ap (option_map m) i) ∙ ap (λ (c : Parsed T). accept (m c.state) (without k c.log)) (some_is e)
      ] refl e

module _ {S T : Type 0} (k : ℕ) (m : S → S) (n : T → T) where
  -- one phase after another
  pub follows_then : (f g : Log → Option (Parsed S)) (u v : S → Log → Option (Parsed T)) → Follows k m f g → ((s : S) → Follows k n (u s) (v (m s))) → Follows k n (λ log. parse_then (f log) u) (λ log. parse_then (g log) v)
  follows_then f g u v a b log c e = let i = then_inv (f log) u c e in ap (λ x. parse_then x v) (a log i.0 i.1) ∙ b i.0.state i.0.log c i.2

module _ (k j : ℕ) (other : (j == k) ≡ false) where
  -- a number that is the other link's is not k
  is_other : (i : ℕ) → (i == j) ≡ true → (i == k) ≡ false
  is_other i e = ap (λ n. n == k) (eqb-true i j e) ∙ other

  -- Reads

  -- one read
  read_by_other : (p : OpenLink) (h : Happening) → read_by j (open_without k p) h ≡ option_map (open_without k) (read_by j p h)
  read_by_other p (Read i got) =
      elim (i == j && is_read got) as (λ t. cond t (Some (after_read j got (open_without k p))) None ≡ option_map (open_without k) (cond t (Some (after_read j got p)) None)) [
        | true ↦ ap (λ q. Some q) (after_read_other k j other got p)
        | false ↦ refl
      ]
  read_by_other p h = refl

  -- it stays in the log without link k
  read_kept : (p : OpenLink) (h : Happening) (q : OpenLink) → read_by j p h ≡ Some q → (log : Log) → without k (h ∷ log) ≡ h ∷ without k log
  read_kept p (Read i got) q e log =
      let t = cond-some (i == j && is_read got) (Some (after_read j got p)) q e in
      ap (λ t. cond t (without k log) (Read i got ∷ without k log)) (is_other i (both-true (i == j) (is_read got) t.0).0)
  read_kept p (Captured d n got) q e log = refl
  read_kept p (Emitted d sound done) q e log = refl
  read_kept p (Hooked d off done) q e log = refl
  read_kept p h q e log = absurd (none_some e)

  -- a read, if there is one
  read_other : (p : OpenLink) → Follows k (open_without k) (read_phase j p) (read_phase j (open_without k p))
  unfolding read_phase
  read_other p log b e =
      let q = open_without k p in
      ap (λ waits. cond (wants_read waits p.link) (parse_one (read_by j q) (without k log)) (accept q (without k log))) (waits_without k j other p.environment.waiting)
      ∙ elim (wants_read (has_deferral p.environment.waiting j) p.link) as (λ t. cond t (parse_one (read_by j p) log) (accept p log) ≡ Some b → cond t (parse_one (read_by j q) (without k log)) (accept q (without k log)) ≡ accept (open_without k b.state) (without k b.log)) [
        | true ↦ λ e. follows_one k (open_without k) (read_by j p) (read_by j q) (read_by_other p) (read_kept p) log b e
        | false ↦ λ e. follows_nothing k (open_without k) p log b e
      ] e

  -- Writes

  -- some bytes were taken, or the write failed
  write_taken_other : (p : OpenLink) (took : Option (List ℕ)) → after_bytes_taken j took (open_without k p) ≡ option_map (open_without k) (after_bytes_taken j took p)
  write_taken_other p None = ap (λ q. Some q) (dropped_other k j why.LinkFault p)
  write_taken_other p (Some bytes) =
      elim (same_bytes bytes (take (length bytes) p.link.pending)) as (λ t. cond t (Some (after_write j bytes (open_without k p))) None ≡ option_map (open_without k) (cond t (Some (after_write j bytes p)) None)) [
        | true ↦ ap (λ q. Some q) (after_write_other k j other bytes p)
        | false ↦ refl
      ]

  -- all that waits was offered
  write_offered_other : (p : OpenLink) (offered : ℕ) (took : Option (List ℕ)) → after_bytes_offered j offered took (open_without k p) ≡ option_map (open_without k) (after_bytes_offered j offered took p)
  write_offered_other p offered took =
      elim (offered == length p.link.pending) as (λ t. cond t (after_bytes_taken j took (open_without k p)) None ≡ option_map (open_without k) (cond t (after_bytes_taken j took p) None)) [
        | true ↦ write_taken_other p took
        | false ↦ refl
      ]

  -- one write
  write_by_other : (p : OpenLink) (h : Happening) → write_by j (open_without k p) h ≡ option_map (open_without k) (write_by j p h)
  write_by_other p (Wrote i offered took) =
      elim (i == j) as (λ t. cond t (after_bytes_offered j offered took (open_without k p)) None ≡ option_map (open_without k) (cond t (after_bytes_offered j offered took p) None)) [
        | true ↦ write_offered_other p offered took
        | false ↦ refl
      ]
  write_by_other p h = refl

  -- it stays in the log without link k
  write_kept : (p : OpenLink) (h : Happening) (q : OpenLink) → write_by j p h ≡ Some q → (log : Log) → without k (h ∷ log) ≡ h ∷ without k log
  write_kept p (Wrote i offered took) q e log =
      let t = cond-some (i == j) (after_bytes_offered j offered took p) q e in
      ap (λ t. cond t (without k log) (Wrote i offered took ∷ without k log)) (is_other i t.0)
  write_kept p (Captured d n got) q e log = refl
  write_kept p (Emitted d sound done) q e log = refl
  write_kept p (Hooked d off done) q e log = refl
  write_kept p h q e log = absurd (none_some e)

  -- a link that has nothing to send, or is blocked
  write_rests : (p : OpenLink) → wants_write p.link ≡ false → (log : Log) → write_phase j p log ≡ accept p log
  write_rests p w [] = ap (λ t. cond t None (accept p [])) w
  write_rests p w (h ∷ log) = ap (λ t. cond t (and_then (write_by j p h) (λ q. write_phase j q log)) (accept p (h ∷ log))) w

  -- after the last write
  write_done : (p : OpenLink) (log : Log) (b : Parsed OpenLink) → wants_write p.link ≡ false → accept p log ≡ Some b → write_phase j (open_without k p) (without k log) ≡ accept (open_without k b.state) (without k b.log)
  write_done p log b w e = write_rests (open_without k p) w (without k log) ∙ follows_nothing k (open_without k) p log b e

  -- one write, and what follows it
  write_goes : (p q : OpenLink) (h : Happening) (log : Log) → wants_write p.link ≡ true → write_by j p h ≡ Some q → write_phase j (open_without k p) (without k (h ∷ log)) ≡ write_phase j (open_without k q) (without k log)
  write_goes p q h log w e =
      let r = open_without k p in
      ap (write_phase j r) (write_kept p h q e log) ∙ ap (λ t. cond t (and_then (write_by j r h) (λ q. write_phase j q (without k log))) (accept r (h ∷ without k log))) w
      ∙ ap (λ o. and_then o (λ q. write_phase j q (without k log))) (write_by_other p h ∙ ap (option_map (open_without k)) e)

  -- all writes
  write_other : (log : Log) (p : OpenLink) (b : Parsed OpenLink) → write_phase j p log ≡ Some b → write_phase j (open_without k p) (without k log) ≡ accept (open_without k b.state) (without k b.log)
  write_other [] p b e =
      elim (wants_write p.link) as (λ t. wants_write p.link ≡ t → cond t None (accept p []) ≡ Some b → write_phase j (open_without k p) [] ≡ accept (open_without k b.state) (without k b.log)) [
        | true ↦ λ w e. absurd (none_some e)
        | false ↦ λ w e. write_done p [] b w e
      ] refl e
  write_other (h ∷ log) p b e =
      elim (wants_write p.link) as (λ t. wants_write p.link ≡ t → cond t (and_then (write_by j p h) (λ q. write_phase j q log)) (accept p (h ∷ log)) ≡ Some b → write_phase j (open_without k p) (without k (h ∷ log)) ≡ accept (open_without k b.state) (without k b.log)) [
        | true ↦ λ w e.
            elim (write_by j p h) as (λ o. write_by j p h ≡ o → and_then o (λ q. write_phase j q log) ≡ Some b → write_phase j (open_without k p) (without k (h ∷ log)) ≡ accept (open_without k b.state) (without k b.log)) [
              | None ↦ λ i e. absurd (none_some e)
              | Some q ↦ λ i e. write_goes p q h log w i ∙ write_other log q b e
            ] refl e
        | false ↦ λ w e. write_done p (h ∷ log) b w e
      ] refl e

  -- Closes

  -- one close
  close_by_other : (a : EnvironmentState) (cause : Why) (h : Happening) → close_by j (environment_without k a) cause h ≡ option_map (slot_without k) (close_by j a cause h)
  close_by_other a cause (Closed i why) =
      elim (i == j && same_why why cause) as (λ t. cond t (Some (link_in_slot (environment_without k a) None)) None ≡ option_map (slot_without k) (cond t (Some (link_in_slot a None)) None)) [ true ↦ refl | false ↦ refl ]
  close_by_other a cause h = refl

  -- it stays in the log without link k
  close_kept : (a : EnvironmentState) (cause : Why) (h : Happening) (c : SlotLink) → close_by j a cause h ≡ Some c → (log : Log) → without k (h ∷ log) ≡ h ∷ without k log
  close_kept a cause (Closed i why) c e log =
      let t = cond-some (i == j && same_why why cause) (Some (link_in_slot a None)) c e in
      ap (λ t. cond t (without k log) (Closed i why ∷ without k log)) (is_other i (both-true (i == j) (same_why why cause) t.0).0)
  close_kept a cause (Captured d n got) c e log = refl
  close_kept a cause (Emitted d sound done) c e log = refl
  close_kept a cause (Hooked d off done) c e log = refl
  close_kept a cause h c e log = absurd (none_some e)

  -- a close, if there is one
  close_other : (p : OpenLink) → Follows k (slot_without k) (close_phase j p) (close_phase j (open_without k p))
  unfolding close_phase
  close_other p =
      elim (close_due p.link) as (λ o. Follows k (slot_without k) (close_for j p o) (close_for j (open_without k p) o)) [
        | None ↦ follows_nothing k (slot_without k) (link_in_slot p.environment (Some p.link))
        | Some cause ↦ follows_one k (slot_without k) (close_by j p.environment cause) (close_by j (environment_without k p.environment) cause) (close_by_other p.environment cause) (close_kept p.environment cause)
      ]

  -- another link is served
  pub serve_other : (p : OpenLink) (log : Log) (b : Parsed SlotLink) → serve_link j p log ≡ Some b → serve_link j (open_without k p) (without k log) ≡ accept (slot_without k b.state) (without k b.log)
  unfolding serve_link
  serve_other p =
      follows_then k (open_without k) (slot_without k) (read_phase j p) (read_phase j (open_without k p)) (λ p log. parse_then (write_phase j p log) (close_phase j)) (λ p log. parse_then (write_phase j p log) (close_phase j)) (read_other p)
      (λ q. follows_then k (open_without k) (slot_without k) (write_phase j q) (write_phase j (open_without k q)) (close_phase j) (close_phase j) (λ log b e. write_other log q b e) close_other)
