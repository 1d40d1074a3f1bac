-- All links are served with link k and without it.
use Rattle.std.proofs.Common.{◌≡◌, ℕ, zero, suc, ◌+◌, ◌==◌, true, false, length, refl, sym, ap, ◌∙◌, subst, eqb-true, inl, inr}
use Rattle.std.specs.declared.option.Option.{Option}
use Rattle.std.specs.declared.option.Option.TheVariants.{None, Some}
use Rattle.af_world.specs.Log.{Log}
use Rattle.af_model.specs.State.{EnvironmentState, LinkState, link_in_slot, open_link, SlotLink, SlotState, State, closed_slot, slot_at, slot_link_at, with_slot_link}
use Rattle.af_model.specs.Turn.{Parsed, parse_then, accept, serve_all, serve_at, serve_from, serve_open, serve_slot_link}
use Rattle.af_model.proofs.BoolTestLemmas.{some_is}
use Rattle.af_model.proofs.PhasePartLemmas.{then_inv}
use Rattle.af_model.proofs.ServeLemmas.{same_door, served_from}
use Rattle.af_isolation.specs.Without.{acted_on, state_without, without}
use Rattle.af_isolation.proofs.OtherLinkLemmas.{environment_without, slot_without}
use Rattle.af_isolation.proofs.OtherLinkPhaseLemmas.{serve_other}
use Rattle.af_isolation.proofs.OwnLinkLemmas.{Unmoved, laters_acted, serve_own}
use Rattle.af_isolation.proofs.SlotWithoutLemmas.{length_set, other_link_at, other_put, own_put, own_slot}
use Rattle.af_isolation.proofs.TickWithoutLemmas.{still_silent}

-- Another link

slot_other_served : (k j : ℕ) → (j == k) ≡ false → (a : EnvironmentState) (o : Option LinkState) (log : Log) (b : Parsed SlotLink) → serve_open j a o log ≡ Some b → serve_open j (environment_without k a) o (without k log) ≡ accept (slot_without k b.state) (without k b.log)
slot_other_served k j other a None log b e = ap (λ (c : Parsed SlotLink). accept (slot_without k c.state) (without k c.log)) (some_is e)
slot_other_served k j other a (Some l) log b e = serve_other k j other (open_link a l) log b e

serve_at_other : (k j : ℕ) → (j == k) ≡ false → (s : State) (log : Log) (b : Parsed State) → serve_at j s log ≡ Some b → serve_at j (state_without k s) (without k log) ≡ accept (state_without k b.state) (without k b.log)
serve_at_other k j other s log b e =
    let i = then_inv (serve_slot_link j (slot_link_at j s) log) (λ d log. accept (with_slot_link j s d) log) b e in
    let c = i.0 in
    ap (λ d. parse_then (serve_slot_link j d (without k log)) (λ d log. accept (with_slot_link j (state_without k s) d) log)) (other_link_at k j s other)
    ∙ ap (λ x. parse_then x (λ d log. accept (with_slot_link j (state_without k s) d) log)) (slot_other_served k j other (slot_link_at j s).environment (slot_link_at j s).link log c i.1)
    ∙ ap (λ t. accept t (without k c.log)) (other_put k j s c.state other)
    ∙ ap (λ (x : Parsed State). accept (state_without k x.state) (without k x.log)) (some_is i.2)

-- Link k itself

-- if it is not open, nothing is served
closed_served : (k : ℕ) (s : State) (log : Log) → serve_at k (state_without k s) log ≡ accept (state_without k s) log
closed_served k s log =
    let t = state_without k s in
    let a = (slot_link_at k t).environment in
    let none : (slot_at k t).link ≡ None = ap (λ (x : SlotState). x.link) (own_slot k s) in
    ap (λ o. parse_then (serve_open k a o log) (λ d log. accept (with_slot_link k t d) log)) none
    ∙ ap (λ o. accept (with_slot_link k t (link_in_slot a o)) log) (sym none)
    ∙ ap (λ u. accept u log) (same_door k t)

serve_at_own : (k : ℕ) (s : State) (log : Log) (b : Parsed State) → serve_at k s log ≡ Some b → acted_on k b.state.devices ≡ false → serve_at k (state_without k s) (without k log) ≡ accept (state_without k b.state) (without k b.log)
serve_at_own k s log b e silent =
    let a = (slot_link_at k s).environment in
    let i = then_inv (serve_slot_link k (slot_link_at k s) log) (λ d log. accept (with_slot_link k s d) log) b e in
    let c = i.0 in
    let own = serve_own k a (slot_link_at k s).link log c i.1 in
    let is : record { state = with_slot_link k s c.state; log = c.log } ≡ b = some_is i.2 in
    closed_served k s (without k log)
    ∙ ap (accept (state_without k s)) own.1
    ∙ ap (λ t. accept t (without k c.log)) (sym (put c.state own.0 (ap (λ (x : Parsed State). acted_on k x.state.devices) is ∙ silent)))
    ∙ ap (λ (x : Parsed State). accept (state_without k x.state) (without k x.log)) is
  where
    put : (d : SlotLink) → Unmoved k (slot_link_at k s).environment d.environment → acted_on k d.environment.devices ≡ false → state_without k (with_slot_link k s d) ≡ state_without k s
    put d (inl acted) silent = absurd (let no : true ≡ false = sym acted ∙ silent in cc)
    put d (inr same) silent = own_put k s d same.0 same.1

-- All links

serve_at_without : (k j : ℕ) (s : State) (log : Log) (b : Parsed State) → serve_at j s log ≡ Some b → acted_on k b.state.devices ≡ false → serve_at j (state_without k s) (without k log) ≡ accept (state_without k b.state) (without k b.log)
serve_at_without k j s log b e silent =
    elim (j == k) as (λ t. (j == k) ≡ t → serve_at j (state_without k s) (without k log) ≡ accept (state_without k b.state) (without k b.log)) [
      | true ↦ λ same.
          let is : j ≡ k = eqb-true j k same in
          subst (λ n. serve_at n (state_without k s) (without k log) ≡ accept (state_without k b.state) (without k b.log)) (sym is) (serve_at_own k s log b (ap (λ n. serve_at n s log) (sym is) ∙ e) silent)
      | false ↦ λ other. serve_at_other k j other s log b e
    ] refl

pub serve_from_without : (n k j : ℕ) (s : State) (log : Log) (b : Parsed State) → serve_from n j s log ≡ Some b → acted_on k b.state.devices ≡ false → serve_from n j (state_without k s) (without k log) ≡ accept (state_without k b.state) (without k b.log)
unfolding serve_from
serve_from_without zero k j s log b e silent = ap (λ (x : Parsed State). accept (state_without k x.state) (without k x.log)) (some_is e)
serve_from_without (suc n) k j s log b e silent =
    let i = then_inv (serve_at j s log) (serve_from n (j + 1)) b e in
    let c = i.0 in
    let quiet = still_silent k c.state b.state (λ acted. laters_acted k c.state.devices b.state.devices (served_from n (j + 1) c.state c.log b i.2).holds.goes.devices acted) silent in
    ap (λ x. parse_then x (serve_from n (j + 1))) (serve_at_without k j s log c i.1 quiet) ∙ serve_from_without n k (j + 1) c.state c.log b i.2 silent

pub serve_all_without : (k : ℕ) (s : State) (log : Log) (b : Parsed State) → serve_all s log ≡ Some b → acted_on k b.state.devices ≡ false → serve_all (state_without k s) (without k log) ≡ accept (state_without k b.state) (without k b.log)
serve_all_without k s log b e silent = ap (λ n. serve_from n 0 (state_without k s) (without k log)) (length_set s.slots k closed_slot) ∙ serve_from_without (length s.slots) k 0 s log b e silent
