use Rattle.std.proofs.Common.{arith, ap, subst, sym}
use Rattle.af_model.specs.Turn.{hook_all}
use Rattle.af_state.specs.SharedState.{KeptSharedState}
use Rattle.af_core.specs.declared.wanting_span.WantingSpan.{WantingSpan}
use Rattle.af_core.specs.Stands.{AreBounds, AreExact, kept_of}
use Rattle.af_core.proofs.OpenBelowLemmas.{hooks_open, kept_opens, none_open_same}
use Rattle.af_core.proofs.SimulationLemmas.{simulates_more, simulates_then}
use Rattle.af_core.proofs.TurnLemmas.{turns}
use Rattle.af_core.proofs.WantsWithinLemmas.{all_bounds, known_woken, none_woken}
use Rattle.af_core.proofs.server.turn_parts.Goals as goal
use Rattle.af_core.proofs.server.turn_parts.Goals.{then-give_hooks, else-give_hooks}

pub wake-requires-clause-none_open : goal.wake-requires-clause-none_open
wake-requires-clause-none_open g c = none_woken c.args.wake c.args.bounds.now (kept_of c.args.shared.now c.args.slots.now) (kept_of _ c.wake_up-concerns_all.new.slots) c.requires.kept c.requires.bounds.none_open c.wake_up-concerns_all.ensures.simulates

pub serve_slots-requires-clause-bounds : goal.serve_slots-requires-clause-bounds
serve_slots-requires-clause-bounds g c =
    known_woken c.args.wake c.wake_up-concerns_all.result c.args.bounds.now _ (kept_of c.args.shared.now c.args.slots.now) (kept_of _ c.wake_up-concerns_all.new.slots) c.requires.fits c.requires.kept c.requires.bounds
    c.wake_up-concerns_all.ensures.only c.wake_up-concerns_all.ensures.kept c.wake_up-concerns_all.ensures.simulates c.wake.ensures.one c.wake.ensures.all

pub include_all-requires-clause-most : goal.include_all-requires-clause-most
include_all-requires-clause-most g c =
    let most = c.serve_slots.ensures.bounds.most in
    let size = c.give_hooks.ensures.kept.orderly.links in
    omega (arith, most, size)

pub include_all-requires-clause-none_open : goal.include_all-requires-clause-none_open
include_all-requires-clause-none_open g c =
    none_open_same _ c.serve_slots.new.slots c.give_hooks.new.slots (kept_opens _ _ hook_all (λ w. w) hooks_open c.serve_slots.ensures.kept.stands c.give_hooks.ensures.simulates) c.serve_slots.ensures.bounds.none_open

pub narrow-requires-clause-bounds : goal.narrow-requires-clause-bounds
narrow-requires-clause-bounds g c =
    let most = c.serve_slots.ensures.bounds.most in
    let fewer = c.include_all.ensures.bound in
    let waits = ap (λ (e : KeptSharedState). e.waits) c.shared.view_is in
    subst (λ ks. AreBounds c.include_all.new.self ks c.give_hooks.new.slots) (sym waits)
    (subst (λ (b : WantingSpan). AreBounds b c.give_hooks.new.shared.waits c.give_hooks.new.slots) (sym c.include_all.ensures.all)
    (all_bounds (record c.serve_slots.new.bounds { open_below = c.include_all.new.self.open_below }) _ _ (omega (arith, fewer, most)) c.include_all.ensures.none_open))

pub returns-clause-bounds : goal.returns-clause-bounds
returns-clause-bounds g c = elim c.if-give_hooks.branch [
  | then-give_hooks w ↦
      rw w.bounds-is (subst (λ ks. AreBounds w.narrow.new.self ks c.give_hooks.new.slots) (ap (λ (e : KeptSharedState). e.waits) c.shared.view_is) w.narrow.ensures.bounds)
  | else-give_hooks w ↦ let same = c.give_hooks.ensures.same w.if-give_hooks.false in rw (w.bounds-is, same.0, same.1) c.serve_slots.ensures.bounds
]

pub returns-clause-exact : goal.returns-clause-exact
returns-clause-exact g c = elim c.if-give_hooks.branch [
  | then-give_hooks w ↦
      rw w.bounds-is (subst (λ ks. AreExact w.narrow.new.self ks c.give_hooks.new.slots) (ap (λ (e : KeptSharedState). e.waits) c.shared.view_is) w.narrow.ensures.exact)
  | else-give_hooks w ↦ let same = c.give_hooks.ensures.same w.if-give_hooks.false in rw (w.bounds-is, same.0, same.1) c.serve_slots.ensures.exact
]

pub returns-clause-turns : goal.returns-clause-turns
returns-clause-turns g c =
    turns _ _ _ _ c.args.wake _ _ _ c.requires.fits c.requires.kept c.give_hooks.ensures.kept.orderly c.woke.ensures.log c.wake_up-concerns_all.ensures.simulates
    (simulates_more (simulates_then hook_all c.serve_slots.ensures.simulates) c.give_hooks.ensures.simulates)
