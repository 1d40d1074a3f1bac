use Rattle.std.proofs.Common.{◌≡◌, slice_get, option_and_then, List, rules, sym, subst}
use Rattle.std.proofs.lemmas.List.{with_items_is}
use Rattle.std.specs.declared.option.Option.{Option}
use Rattle.std.specs.declared.option.Option.TheVariants.{Some}
use Rattle.af_model.specs.State.{LinkState}
use Rattle.af_core.specs.Stands.{AreBounds, AreExact, IsBetweenPhases, kept_of}
use Rattle.af_core.proofs.WantsTurnLemmas.{kept_open}
use Rattle.af_core.proofs.server.Core.turn.Goals as goal

pub turn_parts-requires-clause-kept : goal.turn_parts-requires-clause-kept
turn_parts-requires-clause-kept g c = subst (λ (xs : List (Option LinkState)). IsBetweenPhases (kept_of c.self.inside.shared xs)) (sym c.deref_mut.ensures.value) c.self.invariant.0

pub turn_parts-requires-clause-bounds : goal.turn_parts-requires-clause-bounds
turn_parts-requires-clause-bounds g c = subst (λ (xs : List (Option LinkState)). AreBounds c.self.inside.bounds c.self.inside.shared.waits xs) (sym c.deref_mut.ensures.value) c.self.invariant.1.0

pub invariant_of-self : goal.invariant_of-self
invariant_of-self g c =
    let links_are = sym (with_items_is c.self.inside.slots c.turn_parts.new.slots (search rules)) in (
      subst (λ (xs : List (Option LinkState)). IsBetweenPhases (kept_of c.turn_parts.new.shared xs)) links_are c.turn_parts.ensures.kept,
      (
        subst (λ (xs : List (Option LinkState)). AreBounds c.turn_parts.new.bounds c.turn_parts.new.shared.waits xs) links_are c.turn_parts.ensures.bounds,
        subst (λ (xs : List (Option LinkState)). AreExact c.turn_parts.new.bounds c.turn_parts.new.shared.waits xs) links_are c.turn_parts.ensures.exact,
      ),
    )

pub returns-clause-bounds : goal.returns-clause-bounds
returns-clause-bounds g c = λ k l e.
    let links = c.turn_parts.new.slots in
    let links_are = with_items_is c.self.inside.slots links (search rules) in
    (c.turn_parts.ensures.kept.orderly.settled k l (kept_open links k l (subst (λ (xs : List (Option LinkState)). option_and_then (λ (link : Option LinkState). link) (slice_get xs k) ≡ Some l) links_are e))).bounds
