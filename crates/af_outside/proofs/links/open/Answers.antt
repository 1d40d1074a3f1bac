use Rattle.std.proofs.Common.{sym, ap, ◌∙◌, arith, is_some, []}
use Rattle.std.specs.Prelude.{if◌then◌else◌}
use Rattle.af_world.specs.declared.happening.Wake.TheVariants as wake
use Rattle.af_outside.proofs.ScriptedLinkLemmas.{outside_of-set, HasRoomForSteps-kept, HasRoomForSteps-less, client_at-outside_of, client_at-past, opened_here}
use Rattle.af_outside.proofs.links.open.Goals as goal

pub returns-else-is_open-clause-outside : goal.returns-else-is_open-clause-outside
returns-else-is_open-clause-outside c = λ devices.
    let here = client_at-outside_of c.args.links.now devices c.args.link c.index-links-place.result (omega arith) in
    outside_of-set c.args.links.now devices c.args.link c.open.new.self
    ∙ opened_here _ c.args.link _ _ (ap is_some here ∙ sym c.is_open.ensures ∙ c.if-is_open.false) c.open.ensures.client

pub returns-else-is_open-clause-room : goal.returns-else-is_open-clause-room
returns-else-is_open-clause-room c = λ steps room.
    HasRoomForSteps-kept _ _ c.index-links-place-then-place-links.result _ steps (omega arith) (HasRoomForSteps-less _ _ steps room) c.open.ensures.room

pub returns-else-place-links-clause-wake : goal.returns-else-place-links-clause-wake
returns-else-place-links-clause-wake c =
    sym (ap (λ client. if is_some client then wake.Idle else wake.Opened c.args.link) (client_at-past c.args.links.now [] c.args.link (omega arith)))
