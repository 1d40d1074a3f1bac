use Rattle.std.proofs.Common.{sym, ap, ◌∙◌, arith}
use Rattle.std.specs.declared.option.Option.TheVariants.{Some}
use Rattle.af_world.specs.Outside.{with_client}
use Rattle.af_outside.specs.Tape.{outside_of}
use Rattle.af_outside.proofs.ScriptedLinkLemmas.{outside_of-set, HasRoomForSteps-kept}
use Rattle.af_outside.proofs.links.close.Goals as goal

pub returns-then-place-links-clause-answered : goal.returns-then-place-links-clause-answered
returns-then-place-links-clause-answered c = λ devices.
    ap (λ o. Some o) (ap (with_client (outside_of c.args.links.now devices) c.args.link) (sym c.close.ensures.client) ∙ sym (outside_of-set c.args.links.now devices c.args.link c.close.new.self))

pub returns-then-place-links-clause-room : goal.returns-then-place-links-clause-room
returns-then-place-links-clause-room c = λ steps room. HasRoomForSteps-kept _ _ c.index-links-place.result _ steps (omega arith) room c.close.ensures.room
