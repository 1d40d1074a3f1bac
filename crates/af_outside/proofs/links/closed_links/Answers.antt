use Rattle.std.proofs.Common.{rules}
use Rattle.af_outside.proofs.ScriptedLinkLemmas.{clients_of-push, HasRoomForSteps-push, length-closed}
use Rattle.af_outside.proofs.links.closed_links.Goals as goal

pub loop-link-preserved : goal.loop-link-preserved
loop-link-preserved c = (
  clients_of-push _ _ c.loop-link.link c.in_ok-new.field-0 c.loop-link.invariant.0 (search rules) (search rules),
  HasRoomForSteps-push _ _ c.loop-link.link c.in_ok-new.field-0 _ c.loop-link.invariant.1 (length-closed _ _ c.loop-link.invariant.0) (search rules) (search rules),
)
