use Rattle.std.proofs.Common.{◌≡◌, replicate}
use Rattle.std.specs.declared.option.Option.TheVariants.{None}
use Rattle.af_outside.specs.Tape.{clients_of, HasRoomForSteps}
use Rattle.af_outside.proofs.links.closed_links.Given as goal

abbrev pub invariant-loop-link : goal.invariant-loop-link
invariant-loop-link l = (clients_of l.links.items ≡ replicate l.link None) × HasRoomForSteps l.links.items l.steps
