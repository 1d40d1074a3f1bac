use Rattle.std.proofs.Common.{◌≡◌}
use Rattle.af_live.specs.Shares.{renewed_from, NoneHeldFrom}
use Rattle.af_live.proofs.held_links.HeldLinks.renew_all.Given as goal

abbrev pub invariant-loop-number : goal.invariant-loop-number
invariant-loop-number l = (renewed_from l.number l.self ≡ renewed_from 0 l.initial.self) × NoneHeldFrom l.end l.self
