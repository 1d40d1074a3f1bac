use Rattle.std.proofs.Common.{◌≡◌}
use Rattle.af_live.specs.Shares.{cut_from}
use Rattle.af_live.proofs.held_links.HeldLinks.some_cut.Given as goal

abbrev pub invariant-loop-number : goal.invariant-loop-number
invariant-loop-number l = cut_from l.number l.self ≡ cut_from 0 l.self
