use Rattle.std.proofs.Common.{◌≡◌, ◌<◌, ℕ, true}
use Rattle.af_live.specs.LinkTable.{nothing_unread, link_at}
use Rattle.af_live.proofs.held_links.HeldLinks.are_drained.Given as goal

abbrev pub invariant-loop-number : goal.invariant-loop-number
invariant-loop-number l = (k : ℕ) → k < l.number → nothing_unread (link_at l.self k) ≡ true
