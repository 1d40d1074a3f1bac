use Rattle.std.proofs.Common.{◌≡◌, ◌<◌, ℕ, false}
use Rattle.af_live.specs.LinkTable.{something_ready, link_at}
use Rattle.af_live.proofs.link_table.first_ready.Given as goal

abbrev pub invariant-loop-number : goal.invariant-loop-number
invariant-loop-number l = (k : ℕ) → k < l.number → something_ready (link_at l.links k) ≡ false
