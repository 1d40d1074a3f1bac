use Rattle.std.proofs.Common.{◌≡◌, ◌<◌, ℕ, false}
use Rattle.af_live.specs.LinkTable.{is_free, link_at}
use Rattle.af_live.proofs.link_table.least_free.Given as goal

abbrev pub invariant-loop-number : goal.invariant-loop-number
invariant-loop-number l = (k : ℕ) → k < l.number → is_free (link_at l.links k) ≡ false
