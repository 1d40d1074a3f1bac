use Rattle.std.proofs.Common.{sym, subst, rules}
use Rattle.af_wait.specs.Waits.{AreFlags}
use Rattle.af_wait.proofs.FlagLemmas.{AreFlags-none}
use Rattle.af_wait.proofs.list.Waiting.new.Goals as goal

pub invariant_of-result : goal.invariant_of-result
invariant_of-result c = (search rules, subst (AreFlags _) (sym c.new.ensures) AreFlags-none)
