use Rattle.std.proofs.Common.{refl, arith}
use Rattle.af_limits.specs.Limits.{most_links}
use Rattle.af_live.proofs.HeldLinksLemmas.{none_held, none_ready}
use Rattle.af_live.proofs.held_links.HeldLinks.new.Goals as goal

pub invariant_of-result : goal.invariant_of-result
invariant_of-result c = (refl, omega arith, λ k less. none_ready most_links k, λ k from low. none_ready most_links k, omega arith, λ k low. none_held most_links k)
