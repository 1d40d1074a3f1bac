use Rattle.std.proofs.Common.{◌∙◌, ap}
use Rattle.af_limits.specs.Limits.{most_links}
use Rattle.af_live.specs.LinkTable.{link_at}
use Rattle.af_live.proofs.HeldLinksLemmas.{none_held}
use Rattle.af_live.proofs.StreamsLemmas.{begun_own}
use Rattle.af_live.proofs.mio_world.MioWorld.with_programs.Goals as goal

pub invariant_of-result : goal.invariant_of-result
invariant_of-result g c = begun_own c.new.result (λ k. ap (λ ls. link_at ls k) c.new.ensures ∙ none_held most_links k)
