use Rattle.std.proofs.Common.{◌∙◌, ap}
use Rattle.af_model.specs.More.{any_wants}
use Rattle.af_state.specs.Deferrals.{has_waiting}
use Rattle.af_core.specs.Stands.{Kept}
use Rattle.af_core.proofs.WantsTurnLemmas.{more_same}
use Rattle.af_core.proofs.WantsWithinLemmas.{more_is}
use Rattle.af_core.proofs.server.Core.more.Goals as goal

pub returns-clause-kept : goal.returns-clause-kept
returns-clause-kept c = more_is c.self.inside.bounds _ _ c.self.invariant.1.0 c.self.invariant.1.1 ∙ ap (λ (k : Kept). any_wants 0 (has_waiting k.waits) k.links) c.self.view_is

pub returns-clause-shows : goal.returns-clause-shows
returns-clause-shows c = λ s st. returns-clause-kept c ∙ more_same _ s st.kept
