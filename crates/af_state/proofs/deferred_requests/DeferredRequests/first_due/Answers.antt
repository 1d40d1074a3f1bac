use Rattle.std.proofs.Common.{◌∙◌, ap, find, option_map, List}
use Rattle.af_state.specs.Deferrals.{KeptDeferral, kept_due}
use Rattle.af_state.proofs.DeferredRequestLemmas.{kept_first}
use Rattle.af_state.proofs.deferred_requests.DeferredRequests.first_due.Goals as goal

pub returns-clause-earliest : goal.returns-clause-earliest
returns-clause-earliest c = c.first_due.ensures.earliest ∙ kept_first c.self.inside.deferred.items c.self.inside.order c.args.device ∙ ap (λ (ks : List KeptDeferral). option_map (λ (k : KeptDeferral). k.wait.link) (find (kept_due c.args.device) ks)) c.self.view_is
