use Rattle.std.proofs.Common.{◌∙◌, ap, map, List}
use Rattle.af_state.specs.Deferrals.{KeptDeferral, kept_deferral, kept_without}
use Rattle.af_state.proofs.DeferredRequestLemmas.{kept_dropped}
use Rattle.af_state.proofs.deferred_requests.DeferredRequests.drop_link.Goals as goal

pub returns : goal.returns
returns c = ap (map (kept_deferral c.self.inside.deferred.items)) c.drop_link.ensures.rest ∙ kept_dropped c.self.inside.deferred.items c.self.inside.order c.args.link ∙ ap (λ (ks : List KeptDeferral). kept_without c.args.link ks) c.self.view_is
