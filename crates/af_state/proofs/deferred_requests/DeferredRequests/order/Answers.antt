use Rattle.std.proofs.Common.{◌∙◌, ap, sym, List}
use Rattle.af_state.specs.Deferrals.{KeptDeferral, waits_of}
use Rattle.af_state.proofs.DeferredRequestLemmas.{waits_of-kept}
use Rattle.af_state.proofs.deferred_requests.DeferredRequests.order.Goals as goal

pub returns : goal.returns
returns c = sym (waits_of-kept c.self.inside.deferred.items c.self.inside.order) ∙ ap (λ (ks : List KeptDeferral). waits_of ks) c.self.view_is
