use Rattle.std.proofs.Common.{◌∙◌, ap, sym, List}
use Rattle.af_wait.specs.Waits.{is_waiting}
use Rattle.af_state.specs.Deferrals.{KeptDeferral, has_waiting}
use Rattle.af_state.proofs.DeferredRequestLemmas.{waits_of-kept}
use Rattle.af_state.proofs.deferred_requests.DeferredRequests.is_waiting.Goals as goal

pub returns : goal.returns
returns c = c.is_waiting.ensures ∙ ap (λ ws. is_waiting ws c.args.link) (sym (waits_of-kept c.self.inside.deferred.items c.self.inside.order)) ∙ ap (λ (ks : List KeptDeferral). has_waiting ks c.args.link) c.self.view_is
