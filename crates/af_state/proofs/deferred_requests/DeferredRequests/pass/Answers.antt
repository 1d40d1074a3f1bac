use Rattle.std.proofs.Common.{◌∙◌, ap, map}
use Rattle.af_state.specs.Deferrals.{deferral_after_frames, kept_deferral}
use Rattle.af_state.proofs.DeferredRequestLemmas.{kept_pass}
use Rattle.af_state.proofs.deferred_requests.DeferredRequests.pass.Goals as goal

pub returns : goal.returns
returns c = ap (map (kept_deferral c.self.inside.deferred.items)) c.pass.ensures.passed ∙ kept_pass c.self.inside.deferred.items c.self.inside.order c.args.device c.args.n ∙ ap (map (deferral_after_frames c.args.device c.args.n)) c.self.view_is
