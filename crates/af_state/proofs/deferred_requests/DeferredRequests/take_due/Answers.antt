use Rattle.std.proofs.Common.{◌≡◌, ◌∙◌, ap, subst, find, map, option_map, IfSome, List, false}
use Rattle.af_wait.specs.Waits.{without_first}
use Rattle.af_state.specs.Deferrals.{KeptDeferral, has_waiting, kept_due, kept_deferral}
use Rattle.af_state.proofs.DeferredRequestLemmas.{kept_taken, taken_free}
use Rattle.af_state.proofs.deferred_requests.DeferredRequests.take_due.Goals as goal

pub returns-clause-rest : goal.returns-clause-rest
returns-clause-rest c = ap (map (kept_deferral c.self.inside.deferred.items)) c.next_due.ensures.first ∙ kept_taken c.self.inside.deferred.items c.self.inside.order c.args.device ∙ ap (without_first (kept_due c.args.device)) c.self.view_is

pub returns-clause-free : goal.returns-clause-free
returns-clause-free c =
    subst (λ (ks : List KeptDeferral). IfSome (option_map (λ k. k.wait.link) (find (kept_due c.args.device) ks)) (λ link. has_waiting (map (kept_deferral c.self.inside.deferred.items) c.next_due.new.self) link ≡ false)) c.self.view_is
    (taken_free c.self.inside.deferred.items c.self.inside.order c.next_due.new.self c.args.device c.next_due.result c.next_due.ensures.earliest c.next_due.ensures.rest)
