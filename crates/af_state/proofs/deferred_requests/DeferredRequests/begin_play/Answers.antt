use Rattle.std.proofs.Common.{◌<◌, sym, subst}
use Rattle.af_state.proofs.DeferredRequestLemmas.{begins_at, none_waits}
use Rattle.af_state.proofs.deferred_requests.DeferredRequests.begin_play.Goals as goal

pub add-requires-clause-apart : goal.add-requires-clause-apart
add-requires-clause-apart c = none_waits c.self.inside.deferred.items c.self.inside.order _ c.args.link c.self.view_is c.requires.apart

pub returns : goal.returns
returns c =
    begins_at c.self.inside.deferred.items c.self.inside.order c.add.new.self _ _ c.defer_play.new.self _ _ c.from.ensures c.defer_play.ensures (subst (λ n. c.args.link < n) (sym c.self.invariant) c.requires.link) c.requires.apart
    c.add.ensures.added c.self.view_is
