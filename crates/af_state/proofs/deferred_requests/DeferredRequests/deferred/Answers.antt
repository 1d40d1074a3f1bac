use Rattle.std.proofs.Common.{◌≡◌, ◌<◌, ◌∙◌, ap, sym, subst, List, [], false, get_or}
use Rattle.std.specs.List.{All}
use Rattle.af_model.specs.State.{Deferred, deferred_play}
use Rattle.af_state.specs.Deferrals.{KeptDeferral}
use Rattle.af_state.proofs.DeferredRequestLemmas.{room_of, same_room}
use Rattle.af_state.proofs.deferred_requests.DeferredRequests.deferred.Goals as goal

pub returns : goal.returns
returns c =
    let room = c.self.inside.deferred.items in
    let h : Deferred = c.index.result.now in
    let is : h ≡ get_or room c.args.link (deferred_play false 0 [] false) =
    c.index.ensures ∙ ap (λ i. get_or room i h) c.from.ensures ∙ same_room room c.args.link h (deferred_play false 0 [] false) (subst (λ n. c.args.link < n) (sym c.self.invariant) c.requires) in
    subst (λ (ks : List KeptDeferral). All (λ k. k.wait.link ≡ c.args.link → h ≡ k.deferred) ks) c.self.view_is (room_of room c.self.inside.order c.args.link h is)
