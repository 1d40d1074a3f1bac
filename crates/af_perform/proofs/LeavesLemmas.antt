-- An environment that is opened, and what a request leaves of it.
use Rattle.std.proofs.Common.{◌≡◌, ℕ, ◌<◌, ◌≤◌, false, List, [], ◌∷◌, ◌++◌, length, refl, sym, subst}
use Rattle.af_limits.specs.Limits.{perform_limit}
use Rattle.af_model.specs.State.{LinkState, OpenLink, open_link}
use Rattle.af_state.specs.Kept.{KeptDevice}
use Rattle.af_state.specs.Deferrals.{KeptDeferral, has_waiting}
use Rattle.af_state.specs.SharedState.{StandsForLink, KeptSharedState, StepsDevices, StepsLink, Leaves, StandsForSharedState, kept_shared_state}
use Rattle.af_state.proofs.DeferralLemmas.{only_queues_nothing}

-- what touches only devices, in an environment
pub leads_opened : (e : KeptSharedState) (ds lent ds' back : List KeptDevice) (ks : List KeptDeferral) (l l' : LinkState) (f : OpenLink → OpenLink) → kept_shared_state ds ks ≡ e → lent ≡ ds → back ≡ ds' → StepsDevices f lent l ds' l' → StepsLink f e l (kept_shared_state back ks) l'
leads_opened e ds lent ds' back ks l l' f view value is leads a h =
    subst (λ xs. StandsForLink (kept_shared_state xs ks) l' (f (open_link a l))) (sym is)
    (leads ks a (subst (λ xs. StandsForSharedState (kept_shared_state xs ks) a) (sym value) (subst (λ (v : KeptSharedState). StandsForSharedState v a) (sym view) h)))

-- and what only reads them
pub leads_read : (e : KeptSharedState) (ds lent : List KeptDevice) (ks : List KeptDeferral) (l l' : LinkState) (f : OpenLink → OpenLink) → kept_shared_state ds ks ≡ e → lent ≡ ds → StepsDevices f lent l lent l' → StepsLink f e l e l'
leads_read e ds lent ks l l' f view value leads a h =
    subst (λ (v : KeptSharedState). StandsForLink v l' (f (open_link a l))) view
    (leads_opened e ds lent lent ds ks l l' f view value (sym value) leads a h)

-- no request is deferred
pub leaves_same : (k : ℕ) (e : KeptSharedState) (l l' : LinkState) → has_waiting e.waits k ≡ false → l'.rest ≡ l.rest → Leaves k e l e l'
leaves_same k e l l' free rest = record { rest = rest; only_queues = only_queues_nothing k e.waits; small_pending = λ waits. absurd cc }

pub leaves_opened : (k : ℕ) (e : KeptSharedState) (ds ds' : List KeptDevice) (ks : List KeptDeferral) (l l' : LinkState) → kept_shared_state ds ks ≡ e → has_waiting e.waits k ≡ false → l'.rest ≡ l.rest → Leaves k e l (kept_shared_state ds' ks) l'
leaves_opened k e ds ds' ks l l' view free rest =
    let still : has_waiting ks k ≡ false = subst (λ (v : KeptSharedState). has_waiting v.waits k ≡ false) (sym view) free in
    subst (λ (v : KeptSharedState). Leaves k v l (kept_shared_state ds' ks) l') view
    (record { rest = rest; only_queues = only_queues_nothing k ks; small_pending = λ waits. absurd cc })

-- the request of the link is deferred
pub leaves_waiting : (k : ℕ) (e : KeptSharedState) (ds : List KeptDevice) (ks ks' : List KeptDeferral) (l : LinkState) (w : KeptDeferral) → kept_shared_state ds ks ≡ e → w.wait.link ≡ k → 0 < w.wait.left → ks' ≡ ks ++ w ∷ [] → length l.pending ≤ perform_limit → Leaves k e l (kept_shared_state ds ks') l
leaves_waiting k e ds ks ks' l w view link later is room =
    subst (λ (v : KeptSharedState). Leaves k v l (kept_shared_state ds ks') l) view
    (record { rest = refl; only_queues = record { more = w ∷ []; is = is; are_new = (link, later, tt) }; small_pending = λ waits. room })
