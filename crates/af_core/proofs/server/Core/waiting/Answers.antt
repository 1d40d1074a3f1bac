use Rattle.std.proofs.Common.{◌<◌, ◌∙◌, ap, sym, subst, List}
use Rattle.std.specs.List.{All}
use Rattle.af_wait.specs.declared.Wait.{Wait}
use Rattle.af_state.specs.Deferrals.{waits_of}
use Rattle.af_core.specs.declared.server.Core.TheInside.{Inside}
use Rattle.af_core.specs.Stands.{Kept, Stands, StandForWaiting}
use Rattle.af_core.proofs.TurnLemmas.{all_wait, shown}
use Rattle.af_core.proofs.server.Core.waiting.Goals as goal

pub returns-clause-waits : goal.returns-clause-waits
returns-clause-waits c = λ s st.
    let stands = subst (λ (k : Kept). Stands k s) (sym c.self.view_is) st in
    subst (λ (ws : List Wait). StandForWaiting s.devices ws s.waiting) (sym (c.order.ensures ∙ ap (λ (x : Inside). waits_of x.shared.waits) c.self-inside.view_is)) (shown s.devices c.self.inside.shared.waits s.waiting c.self.invariant.0.orderly.later stands.kept.waiting)

pub returns-clause-later : goal.returns-clause-later
returns-clause-later c = subst (λ (ws : List Wait). All (λ w. 0 < w.left) ws) (sym (c.order.ensures ∙ ap (λ (x : Inside). waits_of x.shared.waits) c.self-inside.view_is)) (all_wait c.self.inside.shared.waits c.self.invariant.0.orderly.later)
