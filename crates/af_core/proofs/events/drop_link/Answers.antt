use Rattle.af_core.proofs.SharedStateLemmas.{around_inside}
use Rattle.af_core.proofs.EventLemmas.{drops_at}
use Rattle.af_core.proofs.events.drop_link.Goals as goal

pub returns-clause-step : goal.returns-clause-step
returns-clause-step c = λ a h. drops_at _ _ c.args.number c.args.cause a c.args.link.now _ c.drop_link.ensures c.abort.ensures (around_inside a c.shared.view_is h)
