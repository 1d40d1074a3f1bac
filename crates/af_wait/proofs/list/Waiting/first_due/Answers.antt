use Rattle.std.proofs.Common.{◌<◌, ◌∙◌, ap, sym, subst, option_map, IfSome, List}
use Rattle.af_limits.specs.Limits.{most_links}
use Rattle.af_wait.specs.declared.Wait.{Wait}
use Rattle.af_wait.specs.Waits.{first_due, is_due}
use Rattle.af_wait.proofs.WaitLemmas.{find-below}
use Rattle.af_wait.proofs.list.Waiting.first_due.Goals as goal

pub returns-clause-bound : goal.returns-clause-bound
returns-clause-bound c = subst (λ o. IfSome o (λ link. link < most_links)) (sym (c.first_due_link.ensures.earliest ∙ ap (λ (ws : List Wait). option_map (λ (w : Wait). w.link) (first_due c.args.device ws)) c.deref.ensures.0)) (find-below (is_due c.args.device) c.self.inside.waits.items c.self.invariant.0.links)
