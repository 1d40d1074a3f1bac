use Rattle.std.proofs.Common.{◌≡◌, ◌∙◌, ap, subst, List, None, Some, option_map}
use Rattle.af_wait.specs.declared.Wait.{Wait}
use Rattle.af_wait.specs.Waits.{first_due, is_due, without_first, without_taken}
use Rattle.af_wait.proofs.WaitLemmas.{without_taken-find}
use Rattle.af_wait.proofs.list.Waiting.next_due.Goals as goal

pub returns-in_err-link-clause-first : goal.returns-in_err-link-clause-first
returns-in_err-link-clause-first c =
    let items = c.self.inside.waits.items in
    let nothing : None ≡ option_map (λ (w : Wait). w.link) (first_due c.args.device items) =
    c.in_err-link.ensures.earliest ∙ ap (λ (ws : List Wait). option_map (λ (w : Wait). w.link) (first_due c.args.device ws)) c.deref.ensures.0 in
    subst (λ (ws : List Wait). ws ≡ without_first (is_due c.args.device) ws) c.self.view_is
    (ap (without_taken items) nothing ∙ without_taken-find (is_due c.args.device) items c.self.invariant.0.distinct)

pub returns-clause-first : goal.returns-clause-first
returns-clause-first c =
    let items = c.self.inside.waits.items in
    let link : Some c.in_ok-link.link ≡ option_map (λ (w : Wait). w.link) (first_due c.args.device items) =
    c.in_ok-link.ensures.earliest ∙ ap (λ (ws : List Wait). option_map (λ (w : Wait). w.link) (first_due c.args.device ws)) c.deref.ensures.0 in
    c.drop_link.ensures.rest
    ∙ subst (λ (ws : List Wait). without_taken ws (Some c.in_ok-link.link) ≡ without_first (is_due c.args.device) ws) c.self.view_is
    (ap (without_taken items) link ∙ without_taken-find (is_due c.args.device) items c.self.invariant.0.distinct)
