use Rattle.std.proofs.Common.{◌≡◌, ◌∙◌, ap, sym, cond}
use Rattle.std.specs.declared.option.Option.TheVariants.{None, Some}
use Rattle.af_state.proofs.DeferredRequestLemmas.{due_waits}
use Rattle.af_core.proofs.SharedStateLemmas.{around_inside, due_inside}
use Rattle.af_core.proofs.CompletionLemmas.{completes_closed}
use Rattle.af_core.proofs.slot.Slot.complete.Goals as goal

pub complete_link-requires-clause-room : goal.complete_link-requires-clause-room
complete_link-requires-clause-room c =
    let is : c.args.self.now ≡ Some c.self.inside.link = sym c.self.view_is ∙ ap (λ b. cond b (Some c.self.inside.link) None) c.if-self.true in
    (c.requires.settled c.self.inside.link is).room (due_waits c.args.device c.args.shared.now.waits c.args.number c.requires.due)

pub returns-else-self-clause-step : goal.returns-else-self-clause-step
returns-else-self-clause-step c = λ a s w h here first.
    completes_closed _ _ c.args.device c.args.self.now s w c.args.number a (around_inside a c.shared.view_is h) here (sym c.self.view_is ∙ ap (λ b. cond b (Some c.self.inside.link) None) c.if-self.false)
    (due_inside c.args.device c.args.number c.shared.view_is c.requires.due) c.take_due.ensures.rest
