use Rattle.std.proofs.Common.{rules, ◌≡◌, ◌∙◌, ◌∷◌, [], refl, ap, sym, subst, inl, inr}
use Rattle.af_toolkit.specs.declared.end.ToolEnd.TheVariants as end
use Rattle.af_wire.specs.declared.order.Order.{Order}
use Rattle.af_cli.specs.Words.{one}
use Rattle.af_cli.specs.Call.{job_of_call}
use Rattle.af_cli.specs.declared.call.Call.TheVariants as call
use Rattle.af_tools.specs.Reading.{DialGivesContext}
use Rattle.af_tools.proofs.DialLemmas.{ran_none}
use Rattle.af_tools.proofs.RunStepLemmas.{idle_steps}
use Rattle.af_tools.proofs.run.run_call.Goals as goal

pub returns-in-One-clause-asked : goal.returns-in-One-clause-asked
returns-in-One-clause-asked g c =
    let one : c.args.call.now ≡ call.One c.in-One.call = search rules in
    rw one (record { named = c.in-One.call.server.now ∷ []; others = []; whole = refl; appended = c.run_one.ensures.asked; none = λ e. cc; all = λ e. refl })

pub returns-in_default-clause-ran : goal.returns-in_default-clause-ran
returns-in_default-clause-ran g c told bytes is tells = ran_none (job_of_call c.args.call.now) bytes end.OutOfMemory told _ _ _ _ refl is refl

pub returns-in-One-clause-ran : goal.returns-in-One-clause-ran
returns-in-One-clause-ran g c told bytes is tells =
    let one : c.args.call.now ≡ call.One c.in-One.call = search rules in
    rw one (c.run_one.ensures.ran told bytes is (rw one at tells))

pub returns-clause-ran : goal.returns-clause-ran
returns-clause-ran g c told bytes is tells =
    let relayed : c.args.call.now ≡ call.Relay c.in-Relay.call = search rules in
    rw relayed (c.run_relay.ensures.ran told bytes is)

pub returns-in-One-clause-unread : goal.returns-in-One-clause-unread
returns-in-One-clause-unread g c server order t is job play raw =
    let done : c.args.call.now ≡ call.One c.in-One.call = search rules in
    let same : one c.in-One.call.server.now c.in-One.call.order c.in-One.call.task ≡ one server order t = ap job_of_call (sym done) ∙ is in
    let same_order : c.in-One.call.order ≡ order = cc in
    let same_task : c.in-One.call.task ≡ t = cc in
    elim (c.run_one.ensures.unread job (same_task ∙ play) raw) [
      | inl untouched ↦ inl untouched
      | inr made ↦ inr (λ told known. subst (λ (o : Order). DialGivesContext o job told) same_order (made told known))
    ]

pub returns-in_default-clause-step : goal.returns-in_default-clause-step
returns-in_default-clause-step g c told bytes is tells = idle_steps (job_of_call c.args.call.now) bytes end.OutOfMemory told _ _ _ _ _ _ (refl, refl) refl

pub returns-in-One-clause-step : goal.returns-in-One-clause-step
returns-in-One-clause-step g c told bytes is tells =
    let one : c.args.call.now ≡ call.One c.in-One.call = search rules in
    rw one (c.run_one.ensures.step told bytes is (rw one at tells))

pub returns-clause-step : goal.returns-clause-step
returns-clause-step g c told bytes is tells =
    let relayed : c.args.call.now ≡ call.Relay c.in-Relay.call = search rules in
    rw relayed tt
