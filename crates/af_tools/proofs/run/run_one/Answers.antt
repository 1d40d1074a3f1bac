use Rattle.std.proofs.Common.{List, inl, inr, refl, ◌∙◌, subst, Option}
use Rattle.af_io.specs.Dial.{IsFirstOf, ToldLink}
use Rattle.af_toolkit.specs.declared.end.ToolEnd.TheVariants as end
use Rattle.af_cli.specs.Words.{one}
use Rattle.af_tools.proofs.DialLemmas.{ran_none, ran_one}
use Rattle.af_tools.proofs.RunStepLemmas.{dialled_used, task_used}
use Rattle.af_tools.proofs.UnreadLemmas.{dial_gives}
use Rattle.af_tools.proofs.run.run_one.Goals as goal

pub returns-in-Far-clause-ran : goal.returns-in-Far-clause-ran
returns-in-Far-clause-ran g c links bytes told tells =
    let e = c.in-Far.ensures in
    let first = subst (λ (l : Option (List ToldLink)). IsFirstOf g.D.Far.Link.left g.D.Far.Link.sent c.in-Far.far l (g.D.Dial.links c.dial.new.self)) told e.gives in
    let call = c.args.call.now in
    ran_one call.order call.server.now call.task bytes c.perform_over-end.result.0 g.D.Far.Link.left g.D.Far.Link.sent c.in-Far.far links first
    (λ input t. c.perform_over-end.ensures.followed input bytes t tells) e.back c.hang_up.ensures.back c.hang_up.ensures.gives (λ none. (c.perform_over-end.ensures.memory none).0)

pub returns-in-Failed-clause-ran : goal.returns-in-Failed-clause-ran
returns-in-Failed-clause-ran g c links bytes told tells =
    let e = c.in-Failed.ensures in
    ran_none (one c.args.call.now.server.now c.args.call.now.order c.args.call.now.task) bytes end.DialFault links _ _ _ _ refl (e.gives ∙ told) e.back

pub returns-in-OutOfMemory-clause-ran : goal.returns-in-OutOfMemory-clause-ran
returns-in-OutOfMemory-clause-ran g c links bytes told tells =
    let e = c.in-OutOfMemory.ensures in
    ran_none (one c.args.call.now.server.now c.args.call.now.order c.args.call.now.task) bytes end.OutOfMemory links _ _ _ _ refl (e.gives ∙ told) e.back

pub returns-in-Far-clause-unread : goal.returns-in-Far-clause-unread
returns-in-Far-clause-unread g c job is raw =
    elim (c.perform_over-end.ensures.unread job is raw) [
      | inl same ↦ inl same
      | inr gives ↦ inr (λ links told.
          let first = subst (λ (l : Option (List ToldLink)). IsFirstOf g.D.Far.Link.left g.D.Far.Link.sent c.in-Far.far l (g.D.Dial.links c.dial.new.self)) told c.in-Far.ensures.gives in
          dial_gives c.args.call.now.order g.D.Far.Link.left g.D.Far.Link.sent job c.in-Far.far links _ first gives)
    ]

pub returns-in-Far-clause-step : goal.returns-in-Far-clause-step
returns-in-Far-clause-step g c links bytes told tells =
    let e = c.in-Far.ensures in
    let first = subst (λ (l : Option (List ToldLink)). IsFirstOf g.D.Far.Link.left g.D.Far.Link.sent c.in-Far.far l (g.D.Dial.links c.dial.new.self)) told e.gives in
    dialled_used c.args.call.now.order _ (task_used c.args.call.now.task bytes c.perform_over-end.result.0 (g.S.Source.left c.perform_over-end.new.source) (g.K.Sink.held c.args.sink.now) (g.K.Sink.held c.perform_over-end.new.sink)) g.D.Far.Link.left g.D.Far.Link.sent c.in-Far.far links _ (g.D.Far.Link.sent c.perform_over-end.result.1) first
    (λ input t. c.perform_over-end.ensures.step input bytes t tells) e.back c.hang_up.ensures.back

pub returns-in-Failed-clause-step : goal.returns-in-Failed-clause-step
returns-in-Failed-clause-step g c links bytes told tells = inl ((refl, refl), c.in-Failed.ensures.back)

pub returns-in-OutOfMemory-clause-step : goal.returns-in-OutOfMemory-clause-step
returns-in-OutOfMemory-clause-step g c links bytes told tells = inl ((refl, refl), c.in-OutOfMemory.ensures.back)
