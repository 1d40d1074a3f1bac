use Rattle.std.proofs.Common.{◌∙◌, sym}
use Rattle.af_request.specs.Opcodes as opcodes
use Rattle.af_model.specs.ContextRequests.{change, change_refusal}
use Rattle.af_perform.proofs.LinkRequestLemmas.{leads_refused, leads_passed}
use Rattle.af_perform.proofs.context_requests.change_ac.Goals as goal

pub returns-in-Some-clause-step : goal.returns-in-Some-clause-step
returns-in-Some-clause-step c = λ k.
    leads_refused c.args.link.now _ opcodes.change_ac (change_refusal c.args.link.now.contexts c.args.asked.mask c.args.asked.ac c.args.asked.preempt c.args.asked.play_gain c.args.asked.record_gain)
    c.in-Some.refusal (change c.args.asked.mask c.args.asked.ac c.args.asked.preempt c.args.asked.play_gain c.args.asked.record_gain)
    (sym c.change_refusal.ensures ∙ c.in-Some.is) c.refuse.ensures

pub returns-in-None-clause-step : goal.returns-in-None-clause-step
returns-in-None-clause-step c = λ k.
    leads_passed c.args.link.now _ opcodes.change_ac (change_refusal c.args.link.now.contexts c.args.asked.mask c.args.asked.ac c.args.asked.preempt c.args.asked.play_gain c.args.asked.record_gain)
    (change c.args.asked.mask c.args.asked.ac c.args.asked.preempt c.args.asked.play_gain c.args.asked.record_gain)
    (sym c.change_refusal.ensures ∙ c.in-None.is) c.change.ensures.step
