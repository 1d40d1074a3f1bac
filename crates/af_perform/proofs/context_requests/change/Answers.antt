use Rattle.std.proofs.Common.{◌≡◌, ◌∙◌, sym, Ok, Err, to_z, of_z, subst, rules, to_z-of_z, w16}
use Rattle.af_model.specs.ContextRequests.{named_gain}
use Rattle.af_perform.proofs.LinkRequestLemmas.{changed, change_in_use}
use Rattle.af_perform.proofs.context_requests.change.Goals as goal

pub returns-in-Ok-clause-step : goal.returns-in-Ok-clause-step
returns-in-Ok-clause-step c =
    let first : to_z w16 (of_z w16 c.args.asked.play_gain) ≡ c.args.asked.play_gain = to_z-of_z {w = w16} (search rules) in
    let second : to_z w16 (of_z w16 c.args.asked.record_gain) ≡ c.args.asked.record_gain = to_z-of_z {w = w16} (search rules) in
    changed c.args.link.now _ _ c.args.asked.mask c.args.asked.ac c.args.asked.preempt c.args.asked.play_gain c.args.asked.record_gain _ _ _
    (subst (λ g. c.named_gain-play.result ≡ named_gain c.args.asked.mask 1 g) first c.named_gain-play.ensures)
    (subst (λ g. c.named_gain-record_to.result ≡ named_gain c.args.asked.mask 2 g) second c.named_gain-record_to.ensures) c.named_preempt-preempt.ensures c.in-Ok.ensures.done c.reply.ensures

pub returns-in-Err-clause-step : goal.returns-in-Err-clause-step
returns-in-Err-clause-step c =
    let in_use = change_in_use c.args.link.now.contexts c.args.asked.mask c.args.asked.ac c.args.asked.preempt c.args.asked.play_gain c.args.asked.record_gain c.requires.passes in
    let both = sym c.change.ensures.answer ∙ c.in-Err.is in
    absurd (let no_err : Ok tt ≡ Err c.in-Err.fault = sym in_use ∙ both in cc)
