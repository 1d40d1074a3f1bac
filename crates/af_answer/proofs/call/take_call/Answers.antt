use Rattle.std.proofs.Common.{rules, ◌≡◌, ap, None, Ok, Err}
use Rattle.af_lib.specs.Calls.{ConnState}
use Rattle.af_answer.specs.AnswerTrace.{takes_call}
use Rattle.af_answer.proofs.AnswerPartLemmas.{went_stop, went_through, went_value}
use Rattle.af_answer.proofs.AnswerStepLemmas.{answered_went, requested_went, took_off}
use Rattle.af_answer.proofs.call.take_call.Goals as goal

pub returns-in_err-hook-clause-goes : goal.returns-in_err-hook-clause-goes
unfolding takes_call
returns-in_err-hook-clause-goes g c held = went_stop _ (search rules) (requested_went c.in_err-hook.ensures c.requires held)

pub run_child-greeting-requires : goal.run_child-greeting-requires
run_child-greeting-requires g c = took_off c.in_ok-hook.ensures c.requires

pub leave_message-end-requires : goal.leave_message-end-requires
leave_message-end-requires g c = took_off c.in_ok-hook.ensures c.requires

pub returns-in_err-hung_up-clause-goes : goal.returns-in_err-hung_up-clause-goes
unfolding takes_call
returns-in_err-hung_up-clause-goes g c held =
    let usable : c.hook.new.self.cause ≡ None = ap (λ (conn : ConnState _). conn.cause) (c.in_ok-hook.ensures.keeps c.requires) in
    went_through _ (requested_went c.in_ok-hook.ensures c.requires held)
    (went_through _ (c.run_child-greeting.ensures.ran _ _)
    (went_through _ (c.leave_message-end.ensures.left _ _)
    (went_stop _ (search rules) (answered_went (Err _) c.in_err-hung_up.was c.hook-hung_up.ensures usable held))))

pub returns-clause-goes : goal.returns-clause-goes
unfolding takes_call
returns-clause-goes g c held =
    let usable : c.hook.new.self.cause ≡ None = ap (λ (conn : ConnState _). conn.cause) (c.in_ok-hook.ensures.keeps c.requires) in
    went_through _ (requested_went c.in_ok-hook.ensures c.requires held)
    (went_through _ (c.run_child-greeting.ensures.ran _ _)
    (went_through _ (c.leave_message-end.ensures.left _ _)
    (went_through _ (answered_went (Ok _) c.in_ok-hung_up.was c.hook-hung_up.ensures usable held) (went_value _))))
