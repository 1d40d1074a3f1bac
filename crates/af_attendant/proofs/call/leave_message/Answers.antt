use Rattle.std.proofs.Common.{rules, ◌≡◌, true, false}
use Rattle.af_attendant.specs.Ran.{is_good}
use Rattle.af_attendant.proofs.AttendantPartLemmas.{went_stop, went_through, went_value}
use Rattle.af_attendant.proofs.call.leave_message.Goals as goal

pub returns-in_err-message-clause-goes : goal.returns-in_err-message-clause-goes
returns-in_err-message-clause-goes g c held =
    let good : is_good c.args.greeting ≡ true = search rules in
    rw good (went_stop _ (search rules) (c.in_err-message.ensures.goes held))

pub returns-in_ok-message-clause-goes : goal.returns-in_ok-message-clause-goes
returns-in_ok-message-clause-goes g c held =
    let good : is_good c.args.greeting ≡ true = search rules in
    rw good (went_through _ (c.in_ok-message.ensures.goes held) (went_value _))

pub returns-else-is_good-clause-goes : goal.returns-else-is_good-clause-goes
returns-else-is_good-clause-goes g c held =
    let bad : is_good c.args.greeting ≡ false = search rules in
    rw (bad, c.not_run-message.ensures) (went_value _)
