use Rattle.std.proofs.Common.{rules}
use Rattle.af_attendant.specs.AttendantTrace.{takes_call}
use Rattle.af_attendant.proofs.AttendantPartLemmas.{went_stop, went_through, went_value}
use Rattle.af_attendant.proofs.AttendantStepLemmas.{begun_went, closed_went}
use Rattle.af_attendant.proofs.call.take_call.Goals as goal

pub returns-in_err-runs-clause-goes : goal.returns-in_err-runs-clause-goes
unfolding takes_call
returns-in_err-runs-clause-goes g c = went_through _ (begun_went c.begin.ensures) (went_stop _ (search rules) (c.in_err-runs.ensures.goes _))

pub returns-in_err-write_call-clause-goes : goal.returns-in_err-write_call-clause-goes
unfolding takes_call
returns-in_err-write_call-clause-goes g c =
    went_through _ (begun_went c.begin.ensures) (went_through _ (c.in_ok-runs.ensures.goes _) (went_stop _ (search rules) (c.in_err-write_call.ensures.wrote _ _)))

pub returns-clause-goes : goal.returns-clause-goes
unfolding takes_call
returns-clause-goes g c =
    went_through _ (begun_went c.begin.ensures) (went_through _ (c.in_ok-runs.ensures.goes _) (went_through _ (c.in_ok-write_call.ensures.wrote _ _) (went_through _ (closed_went c.end.ensures) (went_value _))))
