use Rattle.std.proofs.Common.{rules, ◌≡◌, unwrap_or}
use Rattle.af_toolkit.proofs.PartLemmas.{goes_stop, goes_through, goes_value}
use Rattle.af_relay.proofs.RelayPartLemmas.{is_relay}
use Rattle.af_relay.proofs.passer.pass_between.Goals as goal

pub returns-in_err-start-clause-goes : goal.returns-in_err-start-clause-goes
returns-in_err-start-clause-goes g c =
    let ty : c.unwrap_or-ty.result ≡ (unwrap_or c.args.job.now.ty c.args.device.ty) = search rules in
    goes_stop is_relay _ (search rules) (rw (ty, c.requires.alike.0, c.requires.alike.1) at c.in_err-start.ensures.goes)

pub returns-in_err-passed-clause-goes : goal.returns-in_err-passed-clause-goes
returns-in_err-passed-clause-goes g c =
    let ty : c.unwrap_or-ty.result ≡ (unwrap_or c.args.job.now.ty c.args.device.ty) = search rules in
    goes_through is_relay _ (rw (ty, c.requires.alike.0, c.requires.alike.1) at c.in_ok-start.ensures.goes)
    (goes_stop is_relay _ (search rules) (rw (c.pace_of-pace.ensures.value, ty) at c.in_err-passed.ensures.goes))

pub returns-in_err-finish_both-clause-goes : goal.returns-in_err-finish_both-clause-goes
returns-in_err-finish_both-clause-goes g c =
    let ty : c.unwrap_or-ty.result ≡ (unwrap_or c.args.job.now.ty c.args.device.ty) = search rules in
    goes_through is_relay _ (rw (ty, c.requires.alike.0, c.requires.alike.1) at c.in_ok-start.ensures.goes)
    (goes_through is_relay _ (rw (c.pace_of-pace.ensures.value, ty) at c.in_ok-passed.ensures.goes) (goes_stop is_relay _ (search rules) c.in_err-finish_both.ensures.goes))

pub returns-clause-goes : goal.returns-clause-goes
returns-clause-goes g c =
    let ty : c.unwrap_or-ty.result ≡ (unwrap_or c.args.job.now.ty c.args.device.ty) = search rules in
    goes_through is_relay _ (rw (ty, c.requires.alike.0, c.requires.alike.1) at c.in_ok-start.ensures.goes)
    (goes_through is_relay _ (rw (c.pace_of-pace.ensures.value, ty) at c.in_ok-passed.ensures.goes)
    (goes_through is_relay _ c.in_ok-finish_both.ensures.goes (goes_value is_relay _)))
