use Rattle.std.proofs.Common.{◌≡◌, take, rules}
use Rattle.af_request.specs.Asked.{record_run}
use Rattle.af_request.specs.Requests.{request_bytes}
use Rattle.af_request.proofs.RequestRoundTrips.{spelled_again, spelled_one}
use Rattle.af_request.proofs.request_writer.put_record.Goals as goal

pub returns-clause-again : goal.returns-clause-again
returns-clause-again c =
    let request = record_run c.args.blocking c.args.ac c.args.time c.args.nbytes in
    let bytes : take c.put_run.result c.put_run.new.out ≡ request_bytes c.args.order request = search rules in
    spelled_again c.args.order request _ bytes (search rules, search rules, search rules)

pub returns-clause-one : goal.returns-clause-one
returns-clause-one c =
    let request = record_run c.args.blocking c.args.ac c.args.time c.args.nbytes in
    let bytes : take c.put_run.result c.put_run.new.out ≡ request_bytes c.args.order request = search rules in
    spelled_one c.args.order request _ bytes (search rules, search rules, search rules)
