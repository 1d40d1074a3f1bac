use Rattle.std.proofs.Common.{◌≡◌, take, rules}
use Rattle.af_request.specs.Asked.{request_meaning}
use Rattle.af_request.specs.Requests.{request_bytes, IsWritable}
use Rattle.af_request.proofs.RequestRoundTrips.{spelled_again, spelled_one}
use Rattle.af_request.proofs.request_writer.write_request.Goals as goal

pub returns-in-ChangeAc-clause-again : goal.returns-in-ChangeAc-clause-again
returns-in-ChangeAc-clause-again c =
    let bytes : take c.put_gains-in-ChangeAc.result c.put_gains-in-ChangeAc.new.out ≡ request_bytes c.args.order (request_meaning c.args.request.now) = search rules in
    let fits : IsWritable (request_meaning c.args.request.now) = rw c.in-ChangeAc.is (search rules, search rules, search rules) in
    spelled_again c.args.order (request_meaning c.args.request.now) _ bytes fits

pub returns-in-ChangeAc-clause-one : goal.returns-in-ChangeAc-clause-one
returns-in-ChangeAc-clause-one c =
    let bytes : take c.put_gains-in-ChangeAc.result c.put_gains-in-ChangeAc.new.out ≡ request_bytes c.args.order (request_meaning c.args.request.now) = search rules in
    let fits : IsWritable (request_meaning c.args.request.now) = rw c.in-ChangeAc.is (search rules, search rules, search rules) in
    spelled_one c.args.order (request_meaning c.args.request.now) _ bytes fits

pub returns-in-CreateAc-clause-again : goal.returns-in-CreateAc-clause-again
returns-in-CreateAc-clause-again c =
    let bytes : take c.put_gains.result c.put_gains.new.out ≡ request_bytes c.args.order (request_meaning c.args.request.now) = search rules in
    let fits : IsWritable (request_meaning c.args.request.now) = rw c.in-CreateAc.is (search rules, search rules, search rules) in
    spelled_again c.args.order (request_meaning c.args.request.now) _ bytes fits

pub returns-in-CreateAc-clause-one : goal.returns-in-CreateAc-clause-one
returns-in-CreateAc-clause-one c =
    let bytes : take c.put_gains.result c.put_gains.new.out ≡ request_bytes c.args.order (request_meaning c.args.request.now) = search rules in
    let fits : IsWritable (request_meaning c.args.request.now) = rw c.in-CreateAc.is (search rules, search rules, search rules) in
    spelled_one c.args.order (request_meaning c.args.request.now) _ bytes fits
