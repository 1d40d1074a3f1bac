use Rattle.std.proofs.Common.{◌≡◌, rules}
use Rattle.std.specs.Prelude.{option_map}
use Rattle.af_request.specs.Asked.{request_meaning}
use Rattle.af_request.specs.Requests.{asked_in}
use Rattle.af_request.proofs.UnreadableLemmas.{none_exactly}
use Rattle.af_request.proofs.request_reader.read_request.Goals as goal

pub returns-clause-none : goal.returns-clause-none
returns-clause-none c =
    let value : option_map request_meaning c.request_of.result ≡ asked_in c.args.order c.args.frame.now = search rules in
    none_exactly c.args.order request_meaning c.request_of.result c.args.frame.now value
