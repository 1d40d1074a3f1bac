use Rattle.std.proofs.Common.{◌≡◌, take, rules}
use Rattle.af_request.specs.Asked.{play_run}
use Rattle.af_request.specs.Requests.{request_bytes}
use Rattle.af_request.proofs.RequestRoundTrips.{spelled_again, spelled_one}
use Rattle.af_request.proofs.request_writer.put_play.Goals as goal

pub returns-clause-again : goal.returns-clause-again
returns-clause-again c =
    let play = play_run c.args.quiet c.args.ac c.args.time c.args.samples.now in
    let bytes : take c.put_zeros.result c.put_zeros.new.out ≡ request_bytes c.args.order play = search rules in
    spelled_again c.args.order play _ bytes (search rules, search rules, c.requires.samples)

pub returns-clause-one : goal.returns-clause-one
returns-clause-one c =
    let play = play_run c.args.quiet c.args.ac c.args.time c.args.samples.now in
    let bytes : take c.put_zeros.result c.put_zeros.new.out ≡ request_bytes c.args.order play = search rules in
    spelled_one c.args.order play _ bytes (search rules, search rules, c.requires.samples)
