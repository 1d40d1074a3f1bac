use Rattle.std.proofs.Common.{rules, ◌≤◌, length, length-take-le, refl}
use Rattle.af_toolkit.proofs.PartLemmas.{goes_stop, goes_through, goes_value}
use Rattle.af_toolkit.proofs.ToolPartLemmas.{asks_go, is_tool}
use Rattle.af_tools.proofs.pace.hear.Goals as goal

pub returns-in_err-record_run-clause-goes : goal.returns-in_err-record_run-clause-goes
returns-in_err-record_run-clause-goes g c held =
    let fits : c.args.frame ≤ length c.args.room.now = search rules in
    let size = length-take-le c.args.frame c.args.room.now fits in
    goes_stop is_tool _ (search rules) (asks_go (rw size at c.in_err-record_run.ensures.called) c.requires.usable refl)

pub returns-clause-goes : goal.returns-clause-goes
returns-clause-goes g c held =
    let fits : c.args.frame ≤ length c.args.room.now = search rules in
    let size = length-take-le c.args.frame c.args.room.now fits in
    goes_through is_tool _ (asks_go (rw size at c.in_ok-record_run.ensures.called) c.requires.usable refl) (goes_value is_tool _)
