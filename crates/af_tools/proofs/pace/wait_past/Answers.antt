use Rattle.std.proofs.Common.{rules, ◌≡◌, None, Some}
use Rattle.af_toolkit.proofs.PartLemmas.{goes_value}
use Rattle.af_toolkit.proofs.ToolPartLemmas.{is_tool}
use Rattle.af_tools.proofs.pace.wait_past.Goals as goal

pub returns-in-None-clause-goes : goal.returns-in-None-clause-goes
returns-in-None-clause-goes g c held =
    let none : c.args.at ≡ None = search rules in
    rw none (goes_value is_tool _)

pub returns-in-Some-clause-goes : goal.returns-in-Some-clause-goes
returns-in-Some-clause-goes g c held =
    let waits : c.args.at ≡ Some c.in-Some.at = search rules in
    rw waits (c.hear.ensures.goes held)
