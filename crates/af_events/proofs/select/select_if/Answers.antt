use Rattle.std.proofs.Common.{rules, ◌≡◌, false}
use Rattle.af_toolkit.proofs.PartLemmas.{goes_value}
use Rattle.af_toolkit.proofs.ToolPartLemmas.{is_tool}
use Rattle.af_events.proofs.select.select_if.Goals as goal

pub returns-else-line-clause-goes : goal.returns-else-line-clause-goes
returns-else-line-clause-goes g c held =
    let none : c.args.line ≡ false = search rules in
    rw none (goes_value is_tool tt)
