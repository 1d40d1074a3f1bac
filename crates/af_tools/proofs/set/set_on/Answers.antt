use Rattle.std.proofs.Common.{rules}
use Rattle.af_toolkit.proofs.PartLemmas.{goes_stop, goes_through}
use Rattle.af_toolkit.proofs.ToolPartLemmas.{is_tool}
use Rattle.af_tools.proofs.set.set_on.Goals as goal

pub returns-in_err-set_controls-clause-goes : goal.returns-in_err-set_controls-clause-goes
returns-in_err-set_controls-clause-goes g c held = goes_stop is_tool _ (search rules) (c.in_err-set_controls.ensures.goes held)

pub returns-in_err-set_hook-clause-goes : goal.returns-in_err-set_hook-clause-goes
returns-in_err-set_hook-clause-goes g c held = goes_through is_tool _ (c.in_ok-set_controls.ensures.goes held) (goes_stop is_tool _ (search rules) (c.in_err-set_hook.ensures.goes held))

pub returns-clause-goes : goal.returns-clause-goes
returns-clause-goes g c held =
    goes_through is_tool _ (c.in_ok-set_controls.ensures.goes held) (goes_through is_tool _ (c.in_ok-set_hook.ensures.goes held) (c.controls_report_of.ensures.goes held))
