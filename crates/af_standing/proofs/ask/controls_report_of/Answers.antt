use Rattle.std.proofs.Common.{rules, refl}
use Rattle.af_toolkit.proofs.PartLemmas.{goes_stop, goes_through, goes_value}
use Rattle.af_toolkit.proofs.ToolPartLemmas.{asks_go, is_tool}
use Rattle.af_standing.proofs.ask.controls_report_of.Goals as goal

pub returns-in_err-controls-clause-goes : goal.returns-in_err-controls-clause-goes
returns-in_err-controls-clause-goes g c held = goes_stop is_tool _ (search rules) (asks_go c.in_err-controls.ensures c.requires refl)

pub returns-in_err-phone-clause-goes : goal.returns-in_err-phone-clause-goes
returns-in_err-phone-clause-goes g c held =
    goes_through is_tool _ (asks_go c.in_ok-controls.ensures c.requires refl) (goes_stop is_tool _ (search rules) (c.in_err-phone.ensures.goes held))

pub returns-clause-goes : goal.returns-clause-goes
returns-clause-goes g c held =
    goes_through is_tool _ (asks_go c.in_ok-controls.ensures c.requires refl) (goes_through is_tool _ (c.in_ok-phone.ensures.goes held) (goes_value is_tool _))
