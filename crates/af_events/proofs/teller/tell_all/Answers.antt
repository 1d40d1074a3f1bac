use Rattle.std.proofs.Common.{rules}
use Rattle.af_toolkit.proofs.PartLemmas.{goes_stop, goes_through}
use Rattle.af_toolkit.proofs.ToolPartLemmas.{is_tool}
use Rattle.af_events.specs.Trace.{tells_all}
use Rattle.af_events.proofs.StepLemmas.{flood_keeps}
use Rattle.af_events.proofs.teller.tell_all.Goals as goal

pub returns-in_err-select_all-clause-goes : goal.returns-in_err-select_all-clause-goes
unfolding tells_all
returns-in_err-select_all-clause-goes g c = goes_stop is_tool _ (search rules) (c.in_err-select_all.ensures.goes _)

pub returns-in_err-check_kept-clause-goes : goal.returns-in_err-check_kept-clause-goes
unfolding tells_all
returns-in_err-check_kept-clause-goes g c = goes_through is_tool _ (c.in_ok-select_all.ensures.goes _) (goes_stop is_tool _ (search rules) (c.in_err-check_kept.ensures.goes _))

pub returns-clause-goes : goal.returns-clause-goes
unfolding tells_all
returns-clause-goes g c = goes_through is_tool _ (c.in_ok-select_all.ensures.goes _) (goes_through is_tool _ (c.in_ok-check_kept.ensures.goes _) (rw c.in_ok-select_all.ensures.holds.devices at c.tell_by.ensures.goes))

pub returns-in_err-check_kept-clause-holds : goal.returns-in_err-check_kept-clause-holds
returns-in_err-check_kept-clause-holds g c = flood_keeps c.in_ok-select_all.ensures.holds c.in_err-check_kept.ensures.flood (search rules)
