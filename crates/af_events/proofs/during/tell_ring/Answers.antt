use Rattle.std.proofs.Common.{rules}
use Rattle.af_toolkit.proofs.PartLemmas.{goes_stop, goes_through}
use Rattle.af_toolkit.proofs.ToolPartLemmas.{is_tool}
use Rattle.af_events.proofs.during.tell_ring.Goals as goal

pub returns-in_err-check_kept-clause-goes : goal.returns-in_err-check_kept-clause-goes
returns-in_err-check_kept-clause-goes g c = goes_stop is_tool _ (search rules) (c.in_err-check_kept.ensures.goes _)

pub returns-clause-goes : goal.returns-clause-goes
returns-clause-goes g c = goes_through is_tool _ (c.in_ok-check_kept.ensures.goes _) c.tell_kept.ensures.goes
