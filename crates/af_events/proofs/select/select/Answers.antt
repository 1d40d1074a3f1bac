use Rattle.std.proofs.Common.{refl, rules}
use Rattle.af_events.proofs.StepLemmas.{selects_go}
use Rattle.af_events.proofs.select.select.Goals as goal

pub returns-in_err-select_events-clause-goes : goal.returns-in_err-select_events-clause-goes
returns-in_err-select_events-clause-goes g c held = selects_go c.args.kinds c.mask.ensures c.in_err-select_events.ensures c.requires (search rules)

pub returns-clause-goes : goal.returns-clause-goes
returns-clause-goes g c held = selects_go c.args.kinds c.mask.ensures c.in_ok-select_events.ensures c.requires refl
