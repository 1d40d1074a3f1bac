use Rattle.std.proofs.Common.{refl, rules}
use Rattle.af_toolkit.proofs.ToolPartLemmas.{asks_go}
use Rattle.af_toolkit.proofs.talk.device_time.Goals as goal

pub returns-in_err-get_time-clause-goes : goal.returns-in_err-get_time-clause-goes
returns-in_err-get_time-clause-goes g c held = asks_go c.in_err-get_time.ensures c.requires (search rules)

pub returns-clause-goes : goal.returns-clause-goes
returns-clause-goes g c held = asks_go c.in_ok-get_time.ensures c.requires refl
