use Rattle.std.proofs.Common.{refl, rules}
use Rattle.af_toolkit.proofs.ToolPartLemmas.{asks_go}
use Rattle.af_toolkit.proofs.talk.make_context.Goals as goal

pub returns-in_err-create_ac-clause-goes : goal.returns-in_err-create_ac-clause-goes
returns-in_err-create_ac-clause-goes g c held = asks_go c.in_err-create_ac.ensures c.requires (search rules)

pub returns-clause-goes : goal.returns-clause-goes
returns-clause-goes g c held = asks_go c.in_ok-create_ac.ensures c.requires refl
