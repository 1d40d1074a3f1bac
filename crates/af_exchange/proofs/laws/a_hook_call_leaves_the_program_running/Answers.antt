use Rattle.af_exchange.proofs.HookLemmas.{runs-after, stays-open}
use Rattle.af_exchange.proofs.laws.a_hook_call_leaves_the_program_running.Goals as goal

pub returns-clause-runs : goal.returns-clause-runs
returns-clause-runs c = λ off result before after acts acts' call. runs-after off call.answer before after call.noted acts' call.gives

pub returns-clause-stays_open : goal.returns-clause-stays_open
returns-clause-stays_open c = λ off result before after acts acts' call takes other. stays-open off call.answer before after call.noted acts' call.offered call.gives takes other
