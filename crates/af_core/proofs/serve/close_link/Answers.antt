use Rattle.std.proofs.Common.{rules}
use Rattle.af_core.proofs.LinkPhaseLemmas.{closes, closes_nothing}
use Rattle.af_core.proofs.serve.close_link.Goals as goal

pub returns-in-Some-clause-simulates : goal.returns-in-Some-clause-simulates
returns-in-Some-clause-simulates g c = λ e. closes _ _ _ e c.args.link.now c.in-Some.cause (search rules) c.close.ensures.log

pub returns-in-None-clause-simulates : goal.returns-in-None-clause-simulates
returns-in-None-clause-simulates g c = λ e. closes_nothing _ _ e c.args.link.now (search rules)
