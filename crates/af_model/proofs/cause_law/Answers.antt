use Rattle.af_model.proofs.CauseLawLemmas.{closes_for_causes}
use Rattle.af_model.proofs.CauseLemmas.{one_cause}
use Rattle.af_model.proofs.cause_law.Goals as goal

pub returns-clause-shown : goal.returns-clause-shown
returns-clause-shown c = closes_for_causes

pub returns-clause-one : goal.returns-clause-one
returns-clause-one c = one_cause
