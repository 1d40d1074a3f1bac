use Rattle.af_sample.proofs.HeardLemmas.{heard_sample-push, heard_sample-append}
use Rattle.af_sample.proofs.laws.heard_grows.Goals as goal

pub returns-clause-next : goal.returns-clause-next
returns-clause-next c = λ channels accepted e t channel. heard_sample-push channels accepted e t channel

pub returns-clause-past : goal.returns-clause-past
returns-clause-past c = λ channels accepted more t channel late. heard_sample-append channels accepted more t channel late
