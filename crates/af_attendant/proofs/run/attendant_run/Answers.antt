use Rattle.std.proofs.Common.{inr}
use Rattle.af_attendant.specs.AttendantWords.{words_of_call}
use Rattle.af_attendant.proofs.RunLemmas.{one_asked}
use Rattle.af_attendant.proofs.run.attendant_run.Goals as goal

pub returns-in-Ok-clause-asked : goal.returns-in-Ok-clause-asked
returns-in-Ok-clause-asked g c a is other = rw (one_asked c.args.words.now (words_of_call c.in-Ok.call) a c.in-Ok.ensures.ok is) (inr c.attendant_on.ensures.asked)

pub returns-in-Ok-clause-ran : goal.returns-in-Ok-clause-ran
returns-in-Ok-clause-ran g c a is other = rw (one_asked c.args.words.now (words_of_call c.in-Ok.call) a c.in-Ok.ensures.ok is) c.attendant_on.ensures.ran
