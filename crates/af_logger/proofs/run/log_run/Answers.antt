use Rattle.std.proofs.Common.{inl, inr, refl}
use Rattle.af_logger.specs.LogWords.{words_of_call}
use Rattle.af_logger.proofs.RunLemmas.{one_asked}
use Rattle.af_logger.proofs.run.log_run.Goals as goal

pub returns-in-Some-clause-asked : goal.returns-in-Some-clause-asked
returns-in-Some-clause-asked g c a is other = rw (one_asked c.args.words.now (words_of_call c.in-Ok.call) a c.in-Ok.ensures.ok is) (inr c.log_at.ensures.asked)

pub returns-in-Some-clause-ran : goal.returns-in-Some-clause-ran
returns-in-Some-clause-ran g c a is other = rw (one_asked c.args.words.now (words_of_call c.in-Ok.call) a c.in-Ok.ensures.ok is) c.log_at.ensures.ran
