use Rattle.std.proofs.Common.{inl, inr, refl}
use Rattle.af_meter.specs.MeterWords.{words_of_call}
use Rattle.af_meter.proofs.RunLemmas.{one_asked}
use Rattle.af_meter.proofs.run.meter_run.Goals as goal

pub returns-in-Some-clause-asked : goal.returns-in-Some-clause-asked
returns-in-Some-clause-asked g c a is other = rw (one_asked c.args.words.now (words_of_call c.in-Ok.call) a c.in-Ok.ensures.ok is) (inr c.meter_at.ensures.asked)

pub returns-in-Some-clause-ran : goal.returns-in-Some-clause-ran
returns-in-Some-clause-ran g c a is other = rw (one_asked c.args.words.now (words_of_call c.in-Ok.call) a c.in-Ok.ensures.ok is) c.meter_at.ensures.ran
