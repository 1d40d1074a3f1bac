use Rattle.af_codec.proofs.EmitLemmas.{Gives-lost}
use Rattle.af_codec.proofs.feeding.Feeding.give.Goals as goal

pub returns-in-Failed-clause-gives : goal.returns-in-Failed-clause-gives
returns-in-Failed-clause-gives g c = Gives-lost _ _ c.in-Some.child _ _ _ _ _ _ c.in-Some.is c.most_starts.ensures.most c.in-Failed.ensures.acts c.finish.ensures.told.told
