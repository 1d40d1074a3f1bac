use Rattle.af_model.proofs.OfferLawLemmas.{offers_within}
use Rattle.af_model.proofs.offer_law.Goals as goal

pub returns : goal.returns
returns c = offers_within
