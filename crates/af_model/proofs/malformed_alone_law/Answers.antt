use Rattle.af_model.proofs.MalformedLinkLemmas.{closes_alone, order_stays, others_stay}
use Rattle.af_model.proofs.malformed_alone_law.Goals as goal

pub returns : goal.returns
returns c = record { closes = closes_alone; others = others_stay; order = order_stays }
