use Rattle.af_sample.proofs.MultiplierLemmas.{within_multiplier, multiplier_above}
use Rattle.af_sample.proofs.laws.greatest_multiplier.Goals as goal

pub returns : goal.returns
returns c = λ db m. ((λ here. multiplier_above db m here), (λ low. within_multiplier db m low))
