use Rattle.std.proofs.Common.{◌≡◌, ◌∙◌, ap, refl, true}
use Rattle.af_sample.specs.declared.decibels.TheConstants.{MULTIPLIERS}
use Rattle.af_sample.specs.Gains.{multiplier}
use Rattle.af_sample.proofs.TableLemmas.{all_from}
use Rattle.af_sample.proofs.MultiplierLemmas.{is_entry, table_value, table_most}
use Rattle.af_sample.proofs.decibels.multiplier_of.Goals as goal

passes : all_from is_entry 0 MULTIPLIERS ≡ true
passes = refl

pub returns-clause-value : goal.returns-clause-value
returns-clause-value c =
    table_value MULTIPLIERS passes refl c.db.result c.db.ensures.range ∙ ap multiplier c.db.ensures.value

pub returns-clause-most : goal.returns-clause-most
returns-clause-most c = table_most MULTIPLIERS passes refl c.db.result c.db.ensures.range
