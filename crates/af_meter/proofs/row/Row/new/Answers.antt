use Rattle.std.proofs.Common.{refl}
use Rattle.af_meter.proofs.RowLemmas.{row_begins}
use Rattle.af_meter.proofs.row.Row.new.Goals as goal

pub returns-clause-row : goal.returns-clause-row
returns-clause-row c = row_begins c.args.plan _ c.requires refl refl
