use Rattle.std.proofs.Common.{rules}
use Rattle.af_model.specs.Record.{record_refusal}
use Rattle.af_perform.proofs.record.record_refusal.Goals as goal

pub returns : goal.returns
unfolding record_refusal
returns c = search rules
