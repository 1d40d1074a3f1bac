use Rattle.std.proofs.Common.{rules}
use Rattle.af_true_header.proofs.true_header.TrueHeaderSink.write.Goals as goal

pub returns-clause-step : goal.returns-clause-step
returns-clause-step g c = record {
  between = record { sink = c.write_on-put.new.sink; stage = c.write_on-put.new.stage };
  wrote = search rules;
  stage = search rules;
  corrected = c.correct_due.ensures.corrected;
}
