use Rattle.std.proofs.Common.{◌<◌, subst, sym}
use Rattle.af_sample.proofs.AlawLemmas.{code_value, interval_low}
use Rattle.af_sample.proofs.alaw.interval.Goals as goal

pub returns-clause-value : goal.returns-clause-value
returns-clause-value c =
    code_value c.args.magnitude c.segment_of-segment.result c.max.result c.requires c.segment_of-segment.ensures c.max.ensures

pub returns-clause-range : goal.returns-clause-range
returns-clause-range c = subst (λ n. n < 128) (sym (returns-clause-value c)) (interval_low c.args.magnitude c.requires)
