use Rattle.std.proofs.Common.{◌<◌, ◌+◌, ◌*◌, ◌/◌, ◌%◌, ◌^◌, ◌∙◌, ap, subst, sym, bit_and, bit_or}
use Rattle.af_sample.proofs.MuLawLemmas.{code_value, interval_low}
use Rattle.af_sample.proofs.mu_law.interval.Goals as goal

pub returns-clause-value : goal.returns-clause-value
returns-clause-value c =
    ap (λ s. bit_or (s * 16 % 256) (bit_and ((c.min-biased.result + 132) / 2 ^ (s + 3)) 15)) c.segment_of-segment.ensures
    ∙ code_value c.args.magnitude c.min-biased.result c.min-biased.ensures

pub returns-clause-range : goal.returns-clause-range
returns-clause-range c =
    subst (λ n. n < 128) (sym (returns-clause-value c)) (interval_low c.args.magnitude c.min-biased.result c.min-biased.ensures)
