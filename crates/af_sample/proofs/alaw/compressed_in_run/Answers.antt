use Rattle.std.proofs.Common.{◌∙◌, ap, nat_abs}
use Rattle.af_sample.specs.G711.{alaw_starts, interval_of}
use Rattle.af_sample.proofs.AlawLemmas.{larger_of_negative, larger_of_positive, negative_byte, positive_byte}
use Rattle.af_sample.proofs.alaw.compressed_in_run.Goals as goal
use Rattle.af_sample.proofs.alaw.compressed_in_run.Goals.{then-x-lt0, else-x-lt0}

pub returns : goal.returns
returns c =
    elim c.if-x-lt0.branch [
      | then-x-lt0 w ↦
          negative_byte c.args.x c.if-x-lt0.code c.interval_by_lines-interval.result c.ranges.x w.if-x-lt0.true
          (c.interval_by_lines-interval.ensures.value ∙ ap (λ z. interval_of alaw_starts (nat_abs z)) (larger_of_negative c.args.x c.max.result c.ranges.x w.if-x-lt0.true c.max.ensures.value)) w.code-is
      | else-x-lt0 w ↦
          positive_byte c.args.x c.if-x-lt0.code c.interval_by_lines-interval.result c.ranges.x w.if-x-lt0.false
          (c.interval_by_lines-interval.ensures.value ∙ ap (λ z. interval_of alaw_starts (nat_abs z)) (larger_of_positive c.args.x c.max.result c.ranges.x w.if-x-lt0.false c.max.ensures.value)) w.code-is
    ]
