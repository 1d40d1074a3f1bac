use Rattle.af_sample.proofs.AlawLemmas.{negative_byte, positive_byte}
use Rattle.af_sample.proofs.alaw.compressed.Goals as goal
use Rattle.af_sample.proofs.alaw.compressed.Goals.{then-x-lt0, else-x-lt0}

pub returns : goal.returns
returns c =
    elim c.if-x-lt0.branch [
      | then-x-lt0 w ↦ negative_byte c.args.x c.if-x-lt0.code w.interval-code.result c.ranges.x w.if-x-lt0.true w.interval-code.ensures.value w.code-is
      | else-x-lt0 w ↦ positive_byte c.args.x c.if-x-lt0.code w.interval.result c.ranges.x w.if-x-lt0.false w.interval.ensures.value w.code-is
    ]
