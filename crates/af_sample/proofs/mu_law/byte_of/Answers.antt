use Rattle.af_sample.proofs.MuLawLemmas.{negative_byte, positive_byte}
use Rattle.af_sample.proofs.mu_law.byte_of.Goals as goal

pub returns-then-x-lt0 : goal.returns-then-x-lt0
returns-then-x-lt0 c = negative_byte c.args.x c.args.interval c.ranges.x c.requires.value c.if-x-lt0.true

pub returns-else-x-lt0 : goal.returns-else-x-lt0
returns-else-x-lt0 c = positive_byte c.args.x c.args.interval c.ranges.x c.requires.value c.if-x-lt0.false
