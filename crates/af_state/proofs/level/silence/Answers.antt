use Rattle.std.proofs.Common.{◌∙◌, sym, pos, replicate, length, arith}
use Rattle.std.proofs.lemmas.List.{ext_get_or, get_or-replicate, length-replicate}
use Rattle.af_state.proofs.level.silence.Goals as goal

pub returns : goal.returns
returns c =
    ext_get_or (pos 0) c.loop-x.samples (replicate (length c.args.samples.now) (pos 0)) (c.loop-x.auto.samples ∙ sym (length-replicate (length c.args.samples.now) (pos 0)))
    (λ k low. c.loop-x.invariant k (let size = c.loop-x.auto.samples in omega arith) ∙ sym (get_or-replicate (length c.args.samples.now) k (pos 0) (pos 0) (let size = c.loop-x.auto.samples in omega arith)))
