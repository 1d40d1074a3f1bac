use Rattle.std.proofs.Common.{◌≡◌, ◌*◌, ◌∙◌, ap, length, arith}
use Rattle.af_sample.specs.SampleTypes.{width_of}
use Rattle.af_sample.proofs.RunLemmas.{decoded_run}
use Rattle.af_sample.proofs.coding.decode_each.Goals as goal

pub returns : goal.returns
returns c =
    let kept : length c.args.out.now ≡ length c.loop-i.out = omega arith in
    decoded_run c.args.ty c.args.bytes.now c.loop-i.out (c.requires ∙ ap (λ n. n * width_of c.args.ty) kept)
    (λ k low. c.loop-i.invariant k (omega arith))
