use Rattle.std.proofs.Common.{◌<◌, ◌≤◌, ◌≡◌, ◌+◌, ◌*◌, ◌∙◌, ap, sym, arith, rules, ℕ, ℤ, pos, get_or, length}
use Rattle.std.specs.Prelude.{FitsSigned}
use Rattle.std.specs.Int.{w16}
use Rattle.std.proofs.lemmas.Nat.{mul-le}
use Rattle.std.proofs.lemmas.Int.{to_z-of_z}
use Rattle.af_sample.specs.Samples.{encoded}
use Rattle.af_sample.proofs.RunLemmas.{encoded_more}
use Rattle.af_sample.proofs.coding.encode_each.Goals as goal

pub loop-i-preserved : goal.loop-i-preserved
loop-i-preserved c =
    let x : ℤ = get_or c.args.samples.now c.loop-i.i (pos 0) in
    let fits : FitsSigned w16 x = search rules in
    let i : ℕ = c.loop-i.i in
    let w : ℕ = c.width-width.result in
    let more : (i + 1) * w ≡ i * w + w = search rules in
    let low : i < length c.args.samples.now = omega arith in
    let below : i * w ≤ length c.args.samples.now * w = mul-le i w (length c.args.samples.now) w (omega arith) (omega arith) in
    let whole : length c.args.out.now ≡ length c.args.samples.now * w =
    c.requires ∙ ap (λ n. length c.args.samples.now * n) (sym c.width-width.ensures) in
    let room : i * w ≤ length c.loop-i.out = omega arith in
    encoded_more c.args.ty c.args.samples.now c.loop-i.out c.encode_in_run.new.out i w _ c.width-width.ensures low room c.loop-i.invariant
    (c.encode_in_run.ensures ∙ ap (encoded c.args.ty) (to_z-of_z w16 x fits)) more
