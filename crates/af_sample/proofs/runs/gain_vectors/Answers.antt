use Rattle.std.proofs.Common.{◌≡◌, ◌≤◌, ◌+◌, ◌*◌, ◌∙◌, ap, sym, subst, arith, get_or, length, map, ℕ, ℤ, pos, List}
use Rattle.std.proofs.lemmas.List.{length-map, get_or-map}
use Rattle.std.proofs.lemmas.Simd.{length-chunk, get_or-chunk}
use lib.Lanes.{chunk, Each1}
use mir.Syntax.{w16}
use mir.Val.{SFits}
use Rattle.af_sample.specs.Gains.{gained, multiplier}
use Rattle.af_sample.proofs.LaneLemmas.{scaled_fit, lanes_fit}
use Rattle.af_sample.proofs.VectorLemmas.{loaded, stored}
use Rattle.af_sample.proofs.RunLemmas.{mapped_run}
use Rattle.af_sample.proofs.runs.gain_vectors.Goals as goal

pub loop-i-preserved : goal.loop-i-preserved
loop-i-preserved c =
    let at : ℕ = c.loop-i.i * 16 in
    let old : List ℤ = c.args.samples.now in
    let size : length c.loop-i.samples ≡ length old = omega arith in
    let room : at + 16 ≤ length old = omega arith in
    let rule : ℤ → ℤ = λ x. gained x c.args.gain in
    let lanes : c.gain_lanes-lanes.result ≡ map rule (chunk at 16 old) =
    c.gain_lanes-lanes.ensures (lanes_fit _) ∙ ap (map rule) (loaded old c.loop-i.samples at size room c.know_range.ensures c.loop-i.invariant.from) in
    let n : length (chunk at 16 old) ≡ 16 = length-chunk at 16 old room in
    stored (λ k x. gained x c.args.gain) old c.loop-i.samples c.gain_lanes-lanes.result c.loop-i.i size room
    (subst (Each1 (SFits w16)) (sym lanes) (scaled_fit (multiplier c.args.gain) (chunk at 16 old)))
    (ap length lanes ∙ length-map (chunk at 16 old) rule ∙ n)
    (λ j low. ap (λ (l : List ℤ). get_or l j (pos 0)) lanes
    ∙ get_or-map rule (chunk at 16 old) j (pos 0) (pos 0) (omega arith)
    ∙ ap rule (get_or-chunk at 16 old j (pos 0) low))
    c.loop-i.invariant

pub returns : goal.returns
returns c =
    mapped_run (λ x. gained x c.args.gain) c.args.samples.now c.loop-i.samples (omega arith)
    (λ k low. c.loop-i.invariant.before k (omega arith))
