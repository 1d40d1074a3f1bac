use Rattle.std.proofs.Common.{refl, ◌≡◌, ◌≤◌, ◌+◌, ◌*◌, ◌∙◌, ap, ap₂, sym, subst, arith, get_or, length, ℕ, ℤ, pos, List}
use Rattle.std.proofs.lemmas.Simd.{length-zip2, get_or-zip2, length-chunk, get_or-chunk}
use lib.Lanes.{zip2, chunk, Each1}
use mir.Syntax.{w16}
use mir.Val.{SFits}
use Rattle.af_sample.specs.Mixing.{mixed}
use Rattle.af_sample.proofs.LaneLemmas.{mixed_fit, lanes_fit}
use Rattle.af_sample.proofs.VectorLemmas.{loaded, stored}
use Rattle.af_sample.proofs.RunLemmas.{joined_run}
use Rattle.af_sample.proofs.runs.mix_vectors.Goals as goal

pub loop-i-preserved : goal.loop-i-preserved
loop-i-preserved c =
    let at : ℕ = c.loop-i.i * 16 in
    let onto : List ℤ = c.args.onto.now in
    let from : List ℤ = c.args.from.now in
    let size : length c.loop-i.onto ≡ length onto = omega arith in
    let room : at + 16 ≤ length onto = omega arith in
    let first = loaded onto c.loop-i.onto at size room c.know_range.ensures c.loop-i.invariant.from in
    let second = loaded from from at refl (omega arith) c.know_range-2.ensures (λ k high. refl) in
    let sums : c.mix_lanes-lanes.result ≡ zip2 mixed (chunk at 16 onto) (chunk at 16 from) =
    c.mix_lanes-lanes.ensures (lanes_fit _) (lanes_fit _) ∙ ap₂ (zip2 mixed) first second in
    let m : length (chunk at 16 onto) ≡ 16 = length-chunk at 16 onto room in
    let n : length (chunk at 16 from) ≡ 16 = length-chunk at 16 from (omega arith) in
    stored (λ k x. mixed x (get_or from k (pos 0))) onto c.loop-i.onto c.mix_lanes-lanes.result c.loop-i.i size room
    (subst (Each1 (SFits w16)) (sym sums) (mixed_fit (chunk at 16 onto) (chunk at 16 from)))
    (ap length sums ∙ length-zip2 mixed (chunk at 16 onto) (chunk at 16 from) (m ∙ sym n) ∙ m)
    (λ j low. ap (λ (l : List ℤ). get_or l j (pos 0)) sums
    ∙ get_or-zip2 mixed (chunk at 16 onto) (chunk at 16 from) j (pos 0) (pos 0) (pos 0) (omega arith) (omega arith)
    ∙ ap₂ mixed (get_or-chunk at 16 onto j (pos 0) low) (get_or-chunk at 16 from j (pos 0) low))
    c.loop-i.invariant

pub returns : goal.returns
returns c =
    joined_run mixed c.args.onto.now c.args.from.now c.loop-i.onto (omega arith) c.requires.same
    (λ k low. c.loop-i.invariant.before k (omega arith))
