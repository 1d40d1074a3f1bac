use Rattle.std.proofs.Common.{rules, arith, ◌≡◌, ◌+◌, ◌*◌, ℕ, ℤ, max, unsigned_abs, ◌∙◌, ap, ap₂, sym, map, slice_range, length, ◌/◌, FitsSigned, to_z, of_z}
use Rattle.std.specs.Int.{w16}
use Rattle.std.proofs.lemmas.Int.{to_z-of_z}
use Rattle.std.specs.List.{range_with_len}
use Rattle.af_sample.specs.SampleTypes.{width_of}
use Rattle.af_sample.specs.Samples.{decoded, piece}
use Rattle.af_tools.specs.Record.{greatest_of}
use Rattle.af_tools.proofs.RecordBlockLemmas.{peak_more, peak_whole}
use Rattle.af_tools.proofs.record.peak.Goals as goal

pub loop-i-preserved : goal.loop-i-preserved
loop-i-preserved c =
    let ty = c.args.ty in
    let block = c.args.block.now in
    let i : ℕ = c.loop-i.i in
    let f : ℕ → ℤ = λ k. decoded ty (piece ty block k) in
    let fits : FitsSigned w16 c.decode-sample.result = search rules in
    let at : slice_range block (i * c.width-width.result) (i * c.width-width.result + c.width-width.result) ≡ piece ty block i = ap (λ (w : ℕ). slice_range block (i * w) (i * w + w)) c.width-width.ensures in
    let sample : unsigned_abs (to_z w16 (of_z w16 c.decode-sample.result)) ≡ unsigned_abs (f i) = ap unsigned_abs (to_z-of_z w16 c.decode-sample.result fits ∙ c.decode-sample.ensures ∙ ap (decoded ty) at) in
    let loud : c.from.result ≡ unsigned_abs (f i) = c.from.ensures ∙ c.unsigned_abs.ensures.value ∙ sample in
    let more : c.max-peak.result ≡ max c.loop-i.peak c.from.result = search rules in
    more ∙ ap₂ (λ (a b : ℕ). max a b) c.loop-i.invariant loud ∙ sym (peak_more f i)

pub returns : goal.returns
returns c =
    let ty = c.args.ty in
    let block = c.args.block.now in
    let auto = c.loop-i.auto.i-end in
    let end : c.loop-i.i ≡ length block / width_of ty = (let e : c.loop-i.i ≡ length block / c.width-width.result = omega arith in e) ∙ ap (λ (w : ℕ). length block / w) c.width-width.ensures in
    c.loop-i.invariant ∙ ap (λ (n : ℕ). greatest_of (map unsigned_abs (map (λ k. decoded ty (piece ty block k)) (range_with_len 0 n)))) end ∙ peak_whole ty block
