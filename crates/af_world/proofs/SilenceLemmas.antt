-- Silence in each sample type.
use Rattle.std.proofs.Common.{◌≡◌, ℕ, zero, suc, ◌+◌, ◌*◌, pos, replicate, refl, ap, sym, ◌∙◌, ◌++◌, arith}
use Rattle.std.proofs.Math.Nat.{suc-mul}
use Rattle.std.proofs.lemmas.List.{replicate-append-replicate}
use Rattle.af_sample.specs.declared.sample_type.SampleType.{SampleType}
use Rattle.af_sample.specs.declared.sample_type.SampleType.TheVariants.{Mu255, Alaw, Lin16, Lin32}
use Rattle.af_sample.specs.G711.{mu_law_decisions, alaw_starts}
use Rattle.af_sample.specs.SampleTypes.{width_of}
use Rattle.af_sample.specs.Samples.{encoded, bytes_of}
use Rattle.af_world.specs.Outside.{silent_byte}

one_sample : (ty : SampleType) → replicate (width_of ty) (silent_byte ty) ≡ encoded ty (pos 0)
unfolding mu_law_decisions alaw_starts
one_sample Mu255 = refl
one_sample Alaw = refl
one_sample Lin16 = refl
one_sample Lin32 = refl

-- silence is the encoding of as many samples of 0
pub silence-bytes_of : (ty : SampleType) (n : ℕ) → replicate (n * width_of ty) (silent_byte ty) ≡ bytes_of ty (replicate n (pos 0))
silence-bytes_of ty zero = let none : 0 * width_of ty ≡ 0 = omega arith in ap (λ k. replicate k (silent_byte ty)) none
silence-bytes_of ty (suc n) =
    let more : suc n * width_of ty ≡ width_of ty + n * width_of ty = suc-mul n (width_of ty) ∙ omega arith in
    ap (λ k. replicate k (silent_byte ty)) more
    ∙ sym (replicate-append-replicate (width_of ty) (n * width_of ty) (silent_byte ty))
    ∙ ap (λ xs. xs ++ replicate (n * width_of ty) (silent_byte ty)) (one_sample ty)
    ∙ ap (λ xs. encoded ty (pos 0) ++ xs) (silence-bytes_of ty n)
