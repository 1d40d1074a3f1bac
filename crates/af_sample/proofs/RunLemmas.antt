-- Runs of samples, from what holds at each place.
use Rattle.std.proofs.Common.{◌≡◌, ◌<◌, ◌≤◌, ◌+◌, ◌*◌, ◌/◌, ℕ, ℤ, pos, List, [], ◌++◌, map, take, length, get_or, refl, sym, ap, ◌∙◌, arith}
use Rattle.std.specs.List.{range_with_len}
use Rattle.std.proofs.lemmas.List.{ext_get_or, get_or-map, length-map, take_more, flat_map_more}
use Rattle.std.proofs.lemmas.List.FromFn.{fill_by_all, length-map-range_with_len}
use Rattle.std.proofs.lemmas.Simd.{length-zip2, get_or-zip2}
use Rattle.std.proofs.lemmas.Slice.{take-put_mid}
use borrow.Rule.Slice.PartMut.{put_mid}
use lib.Lanes.{zip2}
use Rattle.af_sample.specs.declared.sample_type.SampleType.{SampleType}
use Rattle.af_sample.specs.declared.sample_type.SampleType.TheVariants.{Mu255, Alaw, Lin16, Lin32}
use Rattle.af_sample.specs.SampleTypes.{width_of}
use Rattle.af_sample.specs.Samples.{decoded, encoded, piece, samples, bytes_of}

-- as many samples as the bytes have widths
count_is : (ty : SampleType) (m n : ℕ) → m ≡ n * width_of ty → n ≡ m / width_of ty
count_is Mu255 m n e = omega arith
count_is Alaw m n e = omega arith
count_is Lin16 m n e = omega arith
count_is Lin32 m n e = omega arith

pub length-samples : (ty : SampleType) (bytes : List ℕ) (n : ℕ) → length bytes ≡ n * width_of ty → length (samples ty bytes) ≡ n
unfolding samples
length-samples ty bytes n e =
    length-map-range_with_len (λ i. decoded ty (piece ty bytes i)) 0 (length bytes / width_of ty) ∙ sym (count_is ty (length bytes) n e)

-- a run that is decoded at each place
pub decoded_run : (ty : SampleType) (bytes : List ℕ) (out : List ℤ) → length bytes ≡ length out * width_of ty →
    ((k : ℕ) → k < length out → get_or out k (pos 0) ≡ decoded ty (piece ty bytes k)) → out ≡ samples ty bytes
unfolding samples
decoded_run ty bytes out size each =
    fill_by_all (λ i. decoded ty (piece ty bytes i)) out (length out) (pos 0) refl each
    ∙ ap (λ n. map (λ i. decoded ty (piece ty bytes i)) (range_with_len 0 n)) (count_is ty (length bytes) (length out) size)

-- a run that is changed at each place
pub mapped_run : (f : ℤ → ℤ) (old new : List ℤ) → length new ≡ length old →
    ((k : ℕ) → k < length new → get_or new k (pos 0) ≡ f (get_or old k (pos 0))) → new ≡ map f old
mapped_run f old new size each =
    ext_get_or (pos 0) new (map f old) (size ∙ sym (length-map old f))
    (λ k low. each k low ∙ sym (get_or-map f old k (pos 0) (pos 0) (omega arith)))

-- a run that is joined with another at each place
pub joined_run : (f : ℤ → ℤ → ℤ) (old from new : List ℤ) → length new ≡ length old → length old ≡ length from →
    ((k : ℕ) → k < length new → get_or new k (pos 0) ≡ f (get_or old k (pos 0)) (get_or from k (pos 0))) → new ≡ zip2 f old from
joined_run f old from new size same each =
    ext_get_or (pos 0) new (zip2 f old from) (size ∙ sym (length-zip2 f old from same))
    (λ k low. each k low ∙ sym (get_or-zip2 f old from k (pos 0) (pos 0) (pos 0) (omega arith) (omega arith)))

pub length-encoded : (ty : SampleType) (x : ℤ) → length (encoded ty x) ≡ width_of ty
length-encoded Mu255 x = refl
length-encoded Alaw x = refl
length-encoded Lin16 x = refl
length-encoded Lin32 x = refl

-- the bytes of one sample more
pub encoded_more : (ty : SampleType) (xs : List ℤ) (out new : List ℕ) (i w k : ℕ) → w ≡ width_of ty → i < length xs → i * w ≤ length out →
    take (i * w) out ≡ bytes_of ty (take i xs) → new ≡ encoded ty (get_or xs i (pos 0)) → (i + 1) * w ≡ i * w + w →
    take ((i + 1) * w) (put_mid (i * w) k out new) ≡ bytes_of ty (take (i + 1) xs)
encoded_more ty xs out new i w k width low room before here step =
    let size : length new ≡ w = ap length here ∙ length-encoded ty (get_or xs i (pos 0)) ∙ sym width in
    take-put_mid (i * w) k out new ((i + 1) * w) (omega arith) room
    ∙ ap (λ (a : List ℕ). a ++ new) before ∙ ap (λ (b : List ℕ). bytes_of ty (take i xs) ++ b) here
    ∙ flat_map_more (encoded ty) [] (take i xs) (get_or xs i (pos 0))
    ∙ ap (bytes_of ty) (sym (take_more xs i (pos 0) low))
