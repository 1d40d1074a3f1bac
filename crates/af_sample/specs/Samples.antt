-- Samples as bytes: one, and runs of them.
use Rattle.std.specs.Prelude.{ℕ, ◌+◌, ◌*◌, ◌/◌, ◌^◌, ℤ, pos, ◌*ℤ◌, List, [], ◌∷◌, map, length, slice_index, slice_range}
use Rattle.std.specs.Int.{w16, w32, cast_signed, cast_unsigned, from_be_bytes, to_be_bytes, int_shr}
use Rattle.std.specs.List.{flat_map, range_with_len}
use Rattle.af_sample.specs.declared.sample_type.SampleType.{SampleType}
use Rattle.af_sample.specs.declared.sample_type.SampleType.TheVariants.{Mu255, Alaw, Lin16, Lin32}
use Rattle.af_sample.specs.SampleTypes.{width_of}
use Rattle.af_sample.specs.G711.{from_mu_law, to_mu_law, from_alaw, to_alaw}

-- the sample that the bytes of one sample mean; 32 bits lose the lower 16, by an arithmetic shift
abbrev pub decoded : SampleType → List ℕ → ℤ
decoded Mu255 bytes = from_mu_law (slice_index bytes 0)
decoded Alaw bytes = from_alaw (slice_index bytes 0)
decoded Lin16 bytes = cast_signed w16 (from_be_bytes w16 bytes)
decoded Lin32 bytes = int_shr (cast_signed w32 (from_be_bytes w32 bytes)) 16

-- the bytes of one sample
abbrev pub encoded : SampleType → ℤ → List ℕ
encoded Mu255 x = to_mu_law x ∷ []
encoded Alaw x = to_alaw x ∷ []
encoded Lin16 x = to_be_bytes w16 (cast_unsigned w16 x)
encoded Lin32 x = to_be_bytes w32 (cast_unsigned w32 (x *ℤ pos (2 ^ 16)))

-- the bytes of the sample at a place
abbrev pub piece : SampleType → List ℕ → ℕ → List ℕ
piece ty bytes i = slice_range bytes (i * width_of ty) (i * width_of ty + width_of ty)

-- the decoded samples of a list of bytes, one for each width bytes
unfoldable pub samples : SampleType → List ℕ → List ℤ
samples ty bytes = map (λ i. decoded ty (piece ty bytes i)) (range_with_len 0 (length bytes / width_of ty))

-- the bytes of a list of samples, one after the other
abbrev pub bytes_of : SampleType → List ℤ → List ℕ
bytes_of ty xs = flat_map (encoded ty) xs
