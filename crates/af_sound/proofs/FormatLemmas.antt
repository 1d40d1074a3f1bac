-- The chunk `fmt `, and what a reader answers after it.
use Rattle.std.proofs.Common.{◌≡◌, ◌≤◌, ◌+◌, ◌-◌, ◌%◌, ℕ, Bool, true, false, nat_lt, Some, None, List, [], ◌∷◌, ◌++◌, length, refl, ap, ◌∙◌, arith, append_assoc}
use Rattle.std.specs.Prelude.{if◌then◌else◌, Result, Ok, Err}
use Rattle.std.specs.Int.{w16, from_le_bytes}
use Rattle.std.proofs.lemmas.Bool.Decides.{nat_tests}
use Rattle.std.proofs.lemmas.List.{length-append}
use Rattle.af_sound.specs.declared.head.Coding.{Coding}
use Rattle.af_sound.specs.declared.head.SoundFault.{SoundFault}
use Rattle.af_sound.specs.declared.head.SoundFault.TheVariants.{BadHead, BadShape}
use Rattle.af_sound.specs.declared.head_reader.Place.TheVariants as at
use Rattle.af_sound.specs.declared.head_reader.Field.TheVariants as field
use Rattle.af_sound.specs.declared.wave.WaveField.TheVariants as wave
use Rattle.af_sound.specs.declared.wave.Format.{Format}
use Rattle.af_sound.specs.declared.wave.FormatFields.{FormatFields}
use Rattle.af_sound.specs.Fields.{has_shape, IsLittle}
use Rattle.af_sound.specs.Wave.{Chunk, chunk_bytes, IsFormat, StatesFormat, wave_coding}
use Rattle.af_sound.specs.Reading.{field_start, format_coded, format_end, format_of, format_size, place_after_bytes}
use Rattle.af_sound.proofs.ReachedLemmas.{field_read}
use Rattle.af_sound.proofs.ChunkLemmas.{at_name, body_passes, pieces}

halves_read : (more : ℕ) (tag channels rest : List ℕ) → length tag ≡ 2 → length channels ≡ 2 →
    place_after_bytes (field_start (field.Wave (wave.FormatTag more))) (tag ++ (channels ++ rest))
    ≡ place_after_bytes (field_start (field.Wave (wave.FormatRate more (from_le_bytes w16 tag) (from_le_bytes w16 channels)))) rest
halves_read more (a ∷ b ∷ []) (c ∷ d ∷ []) rest two_a two_b = refl
halves_read more (a ∷ b ∷ []) _ rest two_a two_b = absurd (omega arith)
halves_read more _ channels rest two_a two_b = absurd (omega arith)

bits_read : (fields : FormatFields) (ignored bits rest : List ℕ) → length ignored ≡ 6 → length bits ≡ 2 →
    place_after_bytes (field_start (field.Wave (wave.FormatIgnored fields))) (ignored ++ (bits ++ rest)) ≡ place_after_bytes (format_end fields (format_of fields (from_le_bytes w16 bits))) rest
bits_read fields (a ∷ b ∷ c ∷ d ∷ e ∷ f ∷ []) (g ∷ h ∷ []) rest six two = refl
bits_read fields (a ∷ b ∷ c ∷ d ∷ e ∷ f ∷ []) _ rest six two = absurd (omega arith)
bits_read fields _ bits rest six two = absurd (omega arith)

-- sixteen bytes are read
pub sixteen_read : (fields : FormatFields) (bits : ℕ) (bytes rest : List ℕ) → StatesFormat fields.tag fields.channels fields.rate bits bytes →
    place_after_bytes (field_start (field.Wave (wave.FormatTag fields.more))) (bytes ++ rest) ≡ place_after_bytes (format_end fields (format_of fields bits)) rest
sixteen_read fields bits bytes rest s =
    let r3 : List ℕ = s.ignored ++ (s.bits_field ++ rest) in
    let r2 : List ℕ = s.rate_field ++ r3 in
    let spelled : bytes ++ rest ≡ s.tag_field ++ (s.channels_field ++ r2) = ap (λ (b : List ℕ). b ++ rest) s.is ∙ simp append_assoc in
    ap (λ (b : List ℕ). place_after_bytes (field_start (field.Wave (wave.FormatTag fields.more))) b) spelled
    ∙ halves_read fields.more s.tag_field s.channels_field r2 s.is_tag.size s.is_channels.size
    ∙ ap (λ (m : ℕ). place_after_bytes (field_start (field.Wave (wave.FormatRate fields.more m (from_le_bytes w16 s.channels_field)))) r2) s.is_tag.is
    ∙ ap (λ (m : ℕ). place_after_bytes (field_start (field.Wave (wave.FormatRate fields.more fields.tag m))) r2) s.is_channels.is
    ∙ field_read (field.Wave (wave.FormatRate fields.more fields.tag fields.channels)) s.rate_field r3 s.is_rate.size
    ∙ ap (λ (m : ℕ). place_after_bytes (field_start (field.Wave (wave.FormatIgnored (record { more = fields.more; tag = fields.tag; channels = fields.channels; rate = m })))) r3) s.is_rate.is
    ∙ bits_read fields s.ignored s.bits_field rest s.is_ignored s.is_bits.size
    ∙ ap (λ (m : ℕ). place_after_bytes (format_end fields (format_of fields m)) rest) s.is_bits.is

-- what the fields of a good `fmt ` mean
pub good_format : (fields : FormatFields) (bits : ℕ) (coding : Coding) → wave_coding fields.tag bits ≡ Some coding → has_shape fields.channels ≡ true →
    format_of fields bits ≡ Ok (record { coding = coding; rate = fields.rate; channels = fields.channels })
good_format fields bits coding is shape =
    ap (format_coded fields bits) is
    ∙ ap (λ (t : Bool). if t then Ok (record { coding = coding; rate = fields.rate; channels = fields.channels }) else Err (BadShape fields.rate fields.channels)) shape

-- a size that is large enough
pub size_read : (size : ℕ) (field_bytes rest : List ℕ) → IsLittle size field_bytes → 16 ≤ size →
    place_after_bytes (field_start (field.Wave wave.FormatSize)) (field_bytes ++ rest) ≡ place_after_bytes (field_start (field.Wave (wave.FormatTag (size - 16)))) rest
size_read size field_bytes rest is far =
    let test : nat_lt size 16 ≡ false = grind (arith, nat_tests) in
    field_read (field.Wave wave.FormatSize) field_bytes rest is.size ∙ ap (λ (m : ℕ). place_after_bytes (format_size m) rest) is.is
    ∙ ap (λ (t : Bool). place_after_bytes (if t then at.Bad BadHead else field_start (field.Wave (wave.FormatTag (size - 16)))) rest) test

-- they are sixteen
pub sixteen_bytes : (tag channels rate bits : ℕ) (bytes : List ℕ) → StatesFormat tag channels rate bits bytes → length bytes ≡ 16
sixteen_bytes tag channels rate bits bytes s =
    let a : length s.tag_field ≡ 2 = s.is_tag.size in
    let b : length s.channels_field ≡ 2 = s.is_channels.size in
    let c : length s.rate_field ≡ 4 = s.is_rate.size in
    let d : length s.ignored ≡ 6 = s.is_ignored in
    let e : length s.bits_field ≡ 2 = s.is_bits.size in
    let sum : length (s.tag_field ++ (s.channels_field ++ (s.rate_field ++ (s.ignored ++ s.bits_field)))) ≡ 16 = simp length-append (omega arith) in
    ap length s.is ∙ sum

-- a good `fmt ` is passed, and kept
pub format_passes : (chunk : Chunk) (coding : Coding) (rate channels : ℕ) (more : List ℕ) → IsFormat coding rate channels chunk →
    place_after_bytes (at_name None) (chunk_bytes chunk ++ more) ≡ place_after_bytes (at_name (Some (record { coding = coding; rate = rate; channels = channels }))) more
format_passes chunk coding rate channels more f =
    let left : ℕ = length chunk.body - 16 in
    let fields : FormatFields = record { more = left; tag = f.tag; channels = channels; rate = rate } in
    let format : Format = record { coding = coding; rate = rate; channels = channels } in
    let after : List ℕ = f.more ++ (chunk.pad ++ more) in
    let sizes : length chunk.body ≡ length f.front + length f.more = ap length f.is_body ∙ length-append f.front f.more in
    let sixteen : length f.front ≡ 16 = sixteen_bytes f.tag channels rate f.bits f.front f.states in
    let whole : length f.more ≡ left = omega arith in
    let pad : length chunk.pad ≡ left % 2 = f.is.is_pad ∙ (omega arith) in
    ap (λ (b : List ℕ). place_after_bytes (at_name None) b) (pieces chunk more)
    ∙ ap (λ (n : List ℕ). place_after_bytes (at_name None) (n ++ (chunk.size ++ (chunk.body ++ (chunk.pad ++ more))))) f.name
    ∙ size_read (length chunk.body) chunk.size (chunk.body ++ (chunk.pad ++ more)) f.is.is_size (omega arith)
    ∙ ap (λ (b : List ℕ). place_after_bytes (field_start (field.Wave (wave.FormatTag left))) (b ++ (chunk.pad ++ more))) f.is_body
    ∙ ap (λ (b : List ℕ). place_after_bytes (field_start (field.Wave (wave.FormatTag left))) b) (append_assoc f.front f.more (chunk.pad ++ more))
    ∙ sixteen_read fields f.bits f.front after f.states
    ∙ ap (λ (r : Result Format SoundFault). place_after_bytes (format_end fields r) after) (good_format fields f.bits coding f.is_coding f.is_shape)
    ∙ body_passes left f.more chunk.pad more (Some format) whole pad
