-- What a reader of WAVE files answers is so.
use Rattle.std.proofs.Common.{◌≡◌, ◌+◌, ◌-◌, ◌%◌, ◌⊎◌, inl, inr, ℕ, Bool, true, false, nat_lt, Option, Some, None, List, [], ◌∷◌, ◌++◌, length, take, drop, refl, sym, ap, ◌∙◌, subst, arith, append_assoc, length-take, length-drop}
use Rattle.std.specs.Prelude.{if◌then◌else◌, ◌&&◌, codes, Ok, Err}
use Rattle.std.specs.Int.{w16, w32, from_le_bytes}
use Rattle.std.specs.Str.{bytes_eq}
use Rattle.std.specs.Cmp.Lexicographic.{same_text, other_text}
use Rattle.std.proofs.lemmas.Bool.Decides.{nat_tests}
use Rattle.std.proofs.lemmas.List.{append-nil, length-append, take-append-drop}
use Rattle.af_sound.specs.declared.head.Coding.{Coding}
use Rattle.af_sound.specs.declared.head.SoundForm.TheVariants as form
use Rattle.af_sound.specs.declared.head.SoundHead.{SoundHead}
use Rattle.af_sound.specs.declared.head.SoundFault.{SoundFault}
use Rattle.af_sound.specs.declared.head.SoundFault.TheVariants.{BadMagic, BadHead, BadCoding, BadShape}
use Rattle.af_sound.specs.declared.head_reader.Place.{Place}
use Rattle.af_sound.specs.declared.head_reader.Place.TheVariants as at
use Rattle.af_sound.specs.declared.head_reader.Field.TheVariants as field
use Rattle.af_sound.specs.declared.wave.WaveField.TheVariants as wave
use Rattle.af_sound.specs.declared.wave.Format.{Format}
use Rattle.af_sound.specs.declared.wave.FormatFields.{FormatFields}
use Rattle.af_sound.specs.Fields.{has_shape, IsLittle, IsLittle16}
use Rattle.af_sound.specs.Wave.{Chunk, chunk_bytes, chunks_bytes, HasSecondFormat, HasShortFormat, HasWaveFault, IsBeforeFormat, IsAfterFormat, IsChunk, IsFormat, IsRiff, IsWaveHead, StatesFormat, StatesSound, wave_coding}
use Rattle.af_sound.specs.Reading.{field_start, format_coded, format_end, format_of, head_with, place_after_bytes, start, wave_name}
use Rattle.af_sound.proofs.ReachedLemmas.{bad_ends, head_ends, inside_says, Says, unsaid}
use Rattle.af_sound.proofs.ChunkLemmas.{at_name, BeginsWith, body_ends, chunks_end, Passes, pieces, Skips}
use Rattle.af_sound.proofs.FormatLemmas.{sixteen_bytes}

-- a fault with which bytes end is reported
badly : (bytes more : List ℕ) (fault : SoundFault) (place : Place) → HasWaveFault bytes fault → place_after_bytes (at.Bad fault) more ≡ Some place → Says form.Wave (bytes ++ more) place
badly bytes more fault place has e =
    let ends : (more ≡ []) × (at.Bad fault ≡ place) = bad_ends fault more place e in
    let all : bytes ++ more ≡ bytes = ap (λ (m : List ℕ). bytes ++ m) ends.0 ∙ append-nil bytes in
    subst (λ (p : Place). Says form.Wave (bytes ++ more) p) ends.1 (subst (λ (b : List ℕ). HasWaveFault b fault) (sym all) has)

regrouped : (a b c : List ℕ) (place : Place) → Says form.Wave ((a ++ b) ++ c) place → Says form.Wave (a ++ (b ++ c)) place
regrouped a b c place said = subst (λ (l : List ℕ). Says form.Wave l place) (append_assoc a b c) said

-- after a name `data` that came after `fmt `
data_says : (front : List ℕ) (format : Format) (rest : List ℕ) (place : Place) → IsAfterFormat format.coding format.rate format.channels front →
    place_after_bytes (field_start (field.Wave (wave.DataSize format))) rest ≡ Some place → Says form.Wave (front ++ (codes "data" ++ rest)) place
data_says front format (a ∷ b ∷ c ∷ d ∷ more) place is_front e =
    let size : List ℕ = a ∷ b ∷ c ∷ d ∷ [] in
    let head : SoundHead = head_with format (from_le_bytes w32 size) in
    let ends : (more ≡ []) × (at.Head head ≡ place) = head_ends head more place e in
    let is : IsWaveHead (front ++ (codes "data" ++ size)) head = record {
      front = front;
      size_field = size;
      size = from_le_bytes w32 size;
      is = refl;
      is_front = is_front;
      is_size = record { size = refl; is = refl };
      is_length = refl;
    } in
    subst (λ (p : Place). Says form.Wave (front ++ (codes "data" ++ (size ++ more))) p) ends.1
    (subst (λ (m : List ℕ). Says form.Wave (front ++ (codes "data" ++ (size ++ m))) (at.Head head)) (sym ends.0) is)
data_says front format rest place is_front e = unsaid form.Wave (front ++ (codes "data" ++ rest)) _ place e refl

-- after a whole `fmt `
after_format_says : (front : List ℕ) (format : Format) (rest : List ℕ) (place : Place) → (before : List ℕ) (chunk : Chunk) → IsBeforeFormat before →
    IsFormat format.coding format.rate format.channels chunk → front ≡ before ++ chunk_bytes chunk →
    place_after_bytes (at_name (Some format)) rest ≡ Some place → Says form.Wave (front ++ rest) place
after_format_says front format rest place before chunk is_before is_format is e =
    elim (chunks_end (length rest) rest (Some format) place (omega arith) e) [ inl inside ↦ inside_says form.Wave (front ++ rest) place inside | inr s ↦ by s s.begins ] where
      passed : (s : Skips (Some format) rest place) → IsAfterFormat format.coding format.rate format.channels (front ++ chunks_bytes s.chunks)
      passed s = record {
        before = before;
        format = chunk;
        after = s.chunks;
        is = ap (λ (l : List ℕ). l ++ chunks_bytes s.chunks) is ∙ append_assoc before (chunk_bytes chunk) (chunks_bytes s.chunks);
        is_before = is_before;
        is_format = is_format;
        others = s.others;
      }

      spelled : (s : Skips (Some format) rest place) (name : List ℕ) (b : BeginsWith name s.rest) → front ++ rest ≡ (front ++ chunks_bytes s.chunks) ++ (name ++ b.rest)
      spelled s name b =
          ap (λ (l : List ℕ). front ++ l) (s.is ∙ ap (λ (l : List ℕ). chunks_bytes s.chunks ++ l) b.is) ∙ sym (append_assoc front (chunks_bytes s.chunks) (name ++ b.rest))

      goes_on : (s : Skips (Some format) rest place) (name : List ℕ) (b : BeginsWith name s.rest) → place_after_bytes (at_name (Some format)) (name ++ b.rest) ≡ Some place
      goes_on s name b = ap (λ (l : List ℕ). place_after_bytes (at_name (Some format)) l) (sym b.is) ∙ s.reaches

      by : (s : Skips (Some format) rest place) → BeginsWith (codes "data") s.rest ⊎ BeginsWith (codes "fmt ") s.rest → Says form.Wave (front ++ rest) place
      by s (inl b) =
          subst (λ (l : List ℕ). Says form.Wave l place) (sym (spelled s (codes "data") b))
          (data_says (front ++ chunks_bytes s.chunks) format b.rest place (passed s) (goes_on s (codes "data") b))
      by s (inr b) =
          let second : HasSecondFormat ((front ++ chunks_bytes s.chunks) ++ codes "fmt ") = record {
            front = front ++ chunks_bytes s.chunks;
            coding = format.coding;
            rate = format.rate;
            channels = format.channels;
            is = refl;
            is_front = passed s;
          } in
          subst (λ (l : List ℕ). Says form.Wave l place) (sym (spelled s (codes "fmt ") b))
          (regrouped (front ++ chunks_bytes s.chunks) (codes "fmt ") b.rest place
          (badly ((front ++ chunks_bytes s.chunks) ++ codes "fmt ") b.rest BadHead place (inr (inl second)) (goes_on s (codes "fmt ") b)))

-- a chunk `fmt ` of its size, its sixteen bytes, and the rest of it
format_chunk : (size sixteen : List ℕ) (more : ℕ) (after : List ℕ) (format : Format) (place : Place) (tag bits : ℕ) → IsLittle (16 + more) size →
    StatesFormat tag format.channels format.rate bits sixteen → wave_coding tag bits ≡ Some format.coding → has_shape format.channels ≡ true →
    (p : Passes (more + more % 2) (Some format) after place) →
    (chunk : Chunk) × IsFormat format.coding format.rate format.channels chunk × ((codes "fmt " ++ (size ++ (sixteen ++ after))) ≡ chunk_bytes chunk ++ p.rest)
format_chunk size sixteen more after format place tag bits is_size states is_coding is_shape p =
    let front : List ℕ = take more p.body in
    let pad : List ℕ = drop more p.body in
    let whole : length p.body ≡ more + more % 2 = p.is_size in
    let front_is : length front ≡ more = simp length-take (omega arith) in
    let pad_is : length pad ≡ more % 2 = simp length-drop (omega arith) in
    let sixteen_is : length sixteen ≡ 16 = sixteen_bytes tag format.channels format.rate bits sixteen states in
    let body_is : length (sixteen ++ front) ≡ 16 + more = simp length-append (omega arith) in
    let chunk : Chunk = record { name = codes "fmt "; size = size; body = sixteen ++ front; pad = pad } in
    let is_chunk : IsChunk chunk = record {
      is_name = refl;
      is_size = subst (λ (n : ℕ). IsLittle n size) (sym body_is) is_size;
      is_pad = pad_is ∙ (let parity : more % 2 ≡ (16 + more) % 2 = omega arith in parity) ∙ ap (λ (n : ℕ). n % 2) (sym body_is);
    } in
    let is_format : IsFormat format.coding format.rate format.channels chunk = record {
      is = is_chunk;
      name = refl;
      front = sixteen;
      more = front;
      is_body = refl;
      tag = tag;
      bits = bits;
      states = states;
      is_coding = is_coding;
      is_shape = is_shape;
    } in
    let parts : p.body ≡ front ++ pad = sym (take-append-drop more p.body) in
    let all : sixteen ++ after ≡ (sixteen ++ front) ++ (pad ++ p.rest) =
    ap (λ (l : List ℕ). sixteen ++ l) (p.is ∙ ap (λ (l : List ℕ). l ++ p.rest) parts ∙ append_assoc front pad p.rest)
    ∙ sym (append_assoc sixteen front (pad ++ p.rest)) in
    (chunk, is_format, ap (λ (l : List ℕ). codes "fmt " ++ (size ++ l)) all ∙ sym (pieces chunk p.rest))

-- after the sixteen bytes of `fmt `
sixteen_say : (before size sixteen after : List ℕ) (fields : FormatFields) (bits : ℕ) (place : Place) → IsBeforeFormat before → IsLittle (16 + fields.more) size →
    StatesFormat fields.tag fields.channels fields.rate bits sixteen → place_after_bytes (format_end fields (format_of fields bits)) after ≡ Some place →
    Says form.Wave (before ++ (codes "fmt " ++ (size ++ (sixteen ++ after)))) place
sixteen_say before size sixteen after fields bits place is_before is_size states e = by (wave_coding fields.tag bits) refl e where
  bytes : List ℕ
  bytes = before ++ (codes "fmt " ++ (size ++ sixteen))

  sound : StatesSound fields.tag fields.channels fields.rate bits (before ++ (codes "fmt " ++ (size ++ sixteen)))
  sound = record {
    front = before;
    size_field = size;
    format = sixteen;
    size = 16 + fields.more;
    is = refl;
    is_front = is_before;
    is_size = is_size;
    good_size = omega arith;
    states = states;
  }

  spelled : (before ++ (codes "fmt " ++ (size ++ sixteen))) ++ after ≡ before ++ (codes "fmt " ++ (size ++ (sixteen ++ after)))
  spelled = simp append_assoc

  faulty : (fault : SoundFault) → HasWaveFault (before ++ (codes "fmt " ++ (size ++ sixteen))) fault → place_after_bytes (at.Bad fault) after ≡ Some place →
      Says form.Wave (before ++ (codes "fmt " ++ (size ++ (sixteen ++ after)))) place
  faulty fault has f =
      subst (λ (l : List ℕ). Says form.Wave l place) spelled (badly (before ++ (codes "fmt " ++ (size ++ sixteen))) after fault place has f)

  good : (format : Format) → wave_coding fields.tag bits ≡ Some format.coding → format.rate ≡ fields.rate → format.channels ≡ fields.channels → has_shape format.channels ≡ true →
      StatesFormat fields.tag format.channels format.rate bits sixteen →
      place_after_bytes (format_end fields (Ok format)) after ≡ Some place → Says form.Wave (before ++ (codes "fmt " ++ (size ++ (sixteen ++ after)))) place
  good format coding same_rate same_channels shape states_it f =
      elim (body_ends after fields.more (Some format) place f) [
        | inl inside ↦ inside_says form.Wave (before ++ (codes "fmt " ++ (size ++ (sixteen ++ after)))) place inside
        | inr p ↦ let c = format_chunk size sixteen fields.more after format place fields.tag bits is_size states_it coding shape p in
            subst (λ (l : List ℕ). Says form.Wave l place) (append_assoc before (chunk_bytes c.0) p.rest ∙ ap (λ (l : List ℕ). before ++ l) (sym c.2))
            (after_format_says (before ++ chunk_bytes c.0) format p.rest place before c.0 is_before c.1 refl p.reaches)
      ]

  by_shape : (coding : Coding) → wave_coding fields.tag bits ≡ Some coding → (t : Bool) → has_shape fields.channels ≡ t →
      place_after_bytes (format_end fields (if t then Ok (record { coding = coding; rate = fields.rate; channels = fields.channels }) else Err (BadShape fields.rate fields.channels))) after ≡ Some place →
      Says form.Wave (before ++ (codes "fmt " ++ (size ++ (sixteen ++ after)))) place
  by_shape coding is true test f = good (record { coding = coding; rate = fields.rate; channels = fields.channels }) is refl refl test states f
  by_shape coding is false test f =
      faulty (BadShape fields.rate fields.channels) (record { tag = fields.tag; bits = bits; coding = coding; states = sound; good_coding = is; bad = test }) f

  by : (c : Option Coding) → wave_coding fields.tag bits ≡ c → place_after_bytes (format_end fields (format_coded fields bits c)) after ≡ Some place →
      Says form.Wave (before ++ (codes "fmt " ++ (size ++ (sixteen ++ after)))) place
  by (Some coding) is f = by_shape coding is (has_shape fields.channels) refl f
  by None is f = faulty (BadCoding fields.tag bits) (record { channels = fields.channels; rate = fields.rate; states = sound; bad = is }) f

own16 : (a b : ℕ) → IsLittle16 (from_le_bytes w16 (a ∷ b ∷ [])) (a ∷ b ∷ [])
own16 a b = record { size = refl; is = refl }

-- after a size of `fmt ` that is large enough
tag_says : (before size rest : List ℕ) (more : ℕ) (place : Place) → IsBeforeFormat before → IsLittle (16 + more) size →
    place_after_bytes (field_start (field.Wave (wave.FormatTag more))) rest ≡ Some place → Says form.Wave (before ++ (codes "fmt " ++ (size ++ rest))) place
tag_says before size (t0 ∷ t1 ∷ c0 ∷ c1 ∷ r0 ∷ r1 ∷ r2 ∷ r3 ∷ i0 ∷ i1 ∷ i2 ∷ i3 ∷ i4 ∷ i5 ∷ b0 ∷ b1 ∷ after) more place is_before is_size e =
    let tag : List ℕ = t0 ∷ t1 ∷ [] in
    let channels : List ℕ = c0 ∷ c1 ∷ [] in
    let rate : List ℕ = r0 ∷ r1 ∷ r2 ∷ r3 ∷ [] in
    let ignored : List ℕ = i0 ∷ i1 ∷ i2 ∷ i3 ∷ i4 ∷ i5 ∷ [] in
    let bits : List ℕ = b0 ∷ b1 ∷ [] in
    let fields : FormatFields = record { more = more; tag = from_le_bytes w16 tag; channels = from_le_bytes w16 channels; rate = from_le_bytes w32 rate } in
    sixteen_say before size (tag ++ (channels ++ (rate ++ (ignored ++ bits)))) after fields (from_le_bytes w16 bits) place is_before is_size
    (record {
      tag_field = tag;
      channels_field = channels;
      rate_field = rate;
      ignored = ignored;
      bits_field = bits;
      is = refl;
      is_tag = own16 t0 t1;
      is_channels = own16 c0 c1;
      is_rate = record { size = refl; is = refl };
      is_ignored = refl;
      is_bits = own16 b0 b1;
    }) e
tag_says before size rest more place is_before is_size e = unsaid form.Wave (before ++ (codes "fmt " ++ (size ++ rest))) _ place e refl

-- after the name `fmt `
format_says : (before rest : List ℕ) (place : Place) → IsBeforeFormat before → place_after_bytes (field_start (field.Wave wave.FormatSize)) rest ≡ Some place →
    Says form.Wave (before ++ (codes "fmt " ++ rest)) place
format_says before (a ∷ b ∷ c ∷ d ∷ rest) place is_before e = by (nat_lt (from_le_bytes w32 (a ∷ b ∷ c ∷ d ∷ [])) 16) refl e where
  by : (t : Bool) → nat_lt (from_le_bytes w32 (a ∷ b ∷ c ∷ d ∷ [])) 16 ≡ t →
      place_after_bytes (if t then at.Bad BadHead else field_start (field.Wave (wave.FormatTag (from_le_bytes w32 (a ∷ b ∷ c ∷ d ∷ []) - 16)))) rest ≡ Some place →
      Says form.Wave (before ++ (codes "fmt " ++ ((a ∷ b ∷ c ∷ d ∷ []) ++ rest))) place
  by true test f =
      let size : List ℕ = a ∷ b ∷ c ∷ d ∷ [] in
      let short : HasShortFormat (before ++ (codes "fmt " ++ size)) = record {
        front = before;
        size_field = size;
        size = from_le_bytes w32 size;
        is = refl;
        is_front = is_before;
        is_size = record { size = refl; is = refl };
        bad = grind (arith, nat_tests);
      } in
      regrouped before (codes "fmt " ++ size) rest place (badly (before ++ (codes "fmt " ++ size)) rest BadHead place (inr (inr short)) f)
  by false test f =
      let size : List ℕ = a ∷ b ∷ c ∷ d ∷ [] in
      let all : from_le_bytes w32 size ≡ 16 + (from_le_bytes w32 size - 16) = grind (arith, nat_tests) in
      tag_says before size rest (from_le_bytes w32 size - 16) place is_before (record { size = refl; is = all }) f
format_says before rest place is_before e = unsaid form.Wave (before ++ (codes "fmt " ++ rest)) _ place e refl

-- after the front
front_says : (riff rest : List ℕ) (place : Place) → IsRiff riff → place_after_bytes (at_name None) rest ≡ Some place → Says form.Wave (riff ++ rest) place
front_says riff rest place is_riff e =
    elim (chunks_end (length rest) rest None place (omega arith) e) [ inl inside ↦ inside_says form.Wave (riff ++ rest) place inside | inr s ↦ by s s.begins ] where
      passed : (s : Skips None rest place) → IsBeforeFormat (riff ++ chunks_bytes s.chunks)
      passed s = record { riff = riff; chunks = s.chunks; is = refl; is_riff = is_riff; others = s.others }

      spelled : (s : Skips None rest place) (name : List ℕ) (b : BeginsWith name s.rest) → riff ++ rest ≡ (riff ++ chunks_bytes s.chunks) ++ (name ++ b.rest)
      spelled s name b =
          ap (λ (l : List ℕ). riff ++ l) (s.is ∙ ap (λ (l : List ℕ). chunks_bytes s.chunks ++ l) b.is) ∙ sym (append_assoc riff (chunks_bytes s.chunks) (name ++ b.rest))

      goes_on : (s : Skips None rest place) (name : List ℕ) (b : BeginsWith name s.rest) → place_after_bytes (at_name None) (name ++ b.rest) ≡ Some place
      goes_on s name b = ap (λ (l : List ℕ). place_after_bytes (at_name None) l) (sym b.is) ∙ s.reaches

      by : (s : Skips None rest place) → BeginsWith (codes "data") s.rest ⊎ BeginsWith (codes "fmt ") s.rest → Says form.Wave (riff ++ rest) place
      by s (inl b) =
          subst (λ (l : List ℕ). Says form.Wave l place) (sym (spelled s (codes "data") b))
          (regrouped (riff ++ chunks_bytes s.chunks) (codes "data") b.rest place
          (badly ((riff ++ chunks_bytes s.chunks) ++ codes "data") b.rest BadHead place
          (inl (record { front = riff ++ chunks_bytes s.chunks; is = refl; is_front = passed s })) (goes_on s (codes "data") b)))
      by s (inr b) =
          subst (λ (l : List ℕ). Says form.Wave l place) (sym (spelled s (codes "fmt ") b))
          (format_says (riff ++ chunks_bytes s.chunks) b.rest place (passed s) (goes_on s (codes "fmt ") b))

riff_front : (a b c d e f g h i j k l : ℕ) (size : List ℕ) → (a ∷ b ∷ c ∷ d ∷ e ∷ f ∷ g ∷ h ∷ i ∷ j ∷ k ∷ l ∷ []) ≡ codes "RIFF" ++ (size ++ codes "WAVE") →
    (a ∷ b ∷ c ∷ d ∷ []) ≡ codes "RIFF"
riff_front a b c d e f g h i j k l size is = ap (λ (x : List ℕ). take 4 x) is

riff_back : (a b c d e f g h i j k l : ℕ) (size : List ℕ) → length size ≡ 4 → (a ∷ b ∷ c ∷ d ∷ e ∷ f ∷ g ∷ h ∷ i ∷ j ∷ k ∷ l ∷ []) ≡ codes "RIFF" ++ (size ++ codes "WAVE") →
    (i ∷ j ∷ k ∷ l ∷ []) ≡ codes "WAVE"
riff_back a b c d e f g h i j k l (s0 ∷ s1 ∷ s2 ∷ s3 ∷ []) four is = ap (λ (x : List ℕ). drop 8 x) is
riff_back a b c d e f g h i j k l _ four is = absurd (omega arith)

-- the place that is reached says what the bytes are
pub wave_says : (bytes : List ℕ) (place : Place) → place_after_bytes (start form.Wave) bytes ≡ Some place → Says form.Wave bytes place
wave_says (a ∷ b ∷ c ∷ d ∷ e ∷ f ∷ g ∷ h ∷ i ∷ j ∷ k ∷ l ∷ rest) place is =
    by (bytes_eq (a ∷ b ∷ c ∷ d ∷ []) (codes "RIFF")) refl (bytes_eq (i ∷ j ∷ k ∷ l ∷ []) (codes "WAVE")) refl is where
      other : ((IsRiff (a ∷ b ∷ c ∷ d ∷ e ∷ f ∷ g ∷ h ∷ i ∷ j ∷ k ∷ l ∷ [])) → ⊥) → place_after_bytes (at.Bad BadMagic) rest ≡ Some place →
          Says form.Wave ((a ∷ b ∷ c ∷ d ∷ e ∷ f ∷ g ∷ h ∷ i ∷ j ∷ k ∷ l ∷ []) ++ rest) place
      other not_riff r = badly (a ∷ b ∷ c ∷ d ∷ e ∷ f ∷ g ∷ h ∷ i ∷ j ∷ k ∷ l ∷ []) rest BadMagic place (refl, not_riff) r

      by : (t : Bool) → bytes_eq (a ∷ b ∷ c ∷ d ∷ []) (codes "RIFF") ≡ t → (u : Bool) → bytes_eq (i ∷ j ∷ k ∷ l ∷ []) (codes "WAVE") ≡ u →
          place_after_bytes (wave_name (t && u)) rest ≡ Some place → Says form.Wave ((a ∷ b ∷ c ∷ d ∷ e ∷ f ∷ g ∷ h ∷ i ∷ j ∷ k ∷ l ∷ []) ++ rest) place
      by true riff true wave r =
          let front : (a ∷ b ∷ c ∷ d ∷ []) ≡ codes "RIFF" = same_text (a ∷ b ∷ c ∷ d ∷ []) (codes "RIFF") (sym riff) in
          let back : (i ∷ j ∷ k ∷ l ∷ []) ≡ codes "WAVE" = same_text (i ∷ j ∷ k ∷ l ∷ []) (codes "WAVE") (sym wave) in
          front_says (a ∷ b ∷ c ∷ d ∷ e ∷ f ∷ g ∷ h ∷ i ∷ j ∷ k ∷ l ∷ []) rest place
          (record {
            size = e ∷ f ∷ g ∷ h ∷ [];
            is = ap (λ (x : List ℕ). x ++ (e ∷ f ∷ g ∷ h ∷ i ∷ j ∷ k ∷ l ∷ [])) front ∙ ap (λ (x : List ℕ). codes "RIFF" ++ ((e ∷ f ∷ g ∷ h ∷ []) ++ x)) back;
            is_size = refl;
          }) r
      by true riff false wave r = other (λ (x : IsRiff (a ∷ b ∷ c ∷ d ∷ e ∷ f ∷ g ∷ h ∷ i ∷ j ∷ k ∷ l ∷ [])). other_text (i ∷ j ∷ k ∷ l ∷ []) (codes "WAVE") (sym wave) (riff_back a b c d e f g h i j k l x.size x.is_size x.is)) r
      by false riff u wave r = other (λ (x : IsRiff (a ∷ b ∷ c ∷ d ∷ e ∷ f ∷ g ∷ h ∷ i ∷ j ∷ k ∷ l ∷ [])). other_text (a ∷ b ∷ c ∷ d ∷ []) (codes "RIFF") (sym riff) (riff_front a b c d e f g h i j k l x.size x.is)) r
wave_says bytes place e = unsaid form.Wave bytes _ place e refl
