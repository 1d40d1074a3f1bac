-- Chunks that a reader passes.
use Rattle.std.proofs.Common.{◌≡◌, ◌≢◌, ◌≤◌, ◌+◌, ◌-◌, ◌%◌, ◌==◌, ◌⊎◌, inl, inr, ℕ, zero, suc, Bool, true, false, nat_lt, Option, Some, List, [], ◌∷◌, ◌++◌, length, take, drop, refl, sym, ap, ◌∙◌, subst, arith, append_assoc, length-take, length-drop}
use Rattle.std.specs.Prelude.{if◌then◌else◌, codes}
use Rattle.std.specs.Int.{w32, from_le_bytes}
use Rattle.std.specs.Str.{bytes_eq}
use Rattle.std.specs.Cmp.Lexicographic.{same_text, other_text}
use Rattle.std.proofs.lemmas.Bool.Decides.{nat_tests}
use Rattle.std.proofs.lemmas.List.{length-append, take-append-drop}
use Rattle.af_sound.specs.declared.head_reader.Place.{Place}
use Rattle.af_sound.specs.declared.head_reader.Place.TheVariants as at
use Rattle.af_sound.specs.declared.head_reader.Field.TheVariants as field
use Rattle.af_sound.specs.declared.wave.WaveField.TheVariants as wave
use Rattle.af_sound.specs.declared.wave.ChunkKind.{ChunkKind}
use Rattle.af_sound.specs.declared.wave.ChunkKind.TheVariants as kind
use Rattle.af_sound.specs.declared.wave.Format.{Format}
use Rattle.af_sound.specs.Fields.{IsLittle}
use Rattle.af_sound.specs.Wave.{AreOthers, Chunk, chunk_bytes, chunks_bytes, IsChunk, IsOther}
use Rattle.af_sound.specs.Reading.{before_rest, field_start, after_name, chunk_start, chunk_kind, is_inside, place_after_bytes}
use Rattle.af_sound.proofs.ReachedLemmas.{different, field_read}

-- before the name of a chunk
abbrev pub at_name : Option Format → Place
at_name format = field_start (field.Wave (wave.ChunkName format))

-- the rest of a chunk is passed
rest_passes : (body more : List ℕ) (left : ℕ) (format : Option Format) → 1 ≤ left → length body ≡ left →
    place_after_bytes (at.Chunk left format) (body ++ more) ≡ place_after_bytes (at_name format) more
rest_passes [] more left format some whole = absurd (omega arith)
rest_passes (b ∷ []) more left format some whole =
    let last : nat_lt 1 left ≡ false = grind (arith, nat_tests) in
    ap (λ (t : Bool). place_after_bytes (if t then at.Chunk (left - 1) format else at_name format) more) last
rest_passes (b ∷ c ∷ rest) more left format some whole =
    let goes_on : nat_lt 1 left ≡ true = grind (arith, nat_tests) in
    ap (λ (t : Bool). place_after_bytes (if t then at.Chunk (left - 1) format else at_name format) (c ∷ (rest ++ more))) goes_on
    ∙ rest_passes (c ∷ rest) more (left - 1) format (omega arith) (omega arith)

any_rest_passes : (body more : List ℕ) (left : ℕ) (format : Option Format) → length body ≡ left → place_after_bytes (before_rest left format) (body ++ more) ≡ place_after_bytes (at_name format) more
any_rest_passes [] more left format whole =
    let none : (left == 0) ≡ true = grind (arith, nat_tests) in
    ap (λ (t : Bool). place_after_bytes (if t then at_name format else at.Chunk left format) more) none
any_rest_passes (b ∷ rest) more left format whole =
    let some : (left == 0) ≡ false = grind (arith, nat_tests) in
    ap (λ (t : Bool). place_after_bytes (if t then at_name format else at.Chunk left format) (b ∷ (rest ++ more))) some
    ∙ rest_passes (b ∷ rest) more left format (omega arith) whole

-- the body of a chunk is passed, with its pad byte
pub body_passes : (count : ℕ) (body pad more : List ℕ) (format : Option Format) → length body ≡ count → length pad ≡ count % 2 →
    place_after_bytes (chunk_start count format) (body ++ (pad ++ more)) ≡ place_after_bytes (at_name format) more
body_passes count body pad more format whole even =
    ap (λ (b : List ℕ). place_after_bytes (chunk_start count format) b) (sym (append_assoc body pad more))
    ∙ any_rest_passes (body ++ pad) more (count + count % 2) format (omega (arith, length-append body pad))

other_kind : (name : List ℕ) → name ≢ codes "fmt " → name ≢ codes "data" → chunk_kind name ≡ kind.Other
other_kind name no_format no_data =
    ap (λ (t : Bool). if t then kind.Format else if bytes_eq name (codes "data") then kind.Data else kind.Other) (different name (codes "fmt ") no_format)
    ∙ ap (λ (t : Bool). if t then kind.Data else kind.Other) (different name (codes "data") no_data)

-- the bytes of a chunk, piece by piece
pub pieces : (chunk : Chunk) (more : List ℕ) → chunk_bytes chunk ++ more ≡ chunk.name ++ (chunk.size ++ (chunk.body ++ (chunk.pad ++ more)))
pieces chunk more = simp append_assoc

other_passes : (chunk : Chunk) (more : List ℕ) (format : Option Format) → IsOther chunk → place_after_bytes (at_name format) (chunk_bytes chunk ++ more) ≡ place_after_bytes (at_name format) more
other_passes chunk more format other =
    let r2 : List ℕ = chunk.body ++ (chunk.pad ++ more) in
    let r1 : List ℕ = chunk.size ++ r2 in
    ap (λ (b : List ℕ). place_after_bytes (at_name format) b) (pieces chunk more)
    ∙ field_read (field.Wave (wave.ChunkName format)) chunk.name r1 other.is.is_name
    ∙ ap (λ (k : ChunkKind). place_after_bytes (after_name k format) r1) (other_kind chunk.name other.no_format other.no_data)
    ∙ field_read (field.Wave (wave.ChunkSize format)) chunk.size r2 other.is.is_size.size
    ∙ ap (λ (n : ℕ). place_after_bytes (chunk_start n format) r2) other.is.is_size.is
    ∙ body_passes (length chunk.body) chunk.body chunk.pad more format refl other.is.is_pad

-- other chunks are passed
pub others_pass : (chunks : List Chunk) (more : List ℕ) (format : Option Format) → AreOthers chunks → place_after_bytes (at_name format) (chunks_bytes chunks ++ more) ≡ place_after_bytes (at_name format) more
others_pass [] more format others = refl
others_pass (chunk ∷ rest) more format others =
    ap (λ (b : List ℕ). place_after_bytes (at_name format) b) (append_assoc (chunk_bytes chunk) (chunks_bytes rest) more)
    ∙ other_passes chunk (chunks_bytes rest ++ more) format others.0 ∙ others_pass rest more format others.1

-- a front that a reader passed, up to a name
pub record Passes (size : ℕ) (format : Option Format) (bytes : List ℕ) (place : Place) : Type 0 where
  pub body : List ℕ
  pub rest : List ℕ
  pub is : bytes ≡ body ++ rest
  pub is_size : length body ≡ size
  pub reaches : place_after_bytes (at_name format) rest ≡ Some place

inside_of : (inner place : Place) → Some inner ≡ Some place → is_inside inner ≡ true → is_inside place ≡ true
inside_of inner place e inside = let same : inner ≡ place = cc in subst (λ (p : Place). is_inside p ≡ true) same inside

-- what is reached from the rest of a chunk is within it, or after it
rest_ends : (bytes : List ℕ) (left : ℕ) (format : Option Format) (place : Place) → 1 ≤ left → place_after_bytes (at.Chunk left format) bytes ≡ Some place →
    (is_inside place ≡ true) ⊎ Passes left format bytes place
rest_ends [] left format place some e = inl (inside_of (at.Chunk left format) place e refl)
rest_ends (b ∷ bytes) left format place some e = by (nat_lt 1 left) refl e (λ later f. rest_ends bytes (left - 1) format place later f) where
  by : (t : Bool) → nat_lt 1 left ≡ t → place_after_bytes (if t then at.Chunk (left - 1) format else at_name format) bytes ≡ Some place →
      (1 ≤ left - 1 → place_after_bytes (at.Chunk (left - 1) format) bytes ≡ Some place → (is_inside place ≡ true) ⊎ Passes (left - 1) format bytes place) →
      (is_inside place ≡ true) ⊎ Passes left format (b ∷ bytes) place
  by true test f next =
      elim (next (grind (arith, nat_tests)) f) [
        | inl inside ↦ inl inside
        | inr w ↦ inr (record {
          body = b ∷ w.body;
          rest = w.rest;
          is = ap (λ (l : List ℕ). b ∷ l) w.is;
          is_size = let size : length w.body ≡ left - 1 = w.is_size in grind (arith, nat_tests);
          reaches = w.reaches;
        })
      ]
  by false test f next = inr (record { body = b ∷ []; rest = bytes; is = refl; is_size = grind (arith, nat_tests); reaches = f })

pub body_ends : (bytes : List ℕ) (count : ℕ) (format : Option Format) (place : Place) → place_after_bytes (chunk_start count format) bytes ≡ Some place →
    (is_inside place ≡ true) ⊎ Passes (count + count % 2) format bytes place
body_ends bytes count format place e = by (count + count % 2 == 0) refl e where
  by : (t : Bool) → (count + count % 2 == 0) ≡ t → place_after_bytes (if t then at_name format else at.Chunk (count + count % 2) format) bytes ≡ Some place →
      (is_inside place ≡ true) ⊎ Passes (count + count % 2) format bytes place
  by true test f = inr (record { body = []; rest = bytes; is = refl; is_size = grind (arith, nat_tests); reaches = f })
  by false test f = rest_ends bytes (count + count % 2) format place (grind (arith, nat_tests)) f

-- bytes that begin with the name of one of two chunks
pub record BeginsWith (name bytes : List ℕ) : Type 0 where
  pub rest : List ℕ
  pub is : bytes ≡ name ++ rest

-- bytes that begin with other chunks, and with the name `data` or `fmt ` after them
pub record Skips (format : Option Format) (bytes : List ℕ) (place : Place) : Type 0 where
  pub chunks : List Chunk
  pub rest : List ℕ
  pub is : bytes ≡ chunks_bytes chunks ++ rest
  pub others : AreOthers chunks
  pub reaches : place_after_bytes (at_name format) rest ≡ Some place
  pub begins : BeginsWith (codes "data") rest ⊎ BeginsWith (codes "fmt ") rest

-- one chunk more at the front
another : (name size : List ℕ) (count : ℕ) (bytes : List ℕ) (format : Option Format) (place : Place) → length name ≡ 4 → IsLittle count size → name ≢ codes "fmt " → name ≢ codes "data" →
    (p : Passes (count + count % 2) format bytes place) → Skips format p.rest place → Skips format (name ++ (size ++ bytes)) place
another name size count bytes format place is_name is_size no_format no_data p s =
    let body : List ℕ = take count p.body in
    let pad : List ℕ = drop count p.body in
    let whole : length p.body ≡ count + count % 2 = p.is_size in
    let count_is : length body ≡ count = simp length-take (omega arith) in
    let pad_is : length pad ≡ count % 2 = simp length-drop (omega arith) in
    let chunk : Chunk = record { name = name; size = size; body = body; pad = pad } in
    let is_chunk : IsChunk chunk = record {
      is_name = is_name;
      is_size = subst (λ (n : ℕ). IsLittle n size) (sym count_is) is_size;
      is_pad = pad_is ∙ ap (λ (n : ℕ). n % 2) (sym count_is);
    } in
    let parts : p.body ≡ body ++ pad = sym (take-append-drop count p.body) in
    let all : bytes ≡ body ++ (pad ++ (chunks_bytes s.chunks ++ s.rest)) =
    p.is ∙ ap (λ (l : List ℕ). l ++ p.rest) parts ∙ append_assoc body pad p.rest ∙ ap (λ (l : List ℕ). body ++ (pad ++ l)) s.is in
    record {
      chunks = chunk ∷ s.chunks;
      rest = s.rest;
      is = ap (λ (l : List ℕ). name ++ (size ++ l)) all ∙ sym (pieces chunk (chunks_bytes s.chunks ++ s.rest)) ∙ sym (append_assoc (chunk_bytes chunk) (chunks_bytes s.chunks) s.rest);
      others = (record { is = is_chunk; no_format = no_format; no_data = no_data }, s.others);
      reaches = s.reaches;
      begins = s.begins;
    }

-- what is reached from the name of a chunk is within a chunk, or after all other chunks
pub chunks_end : (most : ℕ) (bytes : List ℕ) (format : Option Format) (place : Place) → length bytes ≤ most → place_after_bytes (at_name format) bytes ≡ Some place →
    (is_inside place ≡ true) ⊎ Skips format bytes place
chunks_end zero (b ∷ rest) format place few e = absurd (omega arith)
chunks_end (suc most) (a ∷ b ∷ c ∷ d ∷ bytes) format place few e =
    by (bytes_eq name (codes "fmt ")) refl (bytes_eq name (codes "data")) refl e (λ rest fewer f. chunks_end most rest format place fewer f) where
      name : List ℕ
      name = a ∷ b ∷ c ∷ d ∷ []

      sized : (rest : List ℕ) → length rest ≤ length bytes → name ≢ codes "fmt " → name ≢ codes "data" → place_after_bytes (field_start (field.Wave (wave.ChunkSize format))) rest ≡ Some place →
          ((l : List ℕ) → length l ≤ most → place_after_bytes (at_name format) l ≡ Some place → (is_inside place ≡ true) ⊎ Skips format l place) →
          (is_inside place ≡ true) ⊎ Skips format (a ∷ b ∷ c ∷ d ∷ rest) place
      sized (s0 ∷ s1 ∷ s2 ∷ s3 ∷ rest) shorter no_format no_data f next =
          let size : List ℕ = s0 ∷ s1 ∷ s2 ∷ s3 ∷ [] in
          elim (body_ends rest (from_le_bytes w32 size) format place f) [
            | inl inside ↦ inl inside
            | inr p ↦ let all : length rest ≡ length p.body + length p.rest = ap length p.is ∙ length-append p.body p.rest in
                elim (next p.rest (omega arith) p.reaches) [
                  | inl inside ↦ inl inside
                  | inr s ↦ inr (another (a ∷ b ∷ c ∷ d ∷ []) size (from_le_bytes w32 size) rest format place refl (record { size = refl; is = refl }) no_format no_data p s)
                ]
          ]
      sized rest shorter no_format no_data f next = inl (inside_of _ place f refl)

      begun : (text : List ℕ) → true ≡ bytes_eq name text → BeginsWith text (a ∷ b ∷ c ∷ d ∷ bytes)
      begun text is = record { rest = bytes; is = ap (λ (l : List ℕ). l ++ bytes) (same_text name text is) }

      at_once : BeginsWith (codes "data") (a ∷ b ∷ c ∷ d ∷ bytes) ⊎ BeginsWith (codes "fmt ") (a ∷ b ∷ c ∷ d ∷ bytes) → Skips format (a ∷ b ∷ c ∷ d ∷ bytes) place
      at_once begins = record { chunks = []; rest = a ∷ b ∷ c ∷ d ∷ bytes; is = refl; others = tt; reaches = e; begins = begins }

      by : (t : Bool) → bytes_eq name (codes "fmt ") ≡ t → (u : Bool) → bytes_eq name (codes "data") ≡ u →
          place_after_bytes (after_name (if t then kind.Format else if u then kind.Data else kind.Other) format) bytes ≡ Some place →
          ((l : List ℕ) → length l ≤ most → place_after_bytes (at_name format) l ≡ Some place → (is_inside place ≡ true) ⊎ Skips format l place) →
          (is_inside place ≡ true) ⊎ Skips format (a ∷ b ∷ c ∷ d ∷ bytes) place
      by true is_format u test f next = inr (at_once (inr (begun (codes "fmt ") (sym is_format))))
      by false no_format true is_data f next = inr (at_once (inl (begun (codes "data") (sym is_data))))
      by false no_format false no_data f next =
          sized bytes (omega arith) (other_text name (codes "fmt ") (sym no_format)) (other_text name (codes "data") (sym no_data)) f next
chunks_end most bytes format place few e = inl (inside_of _ place e refl)
