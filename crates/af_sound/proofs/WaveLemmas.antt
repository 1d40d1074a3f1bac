-- What a reader of WAVE files answers.
use Rattle.std.proofs.Common.{◌≡◌, ◌<◌, ◌-◌, inl, inr, ℕ, Bool, true, false, nat_lt, Option, Some, None, List, [], ◌∷◌, ◌++◌, length, refl, sym, ap, ◌∙◌, arith, append_assoc}
use Rattle.std.specs.Prelude.{if◌then◌else◌, ◌&&◌, codes, Result, Ok, Err}
use Rattle.std.specs.Str.{bytes_eq}
use Rattle.std.specs.Cmp.Lexicographic.{same_text}
use Rattle.std.proofs.lemmas.Bool.Decides.{nat_tests}
use Rattle.std.proofs.lemmas.List.{append-nil}
use Rattle.af_sound.specs.declared.head.Coding.{Coding}
use Rattle.af_sound.specs.declared.head.SoundForm.TheVariants as form
use Rattle.af_sound.specs.declared.head.SoundHead.{SoundHead}
use Rattle.af_sound.specs.declared.head.SoundFault.{SoundFault}
use Rattle.af_sound.specs.declared.head.SoundFault.TheVariants.{BadMagic, BadHead, BadCoding, BadShape}
use Rattle.af_sound.specs.declared.head_reader.Place.TheVariants as at
use Rattle.af_sound.specs.declared.head_reader.Field.TheVariants as field
use Rattle.af_sound.specs.declared.wave.WaveField.TheVariants as wave
use Rattle.af_sound.specs.declared.wave.Format.{Format}
use Rattle.af_sound.specs.declared.wave.FormatFields.{FormatFields}
use Rattle.af_sound.specs.Wave.{chunk_bytes, chunks_bytes, HasDataFirst, HasSecondFormat, HasShortFormat, HasWaveFault, IsBeforeFormat, IsAfterFormat, IsRiff, IsWaveHead, StatesSound}
use Rattle.af_sound.specs.Reading.{field_start, format_coded, format_end, format_of, format_size, head_with, place_after_bytes, start, wave_name}
use Rattle.af_sound.proofs.ReachedLemmas.{field_read}
use Rattle.af_sound.proofs.ChunkLemmas.{at_name, others_pass}
use Rattle.af_sound.proofs.FormatLemmas.{format_passes, sixteen_read, size_read}

-- the front is passed
riff_passes : (riff more : List ℕ) → IsRiff riff → place_after_bytes (start form.Wave) (riff ++ more) ≡ place_after_bytes (at_name None) more
riff_passes riff more r =
    let spelled : riff ++ more ≡ codes "RIFF" ++ (r.size ++ (codes "WAVE" ++ more)) = ap (λ (b : List ℕ). b ++ more) r.is ∙ simp append_assoc in
    ap (λ (b : List ℕ). place_after_bytes (start form.Wave) b) spelled ∙ field_read (field.Wave (wave.RiffSize true)) r.size (codes "WAVE" ++ more) r.is_size

pub before_passes : (front more : List ℕ) → IsBeforeFormat front → place_after_bytes (start form.Wave) (front ++ more) ≡ place_after_bytes (at_name None) more
before_passes front more b =
    let spelled : front ++ more ≡ b.riff ++ (chunks_bytes b.chunks ++ more) =
    ap (λ (l : List ℕ). l ++ more) b.is ∙ append_assoc b.riff (chunks_bytes b.chunks) more in
    ap (λ (l : List ℕ). place_after_bytes (start form.Wave) l) spelled ∙ riff_passes b.riff (chunks_bytes b.chunks ++ more) b.is_riff
    ∙ others_pass b.chunks more None b.others

after_passes : (coding : Coding) (rate channels : ℕ) (front more : List ℕ) → IsAfterFormat coding rate channels front →
    place_after_bytes (start form.Wave) (front ++ more) ≡ place_after_bytes (at_name (Some (record { coding = coding; rate = rate; channels = channels }))) more
after_passes coding rate channels front more b =
    let rest : List ℕ = chunks_bytes b.after ++ more in
    let spelled : front ++ more ≡ b.before ++ (chunk_bytes b.format ++ rest) =
    ap (λ (l : List ℕ). l ++ more) b.is ∙ append_assoc b.before (chunk_bytes b.format ++ chunks_bytes b.after) more
    ∙ ap (λ (l : List ℕ). b.before ++ l) (append_assoc (chunk_bytes b.format) (chunks_bytes b.after) more) in
    ap (λ (l : List ℕ). place_after_bytes (start form.Wave) l) spelled ∙ before_passes b.before (chunk_bytes b.format ++ rest) b.is_before
    ∙ format_passes b.format coding rate channels rest b.is_format
    ∙ others_pass b.after more (Some (record { coding = coding; rate = rate; channels = channels })) b.others

-- a header is read as that
pub wave_head_read : (bytes : List ℕ) (head : SoundHead) → IsWaveHead bytes head → place_after_bytes (start form.Wave) bytes ≡ Some (at.Head head)
wave_head_read bytes head h =
    let format : Format = record { coding = head.coding; rate = head.rate; channels = head.channels } in
    ap (λ (l : List ℕ). place_after_bytes (start form.Wave) l) h.is ∙ after_passes head.coding head.rate head.channels h.front (codes "data" ++ h.size_field) h.is_front
    ∙ ap (λ (l : List ℕ). place_after_bytes (field_start (field.Wave (wave.DataSize format))) l) (sym (append-nil h.size_field))
    ∙ field_read (field.Wave (wave.DataSize format)) h.size_field [] h.is_size.size
    ∙ ap (λ (n : ℕ). Some (at.Head (head_with format n))) h.is_size.is
    ∙ ap (λ (l : Option ℕ). Some (at.Head (record { coding = head.coding; rate = head.rate; channels = head.channels; length = l }))) (sym h.is_length)

data_first_read : (bytes : List ℕ) → HasDataFirst bytes → place_after_bytes (start form.Wave) bytes ≡ Some (at.Bad BadHead)
data_first_read bytes h = ap (λ (l : List ℕ). place_after_bytes (start form.Wave) l) h.is ∙ before_passes h.front (codes "data") h.is_front

second_format_read : (bytes : List ℕ) → HasSecondFormat bytes → place_after_bytes (start form.Wave) bytes ≡ Some (at.Bad BadHead)
second_format_read bytes h =
    ap (λ (l : List ℕ). place_after_bytes (start form.Wave) l) h.is ∙ after_passes h.coding h.rate h.channels h.front (codes "fmt ") h.is_front

short_format_read : (bytes : List ℕ) → HasShortFormat bytes → place_after_bytes (start form.Wave) bytes ≡ Some (at.Bad BadHead)
short_format_read bytes h =
    let low : h.size < 16 = h.bad in
    let test : nat_lt h.size 16 ≡ true = grind (arith, nat_tests) in
    ap (λ (l : List ℕ). place_after_bytes (start form.Wave) l) h.is ∙ before_passes h.front (codes "fmt " ++ h.size_field) h.is_front
    ∙ ap (λ (l : List ℕ). place_after_bytes (field_start (field.Wave wave.FormatSize)) l) (sym (append-nil h.size_field))
    ∙ field_read (field.Wave wave.FormatSize) h.size_field [] h.is_size.size ∙ ap (λ (n : ℕ). place_after_bytes (format_size n) []) h.is_size.is
    ∙ ap (λ (t : Bool). place_after_bytes (if t then at.Bad BadHead else field_start (field.Wave (wave.FormatTag (h.size - 16)))) []) test

sound_read : (tag channels rate bits : ℕ) (bytes : List ℕ) (fault : SoundFault) → (s : StatesSound tag channels rate bits bytes) →
    format_of (record { more = s.size - 16; tag = tag; channels = channels; rate = rate }) bits ≡ Err fault → place_after_bytes (start form.Wave) bytes ≡ Some (at.Bad fault)
sound_read tag channels rate bits bytes fault s said =
    let fields : FormatFields = record { more = s.size - 16; tag = tag; channels = channels; rate = rate } in
    ap (λ (l : List ℕ). place_after_bytes (start form.Wave) l) s.is ∙ before_passes s.front (codes "fmt " ++ (s.size_field ++ s.format)) s.is_front
    ∙ size_read s.size s.size_field s.format s.is_size s.good_size
    ∙ ap (λ (l : List ℕ). place_after_bytes (field_start (field.Wave (wave.FormatTag (s.size - 16)))) l) (sym (append-nil s.format))
    ∙ sixteen_read fields bits s.format [] s.states ∙ ap (λ (r : Result Format SoundFault). place_after_bytes (format_end fields r) []) said

-- twelve bytes that are no front
twelve : (a b c d e f g h i j k l : ℕ) → (IsRiff (a ∷ b ∷ c ∷ d ∷ e ∷ f ∷ g ∷ h ∷ i ∷ j ∷ k ∷ l ∷ []) → ⊥) →
    (bytes_eq (a ∷ b ∷ c ∷ d ∷ []) (codes "RIFF") && bytes_eq (i ∷ j ∷ k ∷ l ∷ []) (codes "WAVE")) ≡ false
twelve a b c d e f g h i j k l not_riff = by (bytes_eq (a ∷ b ∷ c ∷ d ∷ []) (codes "RIFF")) refl (bytes_eq (i ∷ j ∷ k ∷ l ∷ []) (codes "WAVE")) refl where
  by : (t : Bool) → bytes_eq (a ∷ b ∷ c ∷ d ∷ []) (codes "RIFF") ≡ t → (u : Bool) → bytes_eq (i ∷ j ∷ k ∷ l ∷ []) (codes "WAVE") ≡ u → (t && u) ≡ false
  by true riff true wave =
      let front : (a ∷ b ∷ c ∷ d ∷ []) ≡ codes "RIFF" = same_text (a ∷ b ∷ c ∷ d ∷ []) (codes "RIFF") (sym riff) in
      let back : (i ∷ j ∷ k ∷ l ∷ []) ≡ codes "WAVE" = same_text (i ∷ j ∷ k ∷ l ∷ []) (codes "WAVE") (sym wave) in
      absurd (not_riff (record {
        size = e ∷ f ∷ g ∷ h ∷ [];
        is = ap (λ (x : List ℕ). x ++ (e ∷ f ∷ g ∷ h ∷ i ∷ j ∷ k ∷ l ∷ [])) front ∙ ap (λ (x : List ℕ). codes "RIFF" ++ ((e ∷ f ∷ g ∷ h ∷ []) ++ x)) back;
        is_size = refl;
      }))
  by true riff false wave = refl
  by false riff u wave = refl

no_riff_read : (bytes : List ℕ) → length bytes ≡ 12 → (IsRiff bytes → ⊥) → place_after_bytes (start form.Wave) bytes ≡ Some (at.Bad BadMagic)
no_riff_read (a ∷ b ∷ c ∷ d ∷ e ∷ f ∷ g ∷ h ∷ i ∷ j ∷ k ∷ l ∷ []) twelve_bytes not_riff =
    ap (λ (t : Bool). place_after_bytes (wave_name t) []) (twelve a b c d e f g h i j k l not_riff)
no_riff_read _ twelve_bytes not_riff = absurd (omega arith)

-- a fault is read as that
pub wave_fault_read : (bytes : List ℕ) (fault : SoundFault) → HasWaveFault bytes fault → place_after_bytes (start form.Wave) bytes ≡ Some (at.Bad fault)
wave_fault_read bytes BadMagic h = no_riff_read bytes h.0 h.1
wave_fault_read bytes BadHead (inl h) = data_first_read bytes h
wave_fault_read bytes BadHead (inr (inl h)) = second_format_read bytes h
wave_fault_read bytes BadHead (inr (inr h)) = short_format_read bytes h
wave_fault_read bytes (BadCoding tag bits) h =
    sound_read tag h.channels h.rate bits bytes (BadCoding tag bits) h.states
    (ap (format_coded (record { more = h.states.size - 16; tag = tag; channels = h.channels; rate = h.rate }) bits) h.bad)
wave_fault_read bytes (BadShape rate channels) h =
    sound_read h.tag channels rate h.bits bytes (BadShape rate channels) h.states
    (ap (format_coded (record { more = h.states.size - 16; tag = h.tag; channels = channels; rate = rate }) h.bits) h.good_coding
    ∙ ap (λ (t : Bool). if t then Ok (record { coding = h.coding; rate = rate; channels = channels }) else Err (BadShape rate channels)) h.bad)
