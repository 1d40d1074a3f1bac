-- What a reader of .au files answers.
use Rattle.std.proofs.Common.{◌≡◌, ◌≢◌, ◌≤◌, ◌+◌, ◌-◌, ◌⊎◌, inl, inr, ℕ, Bool, true, false, nat_lt, Option, Some, None, List, [], ◌∷◌, ◌++◌, length, refl, sym, ap, ◌∙◌, subst, arith, append_assoc}
use Rattle.std.specs.Prelude.{if◌then◌else◌, codes, Result, Ok, Err}
use Rattle.std.specs.Int.{w32, from_be_bytes}
use Rattle.std.specs.Str.{bytes_eq}
use Rattle.std.specs.Cmp.Lexicographic.{same_text, other_text}
use Rattle.std.proofs.lemmas.Bool.Decides.{nat_tests}
use Rattle.std.proofs.lemmas.List.{append-nil}
use Rattle.af_sound.specs.declared.head.Coding.{Coding}
use Rattle.af_sound.specs.declared.head.SoundForm.TheVariants as form
use Rattle.af_sound.specs.declared.head.SoundHead.{SoundHead}
use Rattle.af_sound.specs.declared.head.SoundFault.{SoundFault}
use Rattle.af_sound.specs.declared.head.SoundFault.TheVariants.{BadMagic, BadHead, BadCoding, BadShape}
use Rattle.af_sound.specs.declared.head_reader.Place.{Place}
use Rattle.af_sound.specs.declared.head_reader.Place.TheVariants.{Annotation, Head, Bad}
use Rattle.af_sound.specs.declared.head_reader.Field.TheVariants as field
use Rattle.af_sound.specs.declared.au.AuField.TheVariants as au
use Rattle.af_sound.specs.declared.au.AuNumbers.{AuNumbers}
use Rattle.af_sound.specs.Fields.{has_shape, length_of, IsBig}
use Rattle.af_sound.specs.Au.{au_coding, HasAuFault, IsAuHead, StatesAu}
use Rattle.af_sound.specs.Reading.{au_coded, au_end, au_head, au_name, field_start, is_inside, place_after_bytes, start}
use Rattle.af_sound.proofs.ReachedLemmas.{bad_ends, different, field_read, head_ends, inside_says, Says, unsaid}

-- a whole annotation ends in the header
annotation_whole : (more : List ℕ) (left : ℕ) (head : SoundHead) → 1 ≤ left → length more ≡ left → place_after_bytes (Annotation left head) more ≡ Some (Head head)
annotation_whole [] left head some whole = absurd (omega arith)
annotation_whole (b ∷ []) left head some whole =
    let last : nat_lt 1 left ≡ false = grind (arith, nat_tests) in
    ap (λ (t : Bool). place_after_bytes (if t then Annotation (left - 1) head else Head head) []) last
annotation_whole (b ∷ c ∷ rest) left head some whole =
    let goes_on : nat_lt 1 left ≡ true = grind (arith, nat_tests) in
    ap (λ (t : Bool). place_after_bytes (if t then Annotation (left - 1) head else Head head) (c ∷ rest)) goes_on
    ∙ annotation_whole (c ∷ rest) (left - 1) head (omega arith) (omega arith)

-- and before its end there is no answer
annotation_ends : (more : List ℕ) (left : ℕ) (head : SoundHead) (place : Place) → 1 ≤ left → place_after_bytes (Annotation left head) more ≡ Some place →
    (is_inside place ≡ true) ⊎ ((Head head ≡ place) × (length more ≡ left))
annotation_ends [] left head place some e =
    let same : Annotation left head ≡ place = cc in
    inl (subst (λ (p : Place). is_inside p ≡ true) same refl)
annotation_ends (b ∷ rest) left head place some e = by (nat_lt 1 left) refl e (λ later f. annotation_ends rest (left - 1) head place later f) where
  by : (t : Bool) → nat_lt 1 left ≡ t → place_after_bytes (if t then Annotation (left - 1) head else Head head) rest ≡ Some place →
      (1 ≤ left - 1 → place_after_bytes (Annotation (left - 1) head) rest ≡ Some place → (is_inside place ≡ true) ⊎ ((Head head ≡ place) × (length rest ≡ left - 1))) →
      (is_inside place ≡ true) ⊎ ((Head head ≡ place) × (length (b ∷ rest) ≡ left))
  by true test f next =
      elim (next (grind (arith, nat_tests)) f) [
        | inl inside ↦ inl inside
        | inr w ↦ inr (w.0, let size : length rest ≡ left - 1 = w.1 in grind (arith, nat_tests))
      ]
  by false test f next =
      let ends : (rest ≡ []) × (Head head ≡ place) = head_ends head rest place f in
      let none : length rest ≡ 0 = ap length ends.0 in
      inr (ends.1, grind (arith, nat_tests))

-- six numbers are read
stated_reads : (n : AuNumbers) (channels : ℕ) (bytes more : List ℕ) → StatesAu n.offset n.size n.encoding n.rate channels bytes →
    place_after_bytes (start form.Au) (bytes ++ more) ≡ place_after_bytes (au_end n (au_head n channels)) more
stated_reads n channels bytes more s =
    let r5 : List ℕ = s.channels_field ++ more in
    let r4 : List ℕ = s.rate_field ++ r5 in
    let r3 : List ℕ = s.encoding_field ++ r4 in
    let r2 : List ℕ = s.size_field ++ r3 in
    let r1 : List ℕ = s.offset_field ++ r2 in
    let spelled : bytes ++ more ≡ codes ".snd" ++ r1 = ap (λ (b : List ℕ). b ++ more) s.is ∙ simp append_assoc in
    ap (λ (b : List ℕ). place_after_bytes (start form.Au) b) spelled
    ∙ field_read (field.Au au.Offset) s.offset_field r2 s.is_offset.size
    ∙ ap (λ (m : ℕ). place_after_bytes (field_start (field.Au (au.Size m))) r2) s.is_offset.is
    ∙ field_read (field.Au (au.Size n.offset)) s.size_field r3 s.is_size.size
    ∙ ap (λ (m : ℕ). place_after_bytes (field_start (field.Au (au.Encoding n.offset m))) r3) s.is_size.is
    ∙ field_read (field.Au (au.Encoding n.offset n.size)) s.encoding_field r4 s.is_encoding.size
    ∙ ap (λ (m : ℕ). place_after_bytes (field_start (field.Au (au.Rate n.offset n.size m))) r4) s.is_encoding.is
    ∙ field_read (field.Au (au.Rate n.offset n.size n.encoding)) s.rate_field r5 s.is_rate.size
    ∙ ap (λ (m : ℕ). place_after_bytes (field_start (field.Au (au.Channels (record { offset = n.offset; size = n.size; encoding = n.encoding; rate = m })))) r5) s.is_rate.is
    ∙ field_read (field.Au (au.Channels n)) s.channels_field more s.is_channels.size
    ∙ ap (λ (m : ℕ). place_after_bytes (au_end n (au_head n m)) more) s.is_channels.is

far_enough : (n : AuNumbers) (channels : ℕ) → 24 ≤ n.offset → au_head n channels ≡ au_coded n channels (au_coding n.encoding)
far_enough n channels far =
    let test : nat_lt n.offset 24 ≡ false = grind (arith, nat_tests) in
    ap (λ (t : Bool). if t then Err BadHead else au_coded n channels (au_coding n.encoding)) test

-- the numbers of a header mean what the header says
good_head : (n : AuNumbers) (channels : ℕ) (coding : Coding) → 24 ≤ n.offset → au_coding n.encoding ≡ Some coding → has_shape channels ≡ true →
    au_head n channels ≡ Ok (record { coding = coding; rate = n.rate; channels = channels; length = length_of n.size })
good_head n channels coding far is shape =
    far_enough n channels far ∙ ap (au_coded n channels) is
    ∙ ap (λ (t : Bool). if t then Ok (record { coding = coding; rate = n.rate; channels = channels; length = length_of n.size }) else Err (BadShape n.rate channels)) shape

head_whole : (n : AuNumbers) (head : SoundHead) (annotation : List ℕ) → n.offset ≡ 24 + length annotation → place_after_bytes (au_end n (Ok head)) annotation ≡ Some (Head head)
head_whole n head [] is =
    let test : nat_lt 24 n.offset ≡ false = grind (arith, nat_tests) in
    ap (λ (t : Bool). place_after_bytes (if t then Annotation (n.offset - 24) head else Head head) []) test
head_whole n head (b ∷ rest) is =
    let test : nat_lt 24 n.offset ≡ true = grind (arith, nat_tests) in
    ap (λ (t : Bool). place_after_bytes (if t then Annotation (n.offset - 24) head else Head head) (b ∷ rest)) test
    ∙ annotation_whole (b ∷ rest) (n.offset - 24) head (omega arith) (omega arith)

-- a header is read as that
pub au_head_read : (bytes : List ℕ) (head : SoundHead) → IsAuHead bytes head → place_after_bytes (start form.Au) bytes ≡ Some (Head head)
au_head_read bytes head h =
    let n : AuNumbers = record { offset = h.offset; size = h.size; encoding = h.encoding; rate = head.rate } in
    let far : 24 ≤ h.offset = omega (arith, h.is_offset) in
    let said : au_head n head.channels ≡ Ok head =
    good_head n head.channels head.coding far h.is_coding h.is_shape
    ∙ ap (λ (l : Option ℕ). Ok (record { coding = head.coding; rate = head.rate; channels = head.channels; length = l })) (sym h.is_length) in
    ap (λ (b : List ℕ). place_after_bytes (start form.Au) b) h.is ∙ stated_reads n head.channels h.numbers h.annotation h.states
    ∙ ap (λ (r : Result SoundHead SoundFault). place_after_bytes (au_end n r) h.annotation) said ∙ head_whole n head h.annotation h.is_offset

-- six numbers that are reported as bad
bad_numbers : (n : AuNumbers) (channels : ℕ) (bytes : List ℕ) (fault : SoundFault) → StatesAu n.offset n.size n.encoding n.rate channels bytes →
    au_head n channels ≡ Err fault → place_after_bytes (start form.Au) bytes ≡ Some (Bad fault)
bad_numbers n channels bytes fault s said =
    ap (λ (b : List ℕ). place_after_bytes (start form.Au) b) (sym (append-nil bytes)) ∙ stated_reads n channels bytes [] s
    ∙ ap (λ (r : Result SoundHead SoundFault). place_after_bytes (au_end n r) []) said

-- four bytes of another name
other_name : (bytes : List ℕ) → length bytes ≡ 4 → bytes ≢ codes ".snd" → place_after_bytes (start form.Au) bytes ≡ Some (Bad BadMagic)
other_name (a ∷ b ∷ c ∷ d ∷ []) four other =
    ap (λ (t : Bool). place_after_bytes (au_name t) []) (different (a ∷ b ∷ c ∷ d ∷ []) (codes ".snd") other)
other_name _ four other = absurd (omega arith)

-- a fault is read as that
pub au_fault_read : (bytes : List ℕ) (fault : SoundFault) → HasAuFault bytes fault → place_after_bytes (start form.Au) bytes ≡ Some (Bad fault)
au_fault_read bytes BadMagic h = other_name bytes h.0 h.1
au_fault_read bytes BadHead h =
    let n : AuNumbers = record { offset = h.offset; size = h.size; encoding = h.encoding; rate = h.rate } in
    let test : nat_lt h.offset 24 ≡ true = grind (arith, nat_tests, h.bad) in
    bad_numbers n h.channels bytes BadHead h.states
    (ap (λ (t : Bool). if t then Err BadHead else au_coded n h.channels (au_coding n.encoding)) test)
au_fault_read bytes (BadCoding tag bits) h =
    let n : AuNumbers = record { offset = h.0.offset; size = h.0.size; encoding = tag; rate = h.0.rate } in
    bad_numbers n h.0.channels bytes (BadCoding tag bits) h.0.states
    (far_enough n h.0.channels h.0.good_offset ∙ ap (au_coded n h.0.channels) h.0.bad ∙ ap (λ (b : ℕ). Err (BadCoding tag b)) (sym h.1))
au_fault_read bytes (BadShape rate channels) h =
    let n : AuNumbers = record { offset = h.offset; size = h.size; encoding = h.encoding; rate = rate } in
    bad_numbers n channels bytes (BadShape rate channels) h.states
    (far_enough n channels h.good_offset ∙ ap (au_coded n channels) h.good_coding
    ∙ ap (λ (t : Bool). if t then Ok (record { coding = h.coding; rate = rate; channels = channels; length = length_of h.size }) else Err (BadShape rate channels)) h.bad)

ended_well : (n : AuNumbers) (head : SoundHead) (bytes more : List ℕ) (place : Place) → 24 ≤ n.offset →
    ((annotation : List ℕ) → n.offset ≡ 24 + length annotation → IsAuHead (bytes ++ annotation) head) →
    place_after_bytes (au_end n (Ok head)) more ≡ Some place → Says form.Au (bytes ++ more) place
ended_well n head bytes more place far is e = by (nat_lt 24 n.offset) refl e where
  by : (t : Bool) → nat_lt 24 n.offset ≡ t → place_after_bytes (if t then Annotation (n.offset - 24) head else Head head) more ≡ Some place → Says form.Au (bytes ++ more) place
  by true test f =
      elim (annotation_ends more (n.offset - 24) head place (grind (arith, nat_tests)) f) [
        | inl inside ↦ inside_says form.Au (bytes ++ more) place inside
        | inr w ↦ subst (λ (p : Place). Says form.Au (bytes ++ more) p) w.0 (let size : length more ≡ n.offset - 24 = w.1 in is more (omega arith))
      ]
  by false test f =
      let ends : (more ≡ []) × (Head head ≡ place) = head_ends head more place f in
      let none : length more ≡ 0 = ap length ends.0 in
      subst (λ (p : Place). Says form.Au (bytes ++ more) p) ends.1 (is more (grind (arith, nat_tests)))

ended_badly : (bytes more : List ℕ) (fault : SoundFault) (place : Place) → HasAuFault bytes fault → place_after_bytes (Bad fault) more ≡ Some place → Says form.Au (bytes ++ more) place
ended_badly bytes more fault place has e =
    let ends : (more ≡ []) × (Bad fault ≡ place) = bad_ends fault more place e in
    let all : bytes ++ more ≡ bytes = ap (λ (m : List ℕ). bytes ++ m) ends.0 ∙ append-nil bytes in
    subst (λ (p : Place). Says form.Au (bytes ++ more) p) ends.1 (subst (λ (b : List ℕ). HasAuFault b fault) (sym all) has)

-- the answer after six numbers
numbers_say : (n : AuNumbers) (channels : ℕ) (bytes more : List ℕ) (place : Place) → StatesAu n.offset n.size n.encoding n.rate channels bytes →
    place_after_bytes (au_end n (au_head n channels)) more ≡ Some place → Says form.Au (bytes ++ more) place
numbers_say n channels bytes more place states e = by (nat_lt n.offset 24) refl e where
  by_shape : (coding : Coding) → 24 ≤ n.offset → au_coding n.encoding ≡ Some coding → (t : Bool) → has_shape channels ≡ t →
      place_after_bytes (au_end n (if t then Ok (record { coding = coding; rate = n.rate; channels = channels; length = length_of n.size }) else Err (BadShape n.rate channels))) more ≡ Some place →
      Says form.Au (bytes ++ more) place
  by_shape coding far is true test f =
      ended_well n (record { coding = coding; rate = n.rate; channels = channels; length = length_of n.size }) bytes more place far
      (λ annotation size. record {
        offset = n.offset;
        size = n.size;
        encoding = n.encoding;
        numbers = bytes;
        annotation = annotation;
        is = refl;
        states = states;
        is_offset = size;
        is_length = refl;
        is_coding = is;
        is_shape = test;
      }) f
  by_shape coding far is false test f =
      ended_badly bytes more (BadShape n.rate channels) place
      (record { offset = n.offset; size = n.size; encoding = n.encoding; coding = coding; states = states; good_offset = far; good_coding = is; bad = test }) f

  by_coding : 24 ≤ n.offset → (c : Option Coding) → au_coding n.encoding ≡ c → place_after_bytes (au_end n (au_coded n channels c)) more ≡ Some place → Says form.Au (bytes ++ more) place
  by_coding far (Some coding) is f = by_shape coding far is (has_shape channels) refl f
  by_coding far None is f =
      ended_badly bytes more (BadCoding n.encoding 0) place
      (record { offset = n.offset; size = n.size; rate = n.rate; channels = channels; states = states; good_offset = far; bad = is }, refl) f

  by : (t : Bool) → nat_lt n.offset 24 ≡ t → place_after_bytes (au_end n (if t then Err BadHead else au_coded n channels (au_coding n.encoding))) more ≡ Some place →
      Says form.Au (bytes ++ more) place
  by true test f =
      ended_badly bytes more BadHead place
      (record { offset = n.offset; size = n.size; encoding = n.encoding; rate = n.rate; channels = channels; states = states; bad = grind (arith, nat_tests) }) f
  by false test f = by_coding (grind (arith, nat_tests)) (au_coding n.encoding) refl f

-- four bytes as the number that they spell
own : (a b c d : ℕ) → IsBig (from_be_bytes w32 (a ∷ b ∷ c ∷ d ∷ [])) (a ∷ b ∷ c ∷ d ∷ [])
own a b c d = record { size = refl; is = refl }

-- the answer after the name
named_says : (rest : List ℕ) (place : Place) → place_after_bytes (field_start (field.Au au.Offset)) rest ≡ Some place → Says form.Au (codes ".snd" ++ rest) place
named_says (o0 ∷ o1 ∷ o2 ∷ o3 ∷ s0 ∷ s1 ∷ s2 ∷ s3 ∷ e0 ∷ e1 ∷ e2 ∷ e3 ∷ r0 ∷ r1 ∷ r2 ∷ r3 ∷ c0 ∷ c1 ∷ c2 ∷ c3 ∷ more) place e =
    let offset : List ℕ = o0 ∷ o1 ∷ o2 ∷ o3 ∷ [] in
    let size : List ℕ = s0 ∷ s1 ∷ s2 ∷ s3 ∷ [] in
    let encoding : List ℕ = e0 ∷ e1 ∷ e2 ∷ e3 ∷ [] in
    let rate : List ℕ = r0 ∷ r1 ∷ r2 ∷ r3 ∷ [] in
    let channels : List ℕ = c0 ∷ c1 ∷ c2 ∷ c3 ∷ [] in
    let n : AuNumbers = record { offset = from_be_bytes w32 offset; size = from_be_bytes w32 size; encoding = from_be_bytes w32 encoding; rate = from_be_bytes w32 rate } in
    numbers_say n (from_be_bytes w32 channels) (codes ".snd" ++ (offset ++ (size ++ (encoding ++ (rate ++ channels))))) more place
    (record {
      offset_field = offset;
      size_field = size;
      encoding_field = encoding;
      rate_field = rate;
      channels_field = channels;
      is = refl;
      is_offset = own o0 o1 o2 o3;
      is_size = own s0 s1 s2 s3;
      is_encoding = own e0 e1 e2 e3;
      is_rate = own r0 r1 r2 r3;
      is_channels = own c0 c1 c2 c3;
    }) e
named_says rest place e = unsaid form.Au (codes ".snd" ++ rest) _ place e refl

-- the place that is reached says what the bytes are
pub au_says : (bytes : List ℕ) (place : Place) → place_after_bytes (start form.Au) bytes ≡ Some place → Says form.Au bytes place
au_says (a ∷ b ∷ c ∷ d ∷ rest) place e = by (bytes_eq (a ∷ b ∷ c ∷ d ∷ []) (codes ".snd")) refl e where
  by : (t : Bool) → bytes_eq (a ∷ b ∷ c ∷ d ∷ []) (codes ".snd") ≡ t → place_after_bytes (au_name t) rest ≡ Some place → Says form.Au (a ∷ b ∷ c ∷ d ∷ rest) place
  by true test f =
      let name : (a ∷ b ∷ c ∷ d ∷ []) ≡ codes ".snd" = same_text (a ∷ b ∷ c ∷ d ∷ []) (codes ".snd") (sym test) in
      subst (λ (four : List ℕ). Says form.Au (four ++ rest) place) (sym name) (named_says rest place f)
  by false test f =
      ended_badly (a ∷ b ∷ c ∷ d ∷ []) rest BadMagic place (refl, other_text (a ∷ b ∷ c ∷ d ∷ []) (codes ".snd") (sym test)) f
au_says bytes place e = unsaid form.Au bytes _ place e refl
