-- The front of a frame, and what the bytes begin with: each holds exactly if the other does.
use Rattle.std.proofs.Common.{◌≡◌, ◌<◌, ◌≤◌, ◌+◌, ◌-◌, ◌*◌, ◌⊎◌, ◌↔◌, ◌==◌, ◌||◌, nat_lt, inl, inr, ℕ, Bool, true, false, List, [], ◌∷◌, ◌++◌, length, take, drop, refl, sym, ap, ◌∙◌, subst, arith, length-take, append_assoc}
use Rattle.std.specs.Prelude.{if◌then◌else◌}
use Rattle.af_wire.specs.declared.order.Order.{Order}
use Rattle.std.proofs.lemmas.Bool.Decides.{nat_tests}
use Rattle.std.proofs.lemmas.List.{take-append-drop, length-append}
use Rattle.af_limits.specs.Limits.{most_words}
use Rattle.af_wire.specs.declared.front.Front.{Front}
use Rattle.af_wire.specs.declared.front.Front.TheVariants as frame
use Rattle.af_wire.specs.Front.{frame_front, frame_with}
use Rattle.af_wire.specs.Order.{u16_of}
use Rattle.af_wire.specs.Begins.{BeginsWith, StatesFrame, IsFrameLength, IsFrame, HasFront}

module _ (order : Order) where
  -- the first word, as it stands before any other bytes
  first_word : (opcode detail high low : ℕ) (rest : List ℕ) → StatesFrame order (u16_of order (high ∷ low ∷ [])) (opcode ∷ detail ∷ high ∷ low ∷ rest)
  first_word opcode detail high low rest = record {
    opcode = opcode;
    detail = detail;
    words_field = high ∷ low ∷ [];
    rest = rest;
    is = refl;
    is_words = record { size = refl; is = refl };
  }

  -- a frame that is all there
  whole : (opcode detail high low : ℕ) (tail : List ℕ) → (let words = u16_of order (high ∷ low ∷ []) in IsFrameLength words → 4 * words ≤ 4 + length tail →
      HasFront order (opcode ∷ detail ∷ high ∷ low ∷ tail) (frame.Frame (4 * words)))
  unfolding HasFront
  whole opcode detail high low tail fits room =
      let words : ℕ = u16_of order (high ∷ low ∷ []) in
      let some : 1 ≤ words = fits.0 in
      let body : List ℕ = take (4 * words - 4) tail in
      let piece : List ℕ = opcode ∷ detail ∷ high ∷ low ∷ body in
      let sum : length body ≡ 4 * words - 4 = simp length-take (omega arith) in
      let size : length piece ≡ 4 * words = omega arith in
      let begins : BeginsWith piece (opcode ∷ detail ∷ high ∷ low ∷ tail) = record {
        rest = drop (4 * words - 4) tail;
        is = ap (λ (t : List ℕ). opcode ∷ detail ∷ high ∷ low ∷ t) (sym (take-append-drop (4 * words - 4) tail));
      } in
      let is : IsFrame order piece = record { words = words; states = first_word opcode detail high low body; fits = fits; size = size } in
      (piece, begins, is, size)

  by_words : (opcode detail high low : ℕ) (tail : List ℕ) → (let words = u16_of order (high ∷ low ∷ []) in
      HasFront order (opcode ∷ detail ∷ high ∷ low ∷ tail) (frame_with words (length (opcode ∷ detail ∷ high ∷ low ∷ tail))))
  unfolding HasFront
  by_words opcode detail high low tail = by (words == 0) (nat_lt most_words words) (nat_lt there (4 * words)) refl refl refl where
    words : ℕ
    words = u16_of order (high ∷ low ∷ [])

    bytes : List ℕ
    bytes = opcode ∷ detail ∷ high ∷ low ∷ tail

    there : ℕ
    there = length bytes

    by : (a b less : Bool) → (words == 0) ≡ a → (nat_lt most_words words) ≡ b → nat_lt there (4 * words) ≡ less →
        HasFront order bytes (if a || b then frame.Malformed else if less then frame.NeedMore else frame.Frame (4 * words))
    by true b less e f g = (words, first_word opcode detail high low tail, inl (grind (arith, nat_tests)))
    by false true less e f g = (words, first_word opcode detail high low tail, inr (grind (arith, nat_tests)))
    by false false true e f g =
        inr (words, first_word opcode detail high low tail, (grind (arith, nat_tests), grind (arith, nat_tests)), grind (arith, nat_tests))
    by false false false e f g =
        let some : 1 ≤ words = grind (arith, nat_tests) in
        let most : words ≤ most_words = grind (arith, nat_tests) in
        let room : 4 * words ≤ there = grind (arith, nat_tests) in
        whole opcode detail high low tail (some, most) (omega arith)

  -- bytes have the front that is answered
  has_own : (bytes : List ℕ) → HasFront order bytes (frame_front order bytes)
  unfolding HasFront
  has_own (opcode ∷ detail ∷ high ∷ low ∷ tail) = by_words opcode detail high low tail
  has_own _ = inl (omega arith)

  of_fields : (opcode detail : ℕ) (words rest : List ℕ) → length words ≡ 2 →
      frame_front order (opcode ∷ detail ∷ (words ++ rest)) ≡ frame_with (u16_of order words) (length (opcode ∷ detail ∷ (words ++ rest)))
  of_fields opcode detail (a ∷ b ∷ []) rest two = refl
  of_fields opcode detail _ rest two = absurd (omega arith)

  stated : (words : ℕ) (bytes : List ℕ) → StatesFrame order words bytes → frame_front order bytes ≡ frame_with words (length bytes)
  stated words bytes s =
      ap (frame_front order) s.is ∙ of_fields s.opcode s.detail s.words_field s.rest s.is_words.size
      ∙ ap (λ n. frame_with n (length (s.opcode ∷ s.detail ∷ (s.words_field ++ s.rest)))) s.is_words.is
      ∙ ap (λ (b : List ℕ). frame_with words (length b)) (sym s.is)

  -- bytes state what the piece states that they begin with
  longer : (words : ℕ) (piece bytes : List ℕ) → StatesFrame order words piece → BeginsWith piece bytes → StatesFrame order words bytes
  longer words piece bytes s b = record {
    opcode = s.opcode;
    detail = s.detail;
    words_field = s.words_field;
    rest = s.rest ++ b.rest;
    is = b.is ∙ ap (λ (p : List ℕ). p ++ b.rest) s.is ∙ ap (λ (p : List ℕ). s.opcode ∷ s.detail ∷ p) (append_assoc s.words_field s.rest b.rest);
    is_words = s.is_words;
  }

  short : (bytes : List ℕ) → length bytes < 4 → frame_front order bytes ≡ frame.NeedMore
  short (a ∷ b ∷ c ∷ d ∷ rest) less = absurd (omega (arith, less))
  short _ less = refl

  cut : (words there : ℕ) → IsFrameLength words → there < 4 * words → frame_with words there ≡ frame.NeedMore
  cut words there fits less = grind (arith, nat_tests)

  whole_with : (words there n : ℕ) → IsFrameLength words → n ≡ 4 * words → n ≤ there → frame_with words there ≡ frame.Frame n
  whole_with words there n fits size room = grind (arith, nat_tests)

  malformed : (words there : ℕ) → (words ≡ 0) ⊎ (most_words < words) → frame_with words there ≡ frame.Malformed
  malformed words there (inl none) = grind (arith, nat_tests)
  malformed words there (inr more) = grind (arith, nat_tests)

  -- and no other front
  only_one : (bytes : List ℕ) (front : Front) → HasFront order bytes front → frame_front order bytes ≡ front
  unfolding HasFront
  only_one bytes frame.NeedMore (inl less) = short bytes less
  only_one bytes frame.NeedMore (inr h) = stated h.0 bytes h.1 ∙ cut h.0 (length bytes) h.2 h.3
  only_one bytes (frame.Frame n) h =
      let words : ℕ = h.2.words in
      let all : length h.0 ≡ n = h.3 in
      let size : length h.0 ≡ 4 * words = h.2.size in
      let there : length bytes ≡ length h.0 + length h.1.rest = ap length h.1.is ∙ length-append h.0 h.1.rest in
      stated words bytes (longer words h.0 bytes h.2.states h.1) ∙ whole_with words (length bytes) n h.2.fits (sym all ∙ size) (omega arith)
  only_one bytes frame.Malformed h = stated h.0 bytes h.1 ∙ malformed h.0 (length bytes) h.2

  pub frame_exactly : (bytes : List ℕ) (answer front : Front) → answer ≡ frame_front order bytes → (answer ≡ front) ↔ HasFront order bytes front
  unfolding HasFront
  frame_exactly bytes answer front is =
      ((λ e. subst (λ (f : Front). HasFront order bytes f) (sym is ∙ e) (has_own bytes)), λ h. is ∙ only_one bytes front h)
