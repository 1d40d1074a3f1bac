-- The front of a message, and what the bytes begin with: each holds exactly if the other does.
use Rattle.std.proofs.Common.{◌≡◌, ◌<◌, ◌≤◌, ◌+◌, ◌*◌, ◌↔◌, nat_lt, inl, inr, ℕ, Bool, true, false, List, [], ◌∷◌, ◌++◌, length, take, drop, refl, sym, ap, ◌∙◌, subst, arith, rules, length-take, append_assoc}
use Rattle.std.specs.Prelude.{IsTrue, if◌then◌else◌}
use Rattle.af_wire.specs.declared.order.Order.{Order}
use Rattle.std.proofs.lemmas.Bool.Decides.{nat_tests}
use Rattle.std.proofs.lemmas.List.{take-append-drop, length-append}
use Rattle.af_wire.specs.declared.message_front.MessageFront.{MessageFront}
use Rattle.af_wire.specs.declared.message_front.MessageFront.TheVariants.{NeedMore, Message, BadMessage}
use Rattle.af_wire.specs.MessageFront.{is_head, message_front, message_with}
use Rattle.af_wire.specs.Order.{u16_of, u32_of}
use Rattle.af_wire.specs.Begins.{BeginsWith, StatesHead, IsMessage, HasMessageFront}

module _ (order : Order) where
  -- the header, as it stands before any other bytes
  head_there : (kind detail a b c d e f : ℕ) (rest : List ℕ) →
      StatesHead order kind detail (u16_of order (a ∷ b ∷ [])) (u32_of order (c ∷ d ∷ e ∷ f ∷ [])) (kind ∷ detail ∷ a ∷ b ∷ c ∷ d ∷ e ∷ f ∷ rest)
  head_there kind detail a b c d e f rest = record {
    sequence_field = a ∷ b ∷ [];
    words_field = c ∷ d ∷ e ∷ f ∷ [];
    rest = rest;
    is = refl;
    is_sequence = record { size = refl; is = refl };
    is_words = record { size = refl; is = refl };
  }

  module _ (kind detail a b c d e f : ℕ) (tail : List ℕ) where
    -- a message that is all there
    whole : (let words = u32_of order (c ∷ d ∷ e ∷ f ∷ []) in IsTrue (is_head kind detail words) → 4 * words ≤ length tail →
        HasMessageFront order (kind ∷ detail ∷ a ∷ b ∷ c ∷ d ∷ e ∷ f ∷ tail) (Message kind detail (u16_of order (a ∷ b ∷ [])) (8 + 4 * words)))
    unfolding HasMessageFront
    whole good room =
        let words : ℕ = u32_of order (c ∷ d ∷ e ∷ f ∷ []) in
        let body : List ℕ = take (4 * words) tail in
        let piece : List ℕ = kind ∷ detail ∷ a ∷ b ∷ c ∷ d ∷ e ∷ f ∷ body in
        let sum : length body ≡ 4 * words = simp length-take (omega arith) in
        let size : length piece ≡ 8 + 4 * words = omega arith in
        let begins : BeginsWith piece (kind ∷ detail ∷ a ∷ b ∷ c ∷ d ∷ e ∷ f ∷ tail) = record {
          rest = drop (4 * words) tail;
          is = ap (λ (t : List ℕ). kind ∷ detail ∷ a ∷ b ∷ c ∷ d ∷ e ∷ f ∷ t) (sym (take-append-drop (4 * words) tail));
        } in
        let is : IsMessage order kind detail (u16_of order (a ∷ b ∷ [])) piece =
        record { words = words; states = head_there kind detail a b c d e f body; good = good; size = size } in
        (piece, begins, is, size)

    -- a message that is not all there, or whose header is bad
    by_tests : (good less : Bool) →
        (let words = u32_of order (c ∷ d ∷ e ∷ f ∷ []) in is_head kind detail words ≡ good → nat_lt (length (kind ∷ detail ∷ a ∷ b ∷ c ∷ d ∷ e ∷ f ∷ tail)) (8 + 4 * words) ≡ less →
        HasMessageFront order (kind ∷ detail ∷ a ∷ b ∷ c ∷ d ∷ e ∷ f ∷ tail)
        (if good then (if less then NeedMore (8 + 4 * words) else Message kind detail (u16_of order (a ∷ b ∷ [])) (8 + 4 * words)) else BadMessage))
    unfolding HasMessageFront
    by_tests true true g l = inr (record {
      kind = kind;
      detail = detail;
      sequence = u16_of order (a ∷ b ∷ []);
      words = u32_of order (c ∷ d ∷ e ∷ f ∷ []);
      states = head_there kind detail a b c d e f tail;
      good = g;
      size = refl;
      short = grind (arith, nat_tests);
    })
    by_tests true false g l = whole g (grind (arith, nat_tests))
    by_tests false less g l = search (rules, head_there kind detail a b c d e f tail)

  -- bytes have the front that is answered
  has_own : (bytes : List ℕ) → HasMessageFront order bytes (message_front order bytes)
  unfolding HasMessageFront
  has_own (kind ∷ detail ∷ a ∷ b ∷ c ∷ d ∷ e ∷ f ∷ tail) = by_tests kind detail a b c d e f tail _ _ refl refl
  has_own _ = inl (omega arith, refl)

  of_fields : (kind detail : ℕ) (sequence words rest : List ℕ) → length sequence ≡ 2 → length words ≡ 4 →
      message_front order (kind ∷ detail ∷ (sequence ++ (words ++ rest)))
      ≡ message_with kind detail (u16_of order sequence) (u32_of order words) (length (kind ∷ detail ∷ (sequence ++ (words ++ rest))))
  of_fields kind detail (a ∷ b ∷ []) (c ∷ d ∷ e ∷ f ∷ []) rest two four = refl
  of_fields kind detail _ _ rest two four = absurd (omega arith)

  stated : (kind detail sequence words : ℕ) (bytes : List ℕ) → StatesHead order kind detail sequence words bytes →
      message_front order bytes ≡ message_with kind detail sequence words (length bytes)
  stated kind detail sequence words bytes s =
      let there : ℕ = length (kind ∷ detail ∷ (s.sequence_field ++ (s.words_field ++ s.rest))) in
      ap (message_front order) s.is ∙ of_fields kind detail s.sequence_field s.words_field s.rest s.is_sequence.size s.is_words.size
      ∙ ap (λ n. message_with kind detail n (u32_of order s.words_field) there) s.is_sequence.is
      ∙ ap (λ n. message_with kind detail sequence n there) s.is_words.is
      ∙ ap (λ (b : List ℕ). message_with kind detail sequence words (length b)) (sym s.is)

  -- bytes state what the piece states that they begin with
  longer : (kind detail sequence words : ℕ) (piece bytes : List ℕ) → StatesHead order kind detail sequence words piece → BeginsWith piece bytes →
      StatesHead order kind detail sequence words bytes
  longer kind detail sequence words piece bytes s b = record {
    sequence_field = s.sequence_field;
    words_field = s.words_field;
    rest = s.rest ++ b.rest;
    is = b.is ∙ ap (λ (p : List ℕ). p ++ b.rest) s.is
        ∙ ap (λ (p : List ℕ). kind ∷ detail ∷ p) (append_assoc s.sequence_field (s.words_field ++ s.rest) b.rest ∙ ap (λ (p : List ℕ). s.sequence_field ++ p) (append_assoc s.words_field s.rest b.rest));
    is_sequence = s.is_sequence;
    is_words = s.is_words;
  }

  short : (bytes : List ℕ) → length bytes < 8 → message_front order bytes ≡ NeedMore 8
  short (a ∷ b ∷ c ∷ d ∷ e ∷ f ∷ g ∷ h ∷ rest) less = absurd (omega (arith, less))
  short _ less = refl

  cut : (good : Bool) (kind detail sequence m n there : ℕ) → IsTrue good → n ≡ m → there < n →
      (if good then (if nat_lt there m then NeedMore m else Message kind detail sequence m) else BadMessage) ≡ NeedMore n
  cut true kind detail sequence m n there good size less = grind (arith, nat_tests)
  cut false kind detail sequence m n there good size less = absurd cc

  all_there : (good : Bool) (kind detail sequence m n there : ℕ) → IsTrue good → n ≡ m → n ≤ there →
      (if good then (if nat_lt there m then NeedMore m else Message kind detail sequence m) else BadMessage) ≡ Message kind detail sequence n
  all_there true kind detail sequence m n there good size room = grind (arith, nat_tests)
  all_there false kind detail sequence m n there good size room = absurd cc

  -- and no other front
  only_one : (bytes : List ℕ) (front : MessageFront) → HasMessageFront order bytes front → message_front order bytes ≡ front
  unfolding HasMessageFront
  only_one bytes (NeedMore n) (inl h) = short bytes h.0 ∙ ap NeedMore (sym h.1)
  only_one bytes (NeedMore n) (inr h) =
      stated h.kind h.detail h.sequence h.words bytes h.states
      ∙ cut (is_head h.kind h.detail h.words) h.kind h.detail h.sequence (8 + 4 * h.words) n (length bytes) h.good h.size h.short
  only_one bytes (Message kind detail sequence n) h =
      let words : ℕ = h.2.words in
      let size : length h.0 ≡ 8 + 4 * words = h.2.size in
      let all : length h.0 ≡ n = h.3 in
      let there : length bytes ≡ length h.0 + length h.1.rest = ap length h.1.is ∙ length-append h.0 h.1.rest in
      stated kind detail sequence words bytes (longer kind detail sequence words h.0 bytes h.2.states h.1)
      ∙ all_there (is_head kind detail words) kind detail sequence (8 + 4 * words) n (length bytes) h.2.good (sym all ∙ size) (omega arith)
  only_one bytes BadMessage h =
      stated h.kind h.detail h.sequence h.words bytes h.states
      ∙ ap (λ b. if b then (if nat_lt (length bytes) (8 + 4 * h.words) then NeedMore (8 + 4 * h.words) else Message h.kind h.detail h.sequence (8 + 4 * h.words)) else BadMessage) h.bad

  pub message_exactly : (bytes : List ℕ) (answer front : MessageFront) → answer ≡ message_front order bytes → (answer ≡ front) ↔ HasMessageFront order bytes front
  message_exactly bytes answer front is =
      ((λ e. subst (λ (f : MessageFront). HasMessageFront order bytes f) (sym is ∙ e) (has_own bytes)), λ h. is ∙ only_one bytes front h)
