-- Fronts of messages: what more bytes change, and what they do not.
use Rattle.std.proofs.Common.{◌≡◌, ℕ, ◌+◌, ◌*◌, ◌<◌, ◌≤◌, Bool, true, false, List, [], ◌∷◌, ◌++◌, length, refl, arith, nat_lt, sym, ◌∙◌, if◌then◌else◌}
use Rattle.std.proofs.lemmas.Bool.Decides.{nat_tests}
use Rattle.af_wire.specs.declared.order.Order.{Order}
use Rattle.af_wire.specs.declared.message_front.MessageFront.{MessageFront}
use Rattle.af_wire.specs.declared.message_front.MessageFront.TheVariants.{NeedMore, Message, BadMessage}
use Rattle.af_wire.specs.MessageFront.{is_head, message_front}
use Rattle.af_wire.specs.Order.{u16_of, u32_of}

-- the front of an input states a complete message of n bytes
pub record IsWhole (order : Order) (input : List ℕ) (n : ℕ) : Type 0 where
  pub kind : ℕ
  pub detail : ℕ
  pub sequence : ℕ
  pub front : message_front order input ≡ Message kind detail sequence n

-- an input that is too short for its first message
pub record IsCut (order : Order) (input : List ℕ) : Type 0 where
  pub length : ℕ
  pub front : message_front order input ≡ NeedMore length

-- the front that a header has, by whether it is good and how many bytes are there
abbrev front_by : (good : Bool) (k d s n there : ℕ) → MessageFront
front_by good k d s n there = if good then (if nat_lt there n then NeedMore n else Message k d s n) else BadMessage

-- the front of 8 bytes, and of these and others
record Headed (order : Order) (head rest : List ℕ) : Type 0 where
  good : Bool
  kind : ℕ
  detail : ℕ
  sequence : ℕ
  size : ℕ
  alone : message_front order head ≡ front_by good kind detail sequence size 8
  longer : message_front order (head ++ rest) ≡ front_by good kind detail sequence size (length (head ++ rest))
  more : 8 ≤ length (head ++ rest)

headed : (order : Order) (head rest : List ℕ) → length head ≡ 8 → Headed order head rest
headed order (a ∷ b ∷ c ∷ d ∷ e ∷ f ∷ g ∷ h ∷ []) rest eight =
    let words = u32_of order (e ∷ f ∷ g ∷ h ∷ []) in
    record { good = is_head a b words; kind = a; detail = b; sequence = u16_of order (c ∷ d ∷ []); size = 8 + 4 * words; alone = refl; longer = refl; more = omega arith }
headed order _ rest eight = absurd (omega (arith, eight))

-- the front of a header, once more bytes are there
more_by : (good : Bool) (k d s m there n : ℕ) → front_by good k d s m 8 ≡ NeedMore n → n ≤ there → front_by good k d s m there ≡ Message k d s n
more_by true k d s m there n e more = grind (arith, nat_tests)
more_by false k d s m there n e more = absurd cc

cut_by : (good : Bool) (k d s m there n : ℕ) → front_by good k d s m 8 ≡ NeedMore n → there < n → front_by good k d s m there ≡ NeedMore n
cut_by true k d s m there n e more = grind (arith, nat_tests)
cut_by false k d s m there n e more = absurd cc

bad_by : (good : Bool) (k d s m there : ℕ) → front_by good k d s m 8 ≡ BadMessage → front_by good k d s m there ≡ BadMessage
bad_by true k d s m there e = grind (arith, nat_tests)
bad_by false k d s m there e = refl

whole_by : (good : Bool) (k d s m there k' d' s' n : ℕ) → front_by good k d s m 8 ≡ Message k' d' s' n → 8 ≤ there → front_by good k d s m there ≡ Message k d s n
whole_by true k d s m there k' d' s' n e more = grind (arith, nat_tests)
whole_by false k d s m there k' d' s' n e more = absurd cc

module _ (order : Order) (head rest : List ℕ) (eight : length head ≡ 8) where
  -- a message that is wholly there, however much comes after it
  pub whole-longer : (n : ℕ) → message_front order head ≡ NeedMore n → n ≤ length (head ++ rest) → IsWhole order (head ++ rest) n
  whole-longer n front fits =
      let h = headed order head rest eight in
      record { kind = h.kind; detail = h.detail; sequence = h.sequence; front = h.longer ∙ more_by h.good _ _ _ h.size _ n (sym h.alone ∙ front) fits }

  -- a message that is cut off, whatever part of it is there
  pub cut-longer : (n : ℕ) → message_front order head ≡ NeedMore n → length (head ++ rest) < n → IsCut order (head ++ rest)
  cut-longer n front short = let h = headed order head rest eight in record { length = n; front = h.longer ∙ cut_by h.good h.kind h.detail h.sequence h.size _ n (sym h.alone ∙ front) short }

  -- a bad header, whatever comes after it
  pub bad-longer : message_front order head ≡ BadMessage → message_front order (head ++ rest) ≡ BadMessage
  bad-longer front = let h = headed order head rest eight in h.longer ∙ bad_by h.good h.kind h.detail h.sequence h.size _ (sym h.alone ∙ front)

  -- a message without a body, whatever comes after it
  pub head-longer : (k d s n : ℕ) → message_front order head ≡ Message k d s n → IsWhole order (head ++ rest) n
  head-longer k' d' s' n front =
      let h = headed order head rest eight in
      record { kind = h.kind; detail = h.detail; sequence = h.sequence; front = h.longer ∙ whole_by h.good _ _ _ h.size _ k' d' s' n (sym h.alone ∙ front) h.more }

module _ (order : Order) where
  -- fewer than 8 bytes are cut off
  pub short-cut : (input : List ℕ) → length input < 8 → IsCut order input
  short-cut [] short = record { length = 8; front = refl }
  short-cut (a ∷ []) short = record { length = 8; front = refl }
  short-cut (a ∷ b ∷ []) short = record { length = 8; front = refl }
  short-cut (a ∷ b ∷ c ∷ []) short = record { length = 8; front = refl }
  short-cut (a ∷ b ∷ c ∷ d ∷ []) short = record { length = 8; front = refl }
  short-cut (a ∷ b ∷ c ∷ d ∷ e ∷ []) short = record { length = 8; front = refl }
  short-cut (a ∷ b ∷ c ∷ d ∷ e ∷ f ∷ []) short = record { length = 8; front = refl }
  short-cut (a ∷ b ∷ c ∷ d ∷ e ∷ f ∷ g ∷ []) short = record { length = 8; front = refl }
  short-cut (a ∷ b ∷ c ∷ d ∷ e ∷ f ∷ g ∷ h ∷ rest) short = absurd (omega (arith, short))
