-- The front of the bytes that a server sends: a message, a part of one, or none.
use Rattle.std.specs.Prelude.{◌≡◌, ℕ, ◌<◌, ◌≤◌, ◌+◌, ◌*◌, Bool, false, ◌==◌, ◌&&◌, ◌||◌, nat_le, nat_lt, if◌then◌else◌, List, [], ◌∷◌, ◌++◌, length}
use Rattle.af_limits.specs.Limits.{longest_message}
use Rattle.af_wire.specs.declared.order.Order.{Order}
use Rattle.af_wire.specs.declared.message_front.MessageFront.{MessageFront}
use Rattle.af_wire.specs.declared.message_front.MessageFront.TheVariants.{NeedMore, Message, BadMessage}
use Rattle.af_wire.specs.Order.{u16_of, u32_of}

-- whether a client accepts this as the header of a message: an error of a known code, the reply to a setup or to a known opcode,
-- or a known event, each with a length that such a message may have
abbrev pub is_head : ℕ → ℕ → ℕ → Bool
is_head kind detail words =
    if kind == 0 then nat_le 1 detail && nat_le detail 8 && words == 2
    else if kind == 1 then (detail == 0 || (nat_le 2 detail && nat_le detail 12)) && nat_le words 4002
    else if kind == 2 then (detail == 1 || detail == 2 || detail == 4 || detail == 8) && words == 3
    else false

-- the front of n bytes that begin with these fields of a header
abbrev pub message_with : ℕ → ℕ → ℕ → ℕ → ℕ → MessageFront
message_with kind detail sequence words there =
    if is_head kind detail words
    then (if nat_lt there (8 + 4 * words) then NeedMore (8 + 4 * words) else Message kind detail sequence (8 + 4 * words))
    else BadMessage

-- what the bytes begin with; if more are needed, the length to which they must grow
abbrev pub message_front : Order → List ℕ → MessageFront
message_front order (kind ∷ detail ∷ s0 ∷ s1 ∷ w0 ∷ w1 ∷ w2 ∷ w3 ∷ rest) =
    message_with kind detail (u16_of order (s0 ∷ s1 ∷ [])) (u32_of order (w0 ∷ w1 ∷ w2 ∷ w3 ∷ []))
    (length (kind ∷ detail ∷ s0 ∷ s1 ∷ w0 ∷ w1 ∷ w2 ∷ w3 ∷ rest))
message_front order _ = NeedMore 8

-- bytes that are one message, whatever follows them
unfoldable pub IsOneMessage : Order → (kind detail sequence : ℕ) → List ℕ → Type 0
IsOneMessage order kind detail sequence bytes = (rest : List ℕ) →
    message_front order (bytes ++ rest) ≡ Message kind detail sequence (length bytes)

-- more is needed than is there, and at most what the longest message has; or a message is there; or a bad header is there
abbrev pub IsMessageWithin : MessageFront → ℕ → Type 0
IsMessageWithin (NeedMore n) there = (there < n) × (8 ≤ n) × (n ≤ longest_message)
IsMessageWithin (Message kind detail sequence n) there = (8 ≤ n) × (n ≤ there) × (n ≤ longest_message)
IsMessageWithin BadMessage there = 8 ≤ there
