-- What a message answers to a request of a client.
use Rattle.std.specs.Prelude.{ℕ, ◌-◌, ◌==◌, ◌&&◌, if◌then◌else◌, List, [], ◌∷◌, ◌++◌, length, take, drop, replicate}
use Rattle.std.specs.Prelude.{Option, Some, None, Result, Ok, Err, ok_or, option_map, unwrap_or}
use Rattle.af_wire.specs.declared.order.Order.{Order}
use Rattle.af_wire.specs.Order.{u32_of}
use Rattle.af_request.specs.Fields.{u8_at, u16_at}
use Rattle.af_lib.specs.declared.fault.ConnFault.{ConnFault}
use Rattle.af_lib.specs.declared.fault.ConnFault.TheVariants as fault

-- the first 8 bytes of a body, filled with zeros
abbrev pub first_bytes : List ℕ → List ℕ
first_bytes body = take 8 body ++ replicate (8 - length body) 0

-- a message that does not answer, or a bad header: it is shown by its first 8 bytes and those after them
abbrev pub bad_reply : List ℕ → ConnFault
bad_reply bytes = fault.BadReply (take 8 bytes) (first_bytes (drop 8 bytes))

-- the value that an error refuses, if its body is that of an error to a request of this opcode: the value, the opcode, and three
-- zeros
abbrev pub refused_in : Order → ℕ → List ℕ → Option ℕ
refused_in order opcode (a ∷ b ∷ c ∷ d ∷ asked ∷ x ∷ y ∷ z ∷ []) =
    if asked == opcode && x == 0 && y == 0 && z == 0 then Some (u32_of order (a ∷ b ∷ c ∷ d ∷ [])) else None
refused_in order opcode _ = None

-- The answer to a request with this opcode and number, in a message that is no event: the message itself if it is the reply, the
-- error if it is one to that request, and else a bad reply.
abbrev pub answer_to : Order → ℕ → ℕ → List ℕ → Result (List ℕ) ConnFault
answer_to order opcode sequence bytes =
    if u16_at order 2 bytes == sequence && u8_at 0 bytes == 1 && u8_at 1 bytes == opcode then Ok bytes
    else if u16_at order 2 bytes == sequence && u8_at 0 bytes == 0
    then Err (unwrap_or (option_map (fault.ServerError (u8_at 1 bytes)) (refused_in order opcode (drop 8 bytes)))
    (bad_reply bytes))
    else Err (bad_reply bytes)

-- the value that the body of a reply states, or a bad reply
abbrev pub value_or_bad : {X : Type 0} → List ℕ → Option X → Result X ConnFault
value_or_bad bytes value = ok_or value (bad_reply bytes)

-- a step that may fail, and the one after it
abbrev pub and_then : {X Y : Type 0} → (X → Result Y ConnFault) → Result X ConnFault → Result Y ConnFault
and_then f (Ok x) = f x
and_then f (Err e) = Err e
