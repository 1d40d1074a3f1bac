-- What a client takes off the bytes that a server sends, message by message.
use Rattle.std.specs.Prelude.{ℕ, zero, suc, ◌==◌, if◌then◌else◌, List, [], take, drop, Result, Ok, Err, ok_or, option_map}
use Rattle.af_wire.specs.declared.order.Order.{Order}
use Rattle.af_wire.specs.declared.event.Event.{Event}
use Rattle.af_wire.specs.declared.message_front.MessageFront.{MessageFront}
use Rattle.af_wire.specs.declared.message_front.MessageFront.TheVariants.{NeedMore, Message, BadMessage}
use Rattle.af_wire.specs.Event.{event_in}
use Rattle.af_wire.specs.MessageFront.{message_front}
use Rattle.af_request.specs.Fields.{u8_at}
use Rattle.af_lib.specs.declared.fault.ConnFault.{ConnFault}
use Rattle.af_lib.specs.declared.fault.ConnFault.TheVariants as fault
use Rattle.af_lib.specs.Answers.{and_then, bad_reply}
use Rattle.af_lib.specs.Ring.{RingState, with_event}

-- a message: an event, or another one with all its bytes
pub data Incoming : Type 0 where
  event : Event → Incoming
  other : (bytes : List ℕ) → Incoming

-- what a complete message with a good header is; kind 2 is that of events, and such a message is bad if its body states none
abbrev pub message_in : Order → List ℕ → Result Incoming ConnFault
message_in order bytes =
    if u8_at 0 bytes == 2
    then ok_or (option_map event (event_in order (u8_at 1 bytes) (drop 8 bytes))) (bad_reply bytes)
    else Ok (other bytes)

-- the message at such a front of the input; if the input is too short for it, the link has ended
abbrev pub message_at : MessageFront → List ℕ → Result (List ℕ) ConnFault
message_at (NeedMore n) input = Err fault.LinkEnded
message_at (Message kind detail sequence n) input = Ok (take n input)
message_at BadMessage input = Err (bad_reply (take 8 input))

-- the input after that message: a bad header is taken alone; of a message that is cut off, all is taken
abbrev pub rest_at : MessageFront → List ℕ → List ℕ
rest_at (NeedMore n) input = []
rest_at (Message kind detail sequence n) input = drop n input
rest_at BadMessage input = drop 8 input

-- the first message of an input, to its end
unfoldable pub first_message : Order → List ℕ → Result (List ℕ) ConnFault
first_message order input = message_at (message_front order input) input

-- what it is
unfoldable pub incoming : Order → List ℕ → Result Incoming ConnFault
incoming order input = and_then (message_in order) (first_message order input)

-- the input after its first message
unfoldable pub after_message : Order → List ℕ → List ℕ
after_message order input = rest_at (message_front order input) input

-- where a client that awaits a message has come to: what it found, its ring of events, and the input that is left
pub record Awaited : Type 0 where
  pub found : Result (List ℕ) ConnFault
  pub ring : RingState
  pub rest : List ℕ

-- an event goes into the ring, and the next message is looked at; anything else is what was found
abbrev pub awaited_by : Result Incoming ConnFault → RingState → List ℕ → (RingState → Awaited) → Awaited
awaited_by (Ok (event e)) ring rest more = more (with_event e ring)
awaited_by (Ok (other bytes)) ring rest more = record { found = Ok bytes; ring = ring; rest = rest }
awaited_by (Err fault) ring rest more = record { found = Err fault; ring = ring; rest = rest }

-- the first message of an input that is no event, if fewer than n events come before it
unfoldable pub awaited_message : Order → ℕ → RingState → List ℕ → Awaited
awaited_message order zero ring input = record { found = Err fault.EventFlood; ring = ring; rest = input }
awaited_message order (suc n) ring input =
    awaited_by (incoming order input) ring (after_message order input)
    (λ r. awaited_message order n r (after_message order input))
