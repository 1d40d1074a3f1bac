-- What a client takes off the replies to its requests.
use Rattle.std.proofs.Common.{◌≡◌, ◌≤◌, ◌<◌, ◌⊎◌, inl, inr, ℕ, suc, ◌+◌, ◌*◌, ◌^◌, ◌==◌, ◌&&◌, Bool, true, false, cond, List, [], ◌∷◌, ◌++◌, length, take, drop, nat_lt, ok_or, option_and_then, option_map, length-append, refl, sym, ap, ◌∙◌, arith, Ok, Err}
use Rattle.std.proofs.lemmas.Bool.Decides.{nat_tests}
use Rattle.std.proofs.lemmas.List.{take-append-le, drop-append-le}
use Rattle.std.proofs.Math.Seq.{take-append_seam, drop-append_seam}
use Rattle.std.specs.declared.option.Option.{Option}
use Rattle.std.specs.declared.option.Option.TheVariants.{None, Some}
use Rattle.af_limits.specs.Limits.{most_events}
use Rattle.af_wire.specs.declared.order.Order.{Order}
use Rattle.af_wire.specs.declared.order.Order.TheVariants.{Big, Little}
use Rattle.af_wire.specs.declared.message_front.MessageFront.{MessageFront}
use Rattle.af_wire.specs.declared.message_front.MessageFront.TheVariants.{NeedMore, Message, BadMessage}
use Rattle.af_wire.specs.Message.{head}
use Rattle.af_wire.specs.MessageFront.{IsOneMessage, is_head, message_front}
use Rattle.af_wire.specs.Order.{u16_of, u32_of}
use Rattle.af_wire.proofs.OrderLemmas.{u16_again}
use Rattle.af_request.specs.Asked.{Asked}
use Rattle.af_request.specs.Answer.{Answer}
use Rattle.af_request.specs.Fields.{u16_at, u8_at}
use Rattle.af_request.specs.Replies.{IsReplyTo, reply_bytes}
use Rattle.af_request.proofs.ReplyMessageLemmas.{reply_one}
use Rattle.af_request.proofs.ReplyRoundTrips.{spelled_again}
use Rattle.af_lib.specs.declared.fault.ConnFault.TheVariants as fault
use Rattle.af_lib.specs.Ring.{RingState}
use Rattle.af_wire.specs.Event.{event_in}
use Rattle.af_lib.specs.Incoming.{Awaited, event, other, after_message, awaited_by, awaited_message, first_message, incoming, message_at, message_in, rest_at}
use Rattle.af_lib.specs.Answers.{and_then, answer_to, bad_reply, value_or_bad}
use Rattle.af_lib.specs.Calls.{answer_of, next_sequence, opcode_of, value_in}
use Rattle.af_toolkit.specs.Trace.{ClientState, after_reply, answer_on, next_message}
use Rattle.af_model.proofs.BoolTestLemmas.{same_number}

-- What a message is stays so if more comes

abbrev front_by : (good : Bool) (k d s n there : ℕ) → MessageFront
front_by good k d s n there = cond good (cond (nat_lt there n) (NeedMore n) (Message k d s n)) BadMessage

abbrev StaysSo : MessageFront → MessageFront → (there : ℕ) → Type 0
StaysSo (NeedMore n) f there = Unit {0}
StaysSo (Message k d s n) f there = (f ≡ Message k d s n) × (n ≤ there)
StaysSo BadMessage f there = f ≡ BadMessage

front_stays : (good : Bool) (k d s n there more : ℕ) → there ≤ more → StaysSo (front_by good k d s n there) (front_by good k d s n more) there
front_stays false k d s n there more le = refl
front_stays true k d s n there more le =
    elim (nat_lt there n) as (λ t. nat_lt there n ≡ t → StaysSo (cond t (NeedMore n) (Message k d s n)) (cond (nat_lt more n) (NeedMore n) (Message k d s n)) there) [
      | true ↦ λ e. tt
      | false ↦ λ e. (ap (λ t. cond t (NeedMore n) (Message k d s n)) (still e), least e)
    ] refl
  where
    still : nat_lt there n ≡ false → nat_lt more n ≡ false
    still e = grind (arith, nat_tests)

    least : nat_lt there n ≡ false → n ≤ there
    least e = grind (arith, nat_tests)

message_stays : (order : Order) (xs ys : List ℕ) → StaysSo (message_front order xs) (message_front order (xs ++ ys)) (length xs)
message_stays order [] ys = tt
message_stays order (a ∷ []) ys = tt
message_stays order (a ∷ b ∷ []) ys = tt
message_stays order (a ∷ b ∷ c ∷ []) ys = tt
message_stays order (a ∷ b ∷ c ∷ d ∷ []) ys = tt
message_stays order (a ∷ b ∷ c ∷ d ∷ e ∷ []) ys = tt
message_stays order (a ∷ b ∷ c ∷ d ∷ e ∷ f ∷ []) ys = tt
message_stays order (a ∷ b ∷ c ∷ d ∷ e ∷ f ∷ g ∷ []) ys = tt
message_stays order (a ∷ b ∷ c ∷ d ∷ e ∷ f ∷ g ∷ h ∷ rest) ys =
    let words = u32_of order (e ∷ f ∷ g ∷ h ∷ []) in
    front_stays (is_head a b words) a b (u16_of order (c ∷ d ∷ [])) (8 + 4 * words) (length (a ∷ b ∷ c ∷ d ∷ e ∷ f ∷ g ∷ h ∷ rest)) (length (a ∷ b ∷ c ∷ d ∷ e ∷ f ∷ g ∷ h ∷ (rest ++ ys))) (longer rest)
  where
    longer : (rest : List ℕ) → length (a ∷ b ∷ c ∷ d ∷ e ∷ f ∷ g ∷ h ∷ rest) ≤ length (a ∷ b ∷ c ∷ d ∷ e ∷ f ∷ g ∷ h ∷ (rest ++ ys))
    longer rest = let size = length-append rest ys in omega (arith, size)

-- The reply to a request

-- the header of a reply
reply_kind : (order : Order) (opcode sequence : ℕ) (a : Answer) → u8_at 0 (reply_bytes order opcode a sequence) ≡ 1
unfolding head
reply_kind order opcode sequence a = refl

reply_detail : (order : Order) (opcode sequence : ℕ) (a : Answer) → u8_at 1 (reply_bytes order opcode a sequence) ≡ opcode
unfolding head
reply_detail order opcode sequence a = refl

reply_number : (order : Order) (opcode sequence : ℕ) (a : Answer) → sequence < 2 ^ 16 → u16_at order 2 (reply_bytes order opcode a sequence) ≡ sequence
unfolding head
reply_number Big opcode sequence a low = u16_again Big sequence low
reply_number Little opcode sequence a low = u16_again Little sequence low

-- what a client takes off an input, of which more may come, if this message comes first
pub record TakesReply (order : Order) (ring : RingState) (n : ℕ) (input more message after : List ℕ) : Type 0 where
  pub found : (awaited_message order n ring input).found ≡ Ok message
  pub rest : (awaited_message order n ring input).rest ++ more ≡ after

-- the input has ended within a message
abbrev IsEnded : Awaited → Type 0
IsEnded a = (a.found ≡ Err fault.LinkEnded) × (a.rest ≡ [])

module _ (order : Order) (ring : RingState) (n : ℕ) (input more message after : List ℕ) (opcode number : ℕ) (a : Answer) (is : message ≡ reply_bytes order opcode a number) (reply : IsReplyTo opcode a) (low : number < 2 ^ 16) (same : input ++ more ≡ message ++ after) where
  abbrev awaited_at : MessageFront → Awaited
  awaited_at f = awaited_by (and_then (message_in order) (message_at f input)) ring (rest_at f input) (λ r. awaited_message order n r (rest_at f input))

  framed : message_front order (input ++ more) ≡ Message 1 opcode number (length message)
  unfolding IsOneMessage
  framed = ap (message_front order) same ∙ reply_one order opcode number a message is low reply after

  taken : (f : MessageFront) → StaysSo f (message_front order (input ++ more)) (length input) → message_front order input ≡ f → TakesReply order ring (suc n) input more message after ⊎ IsEnded (awaited_message order (suc n) ring input)
  unfolding awaited_message incoming first_message after_message
  taken (NeedMore size) stays e = inr (ap (λ f. (awaited_at f).found) e, ap (λ f. (awaited_at f).rest) e)
  taken BadMessage stays e = absurd (clash (sym stays ∙ framed))
    where
      clash : BadMessage ≡ Message 1 opcode number (length message) → ⊥
      clash e = cc
  taken (Message k d s size) stays e =
      let one : Message k d s size ≡ Message 1 opcode number (length message) = sym stays.0 ∙ framed in
      let whole : size ≡ length message = cc in
      let first : take size input ≡ message = sym (take-append-le size input more stays.1) ∙ ap (take size) same ∙ ap (λ m. take m (message ++ after)) whole ∙ take-append_seam message after in
      let rest : drop size input ++ more ≡ after = sym (drop-append-le size input more stays.1) ∙ ap (drop size) same ∙ ap (λ m. drop m (message ++ after)) whole ∙ drop-append_seam message after in
      let kind : u8_at 0 (take size input) ≡ 1 = ap (u8_at 0) (first ∙ is) ∙ reply_kind order opcode number a in
      let no_event : awaited_at (Message k d s size) ≡ record { found = Ok (take size input); ring = ring; rest = drop size input } =
      ap (λ m. awaited_by (cond (m == 2) (ok_or (option_map event (event_in order (u8_at 1 (take size input)) (drop 8 (take size input)))) (bad_reply (take size input))) (Ok (other (take size input)))) ring (drop size input) (λ r. awaited_message order n r (drop size input))) kind in
      inl (record {
        found = ap (λ f. (awaited_at f).found) e ∙ ap (λ (x : Awaited). x.found) no_event ∙ ap Ok first;
        rest = ap (λ f. (awaited_at f).rest ++ more) e ∙ ap (λ (x : Awaited). x.rest ++ more) no_event ∙ rest;
      })

  taken_reply : TakesReply order ring (suc n) input more message after ⊎ IsEnded (awaited_message order (suc n) ring input)
  taken_reply = taken (message_front order input) (message_stays order input more) refl

-- The answer of a client

-- a request that was answered with a value, and the reply that came first
pub record Answered {X : Type 0} (w : ClientState) (value_of : Answer → Option X) (a : Answer) (more after : List ℕ) (x : X) : Type 0 where
  pub value : value_of a ≡ Some x
  pub rest : (after_reply w).input ++ more ≡ after

module _ {X : Type 0} (w : ClientState) (asked : Asked) (value_of : Answer → Option X) (x : X) (answer : answer_on asked value_of w ≡ Ok x) where
  -- no answer is read off nothing
  pub none_answered : {A : Type 0} → w.input ≡ [] → A
  unfolding awaited_message incoming first_message after_message
  none_answered empty =
      let found : (next_message w).found ≡ Err fault.LinkEnded = ap (λ l. (awaited_message w.order most_events w.ring l).found) empty in
      absurd (clash (sym answer ∙ ap (answer_of w.order value_of (opcode_of asked) (next_sequence w.sequence)) found))
    where
      clash : Ok x ≡ Err fault.LinkEnded → ⊥
      clash e = cc

  pub reply_answered : (more message after : List ℕ) (a : Answer) → message ≡ reply_bytes w.order (opcode_of asked) a (next_sequence w.sequence) → IsReplyTo (opcode_of asked) a → next_sequence w.sequence < 2 ^ 16 → w.input ++ more ≡ message ++ after → Answered w value_of a more after x
  reply_answered more message after a is reply low same = by (taken_reply w.order w.ring 4095 w.input more message after (opcode_of asked) (next_sequence w.sequence) a is reply low same)
    where
      clash : Ok x ≡ Err fault.LinkEnded → ⊥
      clash e = cc

      -- the value of the message
      valued : value_or_bad message (value_of a) ≡ Ok x → value_of a ≡ Some x
      valued e = of (value_of a) e
        where
          of : (o : Option X) → value_or_bad message o ≡ Ok x → o ≡ Some x
          of None e = cc
          of (Some y) e = cc

      good : answer_to w.order (opcode_of asked) (next_sequence w.sequence) message ≡ Ok message
      good =
          let number : u16_at w.order 2 message ≡ next_sequence w.sequence = ap (u16_at w.order 2) is ∙ reply_number w.order (opcode_of asked) (next_sequence w.sequence) a low in
          let kind : u8_at 0 message ≡ 1 = ap (u8_at 0) is ∙ reply_kind w.order (opcode_of asked) (next_sequence w.sequence) a in
          let detail : u8_at 1 message ≡ opcode_of asked = ap (u8_at 1) is ∙ reply_detail w.order (opcode_of asked) (next_sequence w.sequence) a in
          first (Ok message) _ (u16_at w.order 2 message == next_sequence w.sequence) (u8_at 0 message == 1) (u8_at 1 message == opcode_of asked) (ap (λ m. m == next_sequence w.sequence) number ∙ same_number (next_sequence w.sequence)) (ap (λ m. m == 1) kind) (ap (λ m. m == opcode_of asked) detail ∙ same_number (opcode_of asked))
        where
          first : {Y : Type 0} (y z : Y) (a b c : Bool) → a ≡ true → b ≡ true → c ≡ true → cond (a && b && c) y z ≡ y
          first y z true true true e f g = refl
          first y z false b c e f g = absurd cc
          first y z true false c e f g = absurd cc
          first y z true true false e f g = absurd cc

      by : TakesReply w.order w.ring most_events w.input more message after ⊎ IsEnded (next_message w) → Answered w value_of a more after x
      by (inr ended) = absurd (clash (sym answer ∙ ap (answer_of w.order value_of (opcode_of asked) (next_sequence w.sequence)) ended.0))
      by (inl t) =
          let read : answer_on asked value_of w ≡ value_in w.order value_of (opcode_of asked) message = ap (answer_of w.order value_of (opcode_of asked) (next_sequence w.sequence)) t.found ∙ ap (and_then (value_in w.order value_of (opcode_of asked))) good in
          let stated : value_in w.order value_of (opcode_of asked) message ≡ value_or_bad message (value_of a) = ap (λ o. value_or_bad message (option_and_then value_of o)) (spelled_again w.order (opcode_of asked) (next_sequence w.sequence) a message is reply) in
          record { value = valued (sym stated ∙ sym read ∙ answer); rest = t.rest }

-- Nothing is left of nothing.
pub none_after : (w : ClientState) → w.input ≡ [] → (after_reply w).input ≡ []
unfolding awaited_message incoming first_message after_message
none_after w empty = ap (λ l. (awaited_message w.order most_events w.ring l).rest) empty

-- A client has taken a reply, whatever it made of that, if there is more after it.
pub reply_passed : (w : ClientState) (opcode : ℕ) (more message after : List ℕ) (a : Answer) → ((after_reply w).input ≡ [] → ⊥) → message ≡ reply_bytes w.order opcode a (next_sequence w.sequence) → IsReplyTo opcode a → next_sequence w.sequence < 2 ^ 16 → w.input ++ more ≡ message ++ after → (after_reply w).input ++ more ≡ after
reply_passed w opcode more message after a some is reply low same = by (taken_reply w.order w.ring 4095 w.input more message after opcode (next_sequence w.sequence) a is reply low same)
  where
    by : TakesReply w.order w.ring most_events w.input more message after ⊎ IsEnded (next_message w) → (after_reply w).input ++ more ≡ after
    by (inl t) = t.rest
    by (inr ended) = absurd (some ended.1)
