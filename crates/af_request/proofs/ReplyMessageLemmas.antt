-- Replies that are written, as messages.
use Rattle.std.proofs.Common.{◌≡◌, ◌<◌, ◌≤◌, ◌+◌, ◌*◌, ◌-◌, ◌^◌, ◌⊎◌, inl, inr, ℕ, List, ◌++◌, length, take, replicate, refl, sym, ap, ◌∙◌, subst, arith}
use Rattle.std.proofs.Math.Seq.{take-append-add, take-length}
use Rattle.std.proofs.lemmas.Bool.Decides.{nat_tests}
use Rattle.std.proofs.lemmas.List.{append_assoc}
use Rattle.std.specs.Prelude.{IsTrue}
use Rattle.af_limits.specs.Limits.{most_devices, longest_record}
use Rattle.af_wire.specs.declared.order.Order.{Order}
use Rattle.af_wire.specs.Message.{head}
use Rattle.af_wire.specs.Order.{u32_bytes}
use Rattle.af_wire.specs.declared.message_front.MessageFront.TheVariants.{Message}
use Rattle.af_wire.specs.MessageFront.{is_head, message_front, IsOneMessage}
use Rattle.af_wire.proofs.MessageRoundTrips.{head_framed, head_one}
use Rattle.af_request.specs.Answer.{Answer, setup, plain, time, played, recorded, controls, phone}
use Rattle.af_request.specs.Fields.{words_for}
use Rattle.af_request.specs.Replies.{body_bytes, body_words, is_plain, reply_bytes, IsReplyTo}
use Rattle.af_request.specs.Opcodes as opcodes
use Rattle.af_request.proofs.ReplyRoundTrips.{length-body}

-- the opcode of a reply that a client takes
IsOpcode : ℕ → Type 0
IsOpcode opcode = (opcode ≡ 0) ⊎ ((2 ≤ opcode) × (opcode ≤ 12))

good_by : (opcode words : ℕ) → IsOpcode opcode → words ≤ 4002 → IsTrue (is_head 1 opcode words)
unfolding IsOpcode
good_by opcode words (inl zero) few = grind (arith, nat_tests)
good_by opcode words (inr within) few = grind (arith, nat_tests)

plain_within : (opcode : ℕ) → IsTrue (is_plain opcode) → (2 ≤ opcode) × (opcode ≤ 12)
plain_within opcode is = (grind (arith, nat_tests), grind (arith, nat_tests))

opcode_within : (opcode : ℕ) (a : Answer) → IsReplyTo opcode a → IsOpcode opcode
unfolding IsOpcode
opcode_within opcode (setup devices) is = inl is.0
opcode_within opcode plain is = inr (plain_within opcode is)
opcode_within opcode (time now) is = let e : opcode ≡ opcodes.get_time = is.0 in inr (omega arith, omega arith)
opcode_within opcode (played now) is = let e : opcode ≡ opcodes.play = is.0 in inr (omega arith, omega arith)
opcode_within opcode (recorded now samples) is = let e : opcode ≡ opcodes.record = is.0 in inr (omega arith, omega arith)
opcode_within opcode (controls c) is = let e : opcode ≡ opcodes.query_controls = is.0 in inr (omega arith, omega arith)
opcode_within opcode (phone p) is = let e : opcode ≡ opcodes.query_phone = is in inr (omega arith, omega arith)

few_words : (opcode : ℕ) (a : Answer) → IsReplyTo opcode a → body_words a ≤ 4002
few_words opcode (setup devices) is = let few : length devices ≤ most_devices = is.2 in omega arith
few_words opcode plain is = omega arith
few_words opcode (time now) is = omega arith
few_words opcode (played now) is = omega arith
few_words opcode (recorded now samples) is = let few : length samples ≤ longest_record = is.2 in omega arith
few_words opcode (controls c) is = omega arith
few_words opcode (phone p) is = omega arith

module _ (order : Order) where
  -- bytes that spell a reply are one message, whatever follows them
  pub reply_one : (opcode sequence : ℕ) (a : Answer) (bytes : List ℕ) → bytes ≡ reply_bytes order opcode a sequence → sequence < 2 ^ 16 → IsReplyTo opcode a →
      IsOneMessage order 1 opcode sequence bytes
  reply_one opcode sequence a bytes e low is =
      let few = few_words opcode a is in
      subst (λ (b : List ℕ). IsOneMessage order 1 opcode sequence b) (sym e)
      (head_one order 1 opcode sequence (body_words a) (head order 1 opcode sequence (body_words a)) (body_bytes order a) refl
      (good_by opcode (body_words a) (opcode_within opcode a is) few) low (omega arith) (length-body order a))

  -- its spelling with what follows it, as a client takes it
  pub reply_framed : (opcode : ℕ) (a : Answer) (sequence : ℕ) (rest : List ℕ) → IsReplyTo opcode a → sequence < 2 ^ 16 →
      message_front order (reply_bytes order opcode a sequence ++ rest) ≡ Message 1 opcode sequence (8 + 4 * body_words a)
  reply_framed opcode a sequence rest is low =
      let few = few_words opcode a is in
      head_framed order 1 opcode sequence (body_words a) (body_bytes order a) rest (good_by opcode (body_words a) (opcode_within opcode a is) few) low (omega arith) (length-body order a)

  -- a header, a time and a count before samples that are there already, and zeros after these
  pub around_samples : (front back samples : List ℕ) (opcode sequence now n size : ℕ) → length front ≡ 16 → take 16 front ≡ (head order 1 opcode sequence (2 + words_for n) ++ u32_bytes order now) ++ u32_bytes order n →
      take size back ≡ samples ++ replicate (4 * words_for n - n) 0 → length samples ≡ n → take (16 + size) (front ++ back) ≡ reply_bytes order opcode (recorded now samples) sequence
  unfolding head
  around_samples front back samples opcode sequence now n size len begins ends count =
      subst (λ m. take (16 + size) (front ++ back) ≡ head order 1 opcode sequence (2 + words_for m) ++ u32_bytes order now ++ u32_bytes order m ++ samples ++ replicate (4 * words_for m - m) 0) (sym count)
      (ap (λ m. take (m + size) (front ++ back)) (sym len) ∙ take-append-add front back size ∙ ap (λ f. f ++ take size back) (sym (take-length front) ∙ ap (λ m. take m front) len ∙ begins)
      ∙ ap (λ s. ((head order 1 opcode sequence (2 + words_for n) ++ u32_bytes order now) ++ u32_bytes order n) ++ s) ends
      ∙ append_assoc (head order 1 opcode sequence (2 + words_for n) ++ u32_bytes order now) (u32_bytes order n) (samples ++ replicate (4 * words_for n - n) 0)
      ∙ append_assoc (head order 1 opcode sequence (2 + words_for n)) (u32_bytes order now) (u32_bytes order n ++ samples ++ replicate (4 * words_for n - n) 0))
