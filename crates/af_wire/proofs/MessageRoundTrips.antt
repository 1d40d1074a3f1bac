-- Messages that are written and read again.
use Rattle.std.proofs.Common.{◌≡◌, ◌<◌, ◌≤◌, ◌+◌, ◌*◌, ◌^◌, ◌∙◌, ℕ, Bool, true, false, List, [], ◌∷◌, ◌++◌, length, drop, refl, sym, ap, subst, arith, nat_lt}
use Rattle.std.specs.Prelude.{IsTrue, if◌then◌else◌, Some}
use Rattle.af_wire.specs.declared.order.Order.{Order}
use Rattle.std.proofs.lemmas.Bool.Decides.{nat_tests}
use Rattle.std.proofs.lemmas.List.{length-append}
use Rattle.af_limits.specs.Limits.{most_devices}
use Rattle.af_wire.specs.declared.event.Event.{Event}
use Rattle.af_wire.specs.declared.event.EventKind.{EventKind}
use Rattle.af_wire.specs.declared.event.EventKind.TheVariants as kind
use Rattle.af_wire.specs.declared.message_front.MessageFront.TheVariants.{NeedMore, Message, BadMessage}
use Rattle.af_wire.specs.Event.{detail_of, event_bytes, event_in, event_from, is_value, kind_of_code, IsEvent}
use Rattle.af_wire.specs.Message.{head, error}
use Rattle.af_wire.specs.MessageFront.{is_head, message_front, message_with, IsOneMessage}
use Rattle.af_wire.specs.Order.{u32_bytes, u32_of}
use Rattle.af_wire.specs.Begins.{StatesError}
use Rattle.af_wire.proofs.OrderLemmas.{u16_again, u32_again}

-- the front of a good header with its whole body
good_front : (t : Bool) (k d s m there : ℕ) → IsTrue t → m ≤ there → (if t then (if nat_lt there m then NeedMore m else Message k d s m) else BadMessage) ≡ Message k d s m
good_front true k d s m there good fits = grind (arith, nat_tests)
good_front false k d s m there good fits = absurd cc

-- a good header with its body is one message
pub head_framed : (order : Order) (kind detail sequence words : ℕ) (body rest : List ℕ) → IsTrue (is_head kind detail words) → sequence < 2 ^ 16 → words < 2 ^ 32 → length body ≡ 4 * words →
    message_front order (head order kind detail sequence words ++ body ++ rest) ≡ Message kind detail sequence (8 + 4 * words)
unfolding head
head_framed order kind detail sequence words body rest good low few whole =
    let there : ℕ = length (head order kind detail sequence words ++ body ++ rest) in
    let sum : there ≡ 8 + length (body ++ rest) = omega arith in
    let fits : 8 + 4 * words ≤ there = omega (arith, length-append body rest) in
    ap (λ (s : ℕ). message_with kind detail s (u32_of order (u32_bytes order words)) there) (u16_again order sequence low)
    ∙ ap (λ (w : ℕ). message_with kind detail sequence w there) (u32_again order words few)
    ∙ good_front (is_head kind detail words) kind detail sequence (8 + 4 * words) there good fits

-- bytes that spell a good header are one message with the body that they state
pub head_one : (order : Order) (kind detail sequence words : ℕ) (bytes body : List ℕ) → bytes ≡ head order kind detail sequence words → IsTrue (is_head kind detail words) → sequence < 2 ^ 16 → words < 2 ^ 32 → length body ≡ 4 * words →
    IsOneMessage order kind detail sequence (bytes ++ body)
unfolding IsOneMessage head
head_one order kind detail sequence words bytes body e good low few whole rest =
    let size : length (head order kind detail sequence words ++ body) ≡ 8 + 4 * words = omega (arith, whole) in
    ap (λ (b : List ℕ). message_front order (b ++ body ++ rest)) e ∙ head_framed order kind detail sequence words body rest good low few whole
    ∙ ap (Message kind detail sequence) (sym size ∙ ap (λ (b : List ℕ). length (b ++ body)) (sym e))

error_head : (code : ℕ) → 1 ≤ code → code ≤ 8 → IsTrue (is_head 0 code 2)
error_head code some most = grind (arith, nat_tests)

-- an error with a known code is one message
pub error_one : (order : Order) (code value opcode sequence : ℕ) (bytes : List ℕ) → bytes ≡ error order code value opcode sequence → sequence < 2 ^ 16 → 1 ≤ code → code ≤ 8 → IsOneMessage order 0 code sequence bytes
unfolding error head
error_one order code value opcode sequence bytes e low some most =
    let body : List ℕ = u32_bytes order value ++ (opcode ∷ 0 ∷ 0 ∷ 0 ∷ []) in
    subst (λ (b : List ℕ). IsOneMessage order 0 code sequence b) (sym e)
    (head_one order 0 code sequence 2 (head order 0 code sequence 2) body refl (error_head code some most) low (omega arith) refl)

-- and states what it refuses
pub error_stated : (order : Order) (code value opcode sequence : ℕ) (bytes : List ℕ) → bytes ≡ error order code value opcode sequence → value < 2 ^ 32 → StatesError order value opcode (drop 8 bytes)
unfolding error head
error_stated order code value opcode sequence bytes e low = record {
  value_field = u32_bytes order value;
  is = ap (λ (b : List ℕ). drop 8 b) e;
  is_value = record { size = refl; is = u32_again order value low };
}

event_head : (k : EventKind) → IsTrue (is_head 2 (detail_of k) 3)
event_head kind.Ring = refl
event_head kind.Hook = refl
event_head kind.Current = refl
event_head kind.Digit = refl

-- an event is one message
pub event_framed : (order : Order) (e : Event) (sequence : ℕ) (rest : List ℕ) → sequence < 2 ^ 16 → message_front order (event_bytes order e sequence ++ rest) ≡ Message 2 (detail_of e.kind) sequence 20
unfolding event_bytes
event_framed order e sequence rest low =
    head_framed order 2 (detail_of e.kind) sequence 3 (u32_bytes order e.device ++ u32_bytes order e.time.0 ++ u32_bytes order e.value) rest (event_head e.kind) low (omega arith) refl

pub event_one : (order : Order) (e : Event) (sequence : ℕ) (bytes : List ℕ) → bytes ≡ event_bytes order e sequence → sequence < 2 ^ 16 → IsOneMessage order 2 (detail_of e.kind) sequence bytes
unfolding event_bytes
event_one order e sequence bytes is low =
    let body : List ℕ = u32_bytes order e.device ++ u32_bytes order e.time.0 ++ u32_bytes order e.value in
    subst (λ (b : List ℕ). IsOneMessage order 2 (detail_of e.kind) sequence b) (sym is)
    (head_one order 2 (detail_of e.kind) sequence 3 (head order 2 (detail_of e.kind) sequence 3) body refl (event_head e.kind) low (omega arith) refl)

event_stated : (k : EventKind) (device time value : ℕ) → device < most_devices → IsTrue (is_value k value) → event_from (kind_of_code (detail_of k)) device time value ≡ Some (record { kind = k; device = device; time = record { 0 = time }; value = value })
event_stated kind.Ring device time value low fits = grind (arith, nat_tests)
event_stated kind.Hook device time value low fits = grind (arith, nat_tests)
event_stated kind.Current device time value low fits = grind (arith, nat_tests)
event_stated kind.Digit device time value low fits = grind (arith, nat_tests)

-- and is read again
pub event_again : (order : Order) (e : Event) (sequence : ℕ) → IsEvent e → event_in order (detail_of e.kind) (drop 8 (event_bytes order e sequence)) ≡ Some e
unfolding event_bytes head
event_again order e sequence stated =
    let low : e.device < 2 ^ 32 = omega (arith, stated.device) in
    ap (λ (d : ℕ). event_from (kind_of_code (detail_of e.kind)) d (u32_of order (u32_bytes order e.time.0)) (u32_of order (u32_bytes order e.value))) (u32_again order e.device low)
    ∙ ap (λ (t : ℕ). event_from (kind_of_code (detail_of e.kind)) e.device t (u32_of order (u32_bytes order e.value))) (u32_again order e.time.0 stated.time)
    ∙ ap (λ (v : ℕ). event_from (kind_of_code (detail_of e.kind)) e.device e.time.0 v) (u32_again order e.value stated.value)
    ∙ event_stated e.kind e.device e.time.0 e.value stated.device stated.fits

pub event_spelled : (order : Order) (e : Event) (sequence : ℕ) (bytes : List ℕ) → bytes ≡ event_bytes order e sequence → IsEvent e → event_in order (detail_of e.kind) (drop 8 bytes) ≡ Some e
event_spelled order e sequence bytes is stated = ap (λ (b : List ℕ). event_in order (detail_of e.kind) (drop 8 b)) is ∙ event_again order e sequence stated
