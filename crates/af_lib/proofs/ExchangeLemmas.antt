-- Requests that are sent, and their answers.
use Rattle.std.proofs.Common.{◌≡◌, ℕ, List, [], ◌-◌, length, take, drop, sym, ap, ◌∙◌, subst, append-nil, Result, Ok, Err, IfOk, refl, option_and_then, option_map, None, Some, Option}
use Rattle.std.proofs.lemmas.List.{take_rest}
use Rattle.af_io.specs.Observed.{Appended}
use Rattle.af_wire.specs.declared.order.Order.{Order}
use Rattle.af_request.specs.Answer.{Answer, setup, plain, time, played, recorded, controls, phone}
use Rattle.af_request.specs.Replies.{answer_in, IsReplyTo}
use Rattle.af_request.proofs.SetupReplyLemmas.{setup_stated}
use Rattle.af_lib.specs.declared.fault.ConnFault.{ConnFault}
use Rattle.af_lib.specs.declared.fault.ConnFault.TheVariants as fault
use Rattle.af_lib.specs.Ring.{RingState}
use Rattle.af_lib.specs.Answers.{and_then, answer_to, value_or_bad}
use Rattle.af_lib.specs.Calls.{answer_of, as_devices, device_list, value_in, Exchanged, IsFresh, Sends}
use Rattle.af_request.specs.declared.reply.DeviceInfo.{DeviceInfo}
use Rattle.af_request.specs.Opcodes as opcodes
use Rattle.arrayvec.specs.ArrayVec.{ArrayVec}
use Rattle.af_lib.proofs.LinkByteLemmas.{BothTold-map}

-- all was sent, and nothing after it
pub sends_all : {X : Type 0} {result : Result X ConnFault} {before now after : Option (List ℕ)} {bytes : List ℕ} → Appended before bytes now → after ≡ now → Sends result before bytes after
sends_all {before} {bytes = bytes} appended same =
    let all = subst (λ (sent : Option (List ℕ)). Appended before bytes sent) (sym same) appended in
    record { whole = λ _. all; part = record { front = bytes; rest = []; whole = sym (append-nil bytes); appended = all } }

-- a value that is seen as another one, or a bad reply
pub seen_or_bad : {X Y : Type 0} (view : X → Y) (bytes : List ℕ) (value : Option X) → and_then (λ x. Ok (view x)) (value_or_bad bytes value) ≡ value_or_bad bytes (option_map view value)
seen_or_bad view bytes (Some x) = refl
seen_or_bad view bytes None = refl

-- a value that is seen as another one has the same faults
pub seen_fresh : {X Y : Type 0} (view : X → Y) (result : Result X ConnFault) → IsFresh result → IsFresh (and_then (λ x. Ok (view x)) result)
seen_fresh view (Ok x) fresh = tt
seen_fresh view (Err f) fresh = fresh

pub seen_fault : {X Y : Type 0} (view : X → Y) (result : Result X ConnFault) (f : ConnFault) → and_then (λ x. Ok (view x)) result ≡ Err f → result ≡ Err f
seen_fault view (Ok x) f e = absurd cc
seen_fault view (Err g) f e = cc

only_setup : (bytes : List ℕ) (answer : Option Answer) (devices : List DeviceInfo) → value_or_bad bytes (option_and_then as_devices answer) ≡ Ok devices → answer ≡ Some (setup devices)
only_setup bytes (Some (setup ds)) devices is = let same : ds ≡ devices = cc in ap (λ (l : List DeviceInfo). Some (setup l)) same
only_setup bytes (Some plain) devices is = cc
only_setup bytes (Some (time now)) devices is = cc
only_setup bytes (Some (played now)) devices is = cc
only_setup bytes (Some (recorded now samples)) devices is = cc
only_setup bytes (Some (controls c)) devices is = cc
only_setup bytes (Some (phone p)) devices is = cc
only_setup bytes None devices is = cc

module _ (order : Order) where
  -- the value of the reply that was found, or the same fault
  pub exchanged_as : {L X : Type 0} {left sent : L → Option (List ℕ)} {faults : L → ℕ} {bytes : List ℕ} {old new : L} {ring ring' : RingState} (value_of : Answer → Option X) (opcode sequence : ℕ)
      (found : Result (List ℕ) ConnFault) (result : Result X ConnFault) → Exchanged left sent faults order bytes (and_then (answer_to order opcode sequence)) found old new ring ring' →
      result ≡ and_then (value_in order value_of opcode) found → IsFresh result → (result ≡ Err fault.LinkFault → found ≡ Err fault.LinkFault) →
      Exchanged left sent faults order bytes (answer_of order value_of opcode sequence) result old new ring ring'
  exchanged_as {left = left} {old = old} {new = new} value_of opcode sequence found result e is fresh same =
      let value = and_then (value_in order value_of opcode) in
      record {
        sends = record { whole = λ sound. e.sends.whole (λ f. sound (is ∙ ap value f)); part = e.sends.part };
        answers = λ sound. BothTold-map (left old) (left new) _ _ (e.answers (λ f. sound (is ∙ ap value f))) (λ b a t. (is ∙ ap value t.0, t.1, t.2));
        gained = e.gained;
        fresh = fresh;
        tells = e.tells;
        failed = λ f. e.failed (same f);
        count = e.count;
      }

  -- what was read of a body is what it states
  pub value_read : {X : Type 0} (value_of : Answer → Option X) (opcode : ℕ) (bytes : List ℕ) (answer : Option Answer) → answer ≡ answer_in order opcode (take (length bytes - 8) (drop 8 bytes)) →
      value_or_bad bytes (option_and_then value_of answer) ≡ value_in order value_of opcode bytes
  value_read value_of opcode bytes answer read = ap (λ a. value_or_bad bytes (option_and_then value_of a)) (read ∙ ap (answer_in order opcode) (take_rest bytes 8))

  -- these are devices that the reply to a setup may state
  pub listed_stated : (bytes : List ℕ) (result : Result (ArrayVec DeviceInfo) ConnFault) → device_list result ≡ value_in order as_devices opcodes.setup bytes → IfOk result (λ devices. IsReplyTo opcodes.setup (setup devices.items))
  listed_stated bytes (Ok devices) is = setup_stated order (drop 8 bytes) devices.items (only_setup bytes (answer_in order opcodes.setup (drop 8 bytes)) devices.items (sym is))
  listed_stated bytes (Err fault) is = tt

  found_stated : (found : Result (List ℕ) ConnFault) (devices : List DeviceInfo) → and_then (value_in order as_devices opcodes.setup) found ≡ Ok devices → IsReplyTo opcodes.setup (setup devices)
  found_stated (Ok bytes) devices is = setup_stated order (drop 8 bytes) devices (only_setup bytes (answer_in order opcodes.setup (drop 8 bytes)) devices is)
  found_stated (Err fault) devices is = cc

  -- so are those of the answer to a setup
  pub answered_stated : (found : Result (List ℕ) ConnFault) (devices : List DeviceInfo) → answer_of order as_devices opcodes.setup 0 found ≡ Ok devices → IsReplyTo opcodes.setup (setup devices)
  answered_stated found devices is = found_stated (and_then (answer_to order 0 0) found) devices is
