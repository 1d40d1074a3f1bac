-- Times in replies are words of 32 bits.
use Rattle.std.proofs.Common.{◌≡◌, ◌<◌, ◌^◌, ℕ, nat_lt, Bool, true, false, List, drop, subst, refl, arith, if◌then◌else◌}
use Rattle.std.proofs.lemmas.Bool.Decides.{nat_tests}
use Rattle.std.specs.Prelude.{Result, Ok, Err, IfOk, option_and_then, Option, None, Some}
use Rattle.af_time.specs.declared.DevTime.{DevTime}
use Rattle.af_wire.specs.declared.order.Order.{Order}
use Rattle.af_request.specs.Asked.{Asked}
use Rattle.af_request.specs.Answer.{Answer}
use Rattle.af_request.specs.Replies.{answer_in}
use Rattle.af_lib.specs.declared.fault.ConnFault.{ConnFault}
use Rattle.af_lib.specs.Answers.{and_then, answer_to, value_or_bad}
use Rattle.af_lib.specs.Calls.{as_time, next_sequence, opcode_of, value_in, Called, ConnState}
use Rattle.af_lib.proofs.LinkByteLemmas.{BothTold-map}
use Rattle.af_toolkit.specs.Trace.{ClientState, answer_on, next_message}
use Rattle.af_relay.specs.Pass.{as_word}

-- an answer that is a word, if it is one
abbrev IsWord : Result DevTime ConnFault → Type 0
IsWord r = IfOk r (λ t. t.0 < 2 ^ 32)

-- An answer that reads a time is the one that reads a word, if its time is a word, as the other's always is.
record IsReadAlike (by_time by_word : Result DevTime ConnFault) : Type 0 where
  alike : (r : Result DevTime ConnFault) → IsWord r → r ≡ by_time → r ≡ by_word
  low : (t : DevTime) → by_word ≡ Ok t → t.0 < 2 ^ 32

alike_time : (bytes : List ℕ) (x : DevTime) (b : Bool) → nat_lt x.0 (2 ^ 32) ≡ b → IsReadAlike (Ok x) (value_or_bad bytes (let o : Option DevTime = if b then Some x else None in o))
alike_time bytes x true test = record {
  alike = λ r word is. is;
  low = λ t is. let low : x.0 < 2 ^ 32 = grind (arith, nat_tests, test) in let same : x ≡ t = cc is in subst (λ (y : DevTime). y.0 < 2 ^ 32) same low;
}
alike_time bytes x false test = record {
  alike = λ r word is. let low : x.0 < 2 ^ 32 = subst (λ (y : Result DevTime ConnFault). IsWord y) is word in absurd (grind (arith, nat_tests, test, low));
  low = λ t is. cc is;
}

alike_answer : (bytes : List ℕ) (a : Option Answer) → IsReadAlike (value_or_bad bytes (option_and_then as_time a)) (value_or_bad bytes (option_and_then as_word a))
unfolding as_word
alike_answer bytes None = record { alike = λ r word is. is; low = λ t is. cc is }
alike_answer bytes (Some a) = elim (as_time a) as (λ (o : Option DevTime). IsReadAlike (value_or_bad bytes o) (value_or_bad bytes (option_and_then (λ (now : DevTime). if nat_lt now.0 (2 ^ 32) then Some now else None) o))) [
  | None ↦ record { alike = λ r word is. is; low = λ t is. cc is }
  | Some x ↦ alike_time bytes x (nat_lt x.0 (2 ^ 32)) refl
]

alike_message : (order : Order) (opcode : ℕ) (m : Result (List ℕ) ConnFault) → IsReadAlike (and_then (value_in order as_time opcode) m) (and_then (value_in order as_word opcode) m)
alike_message order opcode (Ok bytes) = alike_answer bytes (answer_in order opcode (drop 8 bytes))
alike_message order opcode (Err f) = record { alike = λ r word is. is; low = λ t is. cc is }

-- a call that answers a word answers just that
pub called_word : {L : Type 0} {left sent : L → Option (List ℕ)} {faults : L → ℕ} {asked : Asked} {old new : ConnState L} {result : Result DevTime ConnFault} → IsWord result →
    Called left sent faults asked as_time old new result → Called left sent faults asked as_word old new result
called_word {left} {asked} {old} {new} {result} word c = record {
  spent = c.spent;
  untouched = c.untouched;
  exchanged = λ usable.
      let e = c.exchanged usable in
      record { sends = e.sends; answers = λ sound. BothTold-map (left old.link) (left new.link) _ _ (e.answers sound) (λ b a told. ((alike_message old.order (opcode_of asked) _).alike result word told.0, told.1, told.2)); gained = e.gained; fresh = e.fresh; tells = e.tells; failed = e.failed; count = e.count };
  keeps = c.keeps;
}

-- a time in a reply is a word
pub told_low : (asked : Asked) (w : ClientState) (t : DevTime) → answer_on asked as_word w ≡ Ok t → t.0 < 2 ^ 32
told_low asked w t is = (alike_message w.order (opcode_of asked) (and_then (answer_to w.order (opcode_of asked) (next_sequence w.sequence)) (next_message w).found)).low t is
