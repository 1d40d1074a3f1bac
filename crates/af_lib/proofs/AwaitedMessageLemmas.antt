-- Taking messages off the bytes of a link.
use Rattle.std.proofs.Common.{◌≡◌, ℕ, suc, ◌-◌, ◌<◌, ◌≤◌, List, length, take, sym, ap, ap₂, ◌∙◌, arith, refl, Result, Ok, Err, Option, None, Some}
use Rattle.std.proofs.lemmas.List.{take-take, length-take-le}
use Rattle.af_wire.specs.declared.order.Order.{Order}
use Rattle.af_lib.specs.declared.fault.ConnFault.{ConnFault}
use Rattle.af_lib.specs.declared.fault.ConnFault.TheVariants as fault
use Rattle.af_lib.specs.declared.receive.Taken.{Taken}
use Rattle.af_lib.specs.declared.receive.Taken.TheVariants as taken
use Rattle.af_lib.specs.Ring.{RingState}
use Rattle.af_lib.specs.Answers.{and_then}
use Rattle.af_lib.specs.Incoming.{Awaited, Incoming, other, awaited_message, awaited_by, first_message, incoming, message_in, after_message}
use Rattle.af_lib.specs.Calls.{TakesFirst}
use Rattle.af_lib.specs.Receive.{IsTakenWithin, taken_as}
use Rattle.af_lib.specs.Observed.{BothTold}
use Rattle.af_lib.proofs.LinkByteLemmas.{BothTold-map}

-- a message that stands in the first bytes of a buffer
taken_in : (result : Result Taken ConnFault) (into : List ℕ) (n : ℕ) → n ≤ length into → IsTakenWithin result (length (take n into)) → taken_as result (take n into) ≡ taken_as result into
taken_in (Ok (taken.Event e)) into n fits within = refl
taken_in (Ok (taken.Other m)) into n fits within =
    let len = length-take-le n into fits in
    let fewer : m ≤ length (take n into) = within.1 in
    ap (λ (bytes : List ℕ). Ok (other bytes)) (take-take m n into (omega arith))
taken_in (Err fault) into n fits within = refl

-- a stretch, and the one after it
pub BothTold-trans : (before now after : Option (List ℕ)) (P Q R : List ℕ → List ℕ → Type 0) → BothTold before now P → BothTold now after Q →
    ((b n a : List ℕ) → P b n → Q n a → R b a) → BothTold before after R
BothTold-trans before now None P Q R first second f = tt
BothTold-trans before None (Some z) P Q R first second f = absurd second
BothTold-trans None (Some y) (Some z) P Q R first second f = absurd first
BothTold-trans (Some x) (Some y) (Some z) P Q R first second f = f x y z first second

module _ (order : Order) where
  -- a whole message is taken as what it is
  pub taken_whole : (before after : Option (List ℕ)) (result : Result Taken ConnFault) (into : List ℕ) (n : ℕ) → n ≤ length into →
      TakesFirst (Ok (take n into)) (first_message order) order before after → taken_as result (take n into) ≡ message_in order (take n into) → IsTakenWithin result (length (take n into)) →
      TakesFirst (taken_as result into) (incoming order) order before after
  unfolding incoming
  taken_whole before after result into n fits takes is within _ = BothTold-map before after _ _ (takes (λ e. cc))
      (λ b a t. (sym (taken_in result into n fits within) ∙ is ∙ ap (and_then (message_in order)) t.0, t.1))

  -- there is none
  pub taken_none : (before after : Option (List ℕ)) (f : ConnFault) → TakesFirst (Err f) (first_message order) order before after → TakesFirst (Err f) (incoming order) order before after
  unfolding incoming
  taken_none before after f takes sound = BothTold-map before after _ _ (takes (λ e. sound (cc))) (λ b a t. (ap (and_then (message_in order)) t.0, t.1))

  -- one more message is looked at
  awaited_by_one : (n : ℕ) (ring : RingState) (now next : List ℕ) (i : Result Incoming ConnFault) → 0 < n → i ≡ incoming order now → next ≡ after_message order now →
      awaited_message order n ring now ≡ awaited_by i ring next (λ r. awaited_message order (n - 1) r next)
  unfolding awaited_message
  awaited_by_one n ring now next i some is rest =
      let one : n ≡ suc (n - 1) = omega (arith, some) in
      ap (λ (k : ℕ). awaited_message order k ring now) one
      ∙ ap₂ (λ (x : Result Incoming ConnFault) (input : List ℕ). awaited_by x ring input (λ r. awaited_message order (n - 1) r input)) (sym is) (sym rest)

  -- one more message was taken
  pub await_one : (before now after : Option (List ℕ)) (most n : ℕ) (ring0 ring : RingState) → BothTold before now (λ b m. awaited_message order most ring0 b ≡ awaited_message order n ring m) →
      (i : Result Incoming ConnFault) → 0 < n → BothTold now after (λ m a. (i ≡ incoming order m) × (a ≡ after_message order m)) →
      BothTold before after (λ b a. awaited_message order most ring0 b ≡ awaited_by i ring a (λ r. awaited_message order (n - 1) r a))
  await_one before now after most n ring0 ring first i some second = BothTold-trans before now after _ _ _ first second (λ b m a p q. p ∙ awaited_by_one n ring m a i some q.0 q.1)

  -- all the events that may have come have come
  pub await_flood : (before now : Option (List ℕ)) (most n : ℕ) (ring0 ring : RingState) → BothTold before now (λ b m. awaited_message order most ring0 b ≡ awaited_message order n ring m) → n ≡ 0 →
      BothTold before now (λ b m. awaited_message order most ring0 b ≡ record { found = Err fault.EventFlood; ring = ring; rest = m })
  unfolding awaited_message
  await_flood before now most n ring0 ring told none = BothTold-map before now _ _ told (λ b m p. p ∙ ap (λ (k : ℕ). awaited_message order k ring m) none)

  -- a message was found, or none
  pub await_end : (before after : Option (List ℕ)) (most : ℕ) (ring0 ring : RingState) (found : Result (List ℕ) ConnFault) → BothTold before after (λ b a. awaited_message order most ring0 b ≡ record { found = found; ring = ring; rest = a }) →
      BothTold before after (λ b a. (found ≡ (awaited_message order most ring0 b).found) × (ring ≡ (awaited_message order most ring0 b).ring) × (a ≡ (awaited_message order most ring0 b).rest))
  await_end before after most ring0 ring found told = BothTold-map before after _ _ told
      (λ b a e. (sym (ap (λ (w : Awaited). w.found) e), sym (ap (λ (w : Awaited). w.ring) e), sym (ap (λ (w : Awaited). w.rest) e)))
