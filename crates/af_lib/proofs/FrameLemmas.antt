-- Reading one message: a header, and what comes after it.
use Rattle.std.proofs.Common.{◌≡◌, ◌≢◌, ℕ, ◌-◌, ◌<◌, ◌≤◌, List, [], ◌++◌, length, take, drop, sym, ap, ◌∙◌, subst, refl, arith, append_assoc, length-append, Option, Result, Ok, Err}
use Rattle.std.proofs.lemmas.List.{take_at, drop_at, length-take-le}
use Rattle.af_io.specs.Observed.{Consumed}
use Rattle.af_wire.specs.declared.order.Order.{Order}
use Rattle.af_wire.specs.declared.message_front.MessageFront.{MessageFront}
use Rattle.af_wire.specs.declared.message_front.MessageFront.TheVariants.{NeedMore, Message, BadMessage}
use Rattle.af_wire.specs.MessageFront.{message_front}
use Rattle.af_lib.specs.declared.fault.ConnFault.{ConnFault}
use Rattle.af_lib.specs.declared.fault.ConnFault.TheVariants as fault
use Rattle.af_lib.specs.Answers.{bad_reply}
use Rattle.af_lib.specs.Incoming.{after_message, first_message, message_at, rest_at}
use Rattle.af_lib.specs.Observed.{BothTold}
use Rattle.af_lib.specs.Receive.{Fills}
use Rattle.af_io.proofs.ConsumedLemmas.{consumed_on}
use Rattle.af_lib.proofs.LinkByteLemmas.{BothTold-map, BothTold-Consumed, BothTold-later}
use Rattle.af_lib.proofs.MessageFrontLemmas.{IsWhole, IsCut, whole-longer, cut-longer, bad-longer, head-longer, short-cut}

-- this is the first message of the observable bytes of a link, and what is left of them comes after it
abbrev pub IsFirst : Order → Result (List ℕ) ConnFault → Option (List ℕ) → Option (List ℕ) → Type 0
IsFirst order found before after = BothTold before after (λ b a. (found ≡ first_message order b) × (a ≡ after_message order b))

-- reading into a slice failed, and not the link
by_fault : (P : ConnFault → Type 0) (f : ConnFault) (into : List ℕ) (before after : Option (List ℕ)) → Fills (Err f) into before after → (let r : Result (List ℕ) ConnFault = Err f in r ≢ Err fault.LinkFault) →
    (BothTold before after (λ b a. (length b < length into) × (a ≡ [])) → P fault.LinkEnded) → P f
by_fault P fault.LinkEnded into before after fills sound ended = ended fills
by_fault P fault.LinkFault into before after fills sound ended = absurd (sound refl)
by_fault P f into before after fills sound ended = absurd fills

module _ (order : Order) where
  -- the first message of an input, and what is after it, by its front
  first_by : (front : MessageFront) (b : List ℕ) → message_front order b ≡ front → (first_message order b ≡ message_at front b) × (after_message order b ≡ rest_at front b)
  unfolding first_message after_message
  first_by front b is = (ap (λ f. message_at f b) is, ap (λ f. rest_at f b) is)

  -- the first bytes of an input, which stand in a buffer, and those after them
  parted : (n : ℕ) (into b a : List ℕ) → n ≤ length into → b ≡ take n into ++ a → (take n b ≡ take n into) × (drop n b ≡ a)
  parted n into b a fits is =
      let len = length-take-le n into fits in
      (ap (take n) is ∙ take_at (take n into) a n len, ap (drop n) is ∙ drop_at (take n into) a n len)

  -- a whole message is what was read
  whole_first : (before after : Option (List ℕ)) (into : List ℕ) (n : ℕ) → n ≤ length into → BothTold before after (λ b a. IsWhole order b n × (b ≡ take n into ++ a)) → IsFirst order (Ok (take n into)) before after
  whole_first before after into n fits told = BothTold-map before after _ _ told (λ b a t.
      let w = t.0 in
      let by = first_by (Message w.kind w.detail w.sequence n) b w.front in
      let parts = parted n into b a fits t.1 in
      (ap (λ (m : List ℕ). (let r : Result (List ℕ) ConnFault = Ok m in r)) (sym parts.0) ∙ sym by.0, sym parts.1 ∙ sym by.1))

  -- all of a message that is cut off was read
  cut_first : (before after : Option (List ℕ)) → BothTold before after (λ b a. IsCut order b × (a ≡ [])) → IsFirst order (Err fault.LinkEnded) before after
  cut_first before after told = BothTold-map before after _ _ told (λ b a t.
      let by = first_by (NeedMore (t.0).length) b (t.0).front in
      (sym by.0, t.1 ∙ sym by.1))

  -- the link ended within a header
  pub no_head : (before after : Option (List ℕ)) (into : List ℕ) (f : ConnFault) → length into ≡ 8 → Fills (Err f) into before after → (let r : Result (List ℕ) ConnFault = Err f in r ≢ Err fault.LinkFault) → IsFirst order (Err f) before after
  no_head before after into f eight fills sound = by_fault (λ f. IsFirst order (Err f) before after) f into before after fills sound (λ told.
      cut_first before after (BothTold-map before after _ _ told (λ b a t. (let fewer : length b < length into = t.0 in short-cut order b (omega arith), t.1))))

  -- the front of a header that stands in a buffer
  front_of : (head rest : List ℕ) (front : MessageFront) → length head ≡ 8 → front ≡ message_front order (take 8 (head ++ rest)) → message_front order head ≡ front
  front_of head rest front eight is = ap (message_front order) (sym (take_at head rest 8 eight)) ∙ sym is

  -- a bad header
  pub bad_head : (before after : Option (List ℕ)) (head rest : List ℕ) (f : ConnFault) → length head ≡ 8 → Consumed before head after → BadMessage ≡ message_front order (take 8 (head ++ rest)) →
      f ≡ bad_reply (take 8 (head ++ rest)) → IsFirst order (Err f) before after
  bad_head before after head rest f eight consumed is bad =
      let front = front_of head rest BadMessage eight is in
      let alone = take_at head rest 8 eight in
      BothTold-map before after _ _ (BothTold-Consumed before after head consumed)
      (λ b a e.
      let by = first_by BadMessage b (ap (message_front order) e ∙ bad-longer order head a eight front) in (
        ap (λ (f : ConnFault). (let r : Result (List ℕ) ConnFault = Err f in r)) (bad ∙ ap bad_reply (alone ∙ sym (take_at head a 8 eight) ∙ ap (take 8) (sym e))) ∙ sym by.0,
        sym (ap (drop 8) e ∙ drop_at head a 8 eight) ∙ sym by.1,
      ))

  -- a message without a body
  pub head_alone : (before after : Option (List ℕ)) (head rest : List ℕ) (k d s n : ℕ) → length head ≡ 8 → 8 ≤ n → n ≤ length (take 8 (head ++ rest)) → Consumed before head after →
      Message k d s n ≡ message_front order (take 8 (head ++ rest)) → n ≤ length (head ++ rest) → IsFirst order (Ok (take n (head ++ rest))) before after
  head_alone before after head rest k d s n eight least most consumed is fits =
      let front = front_of head rest (Message k d s n) eight is in
      let len : length (take 8 (head ++ rest)) ≡ 8 = ap length (take_at head rest 8 eight) ∙ eight in
      let same : length head ≡ n = omega arith in
      whole_first before after (head ++ rest) n fits (BothTold-map before after _ _ (BothTold-Consumed before after head consumed)
      (λ b a e. (let P : List ℕ → Type 0 = λ b. IsWhole order b n in subst P (sym e) (head-longer order head a eight k d s n front), e ∙ ap (λ (t : List ℕ). t ++ a) (sym (take_at head rest n same)))))

  -- a header and the body after it
  pub head_and_body : (before now after : Option (List ℕ)) (head rest body past : List ℕ) (n : ℕ) → length head ≡ 8 → 8 ≤ n → length body ≡ n - 8 →
      Consumed before head now → Consumed now body after → NeedMore n ≡ message_front order (take 8 (head ++ rest)) → n ≤ length (take 8 (head ++ rest) ++ (body ++ past)) →
      IsFirst order (Ok (take n (take 8 (head ++ rest) ++ (body ++ past)))) before after
  head_and_body before now after head rest body past n eight least size first second is fits =
      let front = front_of head rest (NeedMore n) eight is in
      let total : length (head ++ body) ≡ n = omega (arith, length-append head body) in
      let whole : take n (take 8 (head ++ rest) ++ (body ++ past)) ≡ head ++ body =
      ap (λ (t : List ℕ). take n (t ++ (body ++ past))) (take_at head rest 8 eight) ∙ ap (take n) (sym (append_assoc head body past)) ∙ take_at (head ++ body) past n total in
      whole_first before after (take 8 (head ++ rest) ++ (body ++ past)) n fits (BothTold-map before after _ _ (BothTold-Consumed before after (head ++ body) (consumed_on before now after head body first second))
      (λ b a e.
      let there : n ≤ length (head ++ (body ++ a)) = omega (arith, length-append head body, length-append head (body ++ a), length-append body a) in
      let joined = e ∙ append_assoc head body a in
      (let P : List ℕ → Type 0 = λ b. IsWhole order b n in subst P (sym joined) (whole-longer order head (body ++ a) eight n front there), e ∙ ap (λ (t : List ℕ). t ++ a) (sym whole))))

  -- the link ended within a body
  pub head_and_cut : (before now after : Option (List ℕ)) (head rest into : List ℕ) (n : ℕ) (f : ConnFault) → length head ≡ 8 → 8 ≤ n → length into ≡ n - 8 → Consumed before head now →
      Fills (Err f) into now after → NeedMore n ≡ message_front order (take 8 (head ++ rest)) → (let r : Result (List ℕ) ConnFault = Err f in r ≢ Err fault.LinkFault) → IsFirst order (Err f) before after
  head_and_cut before now after head rest into n f eight least size first fills is sound =
      let front = front_of head rest (NeedMore n) eight is in
      by_fault (λ f. IsFirst order (Err f) before after) f into now after fills sound (λ cut.
      cut_first before after (BothTold-later before now after head _ _ first cut
      (λ b a t. (let fewer : length b < length into = t.0 in cut-longer order head b eight n front (omega (arith, length-append head b)), t.1))))
