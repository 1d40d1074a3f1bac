-- What a program gave and was handed keeps to the promise, as more of it comes.
use Rattle.std.proofs.Common.{◌≡◌, ℕ, ◌+◌, ◌-◌, ◌*◌, ◌≤◌, ◌<◌, true, List, [], ◌∷◌, ◌++◌, length, min, take, drop, refl, sym, ap, ◌∙◌, subst, arith, append_assoc, append-nil}
use Rattle.std.proofs.lemmas.List.Elements.{All-nil}
use Rattle.std.proofs.Math.Seq.{take-add}
use Rattle.std.proofs.lemmas.List.{take-append-drop, length-drop, length-take, take_min}
use Rattle.std.specs.declared.option.Option.TheVariants.{None, Some}
use Rattle.af_world.specs.declared.card_kind.CardKind.{CardKind}
use Rattle.af_world.specs.declared.card_kind.CardKind.TheVariants as kind
use Rattle.af_card.specs.declared.shape.Shape.{Shape}
use Rattle.af_card.specs.Ledger.{new_run}
use Rattle.af_card.specs.Fed.{RunFits, HasWholeFrames, CapturedBy, HandedBy, HandedPassed, IsInStep, IsPassed, IsSilent, sound_of}
use Rattle.af_card.specs.Between.{EmitsBy, LeavesLess, gives_sound, hands_frames}

pub captured-gave : (k : CardKind) (shape : Shape) (gave : List ℕ) (sounds : List (List ℕ)) (left bytes : List ℕ) → gives_sound k ≡ true → CapturedBy k shape gave sounds left →
    CapturedBy k shape (gave ++ bytes) sounds (left ++ bytes)
captured-gave kind.Speaker shape gave sounds left bytes gives c = grind arith
captured-gave kind.Microphone shape gave sounds left bytes gives c = record { given = ap (λ x. x ++ bytes) c.given ∙ append_assoc (sound_of sounds) left bytes; whole = c.whole }
captured-gave kind.Card shape gave sounds left bytes gives c = record { given = ap (λ x. x ++ bytes) c.given ∙ append_assoc (sound_of sounds) left bytes; whole = c.whole }
captured-gave kind.Encoder shape gave sounds left bytes gives c = grind arith

-- what is owed is taken from its front
took-front : (taken owed : List ℕ) (count : ℕ) → (taken ++ take count owed) ++ drop count owed ≡ taken ++ owed
took-front taken owed count = append_assoc taken (take count owed) (drop count owed) ∙ ap (λ x. taken ++ x) (take-append-drop count owed)

passed-took : (width : ℕ) (sounds : List (List ℕ)) (took owed : List ℕ) (count : ℕ) → count ≤ length owed → HandedPassed width sounds took owed →
    HandedPassed width sounds (took ++ take count owed) (drop count owed)
passed-took width sounds took owed count most h = record {
  passed = subst (λ x. IsPassed width sounds x) (sym (took-front took owed count)) h.passed;
  part = let less = length-drop count owed in let part = h.part in grind arith;
}

pub handed-took : (k : CardKind) (shape : Shape) (sounds : List (List ℕ)) (took owed : List ℕ) (count : ℕ) → 1 ≤ count → count ≤ length owed → HandedBy k shape sounds took owed →
    HandedBy k shape sounds (took ++ take count owed) (drop count owed)
handed-took kind.Speaker shape sounds took owed count some most h = record {
  all = h.all ∙ sym (took-front took owed count);
  piece_at_most = let less = length-drop count owed in let piece = h.piece_at_most in grind arith;
}
handed-took kind.Microphone shape sounds took owed count some most h = let none = ap length h.owes in grind arith
handed-took kind.Card shape sounds took owed count some most h = passed-took shape.frame_bytes sounds took owed count most h
handed-took kind.Encoder shape sounds took owed count some most h = passed-took shape.frame_bytes sounds took owed count most h

-- the two calls of a tick are made
pub emitted-in-step : (bytes : ℕ) (sound : List ℕ) (cs es : List (List ℕ)) → bytes ≡ length sound → IsInStep (Some bytes) cs es → IsInStep None cs (sound ∷ es)
emitted-in-step bytes sound [] es is step = grind arith
emitted-in-step bytes sound (c ∷ cs) es is step = (step.0 ∙ is, step.1)

-- a microphone is handed nothing
pub handed-nothing : (k : CardKind) → k ≡ kind.Microphone → (shape : Shape) (sounds : List (List ℕ)) (took owed sound : List ℕ) → HandedBy k shape sounds took owed →
    HandedBy k shape (sound ∷ sounds) took owed
handed-nothing kind.Speaker is shape sounds took owed sound h = grind arith
handed-nothing kind.Microphone is shape sounds took owed sound h = h
handed-nothing kind.Card is shape sounds took owed sound h = grind arith
handed-nothing kind.Encoder is shape sounds took owed sound h = grind arith

-- a loudspeaker is owed a piece
pub handed-piece : (k : CardKind) → k ≡ kind.Speaker → (shape : Shape) (sounds : List (List ℕ)) (took owed sound : List ℕ) → EmitsBy k shape owed (length sound) →
    HandedBy k shape sounds took owed → HandedBy k shape (sound ∷ sounds) took (owed ++ sound)
handed-piece kind.Speaker is shape sounds took owed sound can h = record {
  all = ap (λ x. x ++ sound) h.all ∙ append_assoc took owed sound;
  piece_at_most = let none = ap (λ x. length (x ++ sound)) can.0 in let most = can.1 in grind arith;
}
handed-piece kind.Microphone is shape sounds took owed sound can h = grind arith
handed-piece kind.Card is shape sounds took owed sound can h = grind arith
handed-piece kind.Encoder is shape sounds took owed sound can h = grind arith

-- a card or an encoder has no room for a sound

passed-lost : (width : ℕ) (sounds : List (List ℕ)) (took owed sound : List ℕ) → HandedPassed width sounds took owed → HandedPassed width (sound ∷ sounds) took owed
passed-lost width sounds took owed sound h =
    let none : 0 * width ≡ 0 = omega arith in
    record {
      passed = (took ++ owed, 0, h.passed, sym (append-nil (took ++ owed)) ∙ ap (λ n. (took ++ owed) ++ take n sound) (sym none));
      part = h.part;
    }

pub handed-lost : (k : CardKind) → hands_frames k ≡ true → (shape : Shape) (sounds : List (List ℕ)) (took owed sound : List ℕ) → HandedBy k shape sounds took owed →
    HandedBy k shape (sound ∷ sounds) took owed
handed-lost kind.Speaker is shape sounds took owed sound h = grind arith
handed-lost kind.Microphone is shape sounds took owed sound h = grind arith
handed-lost kind.Card is shape sounds took owed sound h = passed-lost shape.frame_bytes sounds took owed sound h
handed-lost kind.Encoder is shape sounds took owed sound h = passed-lost shape.frame_bytes sounds took owed sound h

-- a first part of a sound, and the rest of the frame in which it ends
parts-passed : (sound : List ℕ) (count rest frames width : ℕ) → count ≤ length sound → count + rest ≡ frames * width →
    take count sound ++ take (min rest (length sound - count)) (drop count sound) ≡ take (frames * width) sound
parts-passed sound count rest frames width most is =
    ap (λ n. take count sound ++ take (min rest n) (drop count sound)) (sym (length-drop count sound)) ∙
    ap (λ xs. take count sound ++ xs) (take_min rest (drop count sound)) ∙ sym (take-add count rest sound) ∙ ap (λ n. take n sound) is

-- a card or an encoder that is owed nothing takes a first part of a sound, and is owed the rest of the frame in which it ends

passed-part : (width : ℕ) (sounds : List (List ℕ)) (took sound : List ℕ) (count rest frames : ℕ) → count ≤ length sound → rest < width → count + rest ≡ frames * width →
    HandedPassed width sounds took [] → HandedPassed width (sound ∷ sounds) (took ++ take count sound) (take (min rest (length sound - count)) (drop count sound))
passed-part width sounds took sound count rest frames most less whole h = record {
  passed = (
    took ++ [],
    frames,
    h.passed,
    append_assoc took (take count sound) (take (min rest (length sound - count)) (drop count sound)) ∙
        ap (λ xs. took ++ xs) (parts-passed sound count rest frames width most whole) ∙ ap (λ xs. xs ++ take (frames * width) sound) (sym (append-nil took)),
  );
  part = let long = length-take (min rest (length sound - count)) (drop count sound) in grind arith;
}

pub handed-part : (k : CardKind) → hands_frames k ≡ true → (shape : Shape) (sounds : List (List ℕ)) (took sound : List ℕ) (count rest frames : ℕ) → count ≤ length sound →
    rest < shape.frame_bytes → count + rest ≡ frames * shape.frame_bytes → HandedBy k shape sounds took [] →
    HandedBy k shape (sound ∷ sounds) (took ++ take count sound) (take (min rest (length sound - count)) (drop count sound))
handed-part kind.Speaker is shape sounds took sound count rest frames most less whole h = grind arith
handed-part kind.Microphone is shape sounds took sound count rest frames most less whole h = grind arith
handed-part kind.Card is shape sounds took sound count rest frames most less whole h = passed-part shape.frame_bytes sounds took sound count rest frames most less whole h
handed-part kind.Encoder is shape sounds took sound count rest frames most less whole h = passed-part shape.frame_bytes sounds took sound count rest frames most less whole h

-- nothing went by so far
pub new-run-fits : (k : CardKind) (shape : Shape) → shape.kind ≡ k → 1 ≤ shape.frame_bytes → RunFits shape new_run [] [] None
new-run-fits kind.Speaker shape is some = record {
  captured = subst (λ x. CapturedBy x shape [] [] []) (sym is) (record { given = refl; silent = All-nil (IsSilent shape.silence); none = refl });
  handed = subst (λ x. HandedBy x shape [] [] []) (sym is) (record { all = refl; piece_at_most = grind arith });
  in_step = tt;
}
new-run-fits kind.Microphone shape is some = record {
  captured = subst (λ x. CapturedBy x shape [] [] []) (sym is) (record { given = refl; whole = All-nil (HasWholeFrames shape.frame_bytes) });
  handed = subst (λ x. HandedBy x shape [] [] []) (sym is) (record { none = refl; owes = refl });
  in_step = tt;
}
new-run-fits kind.Card shape is some = record {
  captured = subst (λ x. CapturedBy x shape [] [] []) (sym is) (record { given = refl; whole = All-nil (HasWholeFrames shape.frame_bytes) });
  handed = subst (λ x. HandedBy x shape [] [] []) (sym is) (record { passed = refl; part = some });
  in_step = tt;
}
new-run-fits kind.Encoder shape is some = record {
  captured = subst (λ x. CapturedBy x shape [] [] []) (sym is) (record {
    silence_alone = record { given = refl; silent = All-nil (IsSilent shape.silence); none = refl };
    whole = All-nil (HasWholeFrames shape.frame_bytes);
  });
  handed = subst (λ x. HandedBy x shape [] [] []) (sym is) (record { passed = refl; part = some });
  in_step = tt;
}

-- less than a frame is left; also for a loudspeaker and an encoder, which give nothing
pub less-left : (k : CardKind) (shape : Shape) (gave : List ℕ) (sounds : List (List ℕ)) (left : List ℕ) → 1 ≤ shape.frame_bytes → LeavesLess k shape left → CapturedBy k shape gave sounds left →
    length left < shape.frame_bytes
less-left kind.Speaker shape gave sounds left some less c = let none = ap length c.none in grind arith
less-left kind.Microphone shape gave sounds left some less c = less
less-left kind.Card shape gave sounds left some less c = less
less-left kind.Encoder shape gave sounds left some less c = let none = ap length c.silence_alone.none in grind arith
