-- What a card loses is whole frames. How many follows from what was emitted to it and what it took.
use Rattle.std.proofs.Common.{◌≡◌, ℕ, ◌+◌, ◌-◌, ◌*◌, ◌/◌, ◌≤◌, ◌<◌, ◌⊎◌, inl, inr, true, List, [], ◌∷◌, ◌++◌, length, min, take, drop, refl, sym, ap, ◌∙◌, subst, arith}
use Rattle.std.proofs.Math.Nat.{add-mul, add-mul-div_right, div-eq_of_lt, mul-div_cancel, mul-le-mul_right, lt_of_mul-lt-mul_right, zero-div}
use Rattle.std.specs.List.{All}
use Rattle.std.proofs.lemmas.Bool.{cases_lt}
use Rattle.std.proofs.lemmas.List.Elements.{All-cons, All-nil, All-head, All-tail}
use Rattle.std.proofs.lemmas.List.{length-take, length-drop, length-append}
use Rattle.std.specs.declared.option.Option.{Option}
use Rattle.std.specs.declared.option.Option.TheVariants.{None, Some}
use Rattle.af_world.specs.declared.card_kind.CardKind.{CardKind}
use Rattle.af_world.specs.declared.card_kind.CardKind.TheVariants as kind
use Rattle.af_card.specs.declared.shape.Shape.{Shape}
use Rattle.af_card.specs.Ledger.{Run, new_run}
use Rattle.af_card.specs.Between.{hands_frames}
use Rattle.af_card.specs.Fed.{RunFits, HasWholeFrames, IsInStep, AreAsLong, IsPassed, CapturedBy, HandedBy, sound_of}
use Rattle.af_card.specs.Lost.{lost_by, lost_in}

-- so many frames, and less than one more
counts : (width rest frames : ℕ) → rest < width → (rest + frames * width) / width ≡ frames
counts width rest frames less =
    let whole = add-mul-div_right rest frames {z = width} (omega arith) in
    let none = div-eq_of_lt less in
    omega arith

-- all that was emitted was taken, is owed or is lost
lost-is : (width emitted taken owed frames : ℕ) → owed < width → emitted ≡ taken + owed + frames * width → (emitted - taken) / width ≡ frames
lost-is width emitted taken owed frames less is =
    let left : emitted - taken ≡ owed + frames * width = omega arith in
    ap (λ n. n / width) left ∙ counts width owed frames less

-- a front of whole frames leaves whole frames
front-whole : (width : ℕ) (sound : List ℕ) (count frames : ℕ) → length sound ≡ frames * width →
    (lost : ℕ) × (length sound ≡ length (take (count * width) sound) + lost * width)
front-whole width sound count frames is = elim (cases_lt frames count) [
  | inl fewer ↦ (0, all fewer)
  | inr more ↦ (frames - count, part more)
] where
  long : length (take (count * width) sound) ≡ min (count * width) (length sound)
  long = length-take (count * width) sound

  all : frames < count → length sound ≡ length (take (count * width) sound) + 0 * width
  all fewer =
      let most : frames * width ≤ count * width = mul-le-mul_right width (omega arith) in
      let none : 0 * width ≡ 0 = omega arith in
      omega (arith, long, is)

  part : count ≤ frames → length sound ≡ length (take (count * width) sound) + (frames - count) * width
  part more =
      let most : count * width ≤ frames * width = mul-le-mul_right width more in
      let split : frames ≡ count + (frames - count) = omega arith in
      let whole : frames * width ≡ count * width + (frames - count) * width = ap (λ n. n * width) split ∙ add-mul count (frames - count) width in
      omega (arith, long, is)

-- if fronts of whole frames of sounds were passed on, whole frames are lost
passed-whole : (width : ℕ) (sounds : List (List ℕ)) (passed : List ℕ) → All (HasWholeFrames width) sounds → IsPassed width sounds passed →
    (lost : ℕ) × (length (sound_of sounds) ≡ length passed + lost * width)
passed-whole width [] passed whole none =
    let empty = ap length none in
    let nothing : 0 * width ≡ 0 = omega arith in
    (0, omega arith)
passed-whole width (sound ∷ earlier) passed whole is =
    let frames = All-head (HasWholeFrames width) sound earlier whole in
    let before = passed-whole width earlier is.0 (All-tail (HasWholeFrames width) sound earlier whole) is.2 in
    let front = front-whole width sound is.1 frames.0 frames.1 in
    let emitted = length-append (sound_of earlier) sound in
    let long = ap length is.3 ∙ length-append is.0 (take (is.1 * width) sound) in
    let lost = add-mul before.0 front.0 width in
    (before.0 + front.0, omega (arith, before.1, front.1))

-- what is emitted has as many frames as what is captured

as-whole : (width : ℕ) (captured emitted : List (List ℕ)) → AreAsLong captured emitted → All (HasWholeFrames width) captured → All (HasWholeFrames width) emitted
as-whole width [] [] alike whole = All-nil (HasWholeFrames width)
as-whole width [] (e ∷ es) alike whole = grind arith
as-whole width (c ∷ cs) [] alike whole = grind arith
as-whole width (c ∷ cs) (e ∷ es) alike whole =
    let frames = All-head (HasWholeFrames width) c cs whole in
    All-cons (HasWholeFrames width) e es (frames.0, sym alike.0 ∙ frames.1) (as-whole width cs es alike.1 (All-tail (HasWholeFrames width) c cs whole))

step-whole : (width : ℕ) (tick : Option ℕ) (captured emitted : List (List ℕ)) → IsInStep tick captured emitted → All (HasWholeFrames width) captured → All (HasWholeFrames width) emitted
step-whole width None captured emitted step whole = as-whole width captured emitted step whole
step-whole width (Some bytes) [] emitted step whole = grind arith
step-whole width (Some bytes) (c ∷ cs) emitted step whole = as-whole width cs emitted step.1 (All-tail (HasWholeFrames width) c cs whole)

tick-whole : (width bytes : ℕ) (captured emitted : List (List ℕ)) → IsInStep (Some bytes) captured emitted → All (HasWholeFrames width) captured → (frames : ℕ) × (bytes ≡ frames * width)
tick-whole width bytes [] emitted step whole = grind arith
tick-whole width bytes (c ∷ cs) emitted step whole =
    let frames = All-head (HasWholeFrames width) c cs whole in
    (frames.0, sym step.0 ∙ frames.1)

-- what is emitted to a card or an encoder in a tick is whole frames
sound-whole : (k : CardKind) → hands_frames k ≡ true → (shape : Shape) (run : Run) (left sound : List ℕ) → CapturedBy k shape run.given run.captured left →
    IsInStep (Some (length sound)) run.captured run.emitted → (frames : ℕ) × (length sound ≡ frames * shape.frame_bytes)
sound-whole kind.Speaker is shape run left sound captured step = grind arith
sound-whole kind.Microphone is shape run left sound captured step = grind arith
sound-whole kind.Card is shape run left sound captured step = tick-whole shape.frame_bytes (length sound) run.captured run.emitted step captured.whole
sound-whole kind.Encoder is shape run left sound captured step = tick-whole shape.frame_bytes (length sound) run.captured run.emitted step captured.whole

-- what a card or an encoder lost so far

frames-lost : (shape : Shape) (run : Run) (owed : List ℕ) (tick : Option ℕ) → All (HasWholeFrames shape.frame_bytes) run.captured → IsPassed shape.frame_bytes run.emitted (run.taken ++ owed) →
    IsInStep tick run.captured run.emitted → (lost : ℕ) × (length (sound_of run.emitted) ≡ length run.taken + length owed + lost * shape.frame_bytes)
frames-lost shape run owed tick captured passed step =
    let whole = passed-whole shape.frame_bytes run.emitted (run.taken ++ owed) (step-whole shape.frame_bytes tick run.captured run.emitted step captured) passed in
    (whole.0, whole.1 ∙ ap (λ n. n + whole.0 * shape.frame_bytes) (length-append run.taken owed))

card-lost : (k : CardKind) → hands_frames k ≡ true → (shape : Shape) (run : Run) (left owed : List ℕ) (tick : Option ℕ) → CapturedBy k shape run.given run.captured left → HandedBy k shape run.emitted run.taken owed →
    IsInStep tick run.captured run.emitted → (lost : ℕ) × (length (sound_of run.emitted) ≡ length run.taken + length owed + lost * shape.frame_bytes)
card-lost kind.Speaker is shape run left owed tick captured handed step = grind arith
card-lost kind.Microphone is shape run left owed tick captured handed step = grind arith
card-lost kind.Card is shape run left owed tick captured handed step = frames-lost shape run owed tick captured.whole handed.passed step
card-lost kind.Encoder is shape run left owed tick captured handed step = frames-lost shape run owed tick captured.whole handed.passed step

part-of : (k : CardKind) → hands_frames k ≡ true → (shape : Shape) (run : Run) (owed : List ℕ) → HandedBy k shape run.emitted run.taken owed → length owed < shape.frame_bytes
part-of kind.Speaker is shape run owed handed = grind arith
part-of kind.Microphone is shape run owed handed = grind arith
part-of kind.Card is shape run owed handed = handed.part
part-of kind.Encoder is shape run owed handed = handed.part

-- the count of a card or an encoder
by-card : (k : CardKind) → hands_frames k ≡ true → (width : ℕ) (emitted : List (List ℕ)) (taken : List ℕ) → lost_by k width emitted taken ≡ (length (sound_of emitted) - length taken) / width
by-card kind.Speaker is width emitted taken = grind arith
by-card kind.Microphone is width emitted taken = grind arith
by-card kind.Card is width emitted taken = refl
by-card kind.Encoder is width emitted taken = refl

-- one more sound is emitted, and so many of its frames found no room
lost-more : (width emitted taken owed lost sound taken' owed' frames : ℕ) → owed < width → owed' < width → emitted ≡ taken + owed + lost * width →
    taken' + owed' + frames * width ≡ taken + owed + sound → (emitted + sound - taken') / width ≡ (emitted - taken) / width + frames
lost-more width emitted taken owed lost sound taken' owed' frames less less' is parts =
    let before = lost-is width emitted taken owed lost less is in
    let total : emitted + sound ≡ taken' + owed' + (lost + frames) * width = let split = add-mul lost frames width in omega arith in
    let after = lost-is width (emitted + sound) taken' owed' (lost + frames) less' total in
    omega arith

-- a run in which nothing went by has no loss
pub new-lost : (shape : Shape) → lost_in shape new_run ≡ 0
new-lost shape = none shape.kind where
  none : (k : CardKind) → lost_by k shape.frame_bytes [] [] ≡ 0
  none kind.Speaker = refl
  none kind.Microphone = refl
  none kind.Card = zero-div shape.frame_bytes
  none kind.Encoder = zero-div shape.frame_bytes

-- What a program takes of what it is owed is no loss.
pub took-lost : (shape : Shape) (run : Run) (left owed : List ℕ) (tick : Option ℕ) (count : ℕ) → count ≤ length owed → RunFits shape run left owed tick →
    lost_in shape (record run { taken = run.taken ++ take count owed }) ≡ lost_in shape run
took-lost shape run left owed tick count most fits = by-kind shape.kind refl where
  of-card : hands_frames shape.kind ≡ true → (length (sound_of run.emitted) - length (run.taken ++ take count owed)) / shape.frame_bytes ≡ (length (sound_of run.emitted) - length run.taken) / shape.frame_bytes
  of-card is =
      let lost = card-lost shape.kind is shape run left owed tick fits.captured fits.handed fits.in_step in
      let less = part-of shape.kind is shape run owed fits.handed in
      let long = length-append run.taken (take count owed) in
      let front = length-take count owed in
      let after = lost-is shape.frame_bytes (length (sound_of run.emitted)) (length (run.taken ++ take count owed)) (length owed - count) lost.0 (omega arith) (omega (arith, lost.1)) in
      after ∙ sym (lost-is shape.frame_bytes (length (sound_of run.emitted)) (length run.taken) (length owed) lost.0 less lost.1)

  in-frames : hands_frames shape.kind ≡ true → lost_by shape.kind shape.frame_bytes run.emitted (run.taken ++ take count owed) ≡ lost_by shape.kind shape.frame_bytes run.emitted run.taken
  in-frames is = by-card shape.kind is shape.frame_bytes run.emitted (run.taken ++ take count owed) ∙ of-card is ∙ sym (by-card shape.kind is shape.frame_bytes run.emitted run.taken)

  by-kind : (k : CardKind) → shape.kind ≡ k → lost_by shape.kind shape.frame_bytes run.emitted (run.taken ++ take count owed) ≡ lost_by shape.kind shape.frame_bytes run.emitted run.taken
  by-kind kind.Speaker is = subst (λ x. lost_by x shape.frame_bytes run.emitted (run.taken ++ take count owed) ≡ lost_by x shape.frame_bytes run.emitted run.taken) (sym is) refl
  by-kind kind.Microphone is = subst (λ x. lost_by x shape.frame_bytes run.emitted (run.taken ++ take count owed) ≡ lost_by x shape.frame_bytes run.emitted run.taken) (sym is) refl
  by-kind kind.Card is = in-frames (ap hands_frames is)
  by-kind kind.Encoder is = in-frames (ap hands_frames is)

-- A loudspeaker and a microphone lose nothing.
pub never-lost : (k : CardKind) → (k ≡ kind.Speaker) ⊎ (k ≡ kind.Microphone) → (width : ℕ) (emitted emitted' : List (List ℕ)) (taken : List ℕ) →
    lost_by k width emitted' taken ≡ lost_by k width emitted taken
never-lost kind.Speaker no-card width emitted emitted' taken = refl
never-lost kind.Microphone no-card width emitted emitted' taken = refl
never-lost kind.Card (inl is) width emitted emitted' taken = grind arith
never-lost kind.Card (inr is) width emitted emitted' taken = grind arith
never-lost kind.Encoder (inl is) width emitted emitted' taken = grind arith
never-lost kind.Encoder (inr is) width emitted emitted' taken = grind arith

-- A sound for which a card or an encoder has no room is lost as a whole.
pub untaken-lost : (shape : Shape) (run : Run) (left owed sound : List ℕ) → hands_frames shape.kind ≡ true → RunFits shape run left owed (Some (length sound)) →
    lost_in shape (record run { emitted = sound ∷ run.emitted }) ≡ lost_in shape run + length sound / shape.frame_bytes
untaken-lost shape run left owed sound is fits =
    let width = shape.frame_bytes in
    let lost = card-lost shape.kind is shape run left owed (Some (length sound)) fits.captured fits.handed fits.in_step in
    let less = part-of shape.kind is shape run owed fits.handed in
    let frames = sound-whole shape.kind is shape run left sound fits.captured fits.in_step in
    let more = lost-more width (length (sound_of run.emitted)) (length run.taken) (length owed) lost.0 (length sound) (length run.taken) (length owed) frames.0 less less lost.1 (omega (arith, frames.1)) in
    let many : length sound / width ≡ frames.0 = ap (λ n. n / width) frames.1 ∙ mul-div_cancel frames.0 (omega arith) in
    by-card shape.kind is width (sound ∷ run.emitted) run.taken ∙ ap (λ n. (n - length run.taken) / width) (length-append (sound_of run.emitted) sound) ∙ more ∙
    ap (λ n. n + frames.0) (sym (by-card shape.kind is width run.emitted run.taken)) ∙ ap (λ n. lost_in shape run + n) (sym many)

-- If a card or an encoder took a part of a sound, the part that was neither taken nor is owed is lost.
pub part-lost : (shape : Shape) (run : Run) (left sound : List ℕ) (count rest frames : ℕ) → hands_frames shape.kind ≡ true → count ≤ length sound → rest < shape.frame_bytes →
    count + rest ≡ frames * shape.frame_bytes → RunFits shape run left [] (Some (length sound)) →
    lost_in shape (record run { emitted = sound ∷ run.emitted; taken = run.taken ++ take count sound }) ≡
    lost_in shape run + (length sound - count - length (take (min rest (length sound - count)) (drop count sound))) / shape.frame_bytes
part-lost shape run left sound count rest frames is most less whole fits =
    let width = shape.frame_bytes in
    let lost = card-lost shape.kind is shape run left [] (Some (length sound)) fits.captured fits.handed fits.in_step in
    let all = sound-whole shape.kind is shape run left sound fits.captured fits.in_step in
    let few : frames < all.0 + 1 = lt_of_mul-lt-mul_right width (let next = add-mul all.0 1 width in let all-is = all.1 in omega arith) in
    let split : all.0 ≡ frames + (all.0 - frames) = omega arith in
    let parts : all.0 * width ≡ frames * width + (all.0 - frames) * width = ap (λ n. n * width) split ∙ add-mul frames (all.0 - frames) width in
    let later = length-drop count sound in
    let owes : length (take (min rest (length sound - count)) (drop count sound)) ≡ rest =
    length-take (min rest (length sound - count)) (drop count sound) ∙ omega (arith, later, all.1) in
    let front : length (take count sound) ≡ count = length-take count sound ∙ omega arith in
    let long = length-append run.taken (take count sound) in
    let more = lost-more width (length (sound_of run.emitted)) (length run.taken) 0 lost.0 (length sound) (length (run.taken ++ take count sound)) rest (all.0 - frames) (omega arith) less
    lost.1 (omega (arith, all.1)) in
    let left-over : length sound - count - rest ≡ (all.0 - frames) * width = omega (arith, all.1) in
    let many : (length sound - count - rest) / width ≡ all.0 - frames = ap (λ n. n / width) left-over ∙ mul-div_cancel (all.0 - frames) (omega arith) in
    by-card shape.kind is width (sound ∷ run.emitted) (run.taken ++ take count sound) ∙
    ap (λ n. (n - length (run.taken ++ take count sound)) / width) (length-append (sound_of run.emitted) sound) ∙ more ∙
    ap (λ n. n + (all.0 - frames)) (sym (by-card shape.kind is width run.emitted run.taken)) ∙ ap (λ n. lost_in shape run + n) (sym many) ∙
    ap (λ n. lost_in shape run + (length sound - count - n) / width) (sym owes)
