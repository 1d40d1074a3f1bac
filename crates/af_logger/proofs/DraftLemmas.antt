-- What pieces whose commands have not ended tell of themselves.
use Rattle.std.proofs.Common.{◌≡◌, ◌≤◌, ◌<◌, ◌+◌, ◌-◌, ◌*◌, ◌/◌, ℕ, zero, suc, min, ◌==◌, Bool, Option, None, Some, true, false, List, [], ◌∷◌, ◌++◌, length, take, drop, sym, ap, ap₂, ◌∙◌, refl, arith, append_assoc, append-nil, subst}
use Rattle.std.proofs.lemmas.Grind.{flat_map-append}
use Rattle.std.proofs.lemmas.List.{drop_all, length-append, length-take-le, take-append-drop}
use Rattle.std.proofs.lemmas.Nat.{div-mul-add}
use Rattle.std.proofs.Math.Nat.{add-mul, div-le_of_le-mul, le-mul_of_pos_right, mul_comm, mul-add-div_right}
use Rattle.af_sample.specs.Channels.{IsChannelCount}
use Rattle.af_sample.specs.SampleTypes.{frame_bytes}
use Rattle.af_sample.specs.declared.sample_type.SampleType.{SampleType}
use Rattle.af_sample.specs.declared.sample_type.SampleType.TheVariants as ty
use Rattle.af_logger.specs.declared.plan.Plan.{Plan}
use Rattle.af_logger.specs.declared.progress.Progress.{Progress}
use Rattle.af_logger.specs.Commands.{Changed, Command, Desk, IfSeen, IsOpen, IsOpenAt, closing, handed}
use Rattle.af_logger.specs.Drafts.{Draft, IsDraft, IsTold, StandsFor, draft, took_by, with_block}
use Rattle.af_logger.specs.Pieces.{Block, file_of, frames_in, frames_of, lost_among, sound_of}
use Rattle.af_logger.specs.Plans.{frame_size, IsPlan}
use Rattle.af_logger.specs.Sound.{head_of, pad_of}

-- frames and sound of one block more
frames_more : (blocks : List Block) (b : Block) → frames_of (blocks ++ b ∷ []) ≡ frames_of blocks + b.frames
frames_more [] b = omega arith
frames_more (x ∷ blocks) b = let more = frames_more blocks b in omega (arith, more)

sound_more : (blocks : List Block) (b : Block) → sound_of (blocks ++ b ∷ []) ≡ sound_of blocks ++ b.samples
sound_more blocks b = flat_map-append (λ (b : Block). b.samples) blocks (b ∷ []) ∙ ap (λ (l : List ℕ). sound_of blocks ++ l) (append-nil b.samples)

-- lost frames among all frames of blocks and more
lost_enough : (blocks : List Block) (n m : ℕ) → frames_of blocks ≤ n → frames_of blocks ≤ m → lost_among n blocks ≡ lost_among m blocks
lost_enough [] n m x y = refl
lost_enough (b ∷ blocks) n m x y =
    let more = lost_enough blocks (n - b.frames) (m - b.frames) (omega (arith, x)) (omega (arith, y)) in
    omega (arith, x, y, more)

lost_more : (blocks : List Block) (b : Block) (n : ℕ) → lost_among n (blocks ++ b ∷ []) ≡ lost_among n blocks + min b.lost (min (n - frames_of blocks) b.frames)
lost_more [] b n = omega arith
lost_more (x ∷ blocks) b n =
    let more = lost_more blocks b (n - x.frames) in
    let less : n - x.frames - frames_of blocks ≡ n - (x.frames + frames_of blocks) = omega arith in
    omega (arith, more, less)

-- no bytes are no frames
none_over : (size : ℕ) → 0 < size → 0 / size ≡ 0
none_over size some = let none : 0 * size + 0 ≡ 0 = omega arith in ap (λ (n : ℕ). n / size) (sym none) ∙ div-mul-add 0 size 0 some

none_in : (plan : Plan) (n : ℕ) → 0 < frame_size plan → n ≤ length (head_of plan) → frames_in plan n ≡ 0
none_in plan n some few =
    let none : n - length (head_of plan) ≡ 0 * frame_size plan + 0 = omega (arith, few) in
    ap (λ (k : ℕ). k / frame_size plan) none ∙ div-mul-add 0 (frame_size plan) 0 some

-- frames, and some bytes after them
more_in : (plan : Plan) (n f t : ℕ) → 0 < frame_size plan → n ≡ length (head_of plan) + (f * frame_size plan + t) → frames_in plan n ≡ f + t / frame_size plan
more_in plan n f t some is =
    let bytes : n - length (head_of plan) ≡ f * frame_size plan + t = omega (arith, is) in
    ap (λ (k : ℕ). k / frame_size plan) bytes ∙ mul-add-div_right some f t

-- a command was handed the header
pub head_draft : (plan : Plan) (piece : Progress) (whole : List ℕ) (took : ℕ) → 0 < frame_size plan → whole ≡ head_of plan → took ≤ length whole → piece.recorded ≡ 0 → piece.handed ≡ 0 → piece.lost ≡ 0 → (piece.cut ≡ false → length whole ≤ took) → IsDraft plan piece (draft [] (take took whole))
head_draft plan piece whole took some is few recorded handed lost uncut =
    let size : length (take took whole) ≡ took = length-take-le took whole few in
    let same : length whole ≡ length (head_of plan) = ap (λ (l : List ℕ). length l) is in
    record {
      recorded = recorded;
      handed = handed ∙ sym (none_in plan (length (take took whole)) some (omega (arith, size, few, same)));
      few = omega (arith, handed);
      lost = lost;
      sized = omega arith;
      rest = drop took whole;
      front = append-nil (head_of plan) ∙ sym is ∙ sym (take-append-drop took whole);
      uncut = λ so. drop_all took whole (uncut so);
    }

-- a frame has some bytes
some_channels : (channels : ℕ) → IsChannelCount channels → 0 < channels
some_channels zero is = let bad : false ≡ true = is in cc bad
some_channels (suc n) is = omega arith

pub some_bytes : (plan : Plan) → IsPlan plan → 0 < frame_size plan
some_bytes plan is = by_type plan.ty where
  by_type : (t : SampleType) → 0 < frame_bytes t plan.channels
  by_type ty.Mu255 = let some = some_channels plan.channels is.channels in omega (arith, some)
  by_type ty.Alaw = let some = some_channels plan.channels is.channels in omega (arith, some)
  by_type ty.Lin16 = let some = some_channels plan.channels is.channels in omega (arith, some)
  by_type ty.Lin32 = let some = some_channels plan.channels is.channels in omega (arith, some)

-- a command that is not cut was handed all of its piece
all_taken : (plan : Plan) (piece : Progress) (d : Draft) → IsDraft plan piece d → piece.cut ≡ false → d.taken ≡ head_of plan ++ sound_of d.blocks
all_taken plan piece d is uncut = sym (append-nil d.taken) ∙ sym (ap (λ (l : List ℕ). d.taken ++ l) (is.uncut uncut)) ∙ sym is.front

-- so it was handed all frames
all_handed : (plan : Plan) (piece : Progress) (d : Draft) → 0 < frame_size plan → IsDraft plan piece d → piece.cut ≡ false → piece.handed ≡ frames_of d.blocks
all_handed plan piece d some is uncut =
    let size : length d.taken ≡ length (head_of plan) + length (sound_of d.blocks) = ap (λ (l : List ℕ). length l) (all_taken plan piece d is uncut) ∙ length-append (head_of plan) (sound_of d.blocks) in
    let sized = is.sized in
    let whole : length d.taken ≡ length (head_of plan) + (frames_of d.blocks * frame_size plan + 0) = omega (arith, size, sized) in
    let none : 0 / frame_size plan ≡ 0 = none_over (frame_size plan) some in
    is.handed ∙ more_in plan (length d.taken) (frames_of d.blocks) 0 some whole ∙ (let sum : frames_of d.blocks + 0 / frame_size plan ≡ frames_of d.blocks = omega (arith, none) in sum)

-- a command that takes more was handed a block
module _ (plan : Plan) (piece : Progress) (d : Draft) (some : 0 < frame_size plan) (is : IsDraft plan piece d) (b : Block) (took : ℕ) (any : 0 < b.frames) (fits : length b.samples ≡ b.frames * frame_size plan) (few : took ≤ length b.samples) where
  abbrev bytes : List ℕ
  bytes = take took b.samples

  taken_size : length (d.taken ++ bytes) ≡ length d.taken + took
  taken_size = length-append d.taken bytes ∙ ap (λ (n : ℕ). length d.taken + n) (length-take-le took b.samples few)

  frames_few : took / frame_size plan ≤ b.frames
  frames_few = div-le_of_le-mul (frame_size plan) (let turned : b.frames * frame_size plan ≡ frame_size plan * b.frames = mul_comm b.frames (frame_size plan) in let low : took ≤ frame_size plan * b.frames = omega (arith, few, fits, turned) in low)

  more_sized : length (sound_of (d.blocks ++ b ∷ [])) ≡ frames_of (d.blocks ++ b ∷ []) * frame_size plan
  more_sized =
      let frames = frames_more d.blocks b in
      let sized = is.sized in
      let sound : length (sound_of (d.blocks ++ b ∷ [])) ≡ length (sound_of d.blocks) + length b.samples = ap (λ (l : List ℕ). length l) (sound_more d.blocks b) ∙ length-append (sound_of d.blocks) b.samples in
      let product : (frames_of d.blocks + b.frames) * frame_size plan ≡ frames_of d.blocks * frame_size plan + b.frames * frame_size plan = add-mul (frames_of d.blocks) b.frames (frame_size plan) in
      sound ∙ ap₂ (λ (m n : ℕ). m + n) sized fits ∙ sym product ∙ ap (λ (n : ℕ). n * frame_size plan) (sym frames)

  more_front : (rest : List ℕ) → head_of plan ++ sound_of d.blocks ≡ d.taken ++ rest → head_of plan ++ sound_of (d.blocks ++ b ∷ []) ≡ d.taken ++ (rest ++ b.samples)
  more_front rest front = ap (λ (l : List ℕ). head_of plan ++ l) (sound_more d.blocks b) ∙ sym (append_assoc (head_of plan) (sound_of d.blocks) b.samples) ∙ ap (λ (l : List ℕ). l ++ b.samples) front ∙ append_assoc d.taken rest b.samples

  uncut_draft : (new : Progress) → piece.cut ≡ false → new.recorded ≡ piece.recorded + b.frames → new.handed ≡ piece.handed + took / frame_size plan → new.lost ≡ piece.lost + min b.lost (took / frame_size plan) → (new.cut ≡ false → length b.samples ≤ took) → IsDraft plan new (with_block d b bytes)
  uncut_draft new uncut recorded handed lost all =
      let frames = frames_more d.blocks b in
      let old_recorded = is.recorded in
      let old_lost = is.lost in
      let few_frames = frames_few in
      let whole = all_handed plan piece d some is uncut in
      let size : length d.taken ≡ length (head_of plan) + frames_of d.blocks * frame_size plan = ap (λ (l : List ℕ). length l) (all_taken plan piece d is uncut) ∙ length-append (head_of plan) (sound_of d.blocks) ∙ ap (λ (n : ℕ). length (head_of plan) + n) is.sized in
      let more = taken_size in
      let now : length (d.taken ++ bytes) ≡ length (head_of plan) + (frames_of d.blocks * frame_size plan + took) = omega (arith, size, more) in
      let before = lost_enough d.blocks new.handed piece.handed (omega (arith, handed, whole)) (omega (arith, whole)) in
      let last = lost_more d.blocks b new.handed in
      record {
        recorded = omega (arith, recorded, old_recorded, frames);
        handed = handed ∙ ap (λ (n : ℕ). n + took / frame_size plan) whole ∙ sym (more_in plan (length (d.taken ++ bytes)) (frames_of d.blocks) took some now);
        few = omega (arith, handed, whole, few_frames, frames);
        lost = omega (arith, lost, old_lost, before, last, handed, whole, few_frames);
        sized = more_sized;
        rest = drop took b.samples;
        front = more_front _ is.front ∙ ap (λ (l : List ℕ). d.taken ++ (l ++ b.samples)) (is.uncut uncut) ∙ ap (λ (l : List ℕ). d.taken ++ l) (sym (take-append-drop took b.samples)) ∙ sym (append_assoc d.taken bytes (drop took b.samples));
        uncut = λ so. drop_all took b.samples (all so);
      }

  cut_draft : (new : Progress) → took ≡ 0 → new.recorded ≡ piece.recorded + b.frames → new.handed ≡ piece.handed + took / frame_size plan → new.lost ≡ piece.lost + min b.lost (took / frame_size plan) → (new.cut ≡ false → length b.samples ≤ took) → IsDraft plan new (with_block d b bytes)
  cut_draft new none recorded handed lost all =
      let frames = frames_more d.blocks b in
      let old_recorded = is.recorded in
      let old_lost = is.lost in
      let old_few = is.few in
      let nothing : took / frame_size plan ≡ 0 = ap (λ (n : ℕ). n / frame_size plan) none ∙ none_over (frame_size plan) some in
      let same : new.handed ≡ piece.handed = omega (arith, handed, nothing) in
      let size : length (d.taken ++ bytes) ≡ length d.taken = (let more = taken_size in omega (arith, more, none)) in
      let last = lost_more d.blocks b new.handed in
      let before : lost_among new.handed d.blocks ≡ lost_among piece.handed d.blocks = ap (λ (n : ℕ). lost_among n d.blocks) same in
      record {
        recorded = omega (arith, recorded, old_recorded, frames);
        handed = same ∙ is.handed ∙ ap (λ (n : ℕ). frames_in plan n) (sym size);
        few = omega (arith, same, old_few, frames);
        lost = omega (arith, lost, old_lost, before, last, same, old_few, nothing);
        sized = more_sized;
        rest = is.rest ++ b.samples;
        front = more_front _ is.front ∙ ap (λ (l : List ℕ). l ++ (is.rest ++ b.samples)) (sym (append-nil d.taken) ∙ ap (λ (n : ℕ). d.taken ++ take n b.samples) (sym none));
        uncut = λ so. (let low = all so in let turned : b.frames * frame_size plan ≡ frame_size plan * b.frames = mul_comm b.frames (frame_size plan) in let product : frame_size plan ≤ frame_size plan * b.frames = le-mul_of_pos_right (frame_size plan) any in absurd (omega (arith, low, none, fits, turned, product, some)));
      }

  -- whether it was cut or not
  pub block_draft : (new : Progress) → (piece.cut ≡ true → took ≡ 0) → new.recorded ≡ piece.recorded + b.frames → new.handed ≡ piece.handed + took / frame_size plan → new.lost ≡ piece.lost + min b.lost (took / frame_size plan) → (new.cut ≡ false → length b.samples ≤ took) → IsDraft plan new (with_block d b bytes)
  block_draft new cut recorded handed lost all = by_cut piece.cut refl where
    by_cut : (c : Bool) → piece.cut ≡ c → IsDraft plan new (with_block d b bytes)
    by_cut true was = cut_draft new (cut was) recorded handed lost all
    by_cut false was = uncut_draft new was recorded handed lost all

-- a piece that may go on is told as one that may not
pub told_so_far : (plan : Plan) (piece : Progress) (d : Draft) → IsDraft plan piece d → IsTold plan piece d
told_so_far plan piece d is = record {
  recorded = is.recorded;
  handed = (let handed = is.handed in let few = is.few in omega (arith, handed, few));
  lost = is.lost;
  rest = is.rest ++ pad_of plan;
  front = ap (λ (l : List ℕ). l ++ pad_of plan) is.front ∙ append_assoc d.taken is.rest (pad_of plan);
}

-- so is one whose command took some of what makes its sound even
pub told_padded : (plan : Plan) (piece : Progress) (d : Draft) (took : ℕ) → 0 < frame_size plan → (piece.cut ≡ true → took ≡ 0) → took ≤ length (pad_of plan) → IsDraft plan piece d → IsTold plan piece (draft d.blocks (d.taken ++ take took (pad_of plan)))
told_padded plan piece d took some cut few is = by_cut piece.cut refl where
  by_cut : (c : Bool) → piece.cut ≡ c → IsTold plan piece (draft d.blocks (d.taken ++ take took (pad_of plan)))
  by_cut true was =
      let told : IsTold plan piece (draft d.blocks d.taken) = told_so_far plan piece d is in
      let same : d.taken ≡ d.taken ++ take took (pad_of plan) = sym (append-nil d.taken) ∙ ap (λ (n : ℕ). d.taken ++ take n (pad_of plan)) (sym (cut was)) in
      subst (λ (l : List ℕ). IsTold plan piece (draft d.blocks l)) same told
  by_cut false was =
      let whole = all_handed plan piece d some is was in
      let taken = all_taken plan piece d is was in
      let size : length d.taken ≡ length (head_of plan) + frames_of d.blocks * frame_size plan = ap (λ (l : List ℕ). length l) taken ∙ length-append (head_of plan) (sound_of d.blocks) ∙ ap (λ (n : ℕ). length (head_of plan) + n) is.sized in
      let more : length (d.taken ++ take took (pad_of plan)) ≡ length d.taken + took = length-append d.taken (take took (pad_of plan)) ∙ ap (λ (n : ℕ). length d.taken + n) (length-take-le took (pad_of plan) few) in
      let now : length (d.taken ++ take took (pad_of plan)) ≡ length (head_of plan) + (frames_of d.blocks * frame_size plan + took) = omega (arith, size, more) in
      let frames = more_in plan (length (d.taken ++ take took (pad_of plan))) (frames_of d.blocks) took some now in
      record {
        recorded = is.recorded;
        handed = omega (arith, whole, frames);
        lost = is.lost;
        rest = drop took (pad_of plan);
        front = ap (λ (l : List ℕ). l ++ pad_of plan) (sym taken) ∙ ap (λ (l : List ℕ). d.taken ++ l) (sym (take-append-drop took (pad_of plan))) ∙ sym (append_assoc d.taken (take took (pad_of plan)) (drop took (pad_of plan)));
      }

-- one change of commands after another
pub changed_on : (f g h : Desk → Desk) → ((d : Desk) → g (f d) ≡ h d) → (a b c : Option Desk) → Changed f a b → Changed g b c → Changed h a c
changed_on f g h both a b None x y = tt
changed_on f g h both a None (Some c) x y = absurd y
changed_on f g h both None (Some b) (Some c) x y = absurd x
changed_on f g h both (Some a) (Some b) (Some c) x y = y ∙ ap g x ∙ both a

closed_after : (bytes : List ℕ) (d : Desk) → closing (handed bytes d) ≡ took_by bytes true d
closed_after bytes d = by_last d.last where
  by_last : (last : Option Command) → closing (handed bytes (record d { last = last })) ≡ took_by bytes true (record d { last = last })
  by_last None = refl
  by_last (Some c) = refl

taken_after : (more bytes : List ℕ) (closed : Bool) (d : Desk) → took_by bytes closed (handed more d) ≡ took_by (more ++ bytes) closed d
taken_after more bytes closed d = by_last d.last where
  by_last : (last : Option Command) → took_by bytes closed (handed more (record d { last = last })) ≡ took_by (more ++ bytes) closed (record d { last = last })
  by_last None = refl
  by_last (Some c) = ap (λ (l : List ℕ). record d { last = Some (record { given = c.given; taken = l; closed = closed }) }) (append_assoc c.taken more bytes)

-- bytes, and then the input is closed
pub handed_closed : (bytes : List ℕ) (a b c : Option Desk) → Changed (handed bytes) a b → Changed closing b c → Changed (took_by bytes true) a c
handed_closed bytes a b c x y = changed_on _ closing _ (closed_after bytes) a b c x y

-- bytes, and then more of them
pub handed_twice : (more bytes : List ℕ) (closed : Bool) (a b c : Option Desk) → Changed (handed more) a b → Changed (took_by bytes closed) b c → Changed (took_by (more ++ bytes) closed) a c
handed_twice more bytes closed a b c x y = changed_on _ (took_by bytes closed) _ (taken_after more bytes closed) a b c x y

-- bytes, and the input stays open
pub handed_open : (text : List ℕ) (a b : Option Desk) → IfSeen IsOpen a → Changed (handed text) a b → Changed (took_by text false) a b
handed_open _ a None seen x = tt
handed_open _ None (Some b) seen x = absurd x
handed_open text (Some a) (Some b) seen x = x ∙ by_last a.last seen where
  by_last : (last : Option Command) → IsOpenAt last → handed text (record a { last = last }) ≡ took_by text false (record a { last = last })
  by_last None seen = absurd seen
  by_last (Some c) seen = ap (λ (closed : Bool). record a { last = Some (record { given = c.given; taken = c.taken ++ text; closed = closed }) }) seen
