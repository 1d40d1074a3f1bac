-- The steps of playing a source: a block is read and played, or the tool ends.
use Rattle.std.proofs.Common.{◌≡◌, ◌⊎◌, ℕ, zero, suc, ◌+◌, ◌-◌, ◌*◌, ◌/◌, ◌<◌, ◌≤◌, List, [], ◌++◌, length, take, sym, ap, ap₂, ◌∙◌, refl, subst, arith, append-nil, length-take-le, IsSome, inl, inr, Result, Ok, Err, Option, None, Some}
use Rattle.std.proofs.lemmas.Option.{same_Some}
use Rattle.std.proofs.lemmas.List.{take-take}
use Rattle.std.proofs.Math.Seq.{take-append-add}
use Rattle.std.proofs.Math.Nat.{zero-div}
use Rattle.af_time.specs.declared.DevTime.{DevTime}
use Rattle.af_io.specs.Observed.{Consumed}
use Rattle.af_io.specs.Flow.{IsSpent}
use Rattle.af_toolkit.specs.declared.end.ToolEnd.{ToolEnd}
use Rattle.af_toolkit.specs.declared.end.ToolEnd.TheVariants as end
use Rattle.af_toolkit.specs.Parts.{Goes, IsProgramKind, goes_on, part_among, stops}
use Rattle.af_toolkit.proofs.PartLemmas.{Reached, goes_stop, goes_value, reached_goes, reached_here, reached_on}
use Rattle.af_toolkit.specs.Trace.{refused}
use Rattle.af_toolkit.specs.ToolParts.{ToolPart, ToolSight, deeds, doing, tooling}
use Rattle.af_sound.specs.declared.head.Coding.{Coding}
use Rattle.af_tools.specs.declared.fill.FillFault.{FillFault}
use Rattle.af_tools.specs.declared.fill.FillFault.TheVariants as fill
use Rattle.af_tools.specs.declared.sound.SourceSound.{SourceSound}
use Rattle.af_tools.specs.Sounds.{most_bytes, as_served, source_width, stated_after, stated_part, stated_room, FitsStated}
use Rattle.af_tools.specs.declared.pace.Course.{Course}
use Rattle.af_tools.specs.declared.pace.Pace.{Pace}
use Rattle.af_tools.specs.Pacing.{course_from, course_on}
use Rattle.af_tools.specs.Play.{PlayPart, blocks, frames_in, of_reply, of_source, play_finish, plays, plays_block, plays_sound, whole_frames}
use Rattle.af_tools.specs.Reading.{fill_end, ConsumedAbove, FillsBlock, IsFirstBlock}
use Rattle.af_io.proofs.ConsumedLemmas.{consumed_known, consumed_told}
use Rattle.af_toolkit.proofs.ToolPartLemmas.{cut_goes, goes_among, is_tooling}
use Rattle.af_tools.proofs.PlayBlockLemmas.{plays_beyond, plays_next, plays_over}
use Rattle.af_tools.proofs.SourceCountLemmas.{spent_none, whole_of}
use Rattle.af_tools.proofs.SourceFrameLemmas.{BlockFits, block_short}

pub is_play : IsProgramKind (tooling play_finish)
is_play = is_tooling play_finish

-- a request of a tool, as one of aplay
pub play_goes : {X : Type 0} {part : ToolPart X} {r : Result X ToolEnd} {o p : ToolSight} → Goes (tooling refused) part r o p → Goes (tooling play_finish) (part_among of_reply part) r o p
play_goes g = goes_among of_reply play_finish g

too_much_goes : {o : ToolSight} → Goes {X = Course} (tooling play_finish) (stops doing of_source) (Err end.TooLong) o o
too_much_goes {o} = record { came = λ w stands. (deeds [] [], inr (of_source, refl, refl), is_play.shows_nothing o) }

-- So many frames of a sound were played: the blocks of what is left of it follow. The source is to give so many bytes of the
-- sound, if that is stated, and gave n before it.
pub record IsPlaying (part : PlayPart Course) (coding : Option Coding) (width : ℕ) (pace : Pace) (size : ℕ) (course : Course) (given : ℕ) (of : Option ℕ) (left : Option (List ℕ)) (o p : ToolSight) : Type 0 where
  pub rest : List ℕ
  pub is_left : left ≡ Some rest
  pub reached : Reached (tooling play_finish) part (plays coding width pace course given (blocks size (stated_part of rest))) o p

-- the same where the next n bytes of the sound were read into a room
pub record IsFilled (part : PlayPart Course) (coding : Option Coding) (width : ℕ) (pace : Pace) (size : ℕ) (course : Course) (given n : ℕ) (of : Option ℕ) (room : List ℕ) (left : Option (List ℕ)) (o p : ToolSight) : Type 0 where
  pub after : List ℕ
  pub is_left : left ≡ Some after
  pub full : length (take n room) ≡ n
  pub ended : n < size → stated_part (stated_after of n) after ≡ []
  pub reached : Reached (tooling play_finish) part (plays coding width pace course given (blocks size (take n room ++ stated_part (stated_after of n) after))) o p

-- a part of a sound at its front
part_front : (of : Option ℕ) (part after : List ℕ) → FitsStated of (length part) → stated_part of (part ++ after) ≡ part ++ stated_part (stated_after of (length part)) after
part_front None part after fits = refl
part_front (Some m) part after fits =
    ap (λ (k : ℕ). take k (part ++ after)) (let count : m ≡ length part + (m - length part) = omega arith in count) ∙ take-append-add part after (m - length part)

part_none : (of : Option ℕ) → stated_part of [] ≡ []
part_none None = refl
part_none (Some zero) = refl
part_none (Some (suc n)) = refl

-- all that is stated was read
part_over : (of : Option ℕ) (n : ℕ) (after : List ℕ) → of ≡ Some n → stated_part (stated_after of n) after ≡ []
part_over None n after is = cc is
part_over (Some m) n after is =
    let same : m ≡ n = cc in
    let none : m - n ≡ 0 = omega arith in
    ap (λ (k : ℕ). take k after) none

-- nothing is left after a source that is spent, or after all that was stated
part_ended : (of : Option ℕ) (n : ℕ) (left' : Option (List ℕ)) (after : List ℕ) → left' ≡ Some after → IsSpent left' ⊎ (of ≡ Some n) → stated_part (stated_after of n) after ≡ []
part_ended of n left' after is (inl spent) = ap (stated_part (stated_after of n)) (spent_none left' after is spent) ∙ part_none (stated_after of n)
part_ended of n left' after is (inr all) = part_over of n after all

-- the samples of a block, which are the first of a buffer
samples_of : (n width : ℕ) (room : List ℕ) → length (take n room) ≡ n → n / width * width ≤ n → take (n / width * width) room ≡ whole_frames width (take n room)
samples_of n width room full within =
    sym (take-take (n / width * width) n room within) ∙ ap (λ k. take (k / width * width) (take n room)) (sym full)

fits_room : (of : Option ℕ) (size n : ℕ) → n ≤ stated_room of size → (n ≤ size) × FitsStated of n
fits_room None size n fits = (fits, tt)
fits_room (Some m) size n fits = (omega arith, omega arith)

module _ {part : PlayPart Course} {coding : Option Coding} {width : ℕ} {pace : Pace} {size : ℕ} {course : Course} {given : ℕ} {of : Option ℕ} {left : Option (List ℕ)} {o p : ToolSight} (i : IsPlaying part coding width pace size course given of left o p) where
  -- the source gave too much
  pub play_too_long : (allowed : ℕ) (left' : Option (List ℕ)) → 0 < size → allowed + given ≡ most_bytes → ConsumedAbove allowed (stated_room of size) left left' → IsSome left' → Goes {X = Course} (tooling play_finish) part (Err end.TooLong) o p
  play_too_long allowed left' some limit above tells =
      let k = consumed_known left left' i.rest above.bytes i.is_left above.consumed tells in
      let beyond = above.beyond in
      let part_fits = fits_room of size (length above.bytes) above.within in
      reached_goes is_play _ i.reached
      (rw (plays_beyond coding width pace course given size (stated_part of i.rest) above.bytes (stated_part (stated_after of (length above.bytes)) k.0) some
      (ap (stated_part of) k.2 ∙ part_front of above.bytes k.0 part_fits.1) part_fits.0 (omega arith) (omega arith)) too_much_goes)

  -- nothing is left of the sound
  play_ended : (rest : List ℕ) → 0 < size → given ≤ most_bytes → left ≡ Some rest → stated_part of rest ≡ [] → Goes (tooling play_finish) part (Ok course) o p
  play_ended rest some within is none =
      let len : length (stated_part of i.rest) ≡ 0 = ap (λ (l : List ℕ). length (stated_part of l)) (same_Some i.rest rest (sym i.is_left ∙ is)) ∙ ap length none in
      reached_goes is_play _ i.reached
      (rw (plays_over coding width pace course given size (stated_part of i.rest) some (omega arith) (omega arith) (ap (λ k. k / width) len ∙ zero-div width)) (goes_value is_play _))

  -- the next block is read
  pub play_filled : {n : ℕ} {room : List ℕ} {left' : Option (List ℕ)} → Consumed left (take n room) left' → IsSome left' → length room ≡ size → n ≤ size → FitsStated of n → (n < size → IsSpent left' ⊎ (of ≡ Some n)) → IsFilled part coding width pace size course given n of room left' o p
  play_filled {n} {room} {left'} consumed tells sized within stated ended =
      let k = consumed_known left left' i.rest (take n room) i.is_left consumed tells in
      let full = length-take-le n room (subst (λ (k : ℕ). n ≤ k) (sym sized) within) in
      let parts : stated_part of i.rest ≡ take n room ++ stated_part (stated_after of n) k.0 =
      ap (stated_part of) k.2 ∙ part_front of (take n room) k.0 (subst (λ (k : ℕ). FitsStated of k) (sym full) stated)
      ∙ ap (λ (m : ℕ). take n room ++ stated_part (stated_after of m) k.0) full in
      record { after = k.0; is_left = k.1; full = full; ended = λ short. part_ended of n left' k.0 k.1 (ended short); reached = rw parts at i.reached }

-- nothing was played, and the source has all
pub play_begin : (sound : SourceSound) (block : ℕ) (pace : Pace) (told : DevTime) (width : ℕ) (bytes : List ℕ) (left : Option (List ℕ)) {o : ToolSight} {given : ℕ} → sound.head ≡ given → width ≡ source_width sound.coding sound.ty sound.channels → left ≡ Some bytes →
    IsPlaying (plays_sound sound block pace told bytes) sound.coding width pace (block * width) (course_from told) given sound.length left o o
unfolding plays_sound
play_begin sound block pace told width bytes left same_head same is_left = record { rest = bytes; is_left = is_left; reached = rw (← same_head, same) (reached_here is_play) }

module _ {part : PlayPart Course} {coding : Option Coding} {width : ℕ} {pace : Pace} {size : ℕ} {course : Course} {given n : ℕ} {of : Option ℕ} {room : List ℕ} {left : Option (List ℕ)} {o p : ToolSight}
    (f : IsFilled part coding width pace size course given n of room left o p) (fits : BlockFits n size width given) where
  -- fewer bytes than a frame has were left
  pub play_over : n / width ≡ 0 → Goes (tooling play_finish) part (Ok course) o p
  play_over none =
      let within = fits.within in
      let most = fits.most in
      let short = block_short fits none in
      let all : List ℕ = take n room ++ stated_part (stated_after of n) f.after in
      let len : length all ≡ n = ap length (ap (λ b. take n room ++ b) (f.ended short) ∙ append-nil (take n room)) ∙ f.full in
      reached_goes is_play _ f.reached (rw (plays_over coding width pace course given size all fits.some (omega arith) (omega arith) (ap (λ k. k / width) len ∙ none)) (goes_value is_play _))

  module _ (whole : 0 < n / width) where
    -- the block is played
    abbrev played : ToolPart DevTime
    played = plays_block pace course (as_served coding (take (n / width * width) room))

    abbrev later : DevTime → PlayPart Course
    later told = plays coding width pace (course_on pace course (n / width) told) (given + n) (blocks size (stated_part (stated_after of n) f.after))

    asked_next : plays coding width pace course given (blocks size (take n room ++ stated_part (stated_after of n) f.after)) ≡ goes_on doing (part_among of_reply played) later
    asked_next =
        let within = fits.within in
        let most = fits.most in
        let full = f.full in
        let count : frames_in width (take n room) ≡ n / width = ap (λ k. k / width) full in
        let samples = ap (as_served coding) (samples_of n width room full (whole_of n width)) in
        let rest : List ℕ = stated_part (stated_after of n) f.after in
        plays_next coding width pace course given size (take n room ++ rest) (take n room) rest fits.some (omega arith) refl (λ short. f.ended (omega arith)) (omega arith) (omega arith)
        ∙ ap (λ (b : List ℕ). goes_on doing (part_among of_reply (plays_block pace course b)) (λ told. plays coding width pace (course_on pace course (frames_in width (take n room)) told) (given + length (take n room)) (blocks size rest))) (sym samples)
        ∙ ap₂ (λ (k m : ℕ). goes_on doing (part_among of_reply played) (λ told. plays coding width pace (course_on pace course k told) (given + m) (blocks size rest))) count full

    module _ {q : ToolSight} where
      pub play_refused : {how : ToolEnd} {result : Result Course ToolEnd} → result ≡ Err how → Goes {X = DevTime} (tooling refused) played (Err how) p q → Goes (tooling play_finish) part result o q
      play_refused same goes = reached_goes is_play _ f.reached (rw asked_next (goes_stop is_play later same (play_goes goes)))

      module _ {now : DevTime} (goes : Goes (tooling refused) played (Ok now) p q) where
        pub play_reached : {given' : ℕ} → given + n ≡ given' → Reached (tooling play_finish) part (plays coding width pace (course_on pace course (n / width) now) given' (blocks size (stated_part (stated_after of n) f.after))) o q
        play_reached count = rw (← count) (reached_on is_play later (rw asked_next at f.reached) (play_goes goes))

        play_on : {given' : ℕ} {of' : Option ℕ} → given + n ≡ given' → of' ≡ stated_after of n → IsPlaying part coding width pace size (course_on pace course (n / width) now) given' of' left o q
        play_on count same = record { rest = f.after; is_left = f.is_left; reached = rw (same, ← count) (reached_on is_play later (rw asked_next at f.reached) (play_goes goes)) }

        -- it was the last one
        pub play_last : n < size → Goes (tooling play_finish) part (Ok (course_on pace course (n / width) now)) o q
        play_last short = play_ended (play_on refl refl) f.after fits.some fits.most f.is_left (f.ended short)

        -- the next one is read
        pub play_next : {given' allowed m : ℕ} {of' : Option ℕ} {room' : List ℕ} {left' : Option (List ℕ)} → given + n ≡ given' → of' ≡ stated_after of n → IsFirstBlock (length room') allowed of' m room' left left' → IsSome left' → length room' ≡ size →
            IsFilled part coding width pace size (course_on pace course (n / width) now) given' m of' room' left' o q
        play_next {m} count same block tells sized =
            let next = block.next in
            play_filled (play_on count same) block.consumed tells sized (subst (λ (k : ℕ). m ≤ k) sized next.within) next.stated (λ short. next.ended (subst (λ (k : ℕ). m < k) (sym sized) short))

        -- the next one is not had
        pub play_unfilled : {allowed : ℕ} {of' : Option ℕ} {room' : List ℕ} {left' : Option (List ℕ)} (fault : FillFault) → of' ≡ stated_after of n → FillsBlock (length room') allowed of' (Err fault) room' left left' → length room' ≡ size → IsSome left' → allowed + (given + n) ≡ most_bytes →
            Goes {X = Course} (tooling play_finish) part (Err (fill_end fault)) o q
        play_unfilled fill.ReadFault same block sized tells limit = reached_goes is_play _ (play_on refl refl).reached (cut_goes play_finish end.ReadFault refl)
        play_unfilled {allowed} {of'} {left'} fill.TooLong same block sized tells limit =
            play_too_long (play_on refl same) allowed left' fits.some limit (subst (λ (k : ℕ). ConsumedAbove allowed (stated_room of' k) left left') sized (block.long refl)) tells

-- a source that is not had for a fault told what it had before
pub told_unfilled : {room allowed : ℕ} {len : Option ℕ} {bytes : List ℕ} {left left' : Option (List ℕ)} (fault : FillFault) → FillsBlock room allowed len (Err fault) bytes left left' → IsSome left' → IsSome left
told_unfilled {left} {left'} fill.ReadFault block tells = let m = block.cut refl in consumed_told left left' m.text m.consumed tells
told_unfilled {left} {left'} fill.TooLong block tells = let m = block.long refl in consumed_told left left' m.bytes m.consumed tells
