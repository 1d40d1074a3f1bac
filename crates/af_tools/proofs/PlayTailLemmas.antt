-- The first block of a sound, which is read early or once the device's time was asked.
use Rattle.std.proofs.Common.{◌≡◌, ◌≤◌, ◌-◌, ◌++◌, ℕ, List, [], length-take, take, refl, subst, sym, arith, IsErrOf, IsSome, Result, Err, Option, None, Some}
use Rattle.af_io.specs.Observed.{Consumed}
use Rattle.af_io.specs.Flow.{ConsumedWithin}
use Rattle.af_toolkit.specs.declared.end.ToolEnd.{ToolEnd}
use Rattle.af_toolkit.specs.declared.end.ToolEnd.TheVariants as end
use Rattle.af_toolkit.specs.Parts.{Goes}
use Rattle.af_toolkit.specs.ToolParts.{ToolSight, tooling}
use Rattle.af_io.proofs.ConsumedLemmas.{consumed_known, consumed_none, consumed_told}
use Rattle.af_toolkit.proofs.ToolPartLemmas.{cut_goes}
use Rattle.af_tools.specs.declared.fill.FillFault.{FillFault}
use Rattle.af_tools.specs.declared.fill.FillFault.TheVariants as fill
use Rattle.af_time.specs.declared.DevTime.{DevTime}
use Rattle.af_tools.specs.declared.pace.Course.{Course}
use Rattle.af_tools.specs.declared.pace.Pace.{Pace}
use Rattle.af_tools.specs.declared.sound.SourceSound.{SourceSound}
use Rattle.af_tools.specs.Sounds.{most_bytes, block_bytes, source_width}
use Rattle.af_tools.specs.Reading.{fill_end, left_before, FillsBlock, IsEarlyBlock, IsFirstBlock, TakesSound}
use Rattle.af_tools.specs.Play.{play_finish, plays_sound, IsBlock}
use Rattle.af_tools.proofs.PlayStepLemmas.{play_begin, play_too_long}
use Rattle.af_tools.proofs.SourceFrameLemmas.{some_size_of}

-- the first block is not had
pub first_unfilled : (sound : SourceSound) {block : ℕ} (pace : Pace) (told : DevTime) {bytes room : List ℕ} {gives gives' : Option (List ℕ)} {o : ToolSight} (fault : FillFault) → IsBlock sound.ty sound.channels block → sound.head ≤ most_bytes → gives ≡ Some bytes →
    FillsBlock (block_bytes sound block) (most_bytes - sound.head) sound.length (Err fault) room gives gives' → IsSome gives' → Goes {X = Course} (tooling play_finish) (plays_sound sound block pace told bytes) (Err (fill_end fault)) o o
unfolding plays_sound
first_unfilled sound pace told fill.ReadFault b low is unfilled tells = cut_goes play_finish end.ReadFault refl
first_unfilled sound {block} pace told {bytes} {gives} {gives'} fill.TooLong b low is unfilled tells =
    let width = source_width sound.coding sound.ty sound.channels in
    let some = some_size_of sound.coding sound.ty sound.channels block width b.count b.some refl in
    play_too_long (play_begin sound block pace told width bytes gives refl refl is) (most_bytes - sound.head) gives' some (omega arith) (unfilled.long refl) tells

-- a block that was read early, where it could not be too long
pub early_fault : {T : Type 0} (fault : FillFault) → (IsErrOf {T = T} (Err fault) fill.TooLong → ⊥) → IsErrOf {T = T} (Err fault) fill.ReadFault × (fill_end fault ≡ end.ReadFault)
early_fault fill.ReadFault only = (refl, refl)
early_fault fill.TooLong only = absurd (only refl)

-- what was read early is no more than aplay takes
pub early_within : (room most : ℕ) (len early : Option ℕ) (bytes : List ℕ) (a b : Option (List ℕ)) → IsEarlyBlock room most len early bytes a b → ConsumedWithin most a b
early_within room most len None bytes a b is = record { text = []; consumed = subst (λ (o : Option (List ℕ)). Consumed a [] o) (sym is) (consumed_none a); within = omega arith }
early_within room most len (Some n) bytes a b is = let few = is.next.permitted in record { text = take n bytes; consumed = is.consumed; within = (let short = length-take n bytes in omega arith) }

told_since : (block : List ℕ) (b : Option (List ℕ)) → IsSome (left_before block b) → IsSome b
told_since block None told = told
told_since block (Some rest) told = refl

-- a source that tells what is left told what it had after the first block, before it gave the rest
pub first_known : {X : Type 0} {room allowed most n : ℕ} {len of : Option ℕ} {block bytes : List ℕ} {r : Result X ToolEnd} {before middle after : Option (List ℕ)} → before ≡ Some bytes → IsFirstBlock room allowed len n block before middle → TakesSound of most r (left_before (take n block) middle) after → IsSome after →
    (rest : List ℕ) × (middle ≡ Some rest) × (bytes ≡ take n block ++ rest)
first_known {n} {block} {bytes} {before} {middle} {after} is first more tells =
    consumed_known before middle bytes (take n block) is first.consumed (told_since (take n block) middle (consumed_told (left_before (take n block) middle) after more.bytes more.consumed tells))
