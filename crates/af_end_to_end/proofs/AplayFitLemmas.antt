-- What aplay sends fits: its gain, its times, and the blocks that it plays.
use Rattle.std.proofs.Common.{◌≡◌, ◌≤◌, ◌<◌, ℕ, zero, suc, ◌+◌, ◌-◌, ◌*◌, ◌/◌, ◌%◌, ◌^◌, ◌&&◌, Bool, true, false, cond, ℤ, pos, List, [], ◌∷◌, ◌++◌, length, map, flat_map, take, drop, nat_lt, arith, FitsSigned, IfSome}
use Rattle.std.proofs.Math.Nat.{div-mul-le_self}
use Rattle.std.proofs.lemmas.Nat.{mul-le}
use Rattle.std.proofs.lemmas.List.{length-take}
use Rattle.std.proofs.lemmas.List.Elements.{All-append, All-cons, All-head, All-nil, All-tail}
use Rattle.std.specs.Int.{w16}
use Rattle.std.specs.List.{All}
use Rattle.std.specs.declared.option.Option.{Option}
use Rattle.std.specs.declared.option.Option.TheVariants.{None, Some}
use Rattle.af_limits.specs.Limits.{longest_play}
use Rattle.af_sample.specs.declared.sample_type.SampleType.{SampleType}
use Rattle.af_sample.specs.Gains.{IsGain, gain_of}
use Rattle.af_sample.specs.SampleTypes.{frame_bytes}
use Rattle.af_request.specs.Asked.{free_ac, get_time}
use Rattle.af_request.specs.Requests.{IsWritable}
use Rattle.af_cli.specs.declared.job.PlayJob.{PlayJob}
use Rattle.af_cli.specs.Sizes.{block_frames, greatest_block}
use Rattle.af_tools.specs.declared.pace.Pace.{Pace}
use Rattle.af_tools.specs.Leaving.{drained}
use Rattle.af_tools.specs.Pacing.{awaited, block_time, unless_past}
use Rattle.af_toolkit.specs.Lost.{time_before}
use Rattle.af_tools.specs.Play.{Block, TimedBlock, blocks, course_before, cut_blocks, frames_in, play_context, sent_after, sent_blocks, whole_frames}
use Rattle.af_end_to_end.specs.Aplay.{aplay_requests, block_play, block_requests, waiting_requests}
use Rattle.af_end_to_end.proofs.PlayerLemmas.{all_of_map, fits_each}

pub gain_is : (g : ℤ) → IsGain g → gain_of g ≡ Some g
gain_is g within = grind arith

gain_fits : (g : ℤ) → IsGain g → FitsSigned w16 g
gain_fits g within = grind arith

-- Its times

is_time : (n : ℕ) → n % 2 ^ 32 < 2 ^ 32
is_time n = omega arith

unless_fits : (told at : ℕ) → at < 2 ^ 32 → IfSome (unless_past told at) (λ t. t < 2 ^ 32)
unless_fits told at low = by (nat_lt ((at + (2 ^ 32 - told)) % 2 ^ 32) (2 ^ 31))
  where
    by : (b : Bool) → IfSome (cond b (Some at) None) (λ t. t < 2 ^ 32)
    by true = low
    by false = tt

awaited_fits : (pace : Pace) (timed : TimedBlock) → IfSome (awaited pace (course_before timed)) (λ t. t < 2 ^ 32)
awaited_fits pace timed = by pace.ahead
  where
    before : ℕ → ℕ
    before frames = time_before (block_time pace.start.0 timed.block.before) frames

    by : (o : Option ℕ) → IfSome (awaited (record pace { ahead = o }) (course_before timed)) (λ t. t < 2 ^ 32)
    by None = tt
    by (Some frames) = unless_fits timed.told.0 (time_before (block_time pace.start.0 timed.block.before) frames) (is_time _)

drained_fits : (drain : Bool) (start frames : ℕ) → IfSome (drained drain start frames) (λ t. t < 2 ^ 32)
drained_fits drain start frames = by (drain && nat_lt 0 frames)
  where
    by : (b : Bool) → IfSome (cond b (Some ((start + (frames - 1)) % 2 ^ 32)) None) (λ t. t < 2 ^ 32)
    by true = is_time (start + (frames - 1))
    by false = tt

-- Its requests

waiting_fits : (frame : ℕ) (at : Option ℕ) → frame < 2 ^ 32 → IfSome at (λ t. t < 2 ^ 32) → All IsWritable (waiting_requests frame at)
waiting_fits frame None few low = All-nil IsWritable
waiting_fits frame (Some at) few low = All-cons IsWritable _ [] (omega arith, low, few) (All-nil IsWritable)

block_fits : (pace : Pace) (timed : TimedBlock) → pace.frame < 2 ^ 32 → length timed.block.bytes ≤ longest_play → All IsWritable (block_requests pace timed)
block_fits pace timed few small =
    All-append IsWritable (waiting_requests pace.frame (awaited pace (course_before timed))) (block_play pace timed.block ∷ []) (waiting_fits pace.frame (awaited pace (course_before timed)) few (awaited_fits pace timed))
    (All-cons IsWritable (block_play pace timed.block) [] (omega arith, is_time (pace.start.0 + timed.block.before), small) (All-nil IsWritable))

abbrev pub IsSmall : Block → Type 0
IsSmall b = length b.bytes ≤ longest_play

blocks_fit : (pace : Pace) (timed : List TimedBlock) → pace.frame < 2 ^ 32 → All IsSmall (map (λ t. t.block) timed) → All IsWritable (flat_map (block_requests pace) timed)
blocks_fit pace timed few small = fits_each (block_requests pace) (λ t. IsSmall t.block) (λ t one. block_fits pace t few one) timed (all_of_map IsSmall (λ t. t.block) timed small)

pub aplay_fits : (job : PlayJob) (ty : SampleType) (channels : ℕ) (pace : Pace) (timed : List TimedBlock) (frames : ℕ) → IsGain job.gain → pace.frame < 2 ^ 32 → All IsSmall (map (λ t. t.block) timed) → All IsWritable (aplay_requests job ty channels pace timed frames)
aplay_fits job ty channels pace timed frames gain few small =
    let last = drained job.drain pace.start.0 frames in
    let leaving = waiting_requests pace.frame last ++ free_ac 1 ∷ [] in
    let middle = flat_map (block_requests pace) timed in
    All-cons IsWritable (play_context job ty channels) (get_time job.device ∷ (middle ++ leaving)) (omega arith, gain_fits job.gain gain, gain_fits (pos 0) (grind arith))
    (All-cons IsWritable (get_time job.device) (middle ++ leaving) tt
    (All-append IsWritable middle leaving (blocks_fit pace timed few small)
    (All-append IsWritable (waiting_requests pace.frame last) (free_ac 1 ∷ []) (waiting_fits pace.frame last few (drained_fits job.drain pace.start.0 frames)) (All-cons IsWritable (free_ac 1) [] (omega arith) (All-nil IsWritable)))))

-- Its blocks

all_small : (size n : ℕ) (bytes : List ℕ) → All (λ (b : List ℕ). length b ≤ size) (cut_blocks n size bytes)
all_small size zero bytes = All-nil (λ (b : List ℕ). length b ≤ size)
all_small size (suc n) [] = All-nil (λ (b : List ℕ). length b ≤ size)
all_small size (suc n) (b ∷ bytes) =
    let few = length-take size (b ∷ bytes) in
    All-cons (λ (b : List ℕ). length b ≤ size) (take size (b ∷ bytes)) (cut_blocks n size (drop size (b ∷ bytes))) (omega (arith, few)) (all_small size n (drop size (b ∷ bytes)))

sent_small : (size width before : ℕ) (blocks : List (List ℕ)) → size ≤ longest_play → All (λ (b : List ℕ). length b ≤ size) blocks → All IsSmall (sent_after width before blocks)
sent_small size width before [] low small = All-nil IsSmall
sent_small size width before (block ∷ more) low small = by (nat_lt 0 (frames_in width block)) (sent_small size width (before + frames_in width block) more low (All-tail (λ (b : List ℕ). length b ≤ size) block more small))
  where
    by : (b : Bool) → All IsSmall (sent_after width (before + frames_in width block) more) → All IsSmall (cond b ((record { before = before; bytes = whole_frames width block }) ∷ sent_after width (before + frames_in width block) more) [])
    by false rest = All-nil IsSmall
    by true rest =
        let first = All-head (λ (b : List ℕ). length b ≤ size) block more small in
        let few = length-take (frames_in width block * width) block in
        All-cons IsSmall (record { before = before; bytes = whole_frames width block }) (sent_after width (before + frames_in width block) more) (omega (arith, first, few, low)) rest

-- a block of a job fits a play
pub blocks_small : (ty : SampleType) (channels asked : ℕ) (samples : List ℕ) → All IsSmall (sent_blocks ty channels (block_frames asked (frame_bytes ty channels)) samples)
unfolding blocks
blocks_small ty channels asked samples =
    let width = frame_bytes ty channels in
    let frames = block_frames asked width in
    let most : greatest_block / width * width ≤ greatest_block = div-mul-le_self greatest_block width in
    let few : frames * width ≤ greatest_block / width * width = mul-le frames width (greatest_block / width) width (omega arith) (omega arith) in
    sent_small (frames * width) width 0 (blocks (frames * width) samples) (omega (arith, most, few)) (all_small (frames * width) (length samples) samples)
