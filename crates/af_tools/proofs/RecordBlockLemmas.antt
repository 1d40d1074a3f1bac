-- Blocks that are recorded, one after the other, and what is left of recording once a device's time was told.
use Rattle.std.proofs.Common.{◌≡◌, ◌≢◌, ℕ, suc, ◌+◌, ◌-◌, ◌*◌, ◌/◌, ◌%◌, ◌^◌, ◌<◌, ◌≤◌, ◌==◌, min, max, nat_lt, unsigned_abs, ◌||◌, Bool, ℤ, map, true, false, List, [], ◌∷◌, ◌++◌, length, sym, ap, ap₂, ◌∙◌, subst, refl, arith, inl, inr, if◌then◌else◌, Ok, Err, Result, Option, None, Some}
use Rattle.std.proofs.lemmas.Bool.Decides.{nat_tests}
use Rattle.std.proofs.lemmas.Bool.{cases_lt}
use Rattle.std.proofs.lemmas.List.{map-append}
use Rattle.std.proofs.lemmas.List.FromFn.{map-range_with_len_more}
use Rattle.std.specs.List.{range_with_len}
use Rattle.std.proofs.Math.Nat.{zero-div, zero-mod, div-eq_of_lt, mod-eq_of_lt, add-mul-div_left, add-mul-mod_self_left, mul_comm, mul_left_comm, mul-mod_left}
use Rattle.af_sample.specs.declared.sample_type.SampleType.{SampleType}
use Rattle.af_sample.specs.declared.sample_type.SampleType.TheVariants as ty
use Rattle.af_sample.specs.SampleTypes.{frame_bytes, width_of}
use Rattle.af_sample.specs.Samples.{decoded, piece, samples}
use Rattle.af_toolkit.specs.declared.end.ToolEnd.{ToolEnd}
use Rattle.af_cli.specs.declared.job.RecordJob.{RecordJob}
use Rattle.af_toolkit.specs.Parts.{Goes, goes_on, has_value}
use Rattle.af_toolkit.proofs.PartLemmas.{Reached, goes_stop, goes_value, reached_goes, reached_here, reached_on}
use Rattle.af_toolkit.specs.Trace.{refused}
use Rattle.af_toolkit.specs.ToolParts.{ToolPart, ToolSight, doing, tooling}
use Rattle.af_sound.specs.declared.head.Coding.{Coding}
use Rattle.af_sound.specs.declared.head.Coding.TheVariants as coding
use Rattle.af_sample.specs.Channels.{IsChannelCount}
use Rattle.af_cli.specs.Sizes.{block_frames}
use Rattle.af_cli.proofs.FrameSizeLemmas.{frame_size, some_frames}
use Rattle.af_tools.specs.declared.record.RecordedSound.{RecordedSound}
use Rattle.af_tools.specs.declared.record.Recording.{Recording}
use Rattle.af_tools.specs.declared.record.TakenBlock.{TakenBlock}
use Rattle.af_tools.specs.Record.{IsFiledAs, block_lengths, ends_row, greatest_of, nothing_recorded, peak, recorded_frame, recording_on, records, records_all, row_below, takes_block}
use Rattle.af_tools.specs.Sounds.{AreWhole}
use Rattle.af_toolkit.proofs.ToolPartLemmas.{is_tool}

-- n frames are left to be recorded, after a row of so many quiet blocks
pub record IsRecording (part : ToolPart Recording) (job : RecordJob) (sound : RecordedSound) (block at frames row : ℕ) (lost : Bool) (o p : ToolSight) : Type 0 where
  pub peaks : List ℕ
  pub before : Recording
  pub is_row : row ≡ row_below job.stop_peak peaks
  pub is_before : before.frames + frames ≡ job.frames
  pub is_lost : lost ≡ before.lost
  pub reached : Reached (tooling refused) part (records job sound at before peaks (block_lengths block frames)) o p

lengths_none : (block : ℕ) → block_lengths block 0 ≡ []
unfolding block_lengths
lengths_none block = rw (zero-div block, zero-mod block) refl

-- fewer frames than a block has are the last block
lengths_last : (block frames : ℕ) → 0 < frames → frames < block → block_lengths block frames ≡ frames ∷ []
unfolding block_lengths
lengths_last block frames more short =
    let none : frames / block ≡ 0 = div-eq_of_lt short in
    let rest : frames % block ≡ frames = mod-eq_of_lt short in
    let some : (frames == 0) ≡ false = grind (arith, nat_tests) in
    rw (none, rest, some) refl

-- a whole block, and those of the frames after it
lengths_whole : (block rest : ℕ) → 0 < block → block_lengths block (rest + block * 1) ≡ block ∷ block_lengths block rest
unfolding block_lengths
lengths_whole block rest some =
    let count : (rest + block * 1) / block ≡ suc (rest / block) = add-mul-div_left rest 1 some ∙ (let e : rest / block + 1 ≡ suc (rest / block) = omega arith in e) in
    let last : (rest + block * 1) % block ≡ rest % block = add-mul-mod_self_left rest block 1 in
    rw (count, last) refl

-- the first block, and those of the frames after it
pub lengths_some : (block frames : ℕ) → 0 < block → 0 < frames → block_lengths block frames ≡ min frames block ∷ block_lengths block (frames - min frames block)
lengths_some block frames some more = elim (cases_lt frames block) [
  | inl short ↦
      let least : min frames block ≡ frames = omega arith in
      let none : frames - min frames block ≡ 0 = omega arith in
      lengths_last block frames more short ∙ sym (ap₂ (λ (a b : ℕ). a ∷ block_lengths block b) least none ∙ ap (λ (l : List ℕ). frames ∷ l) (lengths_none block))
  | inr long ↦
      let least : min frames block ≡ block = omega arith in
      let rest : frames - min frames block ≡ frames - block = omega arith in
      let parts : frames ≡ (frames - block) + block * 1 = omega arith in
      ap (block_lengths block) parts ∙ lengths_whole block (frames - block) some ∙ sym (ap₂ (λ (a b : ℕ). a ∷ block_lengths block b) least rest)
]

-- the greatest of numbers, and one more
greatest-append : (xs : List ℕ) (x : ℕ) → greatest_of (xs ++ x ∷ []) ≡ max (greatest_of xs) x
greatest-append [] x = omega arith
greatest-append (y ∷ xs) x = let ih = greatest-append xs x in omega arith

-- the peak of the first samples, and of one more
pub peak_more : (f : ℕ → ℤ) (i : ℕ) → greatest_of (map unsigned_abs (map f (range_with_len 0 (i + 1)))) ≡ max (greatest_of (map unsigned_abs (map f (range_with_len 0 i)))) (unsigned_abs (f i))
peak_more f i =
    ap (λ (l : List ℤ). greatest_of (map unsigned_abs l)) (map-range_with_len_more f 0 i i (omega arith))
    ∙ ap greatest_of (map-append unsigned_abs (map f (range_with_len 0 i)) (f i ∷ []))
    ∙ greatest-append (map unsigned_abs (map f (range_with_len 0 i))) (unsigned_abs (f i))

pub peak_whole : (ty : SampleType) (bytes : List ℕ) → greatest_of (map unsigned_abs (map (λ k. decoded ty (piece ty bytes k)) (range_with_len 0 (length bytes / width_of ty)))) ≡ peak ty bytes
unfolding peak samples
peak_whole ty bytes = refl

-- so much was recorded
abbrev pub so_much : ℕ → Bool → Recording
so_much frames lost = record { frames = frames; lost = lost }

-- what follows a block, which ends a row of quiet ones or not
abbrev after_block : RecordJob → RecordedSound → (block at n : ℕ) (before : Recording) (frames : ℕ) (peaks : List ℕ) → Bool → TakenBlock → ToolPart Recording
after_block job sound block at n before frames peaks ends x =
    if ends then has_value doing (recording_on before n x) else records job sound ((at + n) % 2 ^ 32) (recording_on before n x) (x.peak ∷ peaks) (block_lengths block frames)

module _ {part : ToolPart Recording} {job : RecordJob} {sound : RecordedSound} {block at frames row : ℕ} {lost : Bool} {o p : ToolSight} (r : IsRecording part job sound block at frames row lost o p) (some : 0 < block) where
  -- none is left
  pub record_done : frames ≡ 0 → Goes (tooling refused) part (Ok (so_much job.frames lost)) o p
  unfolding records
  record_done none =
      let all : r.before.frames ≡ job.frames = omega (arith, r.is_before) in
      let over : block_lengths block frames ≡ [] = ap (block_lengths block) none ∙ lengths_none block in
      subst (λ (x : Recording). Goes (tooling refused) part (Ok x) o p) (ap₂ so_much all (sym r.is_lost)) (reached_goes is_tool _ r.reached (rw over (goes_value is_tool _)))

  module _ (more : 0 < frames) {n size : ℕ} (is_least : n ≡ min frames block) (is_size : size ≡ n * recorded_frame sound) where
    abbrev after_one_block : TakenBlock → ToolPart Recording
    after_one_block x = after_block job sound block at n r.before (frames - n) r.peaks (ends_row job (x.peak ∷ r.peaks)) x

    next_block : records job sound at r.before r.peaks (block_lengths block frames) ≡ goes_on doing (takes_block sound at size) after_one_block
    unfolding records
    next_block = rw (is_size, is_least, lengths_some block frames some more) refl

    module _ {q : ToolSight} where
      -- the tool ended within the block
      pub record_stopped : {how : ToolEnd} {result : Result Recording ToolEnd} → result ≡ Err how → Goes {X = TakenBlock} (tooling refused) (takes_block sound at size) (Err how) p q → Goes (tooling refused) part result o q
      record_stopped same goes = reached_goes is_tool _ r.reached (rw next_block (goes_stop is_tool after_one_block same goes))

      module _ {x : TakenBlock} (goes : Goes (tooling refused) (takes_block sound at size) (Ok x) p q) {row' : ℕ} (is_row : row' ≡ (if nat_lt x.peak job.stop_peak then row + 1 else 0)) {lost' : Bool} (more_lost : lost' ≡ (lost || x.lost)) where
        row_grown : row' ≡ row_below job.stop_peak (x.peak ∷ r.peaks)
        row_grown = is_row ∙ ap (λ (k : ℕ). if nat_lt x.peak job.stop_peak then k else 0) (ap (λ (k : ℕ). k + 1) r.is_row ∙ (let e : row_below job.stop_peak r.peaks + 1 ≡ suc (row_below job.stop_peak r.peaks) = omega arith in e))

        lost_grown : lost' ≡ (r.before.lost || x.lost)
        lost_grown = more_lost ∙ ap (λ (b : Bool). b || x.lost) r.is_lost

        decided : {b : Bool} → ends_row job (x.peak ∷ r.peaks) ≡ b → Reached (tooling refused) part (after_block job sound block at n r.before (frames - n) r.peaks b x) o q
        decided is =
            subst (λ (b : Bool). Reached (tooling refused) part (after_block job sound block at n r.before (frames - n) r.peaks b x) o q) is (reached_on is_tool after_one_block (rw next_block at r.reached) goes)

        -- the block ends a row of quiet ones
        pub record_quiet : job.stop_blocks ≤ row' → {all : ℕ} → all ≡ job.frames - (frames - n) → Goes (tooling refused) part (Ok (so_much all lost')) o q
        record_quiet long {all} is_all =
            let sum : r.before.frames + n ≡ all = omega (arith, r.is_before) in
            let ends : ends_row job (x.peak ∷ r.peaks) ≡ true = rw (← row_grown) (grind (arith, nat_tests)) in
            subst (λ (y : Recording). Goes (tooling refused) part (Ok y) o q) (ap₂ so_much sum (sym lost_grown)) (reached_goes is_tool _ (decided ends) (goes_value is_tool _))

        -- recording goes on
        pub record_on : row' < job.stop_blocks → {at' : ℕ} → at' ≡ (at + n) % 2 ^ 32 → IsRecording part job sound block at' (frames - n) row' lost' o q
        record_on short place =
            let more : ends_row job (x.peak ∷ r.peaks) ≡ false = rw (← row_grown) (grind (arith, nat_tests)) in
            record { peaks = x.peak ∷ r.peaks; before = recording_on r.before n x; is_row = row_grown; is_before = (let more : r.before.frames + n + (frames - n) ≡ job.frames = omega (arith, r.is_before) in more); is_lost = lost_grown; reached = rw place (decided more) }

pub record_begin : (job : RecordJob) (sound : RecordedSound) {block : ℕ} (start : ℕ) {o : ToolSight} → block ≡ block_frames job.block (recorded_frame sound) → IsRecording (records_all job sound start) job sound block start job.frames 0 false o o
record_begin job sound start same = record { peaks = []; before = nothing_recorded; is_row = refl; is_before = (let all : 0 + job.frames ≡ job.frames = omega arith in all); is_lost = refl; reached = rw same (reached_here is_tool) }

-- a block has a frame
pub some_recorded : (sound : RecordedSound) (asked : ℕ) → IsChannelCount sound.channels → 1 ≤ asked → 1 ≤ block_frames asked (recorded_frame sound)
some_recorded sound asked count some = some_frames asked (recorded_frame sound) (frame_size sound.ty sound.channels count) some

-- nothing is written as a file of 8 bits
pub written_coding : (c : Option Coding) (t : SampleType) → IsFiledAs c t → c ≢ Some coding.U8
written_coding (Some c) t filed is = filed.1 (let same : c ≡ coding.U8 = cc is in same)
written_coding None t filed is = cc is

-- whole frames of a file of 16 bits are whole pairs
even_run : (n k : ℕ) → (n * (2 * k)) % 2 ≡ 0
even_run n k = ap (λ (m : ℕ). m % 2) (mul_left_comm n 2 k ∙ mul_comm 2 (n * k)) ∙ mul-mod_left (n * k) 2

pub whole_frames : (sound : RecordedSound) (n size : ℕ) → IsFiledAs sound.coding sound.ty → size ≡ n * recorded_frame sound → AreWhole sound.coding size
whole_frames sound n size filed is = by sound.coding sound.ty filed is where
  by : (coding : Option Coding) (t : SampleType) → IsFiledAs coding t → size ≡ n * frame_bytes t sound.channels → AreWhole coding size
  by (Some coding.Lin16Big) ty.Lin16 f is = ap (λ (m : ℕ). m % 2) is ∙ even_run n sound.channels
  by (Some coding.Lin16Little) ty.Lin16 f is = ap (λ (m : ℕ). m % 2) is ∙ even_run n sound.channels
  by (Some coding.Lin16Big) t f is = absurd (cc f.0)
  by (Some coding.Lin16Little) t f is = absurd (cc f.0)
  by c t f is = tt
