-- An interval is recorded in blocks, one after another.
use Rattle.std.proofs.Common.{◌≡◌, ℕ, suc, ◌+◌, ◌-◌, ◌*◌, ◌/◌, ◌%◌, ◌^◌, ◌<◌, ◌≤◌, ◌==◌, min, Bool, true, false, List, [], ◌∷◌, ◌++◌, length, sym, ap, ap₂, ◌∙◌, subst, refl, arith, inl, inr, if◌then◌else◌, Ok, Err, Result, Option, None, Some, map, ℤ}
use Rattle.std.proofs.lemmas.Bool.Decides.{nat_tests}
use Rattle.std.proofs.lemmas.Bool.{cases_lt, ne_eqb}
use Rattle.std.proofs.lemmas.List.{flat_map_more, length-append}
use Rattle.std.proofs.lemmas.List.FromFn.{length-map-range_with_len}
use Rattle.std.proofs.Math.Nat.{zero-div, zero-mod, div-eq_of_lt, mod-eq_of_lt, add-mul-div_left, add-mul-mod_self_left, mul-div_cancel, mul_comm}
use Rattle.af_time.specs.declared.DevTime.{DevTime}
use Rattle.af_sample.specs.declared.sample_type.SampleType.TheVariants.{Lin16}
use Rattle.af_sample.specs.Samples.{decoded, piece}
use Rattle.af_request.specs.Asked.{record_run}
use Rattle.af_lib.specs.declared.fault.ConnFault.{ConnFault}
use Rattle.af_lib.specs.Calls.{Recorded, as_recorded}
use Rattle.af_toolkit.specs.declared.end.ToolEnd.{ToolEnd}
use Rattle.af_toolkit.specs.Parts.{Goes, goes_on, has_value}
use Rattle.af_toolkit.specs.Trace.{fault_end, refused}
use Rattle.af_toolkit.specs.ToolParts.{ToolPart, ToolSight, asks, doing, tooling}
use Rattle.af_toolkit.proofs.PartLemmas.{Reached, goes_on_twice, goes_stop, goes_value, reached_goes, reached_here, reached_on}
use Rattle.af_toolkit.proofs.ToolPartLemmas.{is_tool}
use Rattle.af_meter.specs.declared.interval.Tallies.{Tallies}
use Rattle.af_meter.specs.declared.level.Level.{Level}
use Rattle.af_meter.specs.declared.level.Levels.{Levels}
use Rattle.af_meter.specs.declared.level.Tally.{Tally}
use Rattle.af_meter.specs.declared.plan.Plan.{Plan}
use Rattle.af_meter.specs.Levels.{channel_in, channel_samples, frame_size, level_of, levels_of, peak_of, root_of, squares_of}
use Rattle.af_meter.specs.Tallies.{AreTallied, IsTally}
use Rattle.af_meter.specs.Trace.{block_lengths, hears, measures, most_frames, recorded_by, records}

lengths_none : (block : ℕ) → block_lengths block 0 ≡ []
unfolding block_lengths
lengths_none block = rw (zero-div block, zero-mod block) refl

-- fewer frames than a block has are the last block
lengths_last : (block frames : ℕ) → 0 < frames → frames < block → block_lengths block frames ≡ frames ∷ []
unfolding block_lengths
lengths_last block frames more short =
    let none : frames / block ≡ 0 = div-eq_of_lt short in
    let rest : frames % block ≡ frames = mod-eq_of_lt short in
    let some : (frames == 0) ≡ false = grind (arith, nat_tests) in
    rw (none, rest, some) refl

-- a whole block, and those of the frames after it
lengths_whole : (block rest : ℕ) → 0 < block → block_lengths block (rest + block * 1) ≡ block ∷ block_lengths block rest
unfolding block_lengths
lengths_whole block rest some =
    let count : (rest + block * 1) / block ≡ suc (rest / block) = add-mul-div_left rest 1 some ∙ (let e : rest / block + 1 ≡ suc (rest / block) = omega arith in e) in
    let last : (rest + block * 1) % block ≡ rest % block = add-mul-mod_self_left rest block 1 in
    rw (count, last) refl

-- the first block, and those of the frames after it
lengths_some : (block frames : ℕ) → 0 < block → 0 < frames → block_lengths block frames ≡ min frames block ∷ block_lengths block (frames - min frames block)
lengths_some block frames some more = elim (cases_lt frames block) [
  | inl short ↦
      let least : min frames block ≡ frames = omega arith in
      let none : frames - min frames block ≡ 0 = omega arith in
      lengths_last block frames more short ∙ sym (ap₂ (λ (a b : ℕ). a ∷ block_lengths block b) least none ∙ ap (λ (l : List ℕ). frames ∷ l) (lengths_none block))
  | inr long ↦
      let least : min frames block ≡ block = omega arith in
      let rest : frames - min frames block ≡ frames - block = omega arith in
      let parts : frames ≡ (frames - block) + block * 1 = omega arith in
      ap (block_lengths block) parts ∙ lengths_whole block (frames - block) some ∙ sym (ap₂ (λ (a b : ℕ). a ∷ block_lengths block b) least rest)
]

-- a Record that was answered with a fault, whatever its buffer holds
pub recorded_fault : {r : Result DevTime ToolEnd} (f : ConnFault) (bytes : List ℕ) → r ≡ Err (fault_end f) → recorded_by r bytes ≡ Err (fault_end f)
recorded_fault f bytes is = rw is refl

-- the samples of a channel in blocks, and in one block more
channel_more : (channels channel : ℕ) (blocks : List (List ℕ)) (block : List ℕ) → channel_in channels channel (blocks ++ block ∷ []) ≡ channel_in channels channel blocks ++ channel_samples channels channel block
channel_more channels channel blocks block = sym (flat_map_more (channel_samples channels channel) [] blocks block)

-- a block has one sample of a channel in each frame
channel_length : (channels channel n : ℕ) (block : List ℕ) → 0 < channels → length block ≡ n * frame_size channels → length (channel_samples channels channel block) ≡ n
unfolding channel_samples
channel_length channels channel n block some whole =
    length-map-range_with_len (λ (i : ℕ). decoded Lin16 (piece Lin16 block (channels * i + channel))) 0 (length block / frame_size channels)
    ∙ ap (λ (m : ℕ). m / frame_size channels) whole ∙ mul-div_cancel n (let any : 0 < 2 * channels = omega (arith, some) in any)

-- blocks, and one more, have so many samples of a channel
count_more : (channels channel n count : ℕ) (blocks : List (List ℕ)) (block : List ℕ) → 0 < channels → length block ≡ n * frame_size channels → length (channel_in channels channel blocks) ≡ count → length (channel_in channels channel (blocks ++ block ∷ [])) ≡ count + n
count_more channels channel n count blocks block some whole before =
    ap length (channel_more channels channel blocks block)
    ∙ length-append (channel_in channels channel blocks) (channel_samples channels channel block)
    ∙ ap₂ (λ (a b : ℕ). a + b) before (channel_length channels channel n block some whole)

module _ {channels count : ℕ} (n : ℕ) {before : Tallies} (after : Tallies) {blocks : List (List ℕ)} (block : List ℕ) (some : 0 < channels) (whole : length block ≡ n * frame_size channels) (is : AreTallied channels before blocks count)
    (first : (samples : List ℤ) → IsTally before.first samples → IsTally after.first (samples ++ channel_samples channels 0 block)) where
  first_more : IsTally after.first (channel_in channels 0 (blocks ++ block ∷ []))
  first_more = subst (λ (xs : List ℤ). IsTally after.first xs) (sym (channel_more channels 0 blocks block)) (first (channel_in channels 0 blocks) is.first)

  -- two channels
  pub tallied_both : channels ≡ 2 → ((samples : List ℤ) → IsTally before.second samples → IsTally after.second (samples ++ channel_samples channels 1 block)) → AreTallied channels after (blocks ++ block ∷ []) (count + n)
  tallied_both two second =
      let more = subst (λ (xs : List ℤ). IsTally after.second xs) (sym (channel_more channels 1 blocks block)) (second (channel_in channels 1 blocks) (is.second two)) in
      let total = count_more channels 1 n count blocks block some whole is.second_count in
      record {
        first = first_more;
        first_count = count_more channels 0 n count blocks block some whole is.first_count;
        second = λ e. more;
        second_count = total;
        second_few = subst (λ (k : ℕ). after.second.squares ≤ k * 2 ^ 32) total more.few;
      }

  -- or one
  pub tallied_one : (channels ≡ 2 → ⊥) → after.second ≡ before.second → AreTallied channels after (blocks ++ block ∷ []) (count + n)
  tallied_one one same =
      record {
        first = first_more;
        first_count = count_more channels 0 n count blocks block some whole is.first_count;
        second = λ e. absurd (one e);
        second_count = count_more channels 1 n count blocks block some whole is.second_count;
        second_few = (let kept : after.second.squares ≡ before.second.squares = ap (λ (t : Tally). t.squares) same in omega (arith, kept, is.second_few));
      }

-- how loud a channel is, by what is known of it
pub level_is : {level : Level} {tally : Tally} {samples : List ℤ} {count : ℕ} → IsTally tally samples → length samples ≡ count → level.peak ≡ tally.peak → level.mean ≡ root_of (tally.squares / count) → level ≡ level_of samples
level_is {level} {tally} {samples} {count} is many peak mean =
    ap₂ (λ (p m : ℕ). (let l : Level = record { peak = p; mean = m } in l)) (peak ∙ is.peak) (mean ∙ ap₂ (λ (s n : ℕ). root_of (s / n)) is.squares (sym many))

-- how loud each of two channels is, or the only one
pub levels_two : {channels : ℕ} (blocks : List (List ℕ)) {first second : Level} → channels ≡ 2 → first ≡ level_of (channel_in channels 0 blocks) → second ≡ level_of (channel_in channels 1 blocks) → (let l : Levels = record { first = first; second = Some second } in l ≡ levels_of channels blocks)
levels_two {channels} blocks two f s = let test : (channels == 2) ≡ true = grind (arith, nat_tests) in rw (test, f, s) refl

pub levels_one : {channels : ℕ} (blocks : List (List ℕ)) {first : Level} → (channels ≡ 2 → ⊥) → first ≡ level_of (channel_in channels 0 blocks) → (let l : Levels = record { first = first; second = None } in l ≡ levels_of channels blocks)
levels_one {channels} blocks one f = let test : (channels == 2) ≡ false = ne_eqb channels 2 one in rw (test, f) refl

-- n frames of an interval are left to be recorded
pub record IsHearing (part : ToolPart Levels) (plan : Plan) (most at left : ℕ) (tallies : Tallies) (o p : ToolSight) : Type 0 where
  pub blocks : List (List ℕ)
  pub count : ℕ
  pub all : count + left ≡ plan.frames
  pub tallied : AreTallied plan.channels tallies blocks count
  pub reached : Reached (tooling refused) part (goes_on doing (records plan.channels at blocks (block_lengths most left)) (λ bs. has_value doing (levels_of plan.channels bs))) o p

pub hearing_begin : (plan : Plan) (start : ℕ) {most : ℕ} {tallies : Tallies} {o : ToolSight} → most ≡ most_frames plan → AreTallied plan.channels tallies [] 0 → IsHearing (measures plan start) plan most start plan.frames tallies o o
unfolding measures
hearing_begin plan start same none = record { blocks = []; count = 0; all = (let sum : 0 + plan.frames ≡ plan.frames = omega arith in sum); tallied = none; reached = rw same (reached_here is_tool) }

module _ {part : ToolPart Levels} {plan : Plan} {most at left : ℕ} {tallies : Tallies} {o p : ToolSight} (h : IsHearing part plan most at left tallies o p) where
  -- none is left
  pub hearing_done : left ≡ 0 → {levels : Levels} → ((blocks : List (List ℕ)) → AreTallied plan.channels tallies blocks plan.frames → levels ≡ levels_of plan.channels blocks) → Goes (tooling refused) part (Ok levels) o p
  unfolding records
  hearing_done none {levels} known =
      let over : block_lengths most left ≡ [] = ap (block_lengths most) none ∙ lengths_none most in
      let all : h.count ≡ plan.frames = omega (arith, h.all, none) in
      let is = known h.blocks (subst (λ (n : ℕ). AreTallied plan.channels tallies h.blocks n) all h.tallied) in
      subst (λ (l : Levels). Goes (tooling refused) part (Ok l) o p) (sym is)
      (reached_goes is_tool _ (reached_on is_tool (λ bs. has_value doing (levels_of plan.channels bs)) (rw over at h.reached) (goes_value is_tool h.blocks)) (goes_value is_tool _))

  module _ (some : 0 < most) (more : 0 < left) {n size : ℕ} (is_least : n ≡ min left most) (is_size : size ≡ n * frame_size plan.channels) where
    abbrev rest : Recorded → ToolPart Levels
    rest r = goes_on doing (records plan.channels ((at + n) % 2 ^ 32) (h.blocks ++ r.samples ∷ []) (block_lengths most (left - n))) (λ bs. has_value doing (levels_of plan.channels bs))

    next_block : goes_on doing (records plan.channels at h.blocks (block_lengths most left)) (λ bs. has_value doing (levels_of plan.channels bs)) ≡ goes_on doing (asks (record_run true 1 at size) (as_recorded true size)) rest
    unfolding records
    next_block = rw (is_size, is_least, lengths_some most left some more) (goes_on_twice is_tool _ _ _)

    module _ {q : ToolSight} where
      -- the tool ended within the block
      pub hearing_stopped : {how : ToolEnd} {result : Result Levels ToolEnd} → result ≡ Err how → Goes {X = Recorded} (tooling refused) (asks (record_run true 1 at size) (as_recorded true size)) (Err how) p q → Goes (tooling refused) part result o q
      hearing_stopped same goes = reached_goes is_tool _ h.reached (rw next_block (goes_stop is_tool rest same goes))

      -- or it goes on
      pub hearing_on : {r : Recorded} → Goes (tooling refused) (asks (record_run true 1 at size) (as_recorded true size)) (Ok r) p q → {at' : ℕ} → at' ≡ (at + n) % 2 ^ 32 → {tallies' : Tallies} → AreTallied plan.channels tallies' (h.blocks ++ r.samples ∷ []) (h.count + n) → IsHearing part plan most at' (left - n) tallies' o q
      hearing_on {r} goes place tallied = record {
        blocks = h.blocks ++ r.samples ∷ [];
        count = h.count + n;
        all = (let sum : h.count + n + (left - n) ≡ plan.frames = omega (arith, h.all) in sum);
        tallied = tallied;
        reached = rw place (reached_on is_tool rest (rw next_block at h.reached) goes);
      }
