-- What is played is heard as intended, in each channel.
use Rattle.std.proofs.Common.{◌≡◌, ℕ, ◌+◌, ◌-◌, ◌*◌, ◌/◌, ◌<◌, ◌≤◌, ◌&&◌, nat_le, nat_lt, ℤ, pos, true, List, length, take, drop, get_or, slice_get, slice_index_or, slice_range, sym, ap, ap₂, ◌∙◌, subst, arith, inl, inr, Some}
use Rattle.std.proofs.Math.Nat.{div-div-eq-div-mul, mul-div-le}
use Rattle.std.proofs.lemmas.List.{drop-drop, get_or-map, length-map}
use Rattle.std.proofs.lemmas.List.FromFn.{get_or-map-range_with_len, length-map-range_with_len}
use Rattle.std.proofs.lemmas.Option.{slice_get-get_or, same_Some}
use Rattle.std.proofs.lemmas.Bool.{and_parts}
use Rattle.std.proofs.lemmas.Bool.Decides.{nat_tests}
use Rattle.af_sample.specs.declared.sample_type.SampleType.{SampleType}
use Rattle.af_sample.specs.declared.sample_type.SampleType.TheVariants.{Mu255}
use Rattle.af_sample.specs.Channels.{frame_count, IsChannelCount}
use Rattle.af_sample.specs.SampleTypes.{frame_bytes, width_of}
use Rattle.af_sample.specs.Samples.{decoded, piece, samples}
use Rattle.af_sample.specs.Gains.{gained}
use Rattle.af_sample.specs.Heard.{sound_with_sample, covers, heard_sample, AcceptedPlay}
use Rattle.af_tools.specs.Play.{blocks, gained_samples, sample_in, sent_blocks, AreAccepted, Block, HeardAsIntended, IsEntryOf}
use Rattle.af_cli.proofs.FrameSizeLemmas.{frame_size}
use Rattle.af_tools.proofs.SentBlockLemmas.{find_block, frame, one_block, range_within, IsAt}
use Rattle.af_sample.proofs.FrameLemmas.{one_or_two, place_before}
use Rattle.af_sample.proofs.SinglePlayLemmas.{blended_with_silence, covers_its, heard_alone}

length-gained_samples : (ty : SampleType) (gain : ℤ) (bytes : List ℕ) → length (gained_samples ty gain bytes) ≡ length bytes / width_of ty
unfolding samples
length-gained_samples ty gain bytes =
    length-map (samples ty bytes) (λ x. gained x gain)
    ∙ length-map-range_with_len (λ i. decoded ty (piece ty bytes i)) 0 (length bytes / width_of ty)

-- a sample under a gain, by its bytes
gained_at : (ty : SampleType) (gain : ℤ) (bytes : List ℕ) (i : ℕ) → i < length bytes / width_of ty →
    slice_index_or (gained_samples ty gain bytes) i (pos 0) ≡ gained (decoded ty (piece ty bytes i)) gain
unfolding samples
gained_at ty gain bytes i low =
    let size : length (samples ty bytes) ≡ length bytes / width_of ty = length-map-range_with_len (λ i. decoded ty (piece ty bytes i)) 0 (length bytes / width_of ty) in
    get_or-map (λ x. gained x gain) (samples ty bytes) i (pos 0) (pos 0) (subst (λ (n : ℕ). i < n) (sym size) low)
    ∙ ap (λ x. gained x gain) (get_or-map-range_with_len (λ i. decoded ty (piece ty bytes i)) 0 (length bytes / width_of ty) i i (pos 0) low (omega arith))

-- where a sample of a channel is in its frame
record IsInFrame (width frame place i channel : ℕ) : Type 0 where
  at : i * frame + channel * width ≡ place * width
  within : channel * width + width ≤ frame

in_frame : (ty : SampleType) (channels i c : ℕ) → IsChannelCount channels → c < channels → IsInFrame (width_of ty) (frame_bytes ty channels) (channels * i + c) i c
in_frame ty channels i c count low = elim (one_or_two channels count) [
  | inl one ↦
      let first : c ≡ 0 = omega arith in
      rw (one, first) (mono ty)
  | inr two ↦ rw two (stereo ty (omega arith))
] where
  mono : (ty : SampleType) → IsInFrame (width_of ty) (frame_bytes ty 1) (1 * i + 0) i 0
  mono Mu255 = record { at = omega arith; within = omega arith }
  mono ty = record { at = omega arith; within = omega arith }

  stereo : (ty : SampleType) → c < 2 → IsInFrame (width_of ty) (frame_bytes ty 2) (2 * i + c) i c
  stereo Mu255 few = record { at = omega arith; within = omega arith }
  stereo ty few = record { at = omega arith; within = omega arith }

-- a sample of a channel is a part of its frame
part_of_frame : (ty : SampleType) (channels : ℕ) (bytes : List ℕ) (i c : ℕ) → IsChannelCount channels → c < channels →
    piece ty bytes (channels * i + c) ≡ slice_range (frame (frame_bytes ty channels) bytes i) (c * width_of ty) (c * width_of ty + width_of ty)
part_of_frame ty channels bytes i c count low =
    let w = width_of ty in
    let size = frame_bytes ty channels in
    let f = in_frame ty channels i c count low in
    let long : (k n : ℕ) → k + n - k ≡ n = λ k n. omega arith in
    ap (λ k. take k (drop ((channels * i + c) * w) bytes)) (long ((channels * i + c) * w) w)
    ∙ ap (λ k. take w (drop k bytes)) (sym f.at)
    ∙ ap (take w) (sym (drop-drop (c * w) (i * size) bytes))
    ∙ sym (range_within (c * w) w size (drop (i * size) bytes) f.within)
    ∙ ap₂ (λ (k m : ℕ). take k (drop (c * w) (take m (drop (i * size) bytes)))) (sym (long (c * w) w)) (sym (long (i * size) size))

same_part : (ty : SampleType) (channels : ℕ) (bytes other : List ℕ) (i j c : ℕ) → IsChannelCount channels → c < channels → frame (frame_bytes ty channels) other j ≡ frame (frame_bytes ty channels) bytes i →
    piece ty other (channels * j + c) ≡ piece ty bytes (channels * i + c)
same_part ty channels bytes other i j c count low same =
    part_of_frame ty channels other j c count low
    ∙ ap (λ (l : List ℕ). slice_range l (c * width_of ty) (c * width_of ty + width_of ty)) same
    ∙ sym (part_of_frame ty channels bytes i c count low)

-- the frames of samples under a gain, and the places of these
frames_gained : (ty : SampleType) (channels : ℕ) (gain : ℤ) (bytes : List ℕ) → frame_count channels (gained_samples ty gain bytes) ≡ length bytes / frame_bytes ty channels
frames_gained ty channels gain bytes =
    ap (λ (n : ℕ). n / channels) (length-gained_samples ty gain bytes) ∙ div-div-eq-div-mul (length bytes) (width_of ty) channels

place_low : (ty : SampleType) (channels len i c : ℕ) → i < len / frame_bytes ty channels → c < channels → channels * i + c < len / width_of ty
place_low ty channels len i c low few =
    let before : channels * i + c < channels * (len / frame_bytes ty channels) = place_before channels i (len / frame_bytes ty channels) c low few in
    let same : len / width_of ty / channels ≡ len / frame_bytes ty channels = div-div-eq-div-mul len (width_of ty) channels in
    let most : channels * (len / width_of ty / channels) ≤ len / width_of ty = mul-div-le (len / width_of ty) channels in
    let end : channels * (len / width_of ty / channels) ≡ channels * (len / frame_bytes ty channels) = ap (λ (n : ℕ). channels * n) same in
    omega arith

found : (ty : SampleType) (channels frames : ℕ) (bytes : List ℕ) (i : ℕ) → IsChannelCount channels → 0 < frames → i < length bytes / frame_bytes ty channels → IsAt (frame_bytes ty channels) bytes 0 i (sent_blocks ty channels frames bytes)
unfolding blocks
found ty channels frames bytes i count some low = find_block (frame_bytes ty channels) (frame_size ty channels count) frames (length bytes) 0 bytes i some (omega arith) low

-- the times that a play covers
covered : (channels : ℕ) (e : AcceptedPlay) (t : ℕ) → covers channels e t ≡ true → (e.start ≤ t) × (t < e.start + frame_count channels e.samples)
covered channels e t on =
    let p = (and_parts (nat_le e.at t) (nat_le e.start t && nat_lt t (e.start + frame_count channels e.samples)) on).1 in
    let q = and_parts (nat_le e.start t) (nat_lt t (e.start + frame_count channels e.samples)) p in
    let from : nat_le e.start t ≡ true = q.0 in
    let to : nat_lt t (e.start + frame_count channels e.samples) ≡ true = q.1 in
    (grind (arith, nat_tests), grind (arith, nat_tests))

module _ (ty : SampleType) (channels : ℕ) (count : IsChannelCount channels) (gain : ℤ) (start : ℕ) where
  -- the play of a block covers only the times of its frames
  frame_of : (b : Block) (e d : AcceptedPlay) (i : ℕ) → IsEntryOf ty gain start b e → d ≡ e → covers channels d (start + i) ≡ true → (j : ℕ) × (j < length b.bytes / frame_bytes ty channels) × (b.before + j ≡ i)
  frame_of b e d i of same on =
      let c = covered channels e (start + i) (subst (λ (x : AcceptedPlay). covers channels x (start + i) ≡ true) same on) in
      let from = c.0 in
      let to = c.1 in
      let begin = of.at_its_time in
      let size : frame_count channels e.samples ≡ length b.bytes / frame_bytes ty channels = ap (frame_count channels) of.its_samples ∙ frames_gained ty channels gain b.bytes in
      (i - b.before, omega arith, omega arith)

  module _ (frames : ℕ) (bytes : List ℕ) (accepted : List AcceptedPlay) (a : AreAccepted ty channels gain start (length bytes / frame_bytes ty channels) (sent_blocks ty channels frames bytes) accepted)
      (i c : ℕ) (low : i < length bytes / frame_bytes ty channels) (few : c < channels) (f : IsAt (frame_bytes ty channels) bytes 0 i (sent_blocks ty channels frames bytes)) where
    alone : (j : ℕ) (d : AcceptedPlay) → slice_get accepted j ≡ Some d → covers channels d (start + i) ≡ true → j ≡ a.place f.k
    alone j d at on =
        let o = a.no_other j i d at low on in
        let b : Block = get_or (sent_blocks ty channels frames bytes) o.0 f.block in
        let get : slice_get (sent_blocks ty channels frames bytes) o.0 ≡ Some b = slice_get-get_or (sent_blocks ty channels frames bytes) o.0 f.block o.1 in
        let e = a.each o.0 b get in
        let same : d ≡ e.0 = same_Some d e.0 (sym at ∙ ap (slice_get accepted) o.2 ∙ e.1) in
        let g = frame_of b e.0 d i e.2 same on in
        let here = g.2 in
        let place = f.place in
        let w = frame_bytes ty channels in
        let one : o.0 ≡ f.k = one_block w (frame_size ty channels count) 0 (blocks (frames * w) bytes) o.0 f.k b f.block g.0 f.j get f.get g.1 f.within (omega arith) in
        o.2 ∙ ap a.place one

    its_sample : (e : AcceptedPlay) → IsEntryOf ty gain start f.block e → slice_index_or e.samples (channels * (start + i - e.start) + c) (pos 0) ≡ gained (decoded ty (piece ty bytes (channels * i + c))) gain
    its_sample e of =
        let begin = of.at_its_time in
        let place = f.place in
        let at : start + i - e.start ≡ f.j = omega arith in
        ap₂ (λ (xs : List ℤ) (k : ℕ). slice_index_or xs (channels * k + c) (pos 0)) of.its_samples at
        ∙ gained_at ty gain f.block.bytes (channels * f.j + c) (place_low ty channels (length f.block.bytes) f.j c f.within few)
        ∙ ap (λ p. gained (decoded ty p) gain) (same_part ty channels bytes f.block.bytes i f.j c count few f.same)

    its_time : (e : AcceptedPlay) → IsEntryOf ty gain start f.block e → covers channels e (start + i) ≡ true
    its_time e of =
        let begin = of.at_its_time in
        let place = f.place in
        let within = f.within in
        let size : frame_count channels e.samples ≡ length f.block.bytes / frame_bytes ty channels = ap (frame_count channels) of.its_samples ∙ frames_gained ty channels gain f.block.bytes in
        covers_its channels e (start + i) of.in_time (omega arith) (omega arith)

    heard_frame : heard_sample channels accepted (start + i) c ≡ sample_in channels (gained_samples ty gain bytes) i c
    heard_frame =
        let e = a.each f.k f.block f.get in
        heard_alone channels accepted (start + i) c (a.place f.k) e.0 e.1 (its_time e.0 e.2) alone
        ∙ ap (sound_with_sample e.0.preempt (pos 0)) (its_sample e.0 e.2)
        ∙ blended_with_silence e.0.preempt (decoded ty (piece ty bytes (channels * i + c))) gain
        ∙ sym (gained_at ty gain bytes (channels * i + c) (place_low ty channels (length bytes) i c low few))

pub heard_as_intended : HeardAsIntended
heard_as_intended ty channels gain block bytes start accepted count some a i c low few =
    heard_frame ty channels count gain start block bytes accepted a i c low few (found ty channels block bytes i count some low)
