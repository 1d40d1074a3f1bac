-- A frame is small: with one or two samples, it has 1, 2, 4 or 8 bytes.
use Rattle.std.proofs.Common.{◌≡◌, ◌⊎◌, ℕ, ◌/◌, ◌<◌, ◌≤◌, min, inl, inr, sym, subst, arith}
use Rattle.af_sample.specs.declared.sample_type.SampleType.{SampleType}
use Rattle.af_sample.specs.declared.sample_type.SampleType.TheVariants.{Mu255, Alaw, Lin16, Lin32}
use Rattle.af_sample.specs.Channels.{IsChannelCount}
use Rattle.af_sample.specs.SampleTypes.{frame_bytes}
use Rattle.af_sample.proofs.FrameLemmas.{one_or_two}
use Rattle.af_cli.specs.Sizes.{block_frames, greatest_block}

abbrev pub IsFrameSize : ℕ → Type 0
IsFrameSize w = (w ≡ 1) ⊎ ((w ≡ 2) ⊎ ((w ≡ 4) ⊎ (w ≡ 8)))

-- what holds of frames of each size
pub by_size : (P : ℕ → Type 0) → P 1 → P 2 → P 4 → P 8 → (w : ℕ) → IsFrameSize w → P w
by_size P one two four eight w (inl e) = subst P (sym e) one
by_size P one two four eight w (inr (inl e)) = subst P (sym e) two
by_size P one two four eight w (inr (inr (inl e))) = subst P (sym e) four
by_size P one two four eight w (inr (inr (inr e))) = subst P (sym e) eight

pub frame_size : (ty : SampleType) (channels : ℕ) → IsChannelCount channels → IsFrameSize (frame_bytes ty channels)
frame_size Mu255 channels count = elim (one_or_two channels count) [ inl one ↦ inl (omega arith) | inr two ↦ inr (inl (omega arith)) ]
frame_size Alaw channels count = elim (one_or_two channels count) [ inl one ↦ inl (omega arith) | inr two ↦ inr (inl (omega arith)) ]
frame_size Lin16 channels count = elim (one_or_two channels count) [ inl one ↦ inr (inl (omega arith)) | inr two ↦ inr (inr (inl (omega arith))) ]
frame_size Lin32 channels count = elim (one_or_two channels count) [ inl one ↦ inr (inr (inl (omega arith))) | inr two ↦ inr (inr (inr (omega arith))) ]

pub some_bytes : (w : ℕ) → IsFrameSize w → 0 < w
some_bytes w size = by_size (λ w. 0 < w) (omega arith) (omega arith) (omega arith) (omega arith) w size

-- a block has a frame
pub some_frames : (asked w : ℕ) → IsFrameSize w → 1 ≤ asked → 1 ≤ block_frames asked w
some_frames asked w size some = by_size (λ w. 1 ≤ min asked (greatest_block / w)) (omega arith) (omega arith) (omega arith) (omega arith) w size
