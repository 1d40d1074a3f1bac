-- How many samples and bytes the frames of a tick are.
use Rattle.std.proofs.Common.{◌≡◌, ℕ, ◌*◌, ◌/◌, ◌<◌, ◌≤◌, inl, inr, ℤ, List, length, take, sym, ap, ◌∙◌, subst, arith}
use Rattle.std.proofs.lemmas.List.{length-take-le}
use Rattle.std.proofs.Math.Nat.{mul-div_cancel}
use Rattle.af_limits.specs.Limits.{longest_tick, most_tick_samples, longest_capture}
use Rattle.af_sample.specs.declared.sample_type.SampleType.{SampleType}
use Rattle.af_sample.specs.declared.sample_type.SampleType.TheVariants.{Mu255, Alaw, Lin16, Lin32}
use Rattle.af_sample.specs.SampleTypes.{frame_bytes, width_of}
use Rattle.af_sample.specs.Channels.{IsChannelCount, frame_count}
use Rattle.af_sample.proofs.FrameLemmas.{one_or_two, some_channel}

pub few_samples : (n channels : ℕ) → n ≤ longest_tick → IsChannelCount channels → n * channels ≤ most_tick_samples
few_samples n channels few count = elim (one_or_two channels count) [
  | inl one ↦ subst (λ c. n * c ≤ most_tick_samples) (sym one) (omega (arith, few))
  | inr two ↦ subst (λ c. n * c ≤ most_tick_samples) (sym two) (omega (arith, few))
]

-- the bytes of a tick are those of its samples
pub sample_bytes : (ty : SampleType) (n channels : ℕ) → n * frame_bytes ty channels ≡ n * channels * width_of ty
sample_bytes Mu255 n channels = omega arith
sample_bytes Alaw n channels = omega arith
sample_bytes Lin16 n channels = omega arith
sample_bytes Lin32 n channels = omega arith

few_bytes : (ty : SampleType) (m : ℕ) → m ≤ most_tick_samples → m * width_of ty ≤ longest_capture
few_bytes Mu255 m few = omega (arith, few)
few_bytes Alaw m few = omega (arith, few)
few_bytes Lin16 m few = omega (arith, few)
few_bytes Lin32 m few = omega (arith, few)

some_bytes : (ty : SampleType) (m : ℕ) → 0 < m → 0 < m * width_of ty
some_bytes Mu255 m some = omega (arith, some)
some_bytes Alaw m some = omega (arith, some)
some_bytes Lin16 m some = omega (arith, some)
some_bytes Lin32 m some = omega (arith, some)

bytes_fit : (ty : SampleType) (n channels : ℕ) → n ≤ longest_tick → IsChannelCount channels → n * frame_bytes ty channels ≤ longest_capture
bytes_fit ty n channels few count = subst (λ m. m ≤ longest_capture) (sym (sample_bytes ty n channels)) (few_bytes ty (n * channels) (few_samples n channels few count))

some_samples : (n channels : ℕ) → 1 ≤ n → IsChannelCount channels → 0 < n * channels
some_samples n channels some count = elim (one_or_two channels count) [
  | inl one ↦ subst (λ c. 0 < n * c) (sym one) (omega (arith, some))
  | inr two ↦ subst (λ c. 0 < n * c) (sym two) (omega (arith, some))
]

bytes_come : (ty : SampleType) (n channels : ℕ) → 1 ≤ n → IsChannelCount channels → 0 < n * frame_bytes ty channels
bytes_come ty n channels some count = subst (λ m. 0 < m) (sym (sample_bytes ty n channels)) (some_bytes ty (n * channels) (some_samples n channels some count))

-- a tick has some bytes, and there is room for them
pub bytes_within : (xs : List ℕ) (ty : SampleType) (n channels size : ℕ) → 1 ≤ n → n ≤ longest_tick → IsChannelCount channels → length xs ≡ longest_capture → size ≡ frame_bytes ty channels → 0 < length (take (n * size) xs)
bytes_within xs ty n channels size some few count room is =
    let fits : n * size ≤ length xs = subst (λ m. n * m ≤ length xs) (sym is) (subst (λ m. n * frame_bytes ty channels ≤ m) (sym room) (bytes_fit ty n channels few count)) in
    let all : length (take (n * size) xs) ≡ n * frame_bytes ty channels = length-take-le (n * size) xs fits ∙ ap (λ m. n * m) is in
    subst (λ m. 0 < m) (sym all) (bytes_come ty n channels some count)

-- the front of a run that has room for them
pub room_for : (xs : List ℤ) (n channels : ℕ) → length xs ≡ most_tick_samples → n ≤ longest_tick → IsChannelCount channels → length (take (n * channels) xs) ≡ n * channels
room_for xs n channels room few count = let fits = few_samples n channels few count in length-take-le (n * channels) xs (omega (arith, fits, room))

-- bytes of n frames are as many as their samples take
pub take_bytes : (bytes : List ℕ) (ty : SampleType) (n channels m : ℕ) → m ≡ n * channels → length bytes ≡ n * frame_bytes ty channels → length bytes ≡ m * width_of ty
take_bytes bytes ty n channels m all size = size ∙ sample_bytes ty n channels ∙ ap (λ k. k * width_of ty) (sym all)

-- so many samples are n frames
pub are_frames : (xs : List ℤ) (n channels : ℕ) → length xs ≡ n * channels → IsChannelCount channels → frame_count channels xs ≡ n
are_frames xs n channels size count = ap (λ m. m / channels) size ∙ mul-div_cancel n (some_channel channels count)
