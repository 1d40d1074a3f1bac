-- What an accepted play makes of a time and a channel.
use Rattle.std.proofs.Common.{◌≡◌, ℕ, ℤ, pos, ◌+◌, ◌-◌, ◌*◌, ◌/◌, ◌%◌, ◌^◌, ◌<◌, ◌≤◌, inl, inr, Bool, true, false, cond, nat_lt, nat_le, ◌&&◌, length, get_or, refl, sym, ap, ◌∙◌, arith}
use Rattle.std.proofs.lemmas.Bool.{cases_lt, le-leb, lt-leb, lt-ltb, le-ltb}
use Rattle.std.proofs.Math.Bool.{and-false}
use Rattle.af_time.specs.DeviceTime.{unwrap, IsMeant}
use Rattle.af_time.proofs.WholeTimeLemmas.{unwrap_meant, meant_unwrap}
use Rattle.af_sample.specs.Channels.{AreWholeFrames, frame_count}
use Rattle.af_sample.specs.Heard.{AcceptedPlay, covers, with_entry, sound_with_sample, sample_of_entry}
use Rattle.af_sample.proofs.FrameLemmas.{channel_within, place_of, place_past, time_before, time_from}

-- a time before the start
pub covers_before : (channels : ℕ) (e : AcceptedPlay) (t : ℕ) → t < e.start → covers channels e t ≡ false
covers_before channels e t before =
    ap (λ b. nat_le e.at t && (b && nat_lt t (e.start + frame_count channels e.samples))) (lt-leb e.start t before) ∙ and-false (nat_le e.at t)

-- a time past the end
pub covers_past : (channels : ℕ) (e : AcceptedPlay) (t : ℕ) → e.start + frame_count channels e.samples ≤ t → covers channels e t ≡ false
covers_past channels e t past =
    ap (λ b. nat_le e.at t && (nat_le e.start t && b)) (le-ltb t (e.start + frame_count channels e.samples) past)
    ∙ ap (λ b. nat_le e.at t && b) (and-false (nat_le e.start t)) ∙ and-false (nat_le e.at t)

-- a play does not change the sound of a time that it does not cover
pub not_covered : (channels : ℕ) (e : AcceptedPlay) (t channel : ℕ) (sound : ℤ) → covers channels e t ≡ false → with_entry channels t channel sound e ≡ sound
not_covered channels e t channel sound h = ap (λ b. cond b (sound_with_sample e.preempt sound (sample_of_entry channels e t channel)) sound) h

-- a time that a play covers
pub covered : (channels : ℕ) (e : AcceptedPlay) (t channel : ℕ) (sound : ℤ) → e.at ≤ t → e.start ≤ t → t < e.start + frame_count channels e.samples →
    with_entry channels t channel sound e ≡ sound_with_sample e.preempt sound (sample_of_entry channels e t channel)
covered channels e t channel sound known from within =
    ap (λ b. cond (b && (nat_le e.start t && nat_lt t (e.start + frame_count channels e.samples))) (sound_with_sample e.preempt sound (sample_of_entry channels e t channel)) sound) (le-leb e.at t known)
    ∙ ap (λ b. cond (b && nat_lt t (e.start + frame_count channels e.samples)) (sound_with_sample e.preempt sound (sample_of_entry channels e t channel)) sound) (le-leb e.start t from)
    ∙ ap (λ b. cond b (sound_with_sample e.preempt sound (sample_of_entry channels e t channel)) sound) (lt-ltb t (e.start + frame_count channels e.samples) within)

-- The same by places, if the samples are whole frames: a time's place is before the play's samples, past them, or that of one of
-- them.
pub before_samples : (channels : ℕ) (e : AcceptedPlay) (from j : ℕ) → channels * from + j < channels * e.start → covers channels e (from + j / channels) ≡ false
before_samples channels e from j early =
    let place : channels * (from + j / channels) + j % channels ≡ channels * from + j = place_of channels from j in
    covers_before channels e (from + j / channels) (time_before channels (from + j / channels) e.start (j % channels) (omega arith))

pub past_samples : (channels : ℕ) (e : AcceptedPlay) (from j : ℕ) → 0 < channels → AreWholeFrames channels e.samples → channels * e.start + length e.samples ≤ channels * from + j →
    covers channels e (from + j / channels) ≡ false
past_samples channels e from j some whole past =
    let place : channels * (from + j / channels) + j % channels ≡ channels * from + j = place_of channels from j in
    covers_past channels e (from + j / channels)
    (time_from channels (from + j / channels) (e.start + frame_count channels e.samples) (j % channels) (channel_within channels j some) (omega arith))

pub at_sample : (channels : ℕ) (e : AcceptedPlay) (from j k : ℕ) (sound : ℤ) → 0 < channels → AreWholeFrames channels e.samples → e.at ≤ from → channels * e.start + k ≡ channels * from + j → k < length e.samples →
    with_entry channels (from + j / channels) (j % channels) sound e ≡ sound_with_sample e.preempt sound (get_or e.samples k (pos 0))
at_sample channels e from j k sound some whole known same within =
    let place : channels * (from + j / channels) + j % channels ≡ channels * from + j = place_of channels from j in
    let begun : e.start ≤ from + j / channels = time_from channels (from + j / channels) e.start (j % channels) (channel_within channels j some) (omega arith) in
    covered channels e (from + j / channels) (j % channels) sound (omega arith) begun
    (time_before channels (from + j / channels) (e.start + frame_count channels e.samples) (j % channels) (omega arith))
    ∙ ap (λ i. sound_with_sample e.preempt sound (get_or e.samples i (pos 0))) (place_past channels e.start (from + j / channels) (j % channels) k begun (omega arith))

-- the same play, but later, does the same to a time that is as much later
pub with_entry-later : (channels : ℕ) (e f : AcceptedPlay) (t u channel : ℕ) (sound : ℤ) → e.at ≤ t → f.at ≤ u → e.samples ≡ f.samples → e.preempt ≡ f.preempt → e.start + u ≡ f.start + t →
    with_entry channels t channel sound e ≡ with_entry channels u channel sound f
with_entry-later channels e f t u channel sound known known' samples preempt start =
    let long : frame_count channels e.samples ≡ frame_count channels f.samples = ap (frame_count channels) samples in
    elim (cases_lt t e.start) [
      | inl before ↦ not_covered channels e t channel sound (covers_before channels e t before) ∙ sym (not_covered channels f u channel sound (covers_before channels f u (omega arith)))
      | inr begun ↦ elim (cases_lt t (e.start + frame_count channels e.samples)) [
        | inl within ↦
            let as_far : t - e.start ≡ u - f.start = omega arith in
            covered channels e t channel sound known begun within
            ∙ ap (λ p. sound_with_sample p sound (sample_of_entry channels e t channel)) preempt
            ∙ ap (λ xs. sound_with_sample f.preempt sound (get_or xs (channels * (t - e.start) + channel) (pos 0))) samples
            ∙ ap (λ i. sound_with_sample f.preempt sound (get_or f.samples (channels * i + channel) (pos 0))) as_far
            ∙ sym (covered channels f u channel sound known' (omega arith) (omega arith))
        | inr over ↦
            not_covered channels e t channel sound (covers_past channels e t over) ∙ sym (not_covered channels f u channel sound (covers_past channels f u (omega arith)))
      ]
    ]

-- two whole times with one word: the times that a word means at them are as far from each
pub unwrap-same : (now other w : ℕ) → 2 ^ 32 ≤ now → 2 ^ 32 ≤ other → now % 2 ^ 32 ≡ other % 2 ^ 32 → w < 2 ^ 32 → unwrap now w + other ≡ unwrap other w + now
unwrap-same now other w late late' same word =
    let meant : IsMeant now w (unwrap now w) = unwrap_meant now w late word in
    let here : unwrap now w % 2 ^ 32 ≡ w = meant.word in
    let early : now ≤ unwrap now w + 2 ^ 31 = meant.early in
    let before : unwrap now w < now + 2 ^ 31 = meant.late in
    let moved : unwrap now w + other - now ≡ unwrap other w = meant_unwrap other w (unwrap now w + other - now) late' (record { word = omega arith; early = omega arith; late = omega arith }) in
    omega arith
