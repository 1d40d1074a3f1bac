-- Samples and their frames: the sample at place j of a list is of frame j / channels, and of channel j % channels.
use Rattle.std.proofs.Common.{◌≡◌, ◌⊎◌, ℕ, ◌+◌, ◌-◌, ◌*◌, ◌/◌, ◌%◌, ◌==◌, ◌<◌, ◌≤◌, inl, inr, ap, ◌∙◌, arith}
use Rattle.std.proofs.lemmas.Bool.{cases_lt, or_cases, eqb-true}
use Rattle.std.proofs.lemmas.Nat.{mul-le}
use Rattle.std.proofs.Math.Nat.{div-add-mod, div-eq_of_lt, mod-eq_of_lt, mod-lt, mul-add-div, mul-add-mod_self_left}
use Rattle.af_sample.specs.Channels.{IsChannelCount}

pub one_or_two : (channels : ℕ) → IsChannelCount channels → (channels ≡ 1) ⊎ (channels ≡ 2)
one_or_two channels count = elim (or_cases (channels == 1) (channels == 2) count) [
  | inl one ↦ inl (eqb-true channels 1 one)
  | inr two ↦ inr (eqb-true channels 2 two)
]

pub some_channel : (channels : ℕ) → IsChannelCount channels → 0 < channels
some_channel channels count = elim (one_or_two channels count) [
  | inl one ↦ omega arith
  | inr two ↦ omega arith
]

-- the frame and the channel of a place
pub frame_at : (channels i c : ℕ) → c < channels → (channels * i + c) / channels ≡ i
frame_at channels i c low = mul-add-div (omega arith) i c ∙ ap (λ m. i + m) (div-eq_of_lt low) ∙ omega arith

pub channel_at : (channels i c : ℕ) → c < channels → (channels * i + c) % channels ≡ c
channel_at channels i c low = mul-add-mod_self_left channels i c ∙ mod-eq_of_lt low

-- the place of a frame's channel
pub place_is : (channels j : ℕ) → channels * (j / channels) + j % channels ≡ j
place_is channels j = div-add-mod j channels

pub channel_within : (channels j : ℕ) → 0 < channels → j % channels < channels
channel_within channels j some = mod-lt j some

-- places of earlier frames are before those of later ones
pub place_before : (channels i n c : ℕ) → i < n → c < channels → channels * i + c < channels * n
place_before channels i n c early low =
    let next : channels * (i + 1) ≤ channels * n = mul-le channels (i + 1) channels n (omega arith) (omega arith) in
    omega arith

pub place_from : (channels i n c : ℕ) → n ≤ i → channels * n ≤ channels * i + c
place_from channels i n c late =
    let low : channels * n ≤ channels * i = mul-le channels n channels i (omega arith) late in
    omega arith

-- so times can be compared by their places
pub time_before : (channels t start c : ℕ) → channels * t + c < channels * start → t < start
time_before channels t start c early = elim (cases_lt t start) [
  | inl before ↦ before
  | inr from ↦ let late : channels * start ≤ channels * t + c = place_from channels t start c from in absurd (omega arith)
]

pub time_from : (channels t start c : ℕ) → c < channels → channels * start ≤ channels * t + c → start ≤ t
time_from channels t start c low late = elim (cases_lt t start) [
  | inl before ↦ let early : channels * t + c < channels * start = place_before channels t start c before low in absurd (omega arith)
  | inr from ↦ from
]

-- the place of sample j from a time on
pub place_of : (channels from j : ℕ) → channels * (from + j / channels) + j % channels ≡ channels * from + j
place_of channels from j = let here : channels * (j / channels) + j % channels ≡ j = place_is channels j in omega arith

past_by : (channels start d t c k : ℕ) → channels * (start + d) ≡ channels * t → channels * start + k ≡ channels * t + c → channels * d + c ≡ k
past_by channels start d t c k apart same = omega arith

-- the place of a time in samples that begin at a start
pub place_past : (channels start t c k : ℕ) → start ≤ t → channels * start + k ≡ channels * t + c → channels * (t - start) + c ≡ k
place_past channels start t c k from same =
    let apart : channels * (start + (t - start)) ≡ channels * t = ap (λ m. channels * m) (let e : start + (t - start) ≡ t = omega arith in e) in
    past_by channels start (t - start) t c k apart same

-- samples after whole frames are of frames that much later, and of the same channels
pub frame_after : (channels k j : ℕ) → 0 < channels → (channels * k + j) / channels ≡ k + j / channels
frame_after channels k j some = mul-add-div some k j

pub channel_after : (channels k j : ℕ) → (channels * k + j) % channels ≡ j % channels
channel_after channels k j = mul-add-mod_self_left channels k j
