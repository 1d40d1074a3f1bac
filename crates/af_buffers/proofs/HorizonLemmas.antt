-- Horizons and the rings that hold them.
use Rattle.std.proofs.Common.{◌≡◌, ℕ, ℤ, pos, ◌*◌, ◌%◌, ◌^◌, ◌<◌, ◌≤◌, ◌==◌, ◌||◌, inl, inr, true, List, [], ◌∷◌, replicate, length, get_or, ap, ◌∙◌, refl, sym, subst, arith}
use Rattle.std.proofs.Math.Bool.{or-true, true-or}
use Rattle.std.specs.List.{list_any}
use Rattle.std.proofs.lemmas.Bool.{cases_lt, or_cases, eqb-true, eq-eqb}
use Rattle.std.proofs.lemmas.Bool.Decides.{nat_tests}
use Rattle.std.proofs.lemmas.List.{get_or-replicate, get_or_past, length-replicate}
use Rattle.af_ring.specs.Cells.{cell}
use Rattle.af_ring.proofs.RingStepLemmas.{size_of}
use Rattle.af_sample.specs.Rates.{listed_rates, IsListedRate}
use Rattle.af_sample.specs.Channels.{IsChannelCount}
use Rattle.af_sample.proofs.FrameLemmas.{one_or_two}
use Rattle.af_buffers.specs.Horizons.{IsHorizon, IsRoomFor}

-- a horizon is from 32000 to 192000 frames
pub horizon_within : (n : ℕ) → IsHorizon n → (32000 ≤ n) × (n ≤ 192000)
horizon_within n h = (grind (arith, nat_tests), grind (arith, nat_tests))

-- so one or two channels of it are from 32000 to 384000 samples
pub samples_within : (channels n : ℕ) → IsChannelCount channels → IsHorizon n → (32000 ≤ channels * n) × (channels * n ≤ 384000)
samples_within channels n count h =
    let bounds : (32000 ≤ n) × (n ≤ 192000) = horizon_within n h in
    elim (one_or_two channels count) [
      | inl one ↦ subst (λ m. (32000 ≤ m * n) × (m * n ≤ 384000)) (sym one) (omega arith, omega arith)
      | inr two ↦ subst (λ m. (32000 ≤ m * n) × (m * n ≤ 384000)) (sym two) (omega arith, omega arith)
    ]

-- if a rate is listed, four times it is four times a listed one
listed_times : (rate : ℕ) (rates : List ℕ) → list_any (λ listed. rate == listed) rates ≡ true → list_any (λ listed. rate * 4 == listed * 4) rates ≡ true
listed_times rate [] h = h
listed_times rate (first ∷ rates) h = elim (or_cases (rate == first) (list_any (λ listed. rate == listed) rates) h) [
  | inl here ↦
      ap (λ b. b || list_any (λ listed. rate * 4 == listed * 4) rates) (eq-eqb (rate * 4) (first * 4) (ap (λ n. n * 4) (eqb-true rate first here)))
      ∙ true-or (list_any (λ listed. rate * 4 == listed * 4) rates)
  | inr later ↦ ap (λ b. (rate * 4 == first * 4) || b) (listed_times rate rates later) ∙ or-true (rate * 4 == first * 4)
]

-- four seconds at a listed rate are a horizon
pub horizon_of_rate : (rate : ℕ) → IsListedRate rate → IsHorizon (rate * 4)
horizon_of_rate rate listed = listed_times rate listed_rates listed

-- silence, and what is past it
pub get_or-silence : (n i : ℕ) → get_or (replicate n (pos 0)) i (pos 0) ≡ pos 0
get_or-silence n i = elim (cases_lt i n) [
  | inl low ↦ get_or-replicate n i (pos 0) (pos 0) low
  | inr high ↦ get_or_past (replicate n (pos 0)) i (pos 0) (let long : length (replicate n (pos 0)) ≡ n = length-replicate n (pos 0) in omega arith)
]

-- each cell of a silent ring
pub silent_cell : (cells : List ℤ) (size t : ℕ) → cells ≡ replicate size (pos 0) → cell cells t ≡ pos 0
silent_cell cells size t e = ap (λ cs. cell cs t) e ∙ get_or-silence size (t % length (replicate size (pos 0)))

-- a power of two that is the least with room
pub room_of : (n bits : ℕ) → 1 ≤ bits → bits ≤ 20 → n ≤ 2 ^ bits → 2 ^ bits < n * 2 → IsRoomFor n (2 ^ bits)
room_of n bits some few enough least = record { power = size_of (2 ^ bits) bits some few refl; enough = enough; least = least }
