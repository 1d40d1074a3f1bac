-- The blocks that are sent of a source's bytes, also as a server takes them: each frame stands in exactly one of them.
use Rattle.std.proofs.Common.{◌≡◌, ℕ, zero, suc, ◌+◌, ◌-◌, ◌*◌, ◌/◌, ◌<◌, ◌≤◌, nat_lt, true, false, if◌then◌else◌, List, [], ◌∷◌, length, take, drop, slice_get, slice_range, refl, sym, ap, ◌∙◌, subst, arith, inl, inr, length-take, length-take-le, length-drop, min, ◌++◌, map, ap₂, Option, None, Some}
use Rattle.std.proofs.lemmas.Option.{none-some, same_Some}
use Rattle.std.proofs.lemmas.Bool.Decides.{nat_tests}
use Rattle.std.proofs.lemmas.Bool.{cases_lt}
use Rattle.std.proofs.lemmas.List.{take-take, drop-drop, drop-take}
use Rattle.af_cli.proofs.FrameSizeLemmas.{by_size, IsFrameSize, frame_size}
use Rattle.af_tools.specs.Play.{blocks, cut_blocks, frames_in, whole_frames, sent_after, Block, sent_blocks}
use Rattle.std.proofs.Math.Nat.{div-div-eq-div-mul, div-le_self, div-mul-le_self, mul_assoc, mul_comm}
use Rattle.af_sample.specs.declared.sample_type.SampleType.{SampleType}
use Rattle.af_sample.specs.declared.sample_type.SampleType.TheVariants as ty
use Rattle.af_sample.specs.Channels.{IsChannelCount}
use Rattle.af_sample.specs.SampleTypes.{frame_bytes, width_of}
use Rattle.af_sample.specs.Samples.{bytes_of, encoded}
use Rattle.af_sound.specs.declared.head.Coding.{Coding}
use Rattle.af_sound.specs.declared.head.Coding.TheVariants as coding
use Rattle.af_sound.specs.Served.{sample_of, swapped_pairs}
use Rattle.af_sound.specs.Written.{sample_size}
use Rattle.af_tools.specs.Sounds.{as_served, served_type, source_sample, source_width, IsServedAs}
use Rattle.af_tools.proofs.PlayBlockLemmas.{blocks_empty, blocks_some}

-- the first block that is sent
abbrev pub head : ℕ → ℕ → List ℕ → Block
head width before block = record { before = before; bytes = whole_frames width block }

pub sent_first : (width before : ℕ) (block : List ℕ) (more : List (List ℕ)) → 0 < length block / width →
    sent_after width before (block ∷ more) ≡ head width before block ∷ sent_after width (before + frames_in width block) more
sent_first width before block more some =
    let whole : nat_lt 0 (length block / width) ≡ true = grind (arith, nat_tests) in
    rw whole refl

pub sent_last : (width before : ℕ) (block : List ℕ) (more : List (List ℕ)) → length block / width ≡ 0 → sent_after width before (block ∷ more) ≡ []
sent_last width before block more none =
    let whole : nat_lt 0 (length block / width) ≡ false = grind (arith, nat_tests) in
    rw whole refl

-- the bytes of the frame at a place
abbrev pub frame : (width : ℕ) → List ℕ → ℕ → List ℕ
frame width bytes i = slice_range bytes (i * width) (i * width + width)

-- frames are small
pub whole_count : (w : ℕ) → IsFrameSize w → (n : ℕ) → n / w * w / w ≡ n / w
whole_count w small n = by_size (λ w. n / w * w / w ≡ n / w) (omega arith) (omega arith) (omega arith) (omega arith) w small

frame_end : (w : ℕ) → IsFrameSize w → (n i : ℕ) → i < n → i * w + w ≤ n * w
frame_end w small n i low = by_size (λ w. i * w + w ≤ n * w) (omega arith) (omega arith) (omega arith) (omega arith) w small

-- So many bytes are cut: a first block of so many frames, and the rest. A frame that is not in the block comes after a full one.
record IsCut (w frames len first rest : ℕ) : Type 0 where
  all : first / w + rest / w ≡ len / w
  fewer : 0 < len → rest < len
  some : 0 < len / w → 0 < first / w
  none : first / w ≡ 0 → 0 ≡ len / w
  full : (i : ℕ) → i < len / w → first / w ≤ i → first / w ≡ frames
  later : (i : ℕ) → i < len / w → first / w ≤ i → i - frames < rest / w

cut : (w : ℕ) → IsFrameSize w → (frames : ℕ) (bytes : List ℕ) → 0 < frames → IsCut w frames (length bytes) (length (take (frames * w) bytes)) (length (drop (frames * w) bytes))
cut w small frames bytes some = by some (length bytes) _ _ (length-take (frames * w) bytes) (length-drop (frames * w) bytes) where
  by : 0 < frames → (len first rest : ℕ) → first ≡ min (frames * w) len → rest ≡ len - frames * w → IsCut w frames len first rest
  by some len first rest = by_size (λ w. first ≡ min (frames * w) len → rest ≡ len - frames * w → IsCut w frames len first rest)
      (λ f r. record { all = omega arith; fewer = λ more. omega arith; some = λ more. omega arith; none = λ no_more. omega arith; full = λ i low after. omega arith; later = λ i low after. omega arith })
      (λ f r. record { all = omega arith; fewer = λ more. omega arith; some = λ more. omega arith; none = λ no_more. omega arith; full = λ i low after. omega arith; later = λ i low after. omega arith })
      (λ f r. record { all = omega arith; fewer = λ more. omega arith; some = λ more. omega arith; none = λ no_more. omega arith; full = λ i low after. omega arith; later = λ i low after. omega arith })
      (λ f r. record { all = omega arith; fewer = λ more. omega arith; some = λ more. omega arith; none = λ no_more. omega arith; full = λ i low after. omega arith; later = λ i low after. omega arith }) w small

frame_place : (w : ℕ) → IsFrameSize w → (n i : ℕ) → n ≤ i → n * w + (i - n) * w ≡ i * w
frame_place w small n i low = by_size (λ w. n * w + (i - n) * w ≡ i * w) (omega arith) (omega arith) (omega arith) (omega arith) w small

-- a frame after the first frames
frame_after : (w : ℕ) → IsFrameSize w → (bytes : List ℕ) (n i : ℕ) → n ≤ i → frame w (drop (n * w) bytes) (i - n) ≡ frame w bytes i
frame_after w small bytes n i low =
    let count : (k : ℕ) → k + w - k ≡ w = λ k. omega arith in
    ap (λ k. take k (drop ((i - n) * w) (drop (n * w) bytes))) (count ((i - n) * w))
    ∙ ap (take w) (drop-drop ((i - n) * w) (n * w) bytes ∙ ap (λ k. drop k bytes) (frame_place w small n i low))
    ∙ ap (λ k. take k (drop (i * w) bytes)) (sym (count (i * w)))

pub range_within : (n m k : ℕ) (xs : List ℕ) → n + m ≤ k → take m (drop n (take k xs)) ≡ take m (drop n xs)
range_within n m k xs fits =
    sym (drop-take n m (take k xs)) ∙ ap (drop n) (take-take (n + m) k xs fits) ∙ drop-take n m xs

-- a frame of the first bytes
frame_within : (w : ℕ) (bytes : List ℕ) (i k : ℕ) → i * w + w ≤ k → frame w (take k bytes) i ≡ frame w bytes i
frame_within w bytes i k fits =
    let count : (k : ℕ) → k + w - k ≡ w = λ k. omega arith in
    ap (λ m. take m (drop (i * w) (take k bytes))) (count (i * w))
    ∙ range_within (i * w) w k bytes fits
    ∙ ap (λ m. take m (drop (i * w) bytes)) (sym (count (i * w)))

-- the block that a frame is in
pub record IsAt (w : ℕ) (bytes : List ℕ) (before i : ℕ) (sent : List Block) : Type 0 where
  pub k : ℕ
  pub block : Block
  pub j : ℕ
  pub get : slice_get sent k ≡ Some block
  pub place : block.before + j ≡ before + i
  pub within : j < length block.bytes / w
  pub same : frame w block.bytes j ≡ frame w bytes i

head_count : (w : ℕ) → IsFrameSize w → (before : ℕ) (block : List ℕ) → length (head w before block).bytes / w ≡ length block / w
head_count w small before block =
    ap (λ n. n / w) (length-take-le (length block / w * w) block (div-mul-le_self (length block) w)) ∙ whole_count w small (length block)

is_first : (w : ℕ) → IsFrameSize w → (before size i : ℕ) (bytes : List ℕ) (more : List Block) → i < length (take size bytes) / w → IsAt w bytes before i (head w before (take size bytes) ∷ more)
is_first w small before size i bytes more low = record {
  k = 0;
  block = head w before (take size bytes);
  j = i;
  get = refl;
  place = refl;
  within = subst (λ (n : ℕ). i < n) (sym (head_count w small before (take size bytes))) low;
  same =
      let len = length-take size bytes in
      let part = div-mul-le_self (length (take size bytes)) w in
      let end = frame_end w small (length (take size bytes) / w) i low in
      frame_within w (take size bytes) i _ end ∙ frame_within w bytes i size (omega arith);
}

pub find_block : (w : ℕ) → IsFrameSize w → (frames n before : ℕ) (bytes : List ℕ) (i : ℕ) → 0 < frames → length bytes ≤ n → i < length bytes / w →
    IsAt w bytes before i (sent_after w before (cut_blocks n (frames * w) bytes))
find_block w small frames zero before bytes i some fits low = absurd (let few = div-le_self (length bytes) w in omega arith)
find_block w small frames (suc n) before [] i some fits low = absurd (let few = div-le_self 0 w in omega arith)
find_block w small frames (suc n) before (b ∷ bs) i some fits low =
    let bytes : List ℕ = b ∷ bs in
    let size = frames * w in
    let first : List ℕ = take size bytes in
    let rest : List ℕ = drop size bytes in
    let parts = cut w small frames bytes some in
    let whole = parts.some (omega arith) in
    let fewer = parts.fewer (omega arith) in
    rw (sent_first w before first (cut_blocks n size rest) whole) (elim (cases_lt i (length first / w)) [
      | inl here ↦ is_first w small before size i bytes _ here
      | inr after ↦
          let count = parts.full i low after in
          let r = find_block w small frames n (before + length first / w) rest (i - frames) some (omega arith) (parts.later i low after) in
          let place = r.place in
          record {
            k = suc r.k;
            block = r.block;
            j = r.j;
            get = r.get;
            place = omega arith;
            within = r.within;
            same = r.same ∙ frame_after w small bytes frames i (omega arith);
          }
    ])

-- a block is the first, or not before the others
first_or_later : (first : Block) (more : List Block) (from k : ℕ) (b : Block) → slice_get (first ∷ more) k ≡ Some b → first.before ≤ from → ((n : ℕ) → slice_get more n ≡ Some b → from ≤ b.before) → first.before ≤ b.before
first_or_later first more from zero b is low later = let same : first.before ≡ b.before = ap (λ (x : Block). x.before) (same_Some first b is) in omega arith
first_or_later first more from (suc k) b is low later = let far : from ≤ b.before = later k is in omega arith

-- no block is before the first
first_before : (width before : ℕ) (blocks : List (List ℕ)) (k : ℕ) (b : Block) → slice_get (sent_after width before blocks) k ≡ Some b → before ≤ b.before
first_before width before [] k b is = absurd (none-some b is)
first_before width before (block ∷ more) k b is = elim (cases_lt 0 (length block / width)) [
  | inl some ↦
      first_or_later (head width before block) (sent_after width (before + frames_in width block) more) (before + frames_in width block) k b
      (rw (sent_first width before block more some) at is) (omega arith)
      (λ n is. first_before width (before + frames_in width block) more n b is)
  | inr none ↦ absurd (none-some b (rw (sent_last width before block more (omega arith)) at is))
]

-- two places of blocks that are not apart are one
first_or_same : (first : Block) (more : List Block) (k k' : ℕ) (b b' : Block) → slice_get (first ∷ more) k ≡ Some b → slice_get (first ∷ more) k' ≡ Some b' →
    ((n : ℕ) → first ≡ b → slice_get more n ≡ Some b' → ⊥) → ((n : ℕ) → first ≡ b' → slice_get more n ≡ Some b → ⊥) →
    ((n n' : ℕ) → slice_get more n ≡ Some b → slice_get more n' ≡ Some b' → n ≡ n') → k ≡ k'
first_or_same first more zero zero b b' is is' left right later = refl
first_or_same first more zero (suc k') b b' is is' left right later = absurd (left k' (same_Some first b is) is')
first_or_same first more (suc k) zero b b' is is' left right later = absurd (right k (same_Some first b' is') is)
first_or_same first more (suc k) (suc k') b b' is is' left right later = ap suc (later k k' is is')

-- a frame of the first block is before those of the others
apart : (w : ℕ) → IsFrameSize w → (before : ℕ) (block : List ℕ) (more : List (List ℕ)) (c d : Block) (m l n : ℕ) → head w before block ≡ c → slice_get (sent_after w (before + frames_in w block) more) n ≡ Some d →
    m < length c.bytes / w → c.before + m ≡ d.before + l → ⊥
apart w small before block more c d m l n is at low same =
    let from : before ≡ c.before = ap (λ (x : Block). x.before) is in
    let count : length block / w ≡ length c.bytes / w = sym (head_count w small before block) ∙ ap (λ (x : Block). length x.bytes / w) is in
    let later = first_before w (before + frames_in w block) more n d at in
    omega arith

-- two blocks with the same frame are one
pub one_block : (w : ℕ) → IsFrameSize w → (before : ℕ) (blocks : List (List ℕ)) (k k' : ℕ) (b b' : Block) (j j' : ℕ) → slice_get (sent_after w before blocks) k ≡ Some b → slice_get (sent_after w before blocks) k' ≡ Some b' →
    j < length b.bytes / w → j' < length b'.bytes / w → b.before + j ≡ b'.before + j' → k ≡ k'
one_block w small before [] k k' b b' j j' is is' low low' same = absurd (none-some b is)
one_block w small before (block ∷ more) k k' b b' j j' is is' low low' same = elim (cases_lt 0 (length block / w)) [
  | inl some ↦
      first_or_same (head w before block) (sent_after w (before + frames_in w block) more) k k' b b'
      (rw (sent_first w before block more some) at is) (rw (sent_first w before block more some) at is')
      (λ n is at. apart w small before block more b b' j j' n is at low same)
      (λ n is at. apart w small before block more b' b j' j n is at low' (sym same))
      (λ n n' at at'. one_block w small (before + frames_in w block) more n n' b b' j j' at at' low low' same)
  | inr none ↦ absurd (none-some b (rw (sent_last w before block more (omega arith)) at is))
]

-- how many frames of some blocks are sent
abbrev pub frames_sent : ℕ → List (List ℕ) → ℕ
frames_sent width [] = 0
frames_sent width (block ∷ more) = if nat_lt 0 (frames_in width block) then frames_in width block + frames_sent width more else 0

pub sent_more : (width : ℕ) (block : List ℕ) (more : List (List ℕ)) → 0 < length block / width → frames_sent width (block ∷ more) ≡ length block / width + frames_sent width more
sent_more width block more some =
    let whole : nat_lt 0 (length block / width) ≡ true = grind (arith, nat_tests) in
    rw whole refl

pub sent_no_more : (width : ℕ) (block : List ℕ) (more : List (List ℕ)) → length block / width ≡ 0 → frames_sent width (block ∷ more) ≡ 0
sent_no_more width block more none =
    let whole : nat_lt 0 (length block / width) ≡ false = grind (arith, nat_tests) in
    rw whole refl

frames_cut : (w : ℕ) → IsFrameSize w → (frames n : ℕ) (bytes : List ℕ) → 0 < frames → length bytes ≤ n → frames_sent w (cut_blocks n (frames * w) bytes) ≡ length bytes / w
frames_cut w small frames zero bytes some few = let less = div-le_self (length bytes) w in omega arith
frames_cut w small frames (suc n) [] some few = let less = div-le_self 0 w in omega arith
frames_cut w small frames (suc n) (b ∷ bytes) some few =
    let xs : List ℕ = b ∷ bytes in
    let size : ℕ = frames * w in
    let more = cut_blocks n size (drop size xs) in
    let parts = cut w small frames xs some in
    let fewer = parts.fewer (omega arith) in
    elim (cases_lt 0 (length (take size xs) / w)) [
      | inl whole ↦ sent_more w (take size xs) more whole ∙ ap (λ (m : ℕ). length (take size xs) / w + m) (frames_cut w small frames n (drop size xs) some (omega arith)) ∙ parts.all
      | inr none ↦ sent_no_more w (take size xs) more (omega arith) ∙ parts.none (omega arith)
    ]

-- the frames that are sent are all whole frames
pub all_frames : (w : ℕ) → IsFrameSize w → (frames : ℕ) (bytes : List ℕ) → 0 < frames → frames_sent w (blocks (frames * w) bytes) ≡ length bytes / w
unfolding blocks
all_frames w small frames bytes some = frames_cut w small frames (length bytes) bytes some (omega arith)

-- a block as a server takes it, and all that are sent so
abbrev pub served_block : Option Coding → Block → Block
served_block coding block = record { before = block.before; bytes = as_served coding block.bytes }

abbrev pub sent_served : Option Coding → (width before : ℕ) → List (List ℕ) → List Block
sent_served coding width before blocks = map (served_block coding) (sent_after width before blocks)

-- a number of bytes in pairs
abbrev twice : ℕ → ℕ
twice zero = zero
twice (suc k) = suc (suc (twice k))

twice_is : (k : ℕ) → k * 2 ≡ twice k
twice_is zero = let none : 0 * 2 ≡ 0 = omega arith in none
twice_is (suc k) = let more = twice_is k in omega arith

-- pairs
swapped_parts : (k : ℕ) (xs : List ℕ) →
    (take (twice k) (swapped_pairs xs) ≡ swapped_pairs (take (twice k) xs)) × (drop (twice k) (swapped_pairs xs) ≡ swapped_pairs (drop (twice k) xs))
swapped_parts zero xs = (refl, refl)
swapped_parts (suc k) [] = (refl, refl)
swapped_parts (suc k) (a ∷ []) = (refl, refl)
swapped_parts (suc k) (a ∷ b ∷ xs) = let more = swapped_parts k xs in (ap (λ (l : List ℕ). b ∷ a ∷ l) more.0, more.1)

swapped_frames : (xs : List ℕ) → length (swapped_pairs xs) / 2 ≡ length xs / 2
swapped_frames [] = refl
swapped_frames (a ∷ []) = let none : 0 / 2 ≡ 1 / 2 = omega arith in none
swapped_frames (a ∷ b ∷ xs) = let more = swapped_frames xs in omega arith

-- bytes of 8 bits
abbrev wide : List ℕ → List ℕ
wide xs = bytes_of ty.Lin16 (map sample_of xs)

wide_parts : (k : ℕ) (xs : List ℕ) → (take (twice k) (wide xs) ≡ wide (take k xs)) × (drop (twice k) (wide xs) ≡ wide (drop k xs))
wide_parts zero xs = (refl, refl)
wide_parts (suc k) [] = (refl, refl)
wide_parts (suc k) (x ∷ xs) = let more = wide_parts k xs in (ap (λ (l : List ℕ). encoded ty.Lin16 (sample_of x) ++ l) more.0, more.1)

wide_length : (xs : List ℕ) → length (wide xs) ≡ length xs * 2
wide_length [] = refl
wide_length (x ∷ xs) = let more = wide_length xs in omega arith

-- a coding whose frames have so many bytes, and so many as a server takes them
pub record Converts (coding : Option Coding) (from to : ℕ) : Type 0 where
  pub frames : (xs : List ℕ) → length (as_served coding xs) / to ≡ length xs / from
  pub takes : (k : ℕ) (xs : List ℕ) → take (k * to) (as_served coding xs) ≡ as_served coding (take (k * from) xs)
  pub drops : (k : ℕ) (xs : List ℕ) → drop (k * to) (as_served coding xs) ≡ as_served coding (drop (k * from) xs)

converts_as : (c : Coding) → Converts (Some c) (sample_size c) (width_of (served_type c))
converts_as coding.Lin16Little = record { frames = swapped_frames; takes = λ k xs. rw (twice_is k) (swapped_parts k xs).0; drops = λ k xs. rw (twice_is k) (swapped_parts k xs).1 }
converts_as coding.U8 = record {
  frames = λ xs. (let len = wide_length xs in omega arith);
  takes = λ k xs. (let one : k * 1 ≡ k = omega arith in rw (one, twice_is k) (wide_parts k xs).0);
  drops = λ k xs. (let one : k * 1 ≡ k = omega arith in rw (one, twice_is k) (wide_parts k xs).1);
}
converts_as c = record { frames = λ xs. refl; takes = λ k xs. refl; drops = λ k xs. refl }

converts_sample : (c : Option Coding) (to : SampleType) → IsServedAs c to → Converts c (source_sample c to) (width_of to)
converts_sample None to is = record { frames = λ xs. refl; takes = λ k xs. refl; drops = λ k xs. refl }
converts_sample (Some c) to is = rw is (converts_as c)

samples_in : (k w channels : ℕ) → k * (w * channels) ≡ k * channels * w
samples_in k w channels = ap (λ (n : ℕ). k * n) (mul_comm w channels) ∙ sym (mul_assoc k channels w)

-- frames are converted sample by sample
frames_of : (c : Option Coding) (from to channels : ℕ) → Converts c from to → Converts c (from * channels) (to * channels)
frames_of c from to channels v = record {
  frames = λ xs.
      sym (div-div-eq-div-mul (length (as_served c xs)) to channels) ∙ ap (λ (n : ℕ). n / channels) (v.frames xs)
      ∙ div-div-eq-div-mul (length xs) from channels;
  takes = λ k xs.
      ap (λ (n : ℕ). take n (as_served c xs)) (samples_in k to channels) ∙ v.takes (k * channels) xs
      ∙ ap (λ (n : ℕ). as_served c (take n xs)) (sym (samples_in k from channels));
  drops = λ k xs.
      ap (λ (n : ℕ). drop n (as_served c xs)) (samples_in k to channels) ∙ v.drops (k * channels) xs
      ∙ ap (λ (n : ℕ). as_served c (drop n xs)) (sym (samples_in k from channels));
}

converts : (c : Option Coding) (to : SampleType) (channels : ℕ) → IsServedAs c to → Converts c (source_width c to channels) (frame_bytes to channels)
converts c to channels is = frames_of c (source_sample c to) (width_of to) channels (converts_sample c to is)

pub source_size : (c : Option Coding) (to : SampleType) (channels : ℕ) → IsChannelCount channels → IsFrameSize (source_width c to channels)
source_size None to channels count = frame_size to channels count
source_size (Some coding.Mu255) to channels count = frame_size ty.Mu255 channels count
source_size (Some coding.Alaw) to channels count = frame_size ty.Alaw channels count
source_size (Some coding.Lin16Big) to channels count = frame_size ty.Lin16 channels count
source_size (Some coding.Lin16Little) to channels count = frame_size ty.Lin16 channels count
source_size (Some coding.U8) to channels count = frame_size ty.Mu255 channels count

pub some_size : (w : ℕ) → IsFrameSize w → (frames : ℕ) → 0 < frames → 0 < frames * w
some_size w small frames some = by_size (λ w. 0 < frames * w) (omega arith) (omega arith) (omega arith) (omega arith) w small

none_sent : (w : ℕ) → IsFrameSize w → (frames before : ℕ) (bytes : List ℕ) → 0 < frames → length bytes / w ≡ 0 → sent_after w before (blocks (frames * w) bytes) ≡ []
none_sent w small frames before bytes some none = elim (cases_lt 0 (length bytes)) [
  | inl more ↦
      let parts = (cut w small frames bytes some).all in
      ap (sent_after w before) (blocks_some (frames * w) bytes (some_size w small frames some) more) ∙ sent_last w before (take (frames * w) bytes) _ (omega arith)
  | inr no_more ↦ ap (sent_after w before) (blocks_empty (frames * w) bytes (omega arith))
]

module _ (c : Option Coding) (from to : ℕ) (small : IsFrameSize from) (small' : IsFrameSize to) (v : Converts c from to) where
  -- the whole frames of a block
  whole_served : (xs : List ℕ) → as_served c (whole_frames from xs) ≡ whole_frames to (as_served c xs)
  whole_served xs = sym (v.takes (length xs / from) xs) ∙ ap (λ (k : ℕ). take (k * to) (as_served c xs)) (sym (v.frames xs))

  none_served : (frames before : ℕ) (bytes : List ℕ) → 0 < frames → length bytes / from ≡ 0 →
      sent_served c from before (blocks (frames * from) bytes) ≡ sent_after to before (blocks (frames * to) (as_served c bytes))
  none_served frames before bytes some none =
      ap (map (served_block c)) (none_sent from small frames before bytes some none) ∙ sym (none_sent to small' frames before (as_served c bytes) some (v.frames bytes ∙ none))

  same_blocks : (fuel frames before : ℕ) (bytes : List ℕ) → 0 < frames → length bytes ≤ fuel →
      sent_served c from before (blocks (frames * from) bytes) ≡ sent_after to before (blocks (frames * to) (as_served c bytes))
  same_blocks zero frames before bytes some few = none_served frames before bytes some (let less = div-le_self (length bytes) from in omega arith)
  same_blocks (suc fuel) frames before bytes some few = elim (cases_lt 0 (length bytes / from)) [
    | inl whole ↦
        let size = frames * from in
        let size' = frames * to in
        let first : List ℕ = take size bytes in
        let rest : List ℕ = drop size bytes in
        let parts = cut from small frames bytes some in
        let less = div-le_self (length bytes) from in
        let less' = div-le_self (length (as_served c bytes)) to in
        let count = v.frames bytes in
        let counted = v.frames first in
        let full = parts.some whole in
        let fewer = parts.fewer (omega arith) in
        ap (sent_served c from before) (blocks_some size bytes (some_size from small frames some) (omega arith))
        ∙ ap (map (served_block c)) (sent_first from before first (blocks size rest) full)
        ∙ ap (λ (l : List Block). served_block c (head from before first) ∷ l) (same_blocks fuel frames (before + frames_in from first) rest some (omega arith))
        ∙ ap₂ (λ (b : List ℕ) (k : ℕ). (let block : Block = record { before = before; bytes = b } in block) ∷ sent_after to (before + k) (blocks size' (as_served c rest))) (whole_served first) (sym counted)
        ∙ sym (sent_first to before (as_served c first) (blocks size' (as_served c rest)) (omega arith))
        ∙ ap₂ (λ (b r : List ℕ). sent_after to before (b ∷ blocks size' r)) (sym (v.takes frames bytes)) (sym (v.drops frames bytes))
        ∙ ap (sent_after to before) (sym (blocks_some size' (as_served c bytes) (some_size to small' frames some) (omega arith)))
    | inr none ↦ none_served frames before bytes some (omega arith)
  ]

-- The blocks that are sent of a sound as a server takes it are those of its converted samples, and so is the number of their
-- frames.
pub sent_converted : (c : Option Coding) (to : SampleType) (channels frames : ℕ) (bytes : List ℕ) → IsServedAs c to → IsChannelCount channels → 0 < frames →
    sent_served c (source_width c to channels) 0 (blocks (frames * source_width c to channels) bytes) ≡ sent_blocks to channels frames (as_served c bytes)
sent_converted c to channels frames bytes is count some =
    same_blocks c (source_width c to channels) (frame_bytes to channels) (source_size c to channels count) (frame_size to channels count) (converts c to channels is) (length bytes) frames 0 bytes some (omega arith)

pub frames_converted : (c : Option Coding) (to : SampleType) (channels frames : ℕ) (bytes : List ℕ) → IsServedAs c to → IsChannelCount channels → 0 < frames →
    frames_sent (source_width c to channels) (blocks (frames * source_width c to channels) bytes) ≡ length (as_served c bytes) / frame_bytes to channels
frames_converted c to channels frames bytes is count some =
    all_frames (source_width c to channels) (source_size c to channels count) frames bytes some ∙ sym ((converts c to channels is).frames bytes)
