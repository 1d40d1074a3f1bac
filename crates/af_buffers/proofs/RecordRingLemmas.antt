-- Captures and reads, over a ring: its cells know no frames, and have samples at places.
use Rattle.std.proofs.Common.{◌≡◌, ℕ, ℤ, pos, ◌+◌, ◌-◌, ◌*◌, ◌/◌, ◌%◌, ◌^◌, ◌<◌, ◌≤◌, inl, inr, cond, nat_lt, min, ◌&&◌, List, ◌++◌, map, replicate, length, get_or, drop, refl, sym, ap, ◌∙◌, subst, arith, length-drop, length-append, get_or-drop}
use Rattle.std.specs.List.{range_with_len}
use Rattle.std.proofs.lemmas.Bool.{cases_lt, le-leb, lt-leb, lt-ltb, le-ltb}
use Rattle.std.proofs.lemmas.List.{get_or-replicate, length-replicate, ext_get_or, get_or_append_left, get_or-append_right}
use Rattle.std.proofs.lemmas.List.FromFn.{length-map-range_with_len, get_or-map-range_with_len}
use Rattle.af_limits.specs.Limits.{longest_tick}
use Rattle.af_time.specs.DeviceTime.{unwrap, IsMeant}
use Rattle.af_time.proofs.WholeTimeLemmas.{unwrap_meant}
use Rattle.af_sample.specs.Channels.{IsChannelCount, AreWholeFrames, frame_count}
use Rattle.af_sample.proofs.FrameLemmas.{one_or_two}
use Rattle.af_ring.specs.Cells.{cell, ChangesRun, IsRunAt, IsSize}
use Rattle.af_ring.proofs.RingStepLemmas.{same_cell, in_run, before_run}
use Rattle.af_buffers.specs.Horizons.{IsRoomFor, whole_time}
use Rattle.af_buffers.specs.RecordBuffer.{RecordWindow, last_of, Captures, sample_at, samples_from, HoldsLast, IsRoomOf, frames_before}
use Rattle.af_buffers.proofs.HorizonLemmas.{horizon_within, silent_cell}

-- what holds for one channel and for two holds for any count
pub by_count : (P : ℕ → Type 0) → P 1 → P 2 → (channels : ℕ) → IsChannelCount channels → P channels
by_count P one two channels count = elim (one_or_two channels count) [
  | inl mono ↦ subst P (sym mono) one
  | inr stereo ↦ subst P (sym stereo) two
]

-- a place is in the first n frames iff its frame is one of them
in_frames : (channels j n : ℕ) → IsChannelCount channels → j / channels < n → j < n * channels
in_frames channels j n count = by_count (λ ch. j / ch < n → j < n * ch) (λ low. omega arith) (λ low. omega arith) channels count

past_frames : (channels j n : ℕ) → IsChannelCount channels → n ≤ j / channels → n * channels ≤ j
past_frames channels j n count = by_count (λ ch. n ≤ j / ch → n * ch ≤ j) (λ past. omega arith) (λ past. omega arith) channels count

pub frame_within : (channels j n : ℕ) → IsChannelCount channels → j < channels * n → j / channels < n
frame_within channels j n count = by_count (λ ch. j < ch * n → j / ch < n) (λ low. omega arith) (λ low. omega arith) channels count

whole_frames : (channels n : ℕ) → IsChannelCount channels → channels * n / channels ≡ n
whole_frames channels n count = by_count (λ ch. ch * n / ch ≡ n) (omega arith) (omega arith) channels count

pub length-last_of : (cells : List ℤ) (t channels n : ℕ) → length (last_of cells t channels n).last ≡ channels * n
length-last_of cells t channels n = length-map-range_with_len (λ j. cell cells (channels * (whole_time t - n) + j)) 0 (channels * n)

pub get_or-last_of : (cells : List ℤ) (t channels n j : ℕ) → j < channels * n → get_or (last_of cells t channels n).last j (pos 0) ≡ cell cells (channels * (whole_time t - n) + j)
get_or-last_of cells t channels n j low = get_or-map-range_with_len (λ j. cell cells (channels * (whole_time t - n) + j)) 0 (channels * n) j j (pos 0) low (omega arith)

-- the cells of so many places from one on
abbrev cells_from : List ℤ → ℕ → ℕ → List ℤ
cells_from cells p h = map (λ j. cell cells (p + j)) (range_with_len 0 h)

length-cells_from : (cells : List ℤ) (p h : ℕ) → length (cells_from cells p h) ≡ h
length-cells_from cells p h = length-map-range_with_len (λ j. cell cells (p + j)) 0 h

get_or-cells_from : (cells : List ℤ) (p h j : ℕ) → j < h → get_or (cells_from cells p h) j (pos 0) ≡ cell cells (p + j)
get_or-cells_from cells p h j low = get_or-map-range_with_len (λ j. cell cells (p + j)) 0 h j j (pos 0) low (omega arith)

-- h cells up to a place q, from which samples are put, and the h cells up to the end of these
put_after : (old new samples : List ℤ) (p p' q h : ℕ) → IsSize (length old) → h ≤ length old → length samples ≤ h → (p + h) % 2 ^ 32 ≡ q % 2 ^ 32 → p' % 2 ^ 32 ≡ (p + length samples) % 2 ^ 32 →
    ChangesRun old new q (length samples) (λ k _. get_or samples k (pos 0)) → cells_from new p' h ≡ drop (length samples) (cells_from old p h ++ samples)
put_after old new samples p p' q h power enough count from to run =
    let size' : IsSize (length new) = subst IsSize (sym run.size) power in
    let before : length (cells_from old p h) ≡ h = length-cells_from old p h in
    let after : length (cells_from new p' h) ≡ h = length-cells_from new p' h in
    let all : length (cells_from old p h ++ samples) ≡ h + length samples = length-append (cells_from old p h) samples ∙ ap (λ m. m + length samples) before in
    let left : length (drop (length samples) (cells_from old p h ++ samples)) ≡ h = length-drop (length samples) (cells_from old p h ++ samples) ∙ omega arith in
    let each : (j : ℕ) → j < h → cell new (p + (length samples + j)) ≡ get_or (cells_from old p h ++ samples) (length samples + j) (pos 0) =
    λ j low. elim (cases_lt (length samples + j) h) [
      | inl kept ↦
          before_run old new q (p + (length samples + j)) (length old - h + (length samples + j)) (length samples) (λ k _. get_or samples k (pos 0)) power run (omega arith) (omega arith) (omega arith)
          ∙ sym (get_or_append_left (cells_from old p h) samples (pos 0) (length samples + j) (omega arith) ∙ get_or-cells_from old p h (length samples + j) kept)
      | inr fresh ↦
          in_run old new q (p + (length samples + j)) (length samples + j - h) (length samples) (λ k _. get_or samples k (pos 0)) power run (omega arith) (omega arith) (omega arith)
          ∙ sym (get_or-append_right (cells_from old p h) samples h (length samples + j) (pos 0) before fresh)
    ] in
    ext_get_or (pos 0) (cells_from new p' h) (drop (length samples) (cells_from old p h ++ samples)) (after ∙ sym left)
    (λ j low.
    get_or-cells_from new p' h j (omega arith)
    ∙ same_cell new (p' + j) (p + (length samples + j)) size' (omega arith)
    ∙ each j (omega arith)
    ∙ sym (get_or-drop (length samples) (cells_from old p h ++ samples) j (pos 0)))

-- a buffer's samples end where the cells of its time begin
place_end : (t channels n : ℕ) → IsChannelCount channels → n ≤ 192000 → (channels * (whole_time t - n) + channels * n) % 2 ^ 32 ≡ channels * t % 2 ^ 32 % 2 ^ 32
place_end t channels n count few =
    by_count (λ ch. (ch * (whole_time t - n) + ch * n) % 2 ^ 32 ≡ ch * t % 2 ^ 32 % 2 ^ 32) (omega arith) (omega arith) channels count

-- its first place moves on with its time
first_place_later : (t channels n frames : ℕ) → IsChannelCount channels → n ≤ 192000 →
    channels * (whole_time ((t + frames) % 2 ^ 32) - n) % 2 ^ 32 ≡ (channels * (whole_time t - n) + channels * frames) % 2 ^ 32
first_place_later t channels n frames count few =
    by_count (λ ch. ch * (whole_time ((t + frames) % 2 ^ 32) - n) % 2 ^ 32 ≡ (ch * (whole_time t - n) + ch * frames) % 2 ^ 32) (omega arith) (omega arith) channels count

fewer : (channels frames n : ℕ) → IsChannelCount channels → frames ≤ n → channels * frames ≤ channels * n
fewer channels frames n count few = by_count (λ ch. ch * frames ≤ ch * n) (omega arith) (omega arith) channels count

pub captures : (old new samples : List ℤ) (t channels n : ℕ) → IsRoomOf old channels n → frame_count channels samples ≤ longest_tick → AreWholeFrames channels samples →
    ChangesRun old new (channels * t % 2 ^ 32) (length samples) (λ k _. get_or samples k (pos 0)) →
    Captures (last_of old t channels n) (last_of new ((t + frame_count channels samples) % 2 ^ 32) channels n) samples
captures old new samples t channels n room few whole run =
    let bounds : (32000 ≤ n) × (n ≤ 192000) = horizon_within n room.horizon in
    let few' : length samples ≤ channels * n = subst (λ m. m ≤ channels * n) (sym whole) (fewer channels (frame_count channels samples) n room.count (omega arith)) in
    record {
      time = refl;
      channels = refl;
      horizon = refl;
      last = put_after old new samples (channels * (whole_time t - n)) (channels * (whole_time ((t + frame_count channels samples) % 2 ^ 32) - n)) (channels * t % 2 ^ 32) (channels * n)
          room.room.power room.room.enough few' (place_end t channels n room.count bounds.1)
          (first_place_later t channels n (frame_count channels samples) room.count bounds.1 ∙ ap (λ m. (channels * (whole_time t - n) + m) % 2 ^ 32) (sym whole))
          run;
    }

-- a time before the window, one in it, and one from now on
pub sample_before : (b : RecordWindow) (t channel : ℕ) → t + b.horizon < whole_time b.time → sample_at b t channel ≡ pos 0
sample_before b t channel before =
    ap (λ p. cond (p && nat_lt t (whole_time b.time)) (get_or b.last (b.channels * (t + b.horizon - whole_time b.time) + channel) (pos 0)) (pos 0)) (lt-leb (whole_time b.time) (t + b.horizon) before)

pub sample_within : (b : RecordWindow) (t channel i : ℕ) → t < whole_time b.time → t + b.horizon ≡ whole_time b.time + i → sample_at b t channel ≡ get_or b.last (b.channels * i + channel) (pos 0)
sample_within b t channel i past place =
    ap (λ p. cond (p && nat_lt t (whole_time b.time)) (get_or b.last (b.channels * (t + b.horizon - whole_time b.time) + channel) (pos 0)) (pos 0)) (le-leb (whole_time b.time) (t + b.horizon) (omega arith))
    ∙ ap (λ p. cond p (get_or b.last (b.channels * (t + b.horizon - whole_time b.time) + channel) (pos 0)) (pos 0)) (lt-ltb t (whole_time b.time) past)
    ∙ ap (λ i. get_or b.last (b.channels * i + channel) (pos 0)) (let e : t + b.horizon - whole_time b.time ≡ i = omega arith in e)

pub sample_after : (b : RecordWindow) (t channel : ℕ) → whole_time b.time ≤ t → sample_at b t channel ≡ pos 0
sample_after b t channel after =
    ap (λ p. cond (p && nat_lt t (whole_time b.time)) (get_or b.last (b.channels * (t + b.horizon - whole_time b.time) + channel) (pos 0)) (pos 0)) (le-leb (whole_time b.time) (t + b.horizon) (omega arith))
    ∙ ap (λ p. cond p (get_or b.last (b.channels * (t + b.horizon - whole_time b.time) + channel) (pos 0)) (pos 0)) (le-ltb t (whole_time b.time) after)

-- the cell of a place that a read takes from the kept frames, from the first of them on, is that of the frame's time
kept_cell : (channels i start begin whole now n frame : ℕ) → IsChannelCount channels → whole % 2 ^ 32 ≡ start → n ≤ now → whole + i / channels + n ≡ now + frame → begin ≤ i / channels →
    (channels * ((start + begin) % 2 ^ 32) % 2 ^ 32 + (i - begin * channels)) % 2 ^ 32 ≡ (channels * (now - n) + (channels * frame + i % channels)) % 2 ^ 32
kept_cell channels i start begin whole now n frame count word near =
    by_count (λ ch. whole + i / ch + n ≡ now + frame → begin ≤ i / ch →
    (ch * ((start + begin) % 2 ^ 32) % 2 ^ 32 + (i - begin * ch)) % 2 ^ 32 ≡ (ch * (now - n) + (ch * frame + i % ch)) % 2 ^ 32)
    (λ same begun. omega arith) (λ same begun. omega arith) channels count

place_of_frame : (channels frame i n : ℕ) → IsChannelCount channels → frame < n → channels * frame + i % channels < channels * n
place_of_frame channels frame i n count low = by_count (λ ch. ch * frame + i % ch < ch * n) (omega arith) (omega arith) channels count

-- one place of a read
read_at : (cells further_back kept from_now : List ℤ) (t channels n start begin end frames i : ℕ) → IsRoomOf cells channels n → start < 2 ^ 32 →
    end ≡ min frames (frames_before (last_of cells t channels n) start) → begin ≡ min end (frames_before (last_of cells t channels n) start - n) →
    length further_back ≡ begin * channels → length (further_back ++ kept) ≡ end * channels →
    ((j : ℕ) → j < begin * channels → get_or further_back j (pos 0) ≡ pos 0) → IsRunAt kept cells (channels * ((start + begin) % 2 ^ 32) % 2 ^ 32) →
    ((j : ℕ) → j < length from_now → get_or from_now j (pos 0) ≡ pos 0) → i < length further_back + length kept + length from_now → i / channels < frames →
    get_or ((further_back ++ kept) ++ from_now) i (pos 0) ≡ sample_at (last_of cells t channels n) (unwrap (whole_time t) start + i / channels) (i % channels)
read_at cells further_back kept from_now t channels n start begin end frames i room word end_is begin_is long long' silent run silent' low few =
    let bounds : (32000 ≤ n) × (n ≤ 192000) = horizon_within n room.horizon in
    let meant : IsMeant (whole_time t) start (unwrap (whole_time t) start) = unwrap_meant (whole_time t) start (omega arith) word in
    let both : length (further_back ++ kept) ≡ length further_back + length kept = length-append further_back kept in
    elim (cases_lt (i / channels) end) [
      | inl before ↦
          let before' : i < end * channels = in_frames channels i end room.count before in
          get_or_append_left (further_back ++ kept) from_now (pos 0) i (omega arith) ∙ elim (cases_lt (i / channels) begin) [
            | inl back ↦
                let back' : i < begin * channels = in_frames channels i begin room.count back in
                get_or_append_left further_back kept (pos 0) i (omega arith) ∙ silent i back'
                ∙ sym (sample_before (last_of cells t channels n) (unwrap (whole_time t) start + i / channels) (i % channels) (omega arith))
            | inr inside ↦
                let inside' : begin * channels ≤ i = past_frames channels i begin room.count inside in
                let frame : ℕ = unwrap (whole_time t) start + i / channels + n - whole_time t in
                let here : unwrap (whole_time t) start + i / channels + n ≡ whole_time t + frame = omega arith in
                get_or-append_right further_back kept (begin * channels) i (pos 0) long inside' ∙ run (i - begin * channels) (omega arith)
                ∙ same_cell cells (channels * ((start + begin) % 2 ^ 32) % 2 ^ 32 + (i - begin * channels)) (channels * (whole_time t - n) + (channels * frame + i % channels)) room.room.power
                (kept_cell channels i start begin (unwrap (whole_time t) start) (whole_time t) n frame room.count meant.word (omega arith) here inside)
                ∙ sym (sample_within (last_of cells t channels n) (unwrap (whole_time t) start + i / channels) (i % channels) frame (omega arith) here
                ∙ get_or-last_of cells t channels n (channels * frame + i % channels) (place_of_frame channels frame i n room.count (omega arith)))
          ]
      | inr after ↦
          let after' : end * channels ≤ i = past_frames channels i end room.count after in
          get_or-append_right (further_back ++ kept) from_now (end * channels) i (pos 0) long' after' ∙ silent' (i - end * channels) (omega arith)
          ∙ sym (sample_after (last_of cells t channels n) (unwrap (whole_time t) start + i / channels) (i % channels) (omega arith))
    ]

-- a read: silence further back than the horizon, a run of the ring, and silence from now on
pub reads : (cells further_back kept from_now : List ℤ) (t channels n start begin end frames : ℕ) → IsRoomOf cells channels n → start < 2 ^ 32 →
    end ≡ min frames (frames_before (last_of cells t channels n) start) → begin ≡ min end (frames_before (last_of cells t channels n) start - n) →
    length further_back ≡ begin * channels → length further_back + length kept ≡ end * channels → length further_back + length kept + length from_now ≡ channels * frames →
    ((j : ℕ) → j < begin * channels → get_or further_back j (pos 0) ≡ pos 0) → IsRunAt kept cells (channels * ((start + begin) % 2 ^ 32) % 2 ^ 32) →
    ((j : ℕ) → j < length from_now → get_or from_now j (pos 0) ≡ pos 0) →
    (further_back ++ kept) ++ from_now ≡ samples_from (last_of cells t channels n) start (frame_count channels ((further_back ++ kept) ++ from_now))
reads cells further_back kept from_now t channels n start begin end frames room word end_is begin_is long long' long'' silent run silent' =
    let front : length (further_back ++ kept) ≡ end * channels = length-append further_back kept ∙ long' in
    let all : length ((further_back ++ kept) ++ from_now) ≡ channels * frames = length-append (further_back ++ kept) from_now ∙ ap (λ m. m + length from_now) (length-append further_back kept) ∙ long'' in
    let whole : frames ≡ frame_count channels ((further_back ++ kept) ++ from_now) = sym (ap (λ m. m / channels) all ∙ whole_frames channels frames room.count) in
    ext_get_or (pos 0) ((further_back ++ kept) ++ from_now) (samples_from (last_of cells t channels n) start frames)
    (all ∙ sym (length-map-range_with_len (λ j. sample_at (last_of cells t channels n) (unwrap (whole_time t) start + j / channels) (j % channels)) 0 (channels * frames)))
    (λ i low.
    let low' : i < channels * frames = subst (λ m. i < m) all low in
    read_at cells further_back kept from_now t channels n start begin end frames i room word end_is begin_is long front silent run silent' (subst (λ m. i < m) (sym long'') low') (frame_within channels i frames room.count low')
    ∙ sym (get_or-map-range_with_len (λ j. sample_at (last_of cells t channels n) (unwrap (whole_time t) start + j / channels) (j % channels)) 0 (channels * frames) i i (pos 0) low' (omega arith)))
    ∙ ap (samples_from (last_of cells t channels n) start) whole

-- the samples last in a silent ring
pub last_of-silence : (cells : List ℤ) (t channels n size : ℕ) → cells ≡ replicate size (pos 0) → (last_of cells t channels n).last ≡ replicate (channels * n) (pos 0)
last_of-silence cells t channels n size e =
    let long : length (last_of cells t channels n).last ≡ channels * n = length-last_of cells t channels n in
    ext_get_or (pos 0) (last_of cells t channels n).last (replicate (channels * n) (pos 0)) (long ∙ sym (length-replicate (channels * n) (pos 0)))
    (λ j low.
    let low' : j < channels * n = subst (λ m. j < m) long low in
    get_or-last_of cells t channels n j low' ∙ silent_cell cells size (channels * (whole_time t - n) + j) e ∙ sym (get_or-replicate (channels * n) j (pos 0) (pos 0) low'))

-- what the ring holds
pub holds_last : (cells : List ℤ) (t channels n : ℕ) → IsRoomOf cells channels n → HoldsLast (last_of cells t channels n)
holds_last cells t channels n room =
    let long : length (last_of cells t channels n).last ≡ channels * n = length-last_of cells t channels n in
    record {
      size = long;
      room = subst (λ m. IsRoomFor m (length cells)) (sym long) room.room;
      last = λ j low. sym (get_or-last_of cells t channels n j (subst (λ m. j < m) long low));
    }
