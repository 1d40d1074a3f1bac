-- A record buffer that keeps what was recorded goes on doing so, and reads are windows.
use Rattle.std.proofs.Common.{◌≡◌, ℕ, ℤ, pos, ◌+◌, ◌-◌, ◌*◌, ◌/◌, ◌%◌, ◌^◌, ◌<◌, ◌≤◌, inl, inr, cond, nat_lt, nat_le, ◌&&◌, List, [], ◌++◌, replicate, length, get_or, sym, ap, ◌∙◌, subst, arith, length-drop, length-append, get_or-drop}
use Rattle.std.proofs.lemmas.Bool.{cases_lt, lt-leb, le-leb, le-ltb}
use Rattle.std.proofs.lemmas.List.{get_or-replicate, length-replicate, ext_get_or, get_or_append_left, get_or-append_right}
use Rattle.std.proofs.lemmas.List.FromFn.{length-map-range_with_len, get_or-map-range_with_len}
use Rattle.std.proofs.Math.Nat.{mod-add-mod}
use Rattle.af_time.specs.DeviceTime.{unwrap}
use Rattle.af_sample.specs.Channels.{IsChannelCount, AreWholeFrames, frame_count}
use Rattle.af_sample.specs.Window.{recorded_sample, window}
use Rattle.af_sample.proofs.FrameLemmas.{some_channel, channel_within, frame_at, channel_at, place_before}
use Rattle.af_sample.proofs.HeardLemmas.{recorded_within, recorded_before, recorded_sample-append}
use Rattle.af_buffers.specs.Horizons.{whole_time}
use Rattle.af_buffers.specs.RecordBuffer.{RecordWindow, Captures, frames_before, frames_until_past, sample_at, samples_from, Keeps}
use Rattle.af_buffers.proofs.AcceptedPlayLemmas.{unwrap-same}
use Rattle.af_buffers.proofs.RecordRingLemmas.{by_count, frame_within, sample_before, sample_within, sample_after}

-- a time further back than the horizon, and one from now on
recorded_older : (channels : ℕ) (captured : List ℤ) (begin now horizon t channel : ℕ) → t + horizon < now → recorded_sample channels captured begin now horizon t channel ≡ pos 0
unfolding recorded_sample
recorded_older channels captured begin now horizon t channel older =
    ap (λ b. cond (b && (nat_lt t now && nat_le begin t)) (get_or captured (channels * (t - begin) + channel) (pos 0)) (pos 0)) (lt-leb now (t + horizon) older)

recorded_later : (channels : ℕ) (captured : List ℤ) (begin now horizon t channel : ℕ) → now ≤ t → recorded_sample channels captured begin now horizon t channel ≡ pos 0
unfolding recorded_sample
recorded_later channels captured begin now horizon t channel later =
    ap (λ b. cond (b && (nat_lt t now && nat_le begin t)) (get_or captured (channels * (t - begin) + channel) (pos 0)) (pos 0)) (le-leb now (t + horizon) (omega arith))
    ∙ ap (λ b. cond (b && nat_le begin t) (get_or captured (channels * (t - begin) + channel) (pos 0)) (pos 0)) (le-ltb t now later)

-- a window has the samples of its frames
length-window : (channels : ℕ) (captured : List ℤ) (begin now horizon start n : ℕ) → length (window channels captured begin now horizon start n) ≡ channels * n
length-window channels captured begin now horizon start n =
    length-map-range_with_len (λ j. recorded_sample channels captured begin now horizon (start + j / channels) (j % channels)) 0 (channels * n)

get_or-window : (channels : ℕ) (captured : List ℤ) (begin now horizon start n j : ℕ) → j < channels * n →
    get_or (window channels captured begin now horizon start n) j (pos 0) ≡ recorded_sample channels captured begin now horizon (start + j / channels) (j % channels)
get_or-window channels captured begin now horizon start n j low =
    get_or-map-range_with_len (λ j. recorded_sample channels captured begin now horizon (start + j / channels) (j % channels)) 0 (channels * n) j j (pos 0) low (omega arith)

-- a sample that a buffer keeps
kept_at : (b : RecordWindow) (channels : ℕ) (captured : List ℤ) (begin now j : ℕ) → Keeps b channels captured begin now → j < channels * b.horizon →
    get_or b.last j (pos 0) ≡ recorded_sample channels captured begin now b.horizon (now - b.horizon + j / channels) (j % channels)
kept_at b channels captured begin now j k low =
    ap (λ xs. get_or xs j (pos 0)) k.last ∙ get_or-window channels captured begin now b.horizon (now - b.horizon) b.horizon j low

-- how many samples a buffer keeps
pub length-last : (b : RecordWindow) (channels : ℕ) (captured : List ℤ) (begin now : ℕ) → Keeps b channels captured begin now → length b.last ≡ channels * b.horizon
length-last b channels captured begin now k = ap length k.last ∙ length-window channels captured begin now b.horizon (now - b.horizon) b.horizon

-- silence is kept if nothing was captured
pub keeps_silence : (b : RecordWindow) (channels now n : ℕ) → 2 ^ 32 ≤ now → n ≤ 2 ^ 32 → IsChannelCount channels → b.time ≡ now % 2 ^ 32 → b.channels ≡ channels → b.horizon ≡ n →
    b.last ≡ replicate (channels * n) (pos 0) → Keeps b channels [] now now
keeps_silence b channels now n late short count time same horizon last =
    let size : length b.last ≡ channels * b.horizon = ap length last ∙ length-replicate (channels * n) (pos 0) ∙ ap (λ m. channels * m) (sym horizon) in
    record {
      late = late;
      begun = omega arith;
      all = by_count (λ ch. 0 ≡ ch * (now - now)) (omega arith) (omega arith) channels count;
      time = time;
      count = count;
      channels = same;
      short = omega arith;
      last = ext_get_or (pos 0) b.last (window channels [] now now b.horizon (now - b.horizon) b.horizon)
          (size ∙ sym (length-window channels [] now now b.horizon (now - b.horizon) b.horizon))
          (λ j low.
          let low' : j < channels * b.horizon = subst (λ m. j < m) size low in
          let frame : j / channels < b.horizon = frame_within channels j b.horizon count low' in
          ap (λ xs. get_or xs j (pos 0)) last ∙ get_or-replicate (channels * n) j (pos 0) (pos 0) (subst (λ m. j < channels * m) horizon low')
          ∙ sym (get_or-window channels [] now now b.horizon (now - b.horizon) b.horizon j low'
          ∙ recorded_before channels [] now now b.horizon (now - b.horizon + j / channels) (j % channels) (omega arith) (omega arith) (omega arith)));
    }

-- how many frames are before now is the same in whole times
pub frames_before-same : (b : RecordWindow) (channels : ℕ) (captured : List ℤ) (begin now start : ℕ) → Keeps b channels captured begin now → start < 2 ^ 32 → frames_before b start ≡ now - unwrap now start
frames_before-same b channels captured begin now start k word =
    let late : 2 ^ 32 ≤ begin = k.late in
    let begun : begin ≤ now = k.begun in
    let time : b.time ≡ now % 2 ^ 32 = k.time in
    let same = unwrap-same (whole_time b.time) now start (omega arith) (omega arith) (omega arith) word in
    omega arith

-- how long it takes until frames are before now is the same in whole times
pub frames_beyond-same : (b : RecordWindow) (channels : ℕ) (captured : List ℤ) (begin now start n : ℕ) → Keeps b channels captured begin now → start < 2 ^ 32 → frames_until_past b start n ≡ unwrap now start + n - now
frames_beyond-same b channels captured begin now start n k word =
    let late : 2 ^ 32 ≤ begin = k.late in
    let begun : begin ≤ now = k.begun in
    let time : b.time ≡ now % 2 ^ 32 = k.time in
    let same = unwrap-same (whole_time b.time) now start (omega arith) (omega arith) (omega arith) word in
    omega arith

-- as many samples are kept after a capture
pub size_capture : (b c : RecordWindow) (samples : List ℤ) → Captures b c samples → length c.last ≡ length b.last
size_capture b c samples more = let all : length (b.last ++ samples) ≡ length b.last + length samples = length-append b.last samples in ap length more.last ∙ length-drop (length samples) (b.last ++ samples) ∙ omega arith

-- the frame and the channel of a place, so many frames later
place_later : (channels j n : ℕ) → IsChannelCount channels → ((channels * n + j) / channels ≡ n + j / channels) × ((channels * n + j) % channels ≡ j % channels)
place_later channels j n count = by_count (λ ch. ((ch * n + j) / ch ≡ n + j / ch) × ((ch * n + j) % ch ≡ j % ch)) (omega arith, omega arith) (omega arith, omega arith) channels count

-- the place of what is captured, among all that is captured and among the new samples
fresh_place : (channels begin now n horizon j : ℕ) → IsChannelCount channels → begin ≤ now → horizon ≤ now → channels * horizon ≤ channels * n + j →
    channels * n + j - channels * horizon + channels * (now - begin) ≡ channels * (now + n - horizon + j / channels - begin) + j % channels
fresh_place channels begin now n horizon j count begun late =
    by_count (λ ch. ch * horizon ≤ ch * n + j → ch * n + j - ch * horizon + ch * (now - begin) ≡ ch * (now + n - horizon + j / ch - begin) + j % ch)
    (λ fresh. omega arith) (λ fresh. omega arith) channels count

later_frames : (channels j n horizon : ℕ) → IsChannelCount channels → channels * horizon ≤ channels * n + j → horizon ≤ n + j / channels
later_frames channels j n horizon count = by_count (λ ch. ch * horizon ≤ ch * n + j → horizon ≤ n + j / ch) (λ late. omega arith) (λ late. omega arith) channels count

all_frames : (channels begin now n : ℕ) → IsChannelCount channels → begin ≤ now → channels * (now - begin) + channels * n ≡ channels * (now + n - begin)
all_frames channels begin now n count begun = by_count (λ ch. ch * (now - begin) + ch * n ≡ ch * (now + n - begin)) (omega arith) (omega arith) channels count

-- a sample after a capture of n frames: an old one, or a new one
captured_at : (b : RecordWindow) (channels : ℕ) (captured samples : List ℤ) (begin now n j : ℕ) → Keeps b channels captured begin now → length samples ≡ channels * n → j < channels * b.horizon →
    get_or (b.last ++ samples) (length samples + j) (pos 0) ≡ recorded_sample channels (captured ++ samples) begin (now + n) b.horizon (now + n - b.horizon + j / channels) (j % channels)
captured_at b channels captured samples begin now n j k whole low =
    let late : 2 ^ 32 ≤ begin = k.late in
    let begun : begin ≤ now = k.begun in
    let short : b.horizon ≤ 2 ^ 32 = k.short in
    let size : length b.last ≡ channels * b.horizon = length-last b channels captured begin now k in
    let frame : j / channels < b.horizon = frame_within channels j b.horizon k.count low in
    elim (cases_lt (length samples + j) (length b.last)) [
      | inl kept ↦
          let low' : length samples + j < channels * b.horizon = subst (λ m. length samples + j < m) size kept in
          let moved : (length samples + j) / channels ≡ n + j / channels = ap (λ m. (m + j) / channels) whole ∙ (place_later channels j n k.count).0 in
          let same : (length samples + j) % channels ≡ j % channels = ap (λ m. (m + j) % channels) whole ∙ (place_later channels j n k.count).1 in
          let within : (length samples + j) / channels < b.horizon = frame_within channels (length samples + j) b.horizon k.count low' in
          get_or_append_left b.last samples (pos 0) (length samples + j) kept
          ∙ kept_at b channels captured begin now (length samples + j) k low'
          ∙ ap (recorded_sample channels captured begin now b.horizon (now - b.horizon + (length samples + j) / channels)) same
          ∙ ap (λ t. recorded_sample channels captured begin now b.horizon t (j % channels)) (let e : now - b.horizon + (length samples + j) / channels ≡ now + n - b.horizon + j / channels = omega arith in e)
          ∙ sym (recorded_sample-append channels captured samples begin now n b.horizon (now + n - b.horizon + j / channels) (j % channels) k.all (channel_within channels j (some_channel channels k.count)) (omega arith) (omega arith))
      | inr fresh ↦
          let fresh' : channels * b.horizon ≤ channels * n + j = subst (λ m. m ≤ channels * n + j) size (subst (λ m. length b.last ≤ m + j) whole fresh) in
          let later : b.horizon ≤ n + j / channels = later_frames channels j n b.horizon k.count fresh' in
          let here = fresh_place channels begin now n b.horizon j k.count begun (omega arith) fresh' in
          let all : length captured ≡ channels * (now - begin) = k.all in
          get_or-append_right b.last samples (channels * b.horizon) (length samples + j) (pos 0) size (subst (λ m. m ≤ length samples + j) size fresh)
          ∙ ap (λ i. get_or samples i (pos 0)) (let e : length samples + j - channels * b.horizon ≡ channels * (now + n - b.horizon + j / channels - begin) + j % channels - channels * (now - begin) = omega arith in e)
          ∙ sym (get_or-append_right captured samples (channels * (now - begin)) (channels * (now + n - b.horizon + j / channels - begin) + j % channels) (pos 0) all (omega arith))
          ∙ sym (recorded_within channels (captured ++ samples) begin (now + n) b.horizon (now + n - b.horizon + j / channels) (j % channels) (omega arith) (omega arith) (omega arith))
    ]

-- more is captured
pub keeps_capture : (b c : RecordWindow) (channels : ℕ) (captured samples : List ℤ) (begin now : ℕ) → Keeps b channels captured begin now → AreWholeFrames channels samples → Captures b c samples →
    Keeps c channels (captured ++ samples) begin (now + frame_count channels samples)
keeps_capture b c channels captured samples begin now k whole more =
    let late : 2 ^ 32 ≤ begin = k.late in
    let begun : begin ≤ now = k.begun in
    let n : ℕ = frame_count channels samples in
    let size : length c.last ≡ channels * b.horizon = size_capture b c samples more ∙ length-last b channels captured begin now k in
    let counted : (b.time + frame_count b.channels samples) % 2 ^ 32 ≡ (b.time + n) % 2 ^ 32 = ap (λ m. (b.time + frame_count m samples) % 2 ^ 32) k.channels in
    record {
      late = late;
      begun = omega arith;
      all = length-append captured samples ∙ ap (λ m. m + length samples) k.all ∙ ap (λ m. channels * (now - begin) + m) whole ∙ all_frames channels begin now n k.count begun;
      time = more.time ∙ counted ∙ ap (λ x. (x + n) % 2 ^ 32) k.time ∙ mod-add-mod now (2 ^ 32) n;
      count = k.count;
      channels = more.channels ∙ k.channels;
      short = subst (λ h. h ≤ 2 ^ 32) (sym more.horizon) k.short;
      last = subst (λ h. c.last ≡ window channels (captured ++ samples) begin (now + n) h (now + n - h) h) (sym more.horizon)
          (ext_get_or (pos 0) c.last (window channels (captured ++ samples) begin (now + n) b.horizon (now + n - b.horizon) b.horizon)
          (size ∙ sym (length-window channels (captured ++ samples) begin (now + n) b.horizon (now + n - b.horizon) b.horizon))
          (λ j low.
          let low' : j < channels * b.horizon = subst (λ m. j < m) size low in
          ap (λ xs. get_or xs j (pos 0)) more.last ∙ get_or-drop (length samples) (b.last ++ samples) j (pos 0)
          ∙ captured_at b channels captured samples begin now n j k whole low'
          ∙ sym (get_or-window channels (captured ++ samples) begin (now + n) b.horizon (now + n - b.horizon) b.horizon j low')));
    }

-- a sample of a channel at a time near now is as it is recorded
recorded_at : (b : RecordWindow) (channels : ℕ) (captured : List ℤ) (begin now t u c : ℕ) → Keeps b channels captured begin now → c < channels → u + now ≡ t + whole_time b.time →
    sample_at b u c ≡ recorded_sample channels captured begin now b.horizon t c
recorded_at b channels captured begin now t u c k listed same =
    let late : 2 ^ 32 ≤ begin = k.late in
    let begun : begin ≤ now = k.begun in
    let short : b.horizon ≤ 2 ^ 32 = k.short in
    elim (cases_lt (t + b.horizon) now) [
      | inl older ↦ sample_before b u c (omega arith) ∙ sym (recorded_older channels captured begin now b.horizon t c older)
      | inr near ↦ elim (cases_lt t now) [
        | inl inside ↦
            let frame : ℕ = t + b.horizon - now in
            let low : channels * frame + c < channels * b.horizon = place_before channels frame b.horizon c (omega arith) listed in
            sample_within b u c frame (omega arith) (omega arith)
            ∙ ap (λ m. get_or b.last (m * frame + c) (pos 0)) k.channels
            ∙ kept_at b channels captured begin now (channels * frame + c) k low
            ∙ ap (recorded_sample channels captured begin now b.horizon (now - b.horizon + (channels * frame + c) / channels)) (channel_at channels frame c listed)
            ∙ ap (λ i. recorded_sample channels captured begin now b.horizon (now - b.horizon + i) c) (frame_at channels frame c listed)
            ∙ ap (λ s. recorded_sample channels captured begin now b.horizon s c) (let e : now - b.horizon + frame ≡ t = omega arith in e)
        | inr later ↦ sample_after b u c (omega arith) ∙ sym (recorded_later channels captured begin now b.horizon t c later)
      ]
    ]

-- a read is the window
pub reads_window : (b : RecordWindow) (channels : ℕ) (captured : List ℤ) (begin now start n : ℕ) → Keeps b channels captured begin now → start < 2 ^ 32 →
    samples_from b start n ≡ window channels captured begin now b.horizon (unwrap now start) n
reads_window b channels captured begin now start n k word =
    let late : 2 ^ 32 ≤ begin = k.late in
    let begun : begin ≤ now = k.begun in
    let time : b.time ≡ now % 2 ^ 32 = k.time in
    let from : ℕ = unwrap (whole_time b.time) start in
    let same : from + now ≡ unwrap now start + whole_time b.time = unwrap-same (whole_time b.time) now start (omega arith) (omega arith) (omega arith) word in
    let size : length (samples_from b start n) ≡ channels * n =
    length-map-range_with_len (λ j. sample_at b (from + j / b.channels) (j % b.channels)) 0 (b.channels * n) ∙ ap (λ m. m * n) k.channels in
    ext_get_or (pos 0) (samples_from b start n) (window channels captured begin now b.horizon (unwrap now start) n)
    (size ∙ sym (length-window channels captured begin now b.horizon (unwrap now start) n))
    (λ j low.
    let low' : j < channels * n = subst (λ m. j < m) size low in
    get_or-map-range_with_len (λ j. sample_at b (from + j / b.channels) (j % b.channels)) 0 (b.channels * n) j j (pos 0) (subst (λ m. j < m * n) (sym k.channels) low') (omega arith)
    ∙ ap (λ m. sample_at b (from + j / m) (j % m)) k.channels
    ∙ recorded_at b channels captured begin now (unwrap now start + j / channels) (from + j / channels) (j % channels) k (channel_within channels j (some_channel channels k.count)) (omega arith)
    ∙ sym (get_or-window channels captured begin now b.horizon (unwrap now start) n j low'))
