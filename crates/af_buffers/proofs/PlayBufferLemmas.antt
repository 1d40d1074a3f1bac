-- A play buffer that stands for what is heard goes on doing so.
use Rattle.std.proofs.Common.{◌≡◌, ℕ, ℤ, pos, ◌+◌, ◌-◌, ◌*◌, ◌/◌, ◌%◌, ◌^◌, ◌<◌, ◌≤◌, inl, inr, Bool, List, [], ◌∷◌, ◌++◌, replicate, length, get_or, drop, refl, sym, ap, ◌∙◌, subst, arith, length-drop, length-append, get_or-drop}
use Rattle.std.proofs.lemmas.Bool.{cases_lt}
use Rattle.std.proofs.lemmas.List.Elements.{All-push}
use Rattle.std.proofs.lemmas.List.FromFn.{fill_by_all}
use Rattle.std.proofs.lemmas.List.{get_or_past, length-replicate, get_or-take, length-take, get_or_append_left, get_or-append_right}
use Rattle.std.proofs.Math.Nat.{mod-add-mod}
use Rattle.std.specs.List.{All}
use Rattle.af_time.specs.DeviceTime.{unwrap}
use Rattle.af_sample.specs.Channels.{IsChannelCount, AreWholeFrames, frame_count}
use Rattle.af_sample.specs.Heard.{AcceptedPlay, heard_sample, heard_from, with_entry}
use Rattle.af_sample.proofs.FrameLemmas.{channel_after, channel_within, frame_after, place_is, some_channel, time_from}
use Rattle.af_sample.proofs.HeardLemmas.{heard_sample-push}
use Rattle.af_buffers.specs.Horizons.{whole_time}
use Rattle.af_buffers.specs.PlayBuffer.{PlayWindow, accepted_at, accepted_by, frames_beyond, frames_within, CoversNoneFrom, Plays, HandsOut, Hears}
use Rattle.af_buffers.proofs.HorizonLemmas.{get_or-silence}
use Rattle.af_buffers.proofs.AcceptedPlayLemmas.{covers_past, not_covered, with_entry-later, unwrap-same}

-- silence stands for what is heard if nothing was accepted
pub hears_silence : (b : PlayWindow) (channels now : ℕ) → 2 ^ 32 ≤ now → b.time ≡ now % 2 ^ 32 → IsChannelCount channels → b.channels ≡ channels → b.next ≡ replicate (channels * b.horizon) (pos 0) → Hears b channels [] now
unfolding heard_sample
hears_silence b channels now late time count is next = record {
  late = late;
  time = time;
  count = count;
  channels = is;
  size = ap length next ∙ length-replicate (channels * b.horizon) (pos 0);
  each = λ j. ap (λ xs. get_or xs j (pos 0)) next ∙ get_or-silence (channels * b.horizon) j;
  within = λ k d low. absurd (omega arith);
}

-- the time of a buffer and a whole time mean the same by a word
same_start : (b : PlayWindow) (channels : ℕ) (accepted : List AcceptedPlay) (now start : ℕ) → Hears b channels accepted now → start < 2 ^ 32 → unwrap (whole_time b.time) start + now ≡ unwrap now start + whole_time b.time
same_start b channels accepted now start h word =
    let late : 2 ^ 32 ≤ now = h.late in
    let time : b.time ≡ now % 2 ^ 32 = h.time in
    unwrap-same (whole_time b.time) now start (omega arith) late (omega arith) word

-- a sample past the horizon's is of a frame past it
past_horizon : (channels n j : ℕ) → 0 < channels → channels * n ≤ j → n ≤ j / channels
past_horizon channels n j some past =
    let here : channels * (j / channels) + j % channels ≡ j = place_is channels j in
    time_from channels (j / channels) n (j % channels) (channel_within channels j some) (omega arith)

-- a play
pub hears_play : (b c : PlayWindow) (channels : ℕ) (accepted : List AcceptedPlay) (now start : ℕ) (samples : List ℤ) (preempt : Bool) → Hears b channels accepted now → start < 2 ^ 32 →
    unwrap now start + frame_count channels samples ≤ now + b.horizon → Plays b c (accepted_by b start samples preempt) → Hears c channels (accepted ++ accepted_at now start samples preempt ∷ []) now
hears_play b c channels accepted now start samples preempt h word within p =
    let size : length c.next ≡ length b.next = p.size in
    let long : length b.next ≡ channels * b.horizon = h.size in
    let same = same_start b channels accepted now start h word in
    record {
      late = h.late;
      time = p.time ∙ h.time;
      count = h.count;
      channels = p.channels ∙ h.channels;
      size = p.size ∙ h.size ∙ ap (λ n. channels * n) (sym p.horizon);
      each = λ j. elim (cases_lt j (length b.next)) [
        | inl low ↦
            subst (λ n. get_or c.next j (pos 0) ≡ with_entry n (whole_time b.time + j / n) (j % n) (get_or b.next j (pos 0)) (accepted_by b start samples preempt)) h.channels (p.each j low)
            ∙ with_entry-later channels (accepted_by b start samples preempt) (accepted_at now start samples preempt) (whole_time b.time + j / channels) (now + j / channels) (j % channels) (get_or b.next j (pos 0)) (omega arith) (omega arith) refl refl (omega arith)
            ∙ ap (λ x. with_entry channels (now + j / channels) (j % channels) x (accepted_at now start samples preempt)) (h.each j)
            ∙ sym (heard_sample-push channels accepted (accepted_at now start samples preempt) (now + j / channels) (j % channels))
        | inr past ↦
            let far : b.horizon ≤ j / channels = past_horizon channels b.horizon j (some_channel channels h.count) (omega arith) in
            get_or_past c.next j (pos 0) (omega arith) ∙ sym (get_or_past b.next j (pos 0) past) ∙ h.each j
            ∙ sym (not_covered channels (accepted_at now start samples preempt) (now + j / channels) (j % channels) (heard_sample channels accepted (now + j / channels) (j % channels)) (covers_past channels (accepted_at now start samples preempt) (now + j / channels) (omega arith)))
            ∙ sym (heard_sample-push channels accepted (accepted_at now start samples preempt) (now + j / channels) (j % channels))
      ];
      within = subst (λ m. All (λ e. CoversNoneFrom channels e (now + m)) (accepted ++ accepted_at now start samples preempt ∷ [])) (sym p.horizon)
          (All-push (λ e. CoversNoneFrom channels e (now + b.horizon)) accepted (accepted_at now start samples preempt) h.within (λ t past. covers_past channels (accepted_at now start samples preempt) t (omega arith)));
    }

-- how many frames end within the horizon is the same in whole times
pub frames_within-same : (b : PlayWindow) (channels : ℕ) (accepted : List AcceptedPlay) (now start : ℕ) → Hears b channels accepted now → start < 2 ^ 32 → frames_within b start ≡ now + b.horizon - unwrap now start
frames_within-same b channels accepted now start h word = let same = same_start b channels accepted now start h word in omega arith

-- how long it takes until frames end within the horizon is the same in whole times
pub frames_beyond-same : (b : PlayWindow) (channels : ℕ) (accepted : List AcceptedPlay) (now start n : ℕ) → Hears b channels accepted now → start < 2 ^ 32 → frames_beyond b start n ≡ unwrap now start + n - (now + b.horizon)
frames_beyond-same b channels accepted now start n h word = let same = same_start b channels accepted now start h word in omega arith

-- at most as many samples are given out as are next
given_few : (b c : PlayWindow) (given : List ℤ) → HandsOut b c given → length given ≤ length b.next
given_few b c given o = let e = ap length o.first ∙ length-take (length given) b.next in omega arith

-- as many samples are next after a hand-out
pub size_hand_out : (b c : PlayWindow) (given : List ℤ) → HandsOut b c given → length c.next ≡ length b.next
size_hand_out b c given o =
    let few : length given ≤ length b.next = given_few b c given o in
    ap length o.next ∙ length-append (drop (length given) b.next) (replicate (length given) (pos 0))
    ∙ ap (λ m. m + length (replicate (length given) (pos 0))) (length-drop (length given) b.next) ∙ ap (λ m. length b.next - length given + m) (length-replicate (length given) (pos 0)) ∙ omega arith

-- each sample after what was handed out, and silence past them
next_after : (b c : PlayWindow) (given : List ℤ) (j : ℕ) → HandsOut b c given → get_or c.next j (pos 0) ≡ get_or b.next (length given + j) (pos 0)
next_after b c given j o =
    let few : length given ≤ length b.next = given_few b c given o in
    let left : length (drop (length given) b.next) ≡ length b.next - length given = length-drop (length given) b.next in
    ap (λ xs. get_or xs j (pos 0)) o.next
    ∙ elim (cases_lt (length given + j) (length b.next)) [
      | inl next ↦
          get_or_append_left (drop (length given) b.next) (replicate (length given) (pos 0)) (pos 0) j (omega arith) ∙ get_or-drop (length given) b.next j (pos 0)
      | inr past ↦
          get_or-append_right (drop (length given) b.next) (replicate (length given) (pos 0)) (length b.next - length given) j (pos 0) left (omega arith)
          ∙ get_or-silence (length given) (j - (length b.next - length given)) ∙ sym (get_or_past b.next (length given + j) (pos 0) past)
    ]

-- the frame and the channel of a sample after whole frames
heard_after : (channels : ℕ) (accepted : List AcceptedPlay) (now k m j : ℕ) → 0 < channels → m ≡ channels * k →
    heard_sample channels accepted (now + (m + j) / channels) ((m + j) % channels) ≡ heard_sample channels accepted (now + k + j / channels) (j % channels)
heard_after channels accepted now k m j some whole =
    ap (λ i. heard_sample channels accepted (now + (i + j) / channels) ((i + j) % channels)) whole
    ∙ ap (λ t. heard_sample channels accepted (now + t) ((channels * k + j) % channels)) (frame_after channels k j some)
    ∙ ap (heard_sample channels accepted (now + (k + j / channels))) (channel_after channels k j)
    ∙ ap (λ t. heard_sample channels accepted t (j % channels)) (omega arith)

-- what is handed out
pub hears_hand_out : (b c : PlayWindow) (channels : ℕ) (accepted : List AcceptedPlay) (now : ℕ) (given : List ℤ) → Hears b channels accepted now → HandsOut b c given → AreWholeFrames channels given →
    Hears c channels accepted (now + frame_count channels given)
hears_hand_out b c channels accepted now given h o whole =
    let late : 2 ^ 32 ≤ now = h.late in
    let same : c.horizon ≡ b.horizon = o.horizon in
    record {
      late = omega arith;
      time = o.time ∙ ap (λ n. (b.time + frame_count n given) % 2 ^ 32) h.channels ∙ ap (λ x. (x + frame_count channels given) % 2 ^ 32) h.time ∙ mod-add-mod now (2 ^ 32) (frame_count channels given);
      count = h.count;
      channels = o.channels ∙ h.channels;
      size = size_hand_out b c given o ∙ h.size ∙ ap (λ n. channels * n) (sym o.horizon);
      each = λ j. next_after b c given j o ∙ h.each (length given + j) ∙ heard_after channels accepted now (frame_count channels given) (length given) j (some_channel channels h.count) whole;
      within = λ k d low t past. h.within k d low t (omega arith);
    }

-- what is handed out is heard
pub gives_heard : (b c : PlayWindow) (channels : ℕ) (accepted : List AcceptedPlay) (now : ℕ) (given : List ℤ) → Hears b channels accepted now → HandsOut b c given →
    (j : ℕ) → j < length given → get_or given j (pos 0) ≡ heard_sample channels accepted (now + j / channels) (j % channels)
gives_heard b c channels accepted now given h o j low =
    ap (λ xs. get_or xs j (pos 0)) o.first ∙ get_or-take (length given) b.next j (pos 0) low ∙ h.each j

pub gives_heard_from : (b c : PlayWindow) (channels : ℕ) (accepted : List AcceptedPlay) (now n : ℕ) (given : List ℤ) → Hears b channels accepted now → HandsOut b c given → length given ≡ channels * n →
    given ≡ heard_from channels accepted now n
gives_heard_from b c channels accepted now n given h o long =
    fill_by_all (λ j. heard_sample channels accepted (now + j / channels) (j % channels)) given (channels * n) (pos 0) long (λ j low. gives_heard b c channels accepted now given h o j (omega arith))
