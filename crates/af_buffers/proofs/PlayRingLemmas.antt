-- Plays and what is handed out, over a ring. The ring knows no frames: it has samples at places, channels * time + channel.
use Rattle.std.proofs.Common.{◌≡◌, ℕ, ℤ, pos, ◌+◌, ◌-◌, ◌*◌, ◌/◌, ◌%◌, ◌^◌, ◌<◌, ◌≤◌, inl, inr, Bool, List, ◌++◌, replicate, length, get_or, take, drop, refl, sym, ap, ◌∙◌, subst, arith, length-drop, length-append, get_or-drop}
use Rattle.std.proofs.lemmas.List.{get_or_past, get_or-replicate, length-replicate, ext_get_or, get_or-take, length-take-le, get_or_append_left, get_or-append_right}
use Rattle.std.proofs.lemmas.Bool.{cases_lt}
use Rattle.std.proofs.lemmas.List.FromFn.{length-map-range_with_len, get_or-map-range_with_len}
use Rattle.std.proofs.lemmas.Nat.{mul-le}
use Rattle.std.proofs.Math.Nat.{mod-mod}
use Rattle.af_limits.specs.Limits.{longest_tick}
use Rattle.af_time.specs.DeviceTime.{unwrap}
use Rattle.af_sample.specs.Channels.{AreWholeFrames, frame_count}
use Rattle.af_sample.specs.Heard.{AcceptedPlay, sound_with_sample, with_entry}
use Rattle.af_sample.proofs.FrameLemmas.{some_channel}
use Rattle.af_ring.specs.Cells.{cell, ChangesRun, IsRunAt, IsSize}
use Rattle.af_ring.proofs.RingStepLemmas.{same_cell, around, in_run, past_run, before_run}
use Rattle.af_buffers.specs.Horizons.{IsRoomFor, whole_time}
use Rattle.af_buffers.specs.PlayBuffer.{PlayWindow, next_of, accepted_at, EndsWithin, Plays, ChangesCovered, HandsOut, HoldsNext, IsRingOf}
use Rattle.af_buffers.proofs.AcceptedPlayLemmas.{not_covered, before_samples, past_samples, at_sample}
use Rattle.af_buffers.proofs.HorizonLemmas.{horizon_within, silent_cell, get_or-silence}
use Rattle.af_buffers.proofs.PlaceLemmas.{run_place, same_place}

pub length-next_of : (cells : List ℤ) (t channels n : ℕ) → length (next_of cells t channels n).next ≡ channels * n
length-next_of cells t channels n = length-map-range_with_len (λ j. cell cells (channels * t + j)) 0 (channels * n)

pub get_or-next_of : (cells : List ℤ) (t channels n j : ℕ) → j < channels * n → get_or (next_of cells t channels n).next j (pos 0) ≡ cell cells (channels * t + j)
get_or-next_of cells t channels n j low = get_or-map-range_with_len (λ j. cell cells (channels * t + j)) 0 (channels * n) j j (pos 0) low (omega arith)

-- each cell of a ring, by the place from a word on, is what one more play makes of it
pub record LaysOver (channels : ℕ) (old new : List ℤ) (t : ℕ) (play : AcceptedPlay) : Type 0 where
  pub size : length new ≡ length old
  pub each : (j : ℕ) → j < length old → cell new (channels * t + j) ≡ with_entry channels (whole_time t + j / channels) (j % channels) (cell old (channels * t + j)) play

-- the places of a run that begins at the frame of a word, by places a round of times earlier
along : (channels word first whole u k : ℕ) → first ≡ channels * word % 2 ^ 32 → whole % 2 ^ 32 ≡ word → channels * whole + k ≡ channels * 2 ^ 32 + u → (first + k) % 2 ^ 32 ≡ u % 2 ^ 32
along channels word first whole u k cell_is is same =
    let run : (channels * word % 2 ^ 32 + k) % 2 ^ 32 ≡ (channels * whole + k) % 2 ^ 32 = run_place channels word whole k (sym (mod-mod whole (2 ^ 32)) ∙ ap (λ m. m % 2 ^ 32) is) in
    omega arith

-- a run from the start of a play that is not before now
pub lays_ahead : (channels : ℕ) (old new samples : List ℤ) (t start first : ℕ) (preempt : Bool) → 0 < channels → AreWholeFrames channels samples → IsSize (length old) → unwrap (whole_time t) start % 2 ^ 32 ≡ start →
    whole_time t ≤ unwrap (whole_time t) start → channels * unwrap (whole_time t) start + length samples ≤ channels * whole_time t + length old →
    first ≡ channels * start % 2 ^ 32 → ChangesRun old new first (length samples) (λ k x. sound_with_sample preempt x (get_or samples k (pos 0))) → LaysOver channels old new t (accepted_at (whole_time t) start samples preempt)
lays_ahead channels old new samples t start first preempt some whole size word ahead within cell_is run =
    let f = λ (k : ℕ) (x : ℤ). sound_with_sample preempt x (get_or samples k (pos 0)) in
    let begins : channels * whole_time t ≤ channels * unwrap (whole_time t) start = mul-le channels (whole_time t) channels (unwrap (whole_time t) start) (omega arith) ahead in
    record {
      size = run.size;
      each = λ j low. elim (cases_lt (channels * whole_time t + j) (channels * unwrap (whole_time t) start)) [
        | inl before ↦
            before_run old new first (channels * t + j) (channels * whole_time t + j + length old - channels * unwrap (whole_time t) start) (length samples) f size run
            (along channels start first (unwrap (whole_time t) start) (channels * t + j + length old) (channels * whole_time t + j + length old - channels * unwrap (whole_time t) start) cell_is word (omega arith)) (omega arith) (omega arith)
            ∙ sym (not_covered channels (accepted_at (whole_time t) start samples preempt) (whole_time t + j / channels) (j % channels) (cell old (channels * t + j)) (before_samples channels (accepted_at (whole_time t) start samples preempt) (whole_time t) j before))
        | inr begun ↦ elim (cases_lt (channels * whole_time t + j - channels * unwrap (whole_time t) start) (length samples)) [
          | inl inside ↦
              in_run old new first (channels * t + j) (channels * whole_time t + j - channels * unwrap (whole_time t) start) (length samples) f size run
              (along channels start first (unwrap (whole_time t) start) (channels * t + j) (channels * whole_time t + j - channels * unwrap (whole_time t) start) cell_is word (omega arith)) inside (omega arith)
              ∙ sym (at_sample channels (accepted_at (whole_time t) start samples preempt) (whole_time t) j (channels * whole_time t + j - channels * unwrap (whole_time t) start) (cell old (channels * t + j)) some whole (omega arith) (omega arith) inside)
          | inr over ↦
              past_run old new first (channels * t + j) (channels * whole_time t + j - channels * unwrap (whole_time t) start) (length samples) f size run
              (along channels start first (unwrap (whole_time t) start) (channels * t + j) (channels * whole_time t + j - channels * unwrap (whole_time t) start) cell_is word (omega arith)) over (omega arith)
              ∙ sym (not_covered channels (accepted_at (whole_time t) start samples preempt) (whole_time t + j / channels) (j % channels) (cell old (channels * t + j)) (past_samples channels (accepted_at (whole_time t) start samples preempt) (whole_time t) j some whole (omega arith)))
        ]
      ];
    }

-- a run of the rest of a play that began before now
pub lays_rest : (channels : ℕ) (old new samples rest : List ℤ) (t start late first : ℕ) (preempt : Bool) → 0 < channels → AreWholeFrames channels samples → IsSize (length old) → unwrap (whole_time t) start + late ≡ whole_time t → late * channels ≤ length samples →
    length samples ≤ length old → rest ≡ drop (late * channels) samples → first ≡ channels * t % 2 ^ 32 → ChangesRun old new first (length rest) (λ k x. sound_with_sample preempt x (get_or rest k (pos 0))) →
    LaysOver channels old new t (accepted_at (whole_time t) start samples preempt)
lays_rest channels old new samples rest t start late first preempt some whole size begun past room is cell_is run =
    let left : length rest ≡ length samples - late * channels = ap length is ∙ length-drop (late * channels) samples in
    let places : channels * (unwrap (whole_time t) start + late) ≡ channels * whole_time t = ap (λ m. channels * m) begun in
    let here : (j : ℕ) → (first + j) % 2 ^ 32 ≡ (channels * t + j) % 2 ^ 32 = λ j. ap (λ m. (m + j) % 2 ^ 32) cell_is ∙ run_place channels t t j refl in
    let f = λ (k : ℕ) (x : ℤ). sound_with_sample preempt x (get_or rest k (pos 0)) in
    record {
      size = run.size;
      each = λ j low. elim (cases_lt j (length rest)) [
        | inl inside ↦
            in_run old new first (channels * t + j) j (length rest) f size run (here j) inside (omega arith)
            ∙ ap (λ xs. sound_with_sample preempt (cell old (channels * t + j)) (get_or xs j (pos 0))) is
            ∙ ap (sound_with_sample preempt (cell old (channels * t + j))) (get_or-drop (late * channels) samples j (pos 0))
            ∙ sym (at_sample channels (accepted_at (whole_time t) start samples preempt) (whole_time t) j (late * channels + j) (cell old (channels * t + j)) some whole (omega arith) (omega arith) (omega arith))
        | inr over ↦
            past_run old new first (channels * t + j) j (length rest) f size run (here j) over low
            ∙ sym (not_covered channels (accepted_at (whole_time t) start samples preempt) (whole_time t + j / channels) (j % channels) (cell old (channels * t + j)) (past_samples channels (accepted_at (whole_time t) start samples preempt) (whole_time t) j some whole (omega arith)))
      ];
    }

-- a play that was over before now changes nothing
pub lays_nothing : (channels : ℕ) (old samples : List ℤ) (t start late : ℕ) (preempt : Bool) → 0 < channels → AreWholeFrames channels samples → unwrap (whole_time t) start + late ≡ whole_time t → length samples ≤ late * channels →
    LaysOver channels old old t (accepted_at (whole_time t) start samples preempt)
lays_nothing channels old samples t start late preempt some whole begun over =
    let places : channels * (unwrap (whole_time t) start + late) ≡ channels * whole_time t = ap (λ m. channels * m) begun in
    record {
      size = refl;
      each = λ j low. sym (not_covered channels (accepted_at (whole_time t) start samples preempt) (whole_time t + j / channels) (j % channels) (cell old (channels * t + j)) (past_samples channels (accepted_at (whole_time t) start samples preempt) (whole_time t) j some whole (omega arith)));
    }

-- what is laid over the cells is played into the next samples
pub plays : (channels : ℕ) (old new : List ℤ) (t n : ℕ) (play : AcceptedPlay) → channels * n ≤ length old → LaysOver channels old new t play → Plays (next_of old t channels n) (next_of new t channels n) play
plays channels old new t n play room laid =
    let long : length (next_of old t channels n).next ≡ channels * n = length-next_of old t channels n in
    record {
      time = refl;
      channels = refl;
      horizon = refl;
      size = length-next_of new t channels n ∙ sym long;
      each = λ j low.
          let low' : j < channels * n = omega arith in
          get_or-next_of new t channels n j low' ∙ laid.each j (omega arith)
          ∙ ap (λ x. with_entry channels (whole_time t + j / channels) (j % channels) x play) (sym (get_or-next_of old t channels n j low'));
    }

pub changes_covered : (channels : ℕ) (old new : List ℤ) (t n : ℕ) (play : AcceptedPlay) → LaysOver channels old new t play → ChangesCovered (next_of old t channels n) (next_of new t channels n) play
changes_covered channels old new t n play laid = record {
  size = laid.size;
  kept = λ j low out. laid.each j low ∙ not_covered channels play (whole_time t + j / channels) (j % channels) (cell old (channels * t + j)) out;
}

-- a play that ends within the horizon, by places
pub ends_within : (channels n t : ℕ) (play : AcceptedPlay) → AreWholeFrames channels play.samples → play.start + frame_count channels play.samples ≤ whole_time t + n →
    channels * play.start + length play.samples ≤ channels * whole_time t + channels * n
ends_within channels n t play whole within =
    let ends : channels * (play.start + frame_count channels play.samples) ≤ channels * (whole_time t + n) =
    mul-le channels (play.start + frame_count channels play.samples) channels (whole_time t + n) (omega arith) within in
    omega arith

pub ring_of_play : (channels : ℕ) (old new : List ℤ) (t n : ℕ) (play : AcceptedPlay) → IsRingOf old t channels n → AreWholeFrames channels play.samples → play.start + frame_count channels play.samples ≤ whole_time t + n →
    LaysOver channels old new t play → IsRingOf new t channels n
ring_of_play channels old new t n play ring whole within laid =
    let ends = ends_within channels n t play whole within in
    record {
      count = ring.count;
      horizon = ring.horizon;
      room = subst (IsRoomFor (channels * n)) (sym laid.size) ring.room;
      silent = λ j past low.
          let size : length new ≡ length old = laid.size in
          laid.each j (omega arith)
          ∙ not_covered channels play (whole_time t + j / channels) (j % channels) (cell old (channels * t + j)) (past_samples channels play (whole_time t) j (some_channel channels ring.count) whole (omega (arith, ends)))
          ∙ ring.silent j past (omega arith);
    }

-- at most as many samples are given out as are next
given_few : (channels n : ℕ) (old given : List ℤ) (t : ℕ) → IsRingOf old t channels n → frame_count channels given ≤ longest_tick → AreWholeFrames channels given → length given ≤ channels * n
given_few channels n old given t ring count whole =
    let bounds : (32000 ≤ n) × (n ≤ 192000) = horizon_within n ring.horizon in
    let few : channels * frame_count channels given ≤ channels * n = mul-le channels (frame_count channels given) channels n (omega arith) (omega arith) in
    omega arith

-- the place of a cell, by the time past what was given
past_given : (channels k t j m : ℕ) → m ≡ channels * k → (channels * ((t + k) % 2 ^ 32) + j) % 2 ^ 32 ≡ (channels * t + (m + j)) % 2 ^ 32
past_given channels k t j m whole =
    let words : (channels * ((t + k) % 2 ^ 32)) % 2 ^ 32 ≡ (channels * (t + k)) % 2 ^ 32 = same_place channels ((t + k) % 2 ^ 32) (t + k) (mod-mod (t + k) (2 ^ 32)) in
    omega arith

-- the first samples are given out, and their cells are silent
handed : (channels : ℕ) (old new given : List ℤ) (t n : ℕ) → IsRingOf old t channels n → length given ≤ channels * n → AreWholeFrames channels given → ChangesRun old new (channels * t % 2 ^ 32) (length given) (λ _ _. pos 0) →
    (j : ℕ) → j < length old → cell new (channels * ((t + frame_count channels given) % 2 ^ 32) + j) ≡ get_or (drop (length given) (next_of old t channels n).next ++ replicate (length given) (pos 0)) j (pos 0)
handed channels old new given t n ring few whole run j low =
    let room : channels * n ≤ length old = ring.room.enough in
    let size : length new ≡ length old = run.size in
    let size' : IsSize (length new) = subst IsSize (sym run.size) ring.room.power in
    let long : length (next_of old t channels n).next ≡ channels * n = length-next_of old t channels n in
    let left : length (drop (length given) (next_of old t channels n).next) ≡ channels * n - length given = length-drop (length given) (next_of old t channels n).next ∙ ap (λ m. m - length given) long in
    let later : cell new (channels * ((t + frame_count channels given) % 2 ^ 32) + j) ≡ cell new (channels * t + (length given + j)) =
    same_cell new (channels * ((t + frame_count channels given) % 2 ^ 32) + j) (channels * t + (length given + j)) size' (past_given channels (frame_count channels given) t j (length given) whole) in
    let silent : channels * n ≤ length given + j → get_or (drop (length given) (next_of old t channels n).next ++ replicate (length given) (pos 0)) j (pos 0) ≡ pos 0 =
    λ past. get_or-append_right (drop (length given) (next_of old t channels n).next) (replicate (length given) (pos 0)) (channels * n - length given) j (pos 0) left (omega arith)
    ∙ get_or-silence (length given) (j - (channels * n - length given)) in
    later ∙ elim (cases_lt (length given + j) (length old)) [
      | inl within ↦
          past_run old new (channels * t % 2 ^ 32) (channels * t + (length given + j)) (length given + j) (length given) (λ _ _. pos 0) ring.room.power run (run_place channels t t (length given + j) refl) (omega arith) within
          ∙ elim (cases_lt (length given + j) (channels * n)) [
            | inl next ↦
                sym (get_or_append_left (drop (length given) (next_of old t channels n).next) (replicate (length given) (pos 0)) (pos 0) j (omega arith)
                ∙ get_or-drop (length given) (next_of old t channels n).next j (pos 0) ∙ get_or-next_of old t channels n (length given + j) next)
            | inr past ↦ ring.silent (length given + j) past within ∙ sym (silent past)
          ]
      | inr over ↦
          ap (cell new) (let e : channels * t + (length given + j) ≡ channels * t + (length given + j - length old) + length old = omega arith in e)
          ∙ ap (λ m. cell new (channels * t + (length given + j - length old) + m)) (sym size) ∙ around new (channels * t + (length given + j - length old))
          ∙ in_run old new (channels * t % 2 ^ 32) (channels * t + (length given + j - length old)) (length given + j - length old) (length given) (λ _ _. pos 0) ring.room.power run (run_place channels t t (length given + j - length old) refl) (omega arith) (omega arith)
          ∙ sym (silent (omega arith))
    ]

-- what comes next after the given samples is as long as before
length-rest : (channels : ℕ) (old given : List ℤ) (t n : ℕ) → length given ≤ channels * n → length (drop (length given) (next_of old t channels n).next ++ replicate (length given) (pos 0)) ≡ channels * n
length-rest channels old given t n few =
    let long : length (next_of old t channels n).next ≡ channels * n = length-next_of old t channels n in
    length-append (drop (length given) (next_of old t channels n).next) (replicate (length given) (pos 0))
    ∙ ap (λ m. length (drop (length given) (next_of old t channels n).next) + m) (length-replicate (length given) (pos 0))
    ∙ ap (λ m. m + length given) (length-drop (length given) (next_of old t channels n).next) ∙ omega arith

pub hands_out : (channels : ℕ) (old new given : List ℤ) (t n : ℕ) → IsRingOf old t channels n → frame_count channels given ≤ longest_tick → AreWholeFrames channels given → IsRunAt given old (channels * t % 2 ^ 32) →
    ChangesRun old new (channels * t % 2 ^ 32) (length given) (λ _ _. pos 0) → HandsOut (next_of old t channels n) (next_of new ((t + frame_count channels given) % 2 ^ 32) channels n) given
hands_out channels old new given t n ring count whole same run =
    let few : length given ≤ channels * n = given_few channels n old given t ring count whole in
    let room : channels * n ≤ length old = ring.room.enough in
    let long : length (next_of old t channels n).next ≡ channels * n = length-next_of old t channels n in
    let first : length (take (length given) (next_of old t channels n).next) ≡ length given = length-take-le (length given) (next_of old t channels n).next (omega arith) in
    let rest = length-rest channels old given t n few in
    let long' : length (next_of new ((t + frame_count channels given) % 2 ^ 32) channels n).next ≡ channels * n = length-next_of new ((t + frame_count channels given) % 2 ^ 32) channels n in
    record {
      time = refl;
      channels = refl;
      horizon = refl;
      first = ext_get_or (pos 0) given (take (length given) (next_of old t channels n).next) (sym first)
          (λ k low. same k low ∙ same_cell old (channels * t % 2 ^ 32 + k) (channels * t + k) ring.room.power (run_place channels t t k refl)
          ∙ sym (get_or-take (length given) (next_of old t channels n).next k (pos 0) low ∙ get_or-next_of old t channels n k (omega arith)));
      next = ext_get_or (pos 0) (next_of new ((t + frame_count channels given) % 2 ^ 32) channels n).next (drop (length given) (next_of old t channels n).next ++ replicate (length given) (pos 0)) (long' ∙ sym rest)
          (λ j low. get_or-next_of new ((t + frame_count channels given) % 2 ^ 32) channels n j (omega arith) ∙ handed channels old new given t n ring few whole run j (omega arith));
    }

pub ring_of_hand_out : (channels : ℕ) (old new given : List ℤ) (t n : ℕ) → IsRingOf old t channels n → frame_count channels given ≤ longest_tick → AreWholeFrames channels given → ChangesRun old new (channels * t % 2 ^ 32) (length given) (λ _ _. pos 0) →
    IsRingOf new ((t + frame_count channels given) % 2 ^ 32) channels n
ring_of_hand_out channels old new given t n ring count whole run =
    let few : length given ≤ channels * n = given_few channels n old given t ring count whole in
    let size : length new ≡ length old = run.size in
    let rest = length-rest channels old given t n few in
    record {
      count = ring.count;
      horizon = ring.horizon;
      room = subst (IsRoomFor (channels * n)) (sym run.size) ring.room;
      silent = λ j past low.
          handed channels old new given t n ring few whole run j (omega arith)
          ∙ get_or_past (drop (length given) (next_of old t channels n).next ++ replicate (length given) (pos 0)) j (pos 0) (omega (arith, rest));
    }

-- the samples next in a silent ring
pub next_of-silence : (cells : List ℤ) (t channels n size : ℕ) → cells ≡ replicate size (pos 0) → (next_of cells t channels n).next ≡ replicate (channels * n) (pos 0)
next_of-silence cells t channels n size e =
    let long : length (next_of cells t channels n).next ≡ channels * n = length-next_of cells t channels n in
    ext_get_or (pos 0) (next_of cells t channels n).next (replicate (channels * n) (pos 0)) (long ∙ sym (length-replicate (channels * n) (pos 0)))
    (λ j low. get_or-next_of cells t channels n j (omega arith) ∙ silent_cell cells size (channels * t + j) e ∙ sym (get_or-replicate (channels * n) j (pos 0) (pos 0) (omega arith)))

-- what the ring holds
pub holds_next : (cells : List ℤ) (t channels n : ℕ) → IsRingOf cells t channels n → HoldsNext (next_of cells t channels n)
holds_next cells t channels n ring =
    let long : length (next_of cells t channels n).next ≡ channels * n = length-next_of cells t channels n in
    record {
      size = long;
      room = subst (λ m. IsRoomFor m (length cells)) (sym long) ring.room;
      next = λ j low. sym (get_or-next_of cells t channels n j (omega arith));
      silent = λ j past low. ring.silent j (omega arith) low;
    }

-- the end of a play, in a buffer's whole times
pub within_of : (cells : List ℤ) (t channels n start : ℕ) (samples : List ℤ) (b : PlayWindow) → next_of cells t channels n ≡ b → EndsWithin b start (frame_count b.channels samples) →
    unwrap (whole_time t) start + frame_count channels samples ≤ whole_time t + n
within_of cells t channels n start samples b e h = subst (λ (v : PlayWindow). EndsWithin v start (frame_count v.channels samples)) (sym e) h

-- samples of as many whole frames, by a buffer's channels
pub whole_of : (cells : List ℤ) (t channels n : ℕ) (b : PlayWindow) (samples given : List ℤ) → next_of cells t channels n ≡ b → length given ≡ length samples → AreWholeFrames b.channels samples → AreWholeFrames channels given
whole_of cells t channels n b samples given e same whole =
    subst (λ m. m ≡ channels * (m / channels)) (sym same) (subst (λ (v : PlayWindow). AreWholeFrames v.channels samples) (sym e) whole)

pub few_of : (cells : List ℤ) (t channels n most : ℕ) (b : PlayWindow) (samples given : List ℤ) → next_of cells t channels n ≡ b → length given ≡ length samples → frame_count b.channels samples ≤ most → frame_count channels given ≤ most
few_of cells t channels n most b samples given e same few =
    subst (λ m. m / channels ≤ most) (sym same) (subst (λ (v : PlayWindow). frame_count v.channels samples ≤ most) (sym e) few)
