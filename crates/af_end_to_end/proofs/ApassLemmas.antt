-- What a relay sends, as requests, and what it was answered.
use Rattle.std.proofs.Common.{◌≡◌, ◌≤◌, ◌<◌, ℕ, zero, suc, ◌+◌, ◌-◌, ◌*◌, ◌/◌, ◌%◌, ◌^◌, ◌==◌, Bool, true, false, cond, nat_lt, List, [], ◌∷◌, ◌++◌, length, map, flat_map, drop, replicate, option_and_then, refl, sym, ap, ◌∙◌, subst, append-nil, arith, IfSome, Result, Ok, Err}
use Rattle.std.proofs.Math.Nat.{div-mul-le_self}
use Rattle.std.proofs.lemmas.Bool.{eqb-true}
use Rattle.std.proofs.lemmas.Bool.Decides.{nat_tests}
use Rattle.std.proofs.lemmas.Grind.{flat_map-append}
use Rattle.std.proofs.lemmas.List.Elements.{All-cons, All-nil, All-replicate}
use Rattle.std.proofs.lemmas.Nat.{mul-le}
use Rattle.std.specs.List.{All}
use Rattle.std.specs.declared.option.Option.{Option}
use Rattle.std.specs.declared.option.Option.TheVariants.{None, Some}
use Rattle.af_limits.specs.Limits.{longest_record}
use Rattle.af_time.specs.declared.DevTime.{DevTime}
use Rattle.af_wire.specs.declared.order.Order.{Order}
use Rattle.af_request.specs.Asked.{Asked, free_ac, get_time, play_run, record_run}
use Rattle.af_request.specs.Answer.{Answer, setup, plain, time as time_answer, played, recorded, controls, phone}
use Rattle.af_request.specs.Replies.{answer_in}
use Rattle.af_request.specs.Requests.{request_bytes}
use Rattle.af_request.specs.declared.reply.DeviceInfo.{DeviceInfo}
use Rattle.af_lib.specs.declared.fault.ConnFault.{ConnFault}
use Rattle.af_lib.specs.Answers.{and_then, answer_to, value_or_bad}
use Rattle.af_lib.specs.Calls.{Recorded, as_recorded, next_sequence, opcode_of, value_in}
use Rattle.af_cli.specs.declared.job.PassJob.{PassJob}
use Rattle.af_cli.specs.Sizes.{greatest_block}
use Rattle.af_toolkit.specs.Trace.{ClientState, after_reply, answer_on, next_message}
use Rattle.af_tools.specs.declared.record.RecordedSound.{RecordedSound}
use Rattle.af_tools.specs.Record.{recorded_frame, recorded_sound}
use Rattle.af_relay.specs.declared.pass.RelayPace.{RelayPace}
use Rattle.af_relay.specs.declared.pass.LastFrame.TheVariants.{Once, Twice, LeftOut}
use Rattle.af_relay.specs.Pass.{frames_played, gap_of, has_drifted, is_early, is_late, pace_from, played_samples, time_after, to_context, type_from}
use Rattle.af_relay.specs.Relayed.{KeepStep, KeepsStep, PassedBlock, is_moved, moves, play_requests, record_replies, record_requests}
use Rattle.af_model.proofs.BoolTestLemmas.{same_number}
use Rattle.af_end_to_end.specs.Sent.{spelled}
use Rattle.af_end_to_end.specs.Apass.{ArePlaces, block_requests, gaps, is_apart, recorder, to_requests}
use Rattle.af_end_to_end.proofs.ArecordTraceLemmas.{AreAnswered, TakenOne, asked_for}
use Rattle.af_end_to_end.proofs.ArecordLemmas.{AreSmall}
use Rattle.af_end_to_end.proofs.PlayerLemmas.{spelled_each}

-- The answers to its Records

-- a Record that is answered has as many bytes as it asked for
stated_size : (size : ℕ) (a : Option Answer) (bytes : List ℕ) (r : Recorded) → value_or_bad bytes (option_and_then (as_recorded true size) a) ≡ Ok r → length r.samples ≡ size
stated_size size None bytes r e = absurd cc
stated_size size (Some (setup devices)) bytes r e = absurd cc
stated_size size (Some plain) bytes r e = absurd cc
stated_size size (Some (time_answer now)) bytes r e = absurd cc
stated_size size (Some (played now)) bytes r e = absurd cc
stated_size size (Some (controls c)) bytes r e = absurd cc
stated_size size (Some (phone p)) bytes r e = absurd cc
stated_size size (Some (recorded now samples)) bytes r e = by (length samples == size) refl e
  where
    value : Recorded
    value = record { time = record { 0 = now }; samples = samples }

    by : (t : Bool) → (length samples == size) ≡ t → value_or_bad bytes (cond t (Some value) None) ≡ Ok r → length r.samples ≡ size
    by false t e = absurd cc
    by true t e = let same : value ≡ r = cc in ap (λ (x : Recorded). length x.samples) (sym same) ∙ eqb-true (length samples) size t

answered_size : (asked : Asked) (size : ℕ) (w : ClientState) (r : Recorded) → answer_on asked (as_recorded true size) w ≡ Ok r → length r.samples ≡ size
answered_size asked size w r e = by (and_then (answer_to w.order (opcode_of asked) (next_sequence w.sequence)) (next_message w).found) e
  where
    by : (m : Result (List ℕ) ConnFault) → and_then (value_in w.order (as_recorded true size) (opcode_of asked)) m ≡ Ok r → length r.samples ≡ size
    by (Ok bytes) e = stated_size size (answer_in w.order (opcode_of asked) (drop 8 bytes)) bytes r e
    by (Err f) e = absurd cc

-- a block that was recorded, of so many frames
abbrev pub taken_one : ℕ → Recorded → TakenOne
taken_one frames r = record { frames = frames; taken = r }

module _ (job : PassJob) (device : DeviceInfo) where
  abbrev pace : RelayPace
  pace = pace_from job device

  abbrev sound : RecordedSound
  sound = recorded_sound (recorder job) device

  -- Records of a relay that were all answered
  pub record AreReplied (count : ℕ) (at : DevTime) (v : ClientState) : Type 0 where
    pub answers : List Recorded
    pub size : length answers ≡ count
    pub bytes : map (λ (r : Recorded). r.samples) answers ≡ record_replies count pace at v
    pub end : ClientState
    pub answered : AreAnswered sound at.0 (map (taken_one pace.frames) answers) v end
    pub asked : (order : Order) → record_requests order count pace at ≡ asked_for order sound at.0 (map (taken_one pace.frames) answers)
    pub whole : All (λ (b : List ℕ). length b ≡ pace.size) (record_replies count pace at v)

  -- what comes after an answer
  abbrev replies_by : (count : ℕ) (at : DevTime) (v : ClientState) → Result Recorded ConnFault → List (List ℕ)
  replies_by count at v x = elim x [
    | Ok r ↦ r.samples ∷ record_replies count pace (time_after at pace.frames) (after_reply v)
    | Err fault ↦ []
  ]

  replied_by : (n : ℕ) (at : DevTime) (v : ClientState) (x : Result Recorded ConnFault) → answer_on (record_run true 1 at.0 pace.size) (as_recorded true pace.size) v ≡ x → length (replies_by n at v x) ≡ suc n →
      (length (record_replies n pace (time_after at pace.frames) (after_reply v)) ≡ n → AreReplied n (time_after at pace.frames) (after_reply v)) → AreReplied (suc n) at v
  unfolding record_replies record_requests
  replied_by n at v (Err fault) e long again = absurd (none long)
    where
      none : 0 ≡ suc n → ⊥
      none e = omega (arith, e)
  replied_by n at v (Ok r) e long again =
      let m = again (omega (arith, long)) in
      let rest = record_replies n pace (time_after at pace.frames) (after_reply v) in
      let same : r.samples ∷ rest ≡ record_replies (suc n) pace at v = ap (replies_by n at v) (sym e) in
      record {
        answers = r ∷ m.answers;
        size = ap suc m.size;
        bytes = ap (λ l. r.samples ∷ l) m.bytes ∙ same;
        end = m.end;
        answered = (e, m.answered);
        asked = λ order. ap (λ l. request_bytes order (record_run true 1 at.0 pace.size) ++ l) (m.asked order);
        whole = subst (All (λ (b : List ℕ). length b ≡ pace.size)) same (All-cons (λ (b : List ℕ). length b ≡ pace.size) r.samples rest (answered_size (record_run true 1 at.0 pace.size) pace.size v r e) m.whole);
      }

  pub are_replied : (count : ℕ) (at : DevTime) (v : ClientState) → length (record_replies count pace at v) ≡ count → AreReplied count at v
  unfolding record_replies record_requests
  are_replied zero at v long = record { answers = []; size = refl; bytes = refl; end = v; answered = refl; asked = λ order. refl; whole = All-nil (λ (b : List ℕ). length b ≡ pace.size) }
  are_replied (suc n) at v long = replied_by n at v (answer_on (record_run true 1 at.0 pace.size) (as_recorded true pace.size) v) refl long (λ e. are_replied n (time_after at pace.frames) (after_reply v) e)

  -- its blocks are small enough to be recorded
  frames_of_all : (answers : List Recorded) → map (λ (b : TakenOne). b.frames) (map (taken_one pace.frames) answers) ≡ replicate (length answers) pace.frames
  frames_of_all [] = refl
  frames_of_all (r ∷ answers) = ap (λ l. pace.frames ∷ l) (frames_of_all answers)

  block_small : pace.frames * recorded_frame sound ≤ longest_record
  block_small =
      let frame = recorded_frame sound in
      let most : greatest_block / frame * frame ≤ greatest_block = div-mul-le_self greatest_block frame in
      let few : pace.frames * frame ≤ greatest_block / frame * frame = mul-le pace.frames frame (greatest_block / frame) frame (omega arith) (omega arith) in
      omega (arith, most, few)

  pub all_small : (count : ℕ) → AreSmall (recorded_frame sound) (replicate count pace.frames)
  all_small count = All-replicate (λ n. n * recorded_frame sound ≤ longest_record) count pace.frames block_small

  pub their_frames : (count : ℕ) (answers : List Recorded) → length answers ≡ count → map (λ (b : TakenOne). b.frames) (map (taken_one pace.frames) answers) ≡ replicate count pace.frames
  their_frames count answers size = frames_of_all answers ∙ ap (λ n. replicate n pace.frames) size

-- The requests on the other link

spelled_block : (order : Order) (job : PassJob) (frame : ℕ) (block : PassedBlock) → spelled order (block_requests job frame block) ≡ request_bytes order (get_time job.to_device) ++ request_bytes order (play_run false 1 block.time.0 (played_samples block.last frame block.samples))
spelled_block order job frame block = ap (λ l. request_bytes order (get_time job.to_device) ++ l) (append-nil (request_bytes order (play_run false 1 block.time.0 (played_samples block.last frame block.samples))))

pub spelled_relay : (order : Order) (job : PassJob) (device : DeviceInfo) (blocks : List PassedBlock) →
    spelled order (to_requests job device blocks) ≡ request_bytes order (to_context job (type_from job device) device.channels) ++ (play_requests order job (pace_from job device).frame blocks ++ request_bytes order (free_ac 1))
spelled_relay order job device blocks =
    let frame = (pace_from job device).frame in
    let free = request_bytes order (free_ac 1) in
    let middle = flat_map (block_requests job frame) blocks in
    ap (λ l. request_bytes order (to_context job (type_from job device) device.channels) ++ l)
    (flat_map-append (request_bytes order) middle (free_ac 1 ∷ []) ∙ ap (λ l. spelled order middle ++ l) (append-nil free)
    ∙ ap (λ l. l ++ free) (spelled_each order (block_requests job frame) (λ b. request_bytes order (get_time job.to_device) ++ request_bytes order (play_run false 1 b.time.0 (played_samples b.last frame b.samples))) (λ b. spelled_block order job frame b) blocks))

-- Its blocks

-- a block that is played at a word, and has a frame then
pub record IsSent (pace : RelayPace) (b : PassedBlock) : Type 0 where
  pub word : b.time.0 < 2 ^ 32
  pub some : 0 < frames_played b.last pace.frames

after_low : (time : DevTime) (frames : ℕ) → (time_after time frames).0 < 2 ^ 32
after_low time frames = omega arith

-- a last frame is left out only where there are others
module _ (pace : RelayPace) (due : DevTime) (b : PassedBlock) (some : 0 < pace.frames) (step : KeepsStep pace due b) where
  once : b.last ≡ Once → 0 < frames_played b.last pace.frames
  once e = subst (λ l. 0 < frames_played l pace.frames) (sym e) some

  twice : b.last ≡ Twice → 0 < frames_played b.last pace.frames
  twice e = subst (λ l. 0 < frames_played l pace.frames) (sym e) (omega arith)

  left_out : b.last ≡ LeftOut → nat_lt 1 pace.frames ≡ true → 0 < frames_played b.last pace.frames
  left_out e more = subst (λ l. 0 < frames_played l pace.frames) (sym e) (several pace.frames more)
    where
      several : (n : ℕ) → nat_lt 1 n ≡ true → 0 < n - 1
      several n more = grind (arith, nat_tests, more)

  late_by : (stays : has_drifted due b.told pace.delay pace.slack ≡ false) → pace.follow ≡ true → is_late (gap_of due b.told pace.delay) ≡ true → (t : Bool) → nat_lt 1 pace.frames ≡ t → 0 < frames_played b.last pace.frames
  late_by stays follows late true more = left_out (step.left_out stays follows late more) more
  late_by stays follows late false more = once (step.single stays late more)

  on_time_by : (stays : has_drifted due b.told pace.delay pace.slack ≡ false) → pace.follow ≡ true → is_early (gap_of due b.told pace.delay) ≡ false → (t : Bool) → is_late (gap_of due b.told pace.delay) ≡ t → 0 < frames_played b.last pace.frames
  on_time_by stays follows early false e = once (step.in_place early e)
  on_time_by stays follows early true e = late_by stays follows e (nat_lt 1 pace.frames) refl

  early_by : (stays : has_drifted due b.told pace.delay pace.slack ≡ false) → pace.follow ≡ true → (t : Bool) → is_early (gap_of due b.told pace.delay) ≡ t → 0 < frames_played b.last pace.frames
  early_by stays follows true e = twice (step.twice stays follows e)
  early_by stays follows false e = on_time_by stays follows e (is_late (gap_of due b.told pace.delay)) refl

  follow_by : has_drifted due b.told pace.delay pace.slack ≡ false → (t : Bool) → pace.follow ≡ t → 0 < frames_played b.last pace.frames
  follow_by stays false e = once (step.plain e)
  follow_by stays true e = early_by stays e (is_early (gap_of due b.told pace.delay)) refl

  drift_by : (t : Bool) → has_drifted due b.told pace.delay pace.slack ≡ t → 0 < frames_played b.last pace.frames
  drift_by true e = once (step.afresh e).1
  drift_by false e = follow_by e pace.follow refl

  some_by : 0 < frames_played b.last pace.frames
  some_by = drift_by (has_drifted due b.told pace.delay pace.slack) refl

word_by : (pace : RelayPace) (due : DevTime) (b : PassedBlock) → due.0 < 2 ^ 32 → KeepsStep pace due b → b.time.0 < 2 ^ 32
word_by pace due b low step = by (has_drifted due b.told pace.delay pace.slack) refl
  where
    by : (t : Bool) → has_drifted due b.told pace.delay pace.slack ≡ t → b.time.0 < 2 ^ 32
    by true e = subst (λ (t : DevTime). t.0 < 2 ^ 32) (sym (step.afresh e).0) (after_low b.told pace.delay)
    by false e = subst (λ (t : DevTime). t.0 < 2 ^ 32) (sym (step.touches e)) low

pub all_sent : (pace : RelayPace) (due : Option DevTime) (blocks : List PassedBlock) → 0 < pace.frames → IfSome due (λ t. t.0 < 2 ^ 32) → KeepStep pace due blocks → All (IsSent pace) blocks
unfolding KeepStep
all_sent pace due [] some low step = All-nil (IsSent pace)
all_sent pace None (b ∷ blocks) some low step =
    All-cons (IsSent pace) b blocks
    (record { word = subst (λ (t : DevTime). t.0 < 2 ^ 32) (sym step.0) (after_low b.told pace.delay); some = subst (λ l. 0 < frames_played l pace.frames) (sym step.1) some })
    (all_sent pace (Some (time_after b.time (frames_played b.last pace.frames))) blocks some (after_low b.time (frames_played b.last pace.frames)) step.2)
all_sent pace (Some due) (b ∷ blocks) some low step =
    All-cons (IsSent pace) b blocks (record { word = word_by pace due b low step.0; some = some_by pace due b some step.0 })
    (all_sent pace (Some (time_after b.time (frames_played b.last pace.frames))) blocks some (after_low b.time (frames_played b.last pace.frames)) step.1)

-- Places

-- a block has moved in the words where it has in whole times
abbrev AreSame : Option DevTime → Option ℕ → Type 0
AreSame None None = Unit {0}
AreSame (Some word) (Some at) = word.0 % 2 ^ 32 ≡ at % 2 ^ 32
AreSame word at = ⊥

same_by : (m n : ℕ) → m ≡ n → (m == n) ≡ true
same_by m n e = ap (λ k. m == k) (sym e) ∙ same_number m

apart_is : (word : Option DevTime) (at : Option ℕ) (time : DevTime) (place : ℕ) → AreSame word at → place % 2 ^ 32 ≡ time.0 → IfSome at (λ a. a % 2 ^ 32 ≡ time.0 → place ≡ a) → is_apart at place ≡ is_moved word time
apart_is None None time place same meant joined = refl
apart_is None (Some at) time place same meant joined = elim same [ ]
apart_is (Some word) None time place same meant joined = elim same [ ]
apart_is (Some word) (Some at) time place same meant joined = by (place == at) refl ((time.0 % 2 ^ 32) == (word.0 % 2 ^ 32)) refl
  where
    low : time.0 % 2 ^ 32 ≡ time.0
    low = omega (arith, meant)

    by : (p : Bool) → (place == at) ≡ p → (q : Bool) → ((time.0 % 2 ^ 32) == (word.0 % 2 ^ 32)) ≡ q → cond {A = ℕ} p 0 1 ≡ cond {A = ℕ} q 0 1
    by true p true q = refl
    by false p false q = refl
    by true p false q = absurd (clash (sym q ∙ same_by (time.0 % 2 ^ 32) (word.0 % 2 ^ 32) (low ∙ sym meant ∙ ap (λ n. n % 2 ^ 32) (eqb-true place at p) ∙ sym same)))
      where
        clash : false ≡ true → ⊥
        clash e = cc
    by false p true q = absurd (clash (sym p ∙ same_by place at (joined (sym same ∙ sym (eqb-true (time.0 % 2 ^ 32) (word.0 % 2 ^ 32) q) ∙ low))))
      where
        clash : false ≡ true → ⊥
        clash e = cc

pub gaps_are : (frames : ℕ) (word : Option DevTime) (at : Option ℕ) (blocks : List PassedBlock) (places : List ℕ) → AreSame word at → ArePlaces frames at blocks places → gaps frames at blocks places ≡ moves frames word blocks
unfolding moves
gaps_are frames word at [] places same are = refl
gaps_are frames word at (b ∷ blocks) places same are =
    let place = are.0 in
    let count = frames_played b.last frames in
    let next : AreSame (Some (time_after b.time count)) (Some (place + count)) = following b.time.0 place count are.3 in
    ap (gaps frames at (b ∷ blocks)) are.2
    ∙ added (is_apart at place) (is_moved word b.time) (gaps frames (Some (place + count)) blocks are.1) (moves frames (Some (time_after b.time count)) blocks) (apart_is word at b.time place same are.3 are.4) (gaps_are frames (Some (time_after b.time count)) (Some (place + count)) blocks are.1 next are.5)
  where
    following : (word place count : ℕ) → place % 2 ^ 32 ≡ word → (word + count) % 2 ^ 32 % 2 ^ 32 ≡ (place + count) % 2 ^ 32
    following word place count e = omega (arith, e)

    added : (a b c d : ℕ) → a ≡ b → c ≡ d → a + c ≡ b + d
    added a b c d e f = omega (arith, e, f)
