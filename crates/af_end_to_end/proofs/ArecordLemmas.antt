-- What arecord sends, as requests, and what they come to.
use Rattle.std.proofs.Common.{◌≡◌, ◌≤◌, ◌<◌, ℕ, ◌+◌, ◌*◌, ◌/◌, ◌%◌, ◌^◌, ◌==◌, ◌&&◌, Bool, true, false, not, cond, ℤ, pos, List, [], ◌∷◌, ◌++◌, length, map, min, replicate, nat_lt, is_none, refl, sym, ap, ◌∙◌, subst, append-nil, arith, unwrap_or, FitsSigned}
use Rattle.std.proofs.Math.Nat.{div-mul-le_self, mod-lt, mul-mod_left}
use Rattle.std.proofs.lemmas.Bool.Decides.{nat_tests}
use Rattle.std.proofs.lemmas.Nat.{mul-le}
use Rattle.std.proofs.lemmas.Grind.{flat_map-append}
use Rattle.std.proofs.lemmas.List.{get_or-map, length-map}
use Rattle.std.proofs.lemmas.List.FromFn.{get_or-map-range_with_len, length-map-range_with_len}
use Rattle.std.proofs.lemmas.List.Elements.{All-append, All-cons, All-head, All-nil, All-replicate, All-tail}
use Rattle.std.specs.Int.{byte_at, w16}
use Rattle.std.specs.List.{All, range_with_len}
use Rattle.std.specs.declared.option.Option.{Option}
use Rattle.std.specs.declared.option.Option.TheVariants.{None, Some}
use Rattle.af_limits.specs.Limits.{longest_record}
use Rattle.af_sample.specs.declared.sample_type.SampleType.{SampleType}
use Rattle.af_sample.specs.declared.sample_type.SampleType.TheVariants.{Alaw, Lin16, Lin32, Mu255}
use Rattle.af_sample.specs.Channels.{IsChannelCount}
use Rattle.af_sample.specs.Gains.{IsGain, gain_of, gained}
use Rattle.af_sample.specs.SampleTypes.{code_of, frame_bytes}
use Rattle.af_sample.specs.Window.{recorded_sample, window}
use Rattle.af_sample.proofs.FrameLemmas.{channel_at, frame_at, place_before}
use Rattle.af_context.specs.declared.Context.{Context}
use Rattle.af_context.specs.Contexts.{creation}
use Rattle.af_wire.specs.declared.order.Order.{Order}
use Rattle.af_wire.specs.declared.order.Order.TheVariants.{Big, Little}
use Rattle.af_wire.specs.Order.{u32_bytes}
use Rattle.af_request.specs.Asked.{free_ac, get_time, record_run}
use Rattle.af_request.specs.Fields.{flag_byte}
use Rattle.af_request.specs.Opcodes as opcodes
use Rattle.af_request.specs.Requests.{IsWritable, front, request_bytes}
use Rattle.af_request.specs.declared.reply.DeviceInfo.{DeviceInfo}
use Rattle.af_cli.specs.declared.job.RecordJob.{RecordJob}
use Rattle.af_cli.specs.Sizes.{block_frames, greatest_block}
use Rattle.af_cli.proofs.FrameSizeLemmas.{by_size, frame_size}
use Rattle.af_tools.specs.declared.record.RecordedSound.{RecordedSound}
use Rattle.af_tools.specs.Record.{block_lengths, record_context, recorded_frame, recorded_sound}
use Rattle.af_tools.specs.RecordSteps.{job_lengths}
use Rattle.af_model.specs.declared.refusal.RefusalCause.TheVariants.{BadMatch, BadValue}
use Rattle.af_model.specs.State.{DeviceState}
use Rattle.af_model.specs.Checks.{check, check_gain, context_refusal, first_refusal}
use Rattle.af_model.specs.ContextRequests.{creation_refusal, requested_context}
use Rattle.af_model.specs.Reply.{horizon_of}
use Rattle.af_model.specs.Play.{are_frames}
use Rattle.af_model.specs.Record.{record_refusal}
use Rattle.af_model.proofs.BoolTestLemmas.{same_number}
use Rattle.af_end_to_end.specs.Sent.{spelled}
use Rattle.af_end_to_end.specs.Performing.{contexts_after}
use Rattle.af_end_to_end.specs.Told.{IsOfRecorder}
use Rattle.af_end_to_end.specs.Arecord.{HasHeld, arecord_requests, block_record, stretches}
use Rattle.af_end_to_end.proofs.AplayFitLemmas.{gain_is}
use Rattle.af_end_to_end.proofs.AplayLemmas.{type_again}
use Rattle.af_end_to_end.proofs.ArecordTraceLemmas.{TakenOne, asked_for}

-- Its bytes are those of its requests

-- a time is sent as a word
byte_low : (n : ℕ) → byte_at 0 n ≡ byte_at 0 (n % 2 ^ 32)
byte_low n = omega arith

byte_second : (n : ℕ) → byte_at 1 n ≡ byte_at 1 (n % 2 ^ 32)
byte_second n = omega arith

byte_third : (n : ℕ) → byte_at 2 n ≡ byte_at 2 (n % 2 ^ 32)
byte_third n = omega arith

byte_high : (n : ℕ) → byte_at 3 n ≡ byte_at 3 (n % 2 ^ 32)
byte_high n = omega arith

four : {a b c d e f g h : ℕ} → a ≡ e → b ≡ f → c ≡ g → d ≡ h → a ∷ b ∷ c ∷ d ∷ [] ≡ e ∷ f ∷ g ∷ h ∷ []
four {a} {b} {c} {d} {e} {f} {g} {h} p q r s =
    ap (λ x. x ∷ b ∷ c ∷ d ∷ []) p ∙ ap (λ x. e ∷ x ∷ c ∷ d ∷ []) q ∙ ap (λ x. e ∷ f ∷ x ∷ d ∷ []) r ∙ ap (λ x. e ∷ f ∷ g ∷ x ∷ []) s

word_bytes : (order : Order) (n : ℕ) → u32_bytes order n ≡ u32_bytes order (n % 2 ^ 32)
word_bytes Big n = four (byte_high n) (byte_third n) (byte_second n) (byte_low n)
word_bytes Little n = four (byte_low n) (byte_second n) (byte_third n) (byte_high n)

record_word : (order : Order) (at word size : ℕ) → at % 2 ^ 32 ≡ word → request_bytes order (record_run true 1 at size) ≡ request_bytes order (record_run true 1 word size)
record_word order at word size e = ap (λ l. front order opcodes.record (flag_byte true) 4 ++ u32_bytes order 1 ++ l ++ u32_bytes order size) (word_bytes order at ∙ ap (u32_bytes order) e)

pub next_word : (start before n at : ℕ) → at % 2 ^ 32 ≡ (start + before) % 2 ^ 32 → (at + n) % 2 ^ 32 % 2 ^ 32 ≡ (start + (before + n)) % 2 ^ 32
next_word start before n at e = omega (arith, e)

asked_spelled : (order : Order) (sound : RecordedSound) (start : ℕ) (blocks : List TakenOne) (before at : ℕ) → at % 2 ^ 32 ≡ (start + before) % 2 ^ 32 →
    asked_for order sound at blocks ≡ spelled order (map (block_record sound start) (stretches before (map (λ (b : TakenOne). b.frames) blocks)))
asked_spelled order sound start [] before at e = refl
asked_spelled order sound start (b ∷ blocks) before at e =
    let size = b.frames * recorded_frame sound in
    ap (λ l. l ++ asked_for order sound ((at + b.frames) % 2 ^ 32) blocks) (record_word order at ((start + before) % 2 ^ 32) size e)
    ∙ ap (λ l. request_bytes order (record_run true 1 ((start + before) % 2 ^ 32) size) ++ l) (asked_spelled order sound start blocks (before + b.frames) ((at + b.frames) % 2 ^ 32) (next_word start before b.frames at e))

pub spelled_arecord : (order : Order) (job : RecordJob) (device : DeviceInfo) (start : ℕ) (blocks : List TakenOne) →
    spelled order (arecord_requests job device start (stretches 0 (map (λ (b : TakenOne). b.frames) blocks)))
    ≡ request_bytes order (record_context job device) ++ (request_bytes order (get_time job.device) ++ (asked_for order (recorded_sound job device) start blocks ++ request_bytes order (free_ac 1)))
spelled_arecord order job device start blocks =
    let sound = recorded_sound job device in
    let middle = map (block_record sound start) (stretches 0 (map (λ (b : TakenOne). b.frames) blocks)) in
    let free = request_bytes order (free_ac 1) in
    let word : start % 2 ^ 32 ≡ (start + 0) % 2 ^ 32 = omega arith in
    ap (λ l. request_bytes order (record_context job device) ++ (request_bytes order (get_time job.device) ++ l))
    (flat_map-append (request_bytes order) middle (free_ac 1 ∷ []) ∙ ap (λ l. spelled order middle ++ l) (append-nil free) ∙ ap (λ l. l ++ free) (sym (asked_spelled order sound start blocks 0 start word)))

-- The lengths of its blocks

abbrev pub AreSmall : (frame : ℕ) → List ℕ → Type 0
AreSmall frame lengths = All (λ n. n * frame ≤ longest_record) lengths

lengths_small : (frame block frames : ℕ) → 0 < block → block * frame ≤ longest_record → AreSmall frame (block_lengths block frames)
unfolding block_lengths
lengths_small frame block frames some small =
    All-append (λ n. n * frame ≤ longest_record) (replicate (frames / block) block) (cond (frames % block == 0) [] (frames % block ∷ [])) (All-replicate (λ n. n * frame ≤ longest_record) (frames / block) block small) (last (frames % block == 0))
  where
    fewer : frames % block ≤ block
    fewer = let less = mod-lt frames some in omega (arith, less)

    last : (t : Bool) → AreSmall frame (cond t [] (frames % block ∷ []))
    last true = All-nil (λ n. n * frame ≤ longest_record)
    last false =
        let less : frames % block * frame ≤ block * frame = mul-le (frames % block) frame block frame fewer (omega arith) in
        All-cons (λ n. n * frame ≤ longest_record) (frames % block) [] (omega (arith, less, small)) (All-nil (λ n. n * frame ≤ longest_record))

small_front : (frame : ℕ) (xs ys : List ℕ) → AreSmall frame (xs ++ ys) → AreSmall frame xs
small_front frame [] ys h = All-nil (λ n. n * frame ≤ longest_record)
small_front frame (x ∷ xs) ys h = All-cons (λ n. n * frame ≤ longest_record) x xs (All-head (λ n. n * frame ≤ longest_record) x (xs ++ ys) h) (small_front frame xs ys (All-tail (λ n. n * frame ≤ longest_record) x (xs ++ ys) h))

pub frame_some : (ty : SampleType) (channels : ℕ) → IsChannelCount channels → 0 < frame_bytes ty channels
frame_some ty channels count = by_size (λ w. 0 < w) (omega arith) (omega arith) (omega arith) (omega arith) (frame_bytes ty channels) (frame_size ty channels count)

pub block_some : (ty : SampleType) (channels asked : ℕ) → IsChannelCount channels → 0 < asked → 0 < block_frames asked (frame_bytes ty channels)
block_some ty channels asked count some =
    by_size (λ w. 0 < block_frames asked w) (least 16000 (omega arith)) (least 8000 (omega arith)) (least 4000 (omega arith)) (least 2000 (omega arith)) (frame_bytes ty channels) (frame_size ty channels count)
  where
    least : (m : ℕ) → 0 < m → 0 < min asked m
    least m more = grind (arith, some, more)

pub job_small : (job : RecordJob) (device : DeviceInfo) (lengths others : List ℕ) → IsChannelCount device.channels → 0 < job.block → job_lengths job device ≡ lengths ++ others → AreSmall (recorded_frame (recorded_sound job device)) lengths
job_small job device lengths others count some is =
    let frame = recorded_frame (recorded_sound job device) in
    let block = block_frames job.block frame in
    let most : greatest_block / frame * frame ≤ greatest_block = div-mul-le_self greatest_block frame in
    let few : block * frame ≤ greatest_block / frame * frame = mul-le block frame (greatest_block / frame) frame (omega arith) (omega arith) in
    small_front frame lengths others
    (subst (AreSmall frame) is (lengths_small frame block job.frames (block_some (recorded_sound job device).ty device.channels job.block count some) (omega (arith, most, few))))

-- They fit

gain_fits : (g : ℤ) → IsGain g → FitsSigned w16 g
gain_fits g within = grind arith

word_low : (n : ℕ) → n % 2 ^ 32 < 2 ^ 32
word_low n = omega arith

blocks_fit : (sound : RecordedSound) (start : ℕ) (lengths : List ℕ) (before : ℕ) → AreSmall (recorded_frame sound) lengths → All IsWritable (map (block_record sound start) (stretches before lengths))
blocks_fit sound start [] before small = All-nil IsWritable
blocks_fit sound start (n ∷ lengths) before small =
    let frame = recorded_frame sound in
    let one : n * frame ≤ longest_record = All-head (λ n. n * frame ≤ longest_record) n lengths small in
    All-cons IsWritable (block_record sound start (record { before = before; frames = n })) (map (block_record sound start) (stretches (before + n) lengths)) (omega arith, word_low (start + before), omega (arith, one))
    (blocks_fit sound start lengths (before + n) (All-tail (λ n. n * frame ≤ longest_record) n lengths small))

pub arecord_fits : (job : RecordJob) (device : DeviceInfo) (start : ℕ) (lengths : List ℕ) → IsGain job.gain → AreSmall (recorded_frame (recorded_sound job device)) lengths → All IsWritable (arecord_requests job device start (stretches 0 lengths))
arecord_fits job device start lengths gain small =
    let sound = recorded_sound job device in
    let middle = map (block_record sound start) (stretches 0 lengths) in
    All-cons IsWritable (record_context job device) (get_time job.device ∷ (middle ++ free_ac 1 ∷ [])) (omega arith, gain_fits (pos 0) (grind arith), gain_fits job.gain gain)
    (All-cons IsWritable (get_time job.device) (middle ++ free_ac 1 ∷ []) tt
    (All-append IsWritable middle (free_ac 1 ∷ []) (blocks_fit sound start lengths 0 small) (All-cons IsWritable (free_ac 1) [] (omega arith) (All-nil IsWritable))))

blocks_record : (sound : RecordedSound) (start : ℕ) (lengths : List ℕ) (before : ℕ) → All IsOfRecorder (map (block_record sound start) (stretches before lengths))
blocks_record sound start [] before = All-nil IsOfRecorder
blocks_record sound start (n ∷ lengths) before = All-cons IsOfRecorder (block_record sound start (record { before = before; frames = n })) (map (block_record sound start) (stretches (before + n) lengths)) tt (blocks_record sound start lengths (before + n))

pub arecord_records : (job : RecordJob) (device : DeviceInfo) (start : ℕ) (lengths : List ℕ) → All IsOfRecorder (arecord_requests job device start (stretches 0 lengths))
arecord_records job device start lengths =
    let middle = map (block_record (recorded_sound job device) start) (stretches 0 lengths) in
    All-cons IsOfRecorder (record_context job device) (get_time job.device ∷ (middle ++ free_ac 1 ∷ [])) tt
    (All-cons IsOfRecorder (get_time job.device) (middle ++ free_ac 1 ∷ []) tt
    (All-append IsOfRecorder middle (free_ac 1 ∷ []) (blocks_record (recorded_sound job device) start lengths 0) (All-cons IsOfRecorder (free_ac 1) [] tt (All-nil IsOfRecorder))))

-- They are not refused

abbrev pub arecord_context : RecordJob → DeviceInfo → Context
arecord_context job device = record { ac = 1; device = job.device; ty = (recorded_sound job device).ty; play_gain = pos 0; record_gain = job.gain; preempt = false }

pub creation_fits : (d channels : ℕ) (ty : SampleType) (gain : ℤ) → gain_of gain ≡ Some gain → creation_refusal (Some channels) d (code_of ty) channels 0 (pos 0) gain ≡ None
unfolding creation_refusal
creation_fits d channels ty gain e = by ty
  where
    none : (a b : Bool) (v : ℕ) → a ≡ false → b ≡ true → first_refusal (check a BadValue v ∷ check (not b) BadMatch channels ∷ []) ≡ None
    none false true v e f = refl
    none true b v e f = absurd cc
    none false false v e f = absurd cc

    rest : first_refusal (check_gain gain ∷ check (not (channels == channels)) BadMatch channels ∷ []) ≡ None
    rest = none (is_none (gain_of gain)) (channels == channels) _ (ap is_none e) (same_number channels)

    by : (ty : SampleType) → creation_refusal (Some channels) d (code_of ty) channels 0 (pos 0) gain ≡ None
    by Mu255 = rest
    by Alaw = rest
    by Lin16 = rest
    by Lin32 = rest

pub context_made : (channels : ℕ → Option ℕ) (job : RecordJob) (device : DeviceInfo) → channels job.device ≡ Some device.channels → IsGain job.gain → contexts_after channels [] (record_context job device) ≡ arecord_context job device ∷ []
context_made channels job device there within =
    let ty = (recorded_sound job device).ty in
    let gain = gain_is job.gain within in
    let n = device.channels in
    let d = job.device in
    let asked = requested_context d 1 (code_of ty) 0 (pos 0) job.gain in
    let allowed : is_none (creation_refusal (channels d) d (code_of ty) n 0 (pos 0) job.gain) ≡ true =
    ap (λ o. is_none (creation_refusal o d (code_of ty) n 0 (pos 0) job.gain)) there ∙ ap is_none (creation_fits d n ty job.gain gain) in
    ap (λ b. cond (b && is_none (context_refusal 1 (creation [] 1))) (asked ∷ []) []) allowed ∙ ap (λ (c : Context). c ∷ [])
    (ap (λ t. record { ac = 1; device = d; ty = t; play_gain = pos 0; record_gain = unwrap_or (gain_of job.gain) (pos 0); preempt = false }) (type_again ty)
    ∙ ap (λ o. record { ac = 1; device = d; ty = ty; play_gain = pos 0; record_gain = unwrap_or o (pos 0); preempt = false }) gain)

pub record_fits : (channels : ℕ) (c : Context) (n : ℕ) → n * frame_bytes c.ty channels ≤ longest_record → record_refusal channels c (n * frame_bytes c.ty channels) ≡ None
unfolding record_refusal
record_fits channels c n small =
    let size = n * frame_bytes c.ty channels in
    none (nat_lt longest_record size) (are_frames channels c size) few (ap (λ m. m == 0) (mul-mod_left n (frame_bytes c.ty channels)))
  where
    few : nat_lt longest_record (n * frame_bytes c.ty channels) ≡ false
    few = grind (arith, nat_tests, small)

    none : (a b : Bool) → a ≡ false → b ≡ true → first_refusal (check a BadValue (n * frame_bytes c.ty channels) ∷ check (not b) BadValue (n * frame_bytes c.ty channels) ∷ []) ≡ None
    none false true e f = refl
    none true b e f = absurd cc
    none false false e f = absurd cc

-- What a device held

-- a window under a gain has what the device held
pub window_held : (past : DeviceState) (gain : ℤ) (channels time frames : ℕ) → HasHeld past gain channels time frames (map (λ x. gained x gain) (window channels past.captured past.begin past.now (horizon_of past) time frames))
window_held past gain channels time frames i channel low few =
    let f : ℕ → ℤ = λ j. recorded_sample channels past.captured past.begin past.now (horizon_of past) (time + j / channels) (j % channels) in
    let at = channels * i + channel in
    let within : at < channels * frames = place_before channels i frames channel low few in
    let long : length (map f (range_with_len 0 (channels * frames))) ≡ channels * frames = length-map-range_with_len f 0 (channels * frames) in
    get_or-map (λ x. gained x gain) (map f (range_with_len 0 (channels * frames))) at (pos 0) (pos 0) (omega (arith, within, long))
    ∙ ap (λ x. gained x gain) (get_or-map-range_with_len f 0 (channels * frames) at at (pos 0) within (omega arith)
    ∙ ap (λ m. recorded_sample channels past.captured past.begin past.now (horizon_of past) (time + m) (at % channels)) (frame_at channels i channel few)
    ∙ ap (recorded_sample channels past.captured past.begin past.now (horizon_of past) (time + i)) (channel_at channels i channel few))

pub window_size : (past : DeviceState) (gain : ℤ) (channels time frames : ℕ) → length (map (λ x. gained x gain) (window channels past.captured past.begin past.now (horizon_of past) time frames)) ≡ channels * frames
window_size past gain channels time frames =
    let f : ℕ → ℤ = λ j. recorded_sample channels past.captured past.begin past.now (horizon_of past) (time + j / channels) (j % channels) in
    length-map (window channels past.captured past.begin past.now (horizon_of past) time frames) (λ x. gained x gain) ∙ length-map-range_with_len f 0 (channels * frames)
