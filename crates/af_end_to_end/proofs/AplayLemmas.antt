-- What aplay sends, as requests, and their plays.
use Rattle.std.proofs.Common.{◌≡◌, ◌<◌, ℕ, zero, suc, ◌+◌, ◌*◌, ◌/◌, ◌%◌, ◌^◌, ◌==◌, ◌&&◌, Bool, true, false, not, cond, ℤ, pos, List, [], ◌∷◌, ◌++◌, length, map, flat_map, nat_lt, is_none, refl, sym, ap, ◌∙◌, append-nil, arith, unwrap_or}
use Rattle.std.proofs.Math.Nat.{mul-div_cancel, mul-mod_left, zero-div}
use Rattle.std.proofs.lemmas.Bool.Decides.{nat_tests}
use Rattle.std.proofs.lemmas.Grind.{flat_map-append}
use Rattle.std.proofs.lemmas.List.{length-take-le}
use Rattle.std.proofs.lemmas.Simd.{map-map}
use Rattle.std.proofs.Math.Nat.{div-mul-le_self}
use Rattle.std.proofs.lemmas.List.Elements.{All-cons, All-nil}
use Rattle.std.proofs.lemmas.List.Sums.{fold-append}
use Rattle.std.specs.List.{All, fold}
use Rattle.std.specs.declared.option.Option.{Option}
use Rattle.std.specs.declared.option.Option.TheVariants.{None, Some}
use Rattle.af_sample.specs.declared.sample_type.SampleType.{SampleType}
use Rattle.af_sample.specs.declared.sample_type.SampleType.TheVariants.{Alaw, Lin16, Lin32, Mu255}
use Rattle.af_sample.specs.Channels.{frame_count}
use Rattle.af_sample.specs.Gains.{gain_of}
use Rattle.af_sample.specs.SampleTypes.{code_of, frame_bytes, type_of_code}
use Rattle.af_context.specs.declared.Context.{Context}
use Rattle.af_context.specs.Contexts.{creation}
use Rattle.af_wire.specs.declared.order.Order.{Order}
use Rattle.af_request.specs.Asked.{Asked, free_ac, get_time, record_run}
use Rattle.af_request.specs.Fields.{flag_byte}
use Rattle.af_request.specs.Requests.{request_bytes}
use Rattle.af_cli.specs.declared.job.PlayJob.{PlayJob}
use Rattle.af_tools.specs.declared.pace.Pace.{Pace}
use Rattle.af_tools.specs.Leaving.{drained, leaving_bytes}
use Rattle.af_tools.specs.Pacing.{awaited, waiting_bytes}
use Rattle.af_tools.specs.Play.{Block, TimedBlock, course_before, frames_in, play_context, played_whole, sent_after, timed_bytes, whole_frames}
use Rattle.af_model.specs.declared.refusal.RefusalCause.TheVariants.{BadMatch, BadValue}
use Rattle.af_model.specs.Checks.{check, check_gain, context_refusal, first_refusal}
use Rattle.af_model.specs.ContextRequests.{creation_refusal, requested_context}
use Rattle.af_model.specs.Play.{are_frames, sent_sound}
use Rattle.af_model.proofs.BoolTestLemmas.{same_number}
use Rattle.af_model.proofs.DueLemmas.{sent_frames}
use Rattle.af_end_to_end.specs.Sent.{spelled}
use Rattle.af_end_to_end.specs.Performing.{SentPlay, contexts_after, contexts_by, ends_prompt, is_prompt, play_by, play_on, plays_by}
use Rattle.af_end_to_end.specs.Aplay.{aplay_requests, block_play, block_requests, waiting_requests}
use Rattle.af_end_to_end.proofs.PlayerLemmas.{all_of_map, plays_each, spelled_each}

-- Its bytes are those of its requests

spelled_waiting : (order : Order) (frame : ℕ) (at : Option ℕ) → spelled order (waiting_requests frame at) ≡ waiting_bytes order frame at
spelled_waiting order frame None = refl
spelled_waiting order frame (Some at) = append-nil (request_bytes order (record_run true 1 at frame))

spelled_block : (order : Order) (pace : Pace) (timed : TimedBlock) → spelled order (block_requests pace timed) ≡ timed_bytes order pace timed
spelled_block order pace timed =
    let at = awaited pace (course_before timed) in
    let play = block_play pace timed.block in
    flat_map-append (request_bytes order) (waiting_requests pace.frame at) (play ∷ [])
    ∙ ap (λ l. l ++ (request_bytes order play ++ [])) (spelled_waiting order pace.frame at) ∙ ap (λ l. waiting_bytes order pace.frame at ++ l) (append-nil (request_bytes order play))

spelled_blocks : (order : Order) (pace : Pace) (timed : List TimedBlock) → spelled order (flat_map (block_requests pace) timed) ≡ flat_map (timed_bytes order pace) timed
spelled_blocks order pace timed = spelled_each order (block_requests pace) (timed_bytes order pace) (λ t. spelled_block order pace t) timed

pub spelled_aplay : (order : Order) (job : PlayJob) (ty : SampleType) (channels : ℕ) (pace : Pace) (timed : List TimedBlock) (frames : ℕ) → spelled order (aplay_requests job ty channels pace timed frames) ≡ played_whole order job ty channels pace timed frames
spelled_aplay order job ty channels pace timed frames =
    let last = drained job.drain pace.start.0 frames in
    let free = free_ac 1 in
    let leaving : spelled order (waiting_requests pace.frame last ++ free ∷ []) ≡ leaving_bytes order pace.frame last =
    flat_map-append (request_bytes order) (waiting_requests pace.frame last) (free ∷ []) ∙ ap (λ l. l ++ (request_bytes order free ++ [])) (spelled_waiting order pace.frame last)
    ∙ ap (λ l. waiting_bytes order pace.frame last ++ l) (append-nil (request_bytes order free)) in
    ap (λ l. request_bytes order (play_context job ty channels) ++ (request_bytes order (get_time job.device) ++ l))
    (flat_map-append (request_bytes order) (flat_map (block_requests pace) timed) (waiting_requests pace.frame last ++ free ∷ [])
    ∙ ap (λ l. l ++ spelled order (waiting_requests pace.frame last ++ free ∷ [])) (spelled_blocks order pace timed) ∙ ap (λ l. flat_map (timed_bytes order pace) timed ++ l) leaving)

-- the last one is never deferred
pub aplay_ends : (job : PlayJob) (ty : SampleType) (channels : ℕ) (pace : Pace) (timed : List TimedBlock) (frames : ℕ) → ends_prompt false (aplay_requests job ty channels pace timed frames) ≡ true
aplay_ends job ty channels pace timed frames =
    let f : Bool → Asked → Bool = λ b a. is_prompt a in
    let before = flat_map (block_requests pace) timed in
    let last = waiting_requests pace.frame (drained job.drain pace.start.0 frames) in
    fold-append f true before (last ++ free_ac 1 ∷ []) ∙ fold-append f (fold f true before) last (free_ac 1 ∷ [])

-- Its context

abbrev pub aplay_context : PlayJob → SampleType → Context
aplay_context job ty = record { ac = 1; device = job.device; ty = ty; play_gain = job.gain; record_gain = pos 0; preempt = job.preempt }

none_refused : (a b : Bool) (v m : ℕ) → a ≡ false → b ≡ true → first_refusal (check a BadValue v ∷ None ∷ check (not b) BadMatch m ∷ []) ≡ None
none_refused true b v m e f = absurd (clash e)
  where
    clash : true ≡ false → ⊥
    clash e = cc
none_refused false false v m e f = absurd (clash f)
  where
    clash : false ≡ true → ⊥
    clash e = cc
none_refused false true v m e f = refl

not_refused : (d channels : ℕ) (ty : SampleType) (preempt : Bool) (gain : ℤ) → gain_of gain ≡ Some gain → creation_refusal (Some channels) d (code_of ty) channels (flag_byte preempt) gain (pos 0) ≡ None
unfolding creation_refusal
not_refused d channels ty preempt gain e = by ty preempt
  where
    rest : first_refusal (check_gain gain ∷ None ∷ check (not (channels == channels)) BadMatch channels ∷ []) ≡ None
    rest = none_refused (is_none (gain_of gain)) (channels == channels) _ channels (ap is_none e) (same_number channels)

    by : (ty : SampleType) (preempt : Bool) → creation_refusal (Some channels) d (code_of ty) channels (flag_byte preempt) gain (pos 0) ≡ None
    by Mu255 true = rest
    by Mu255 false = rest
    by Alaw true = rest
    by Alaw false = rest
    by Lin16 true = rest
    by Lin16 false = rest
    by Lin32 true = rest
    by Lin32 false = rest

pub type_again : (ty : SampleType) → unwrap_or (type_of_code (code_of ty)) Lin16 ≡ ty
type_again Mu255 = refl
type_again Alaw = refl
type_again Lin16 = refl
type_again Lin32 = refl

flag_again : (b : Bool) → (flag_byte b == 1) ≡ b
flag_again true = refl
flag_again false = refl

pub context_made : (channels : ℕ → Option ℕ) (job : PlayJob) (ty : SampleType) (n : ℕ) → channels job.device ≡ Some n → gain_of job.gain ≡ Some job.gain → contexts_after channels [] (play_context job ty n) ≡ aplay_context job ty ∷ []
context_made channels job ty n there gain =
    let asked = requested_context job.device 1 (code_of ty) (flag_byte job.preempt) job.gain (pos 0) in
    let allowed : is_none (creation_refusal (channels job.device) job.device (code_of ty) n (flag_byte job.preempt) job.gain (pos 0)) ≡ true =
    ap (λ o. is_none (creation_refusal o job.device (code_of ty) n (flag_byte job.preempt) job.gain (pos 0))) there ∙ ap is_none (not_refused job.device n ty job.preempt job.gain gain) in
    ap (λ b. cond (b && is_none (context_refusal 1 (creation [] 1))) (asked ∷ []) []) allowed ∙ ap (λ (c : Context). c ∷ [])
    (ap (λ t. record { ac = 1; device = job.device; ty = t; play_gain = unwrap_or (gain_of job.gain) (pos 0); record_gain = pos 0; preempt = flag_byte job.preempt == 1 }) (type_again ty)
    ∙ ap (λ o. record { ac = 1; device = job.device; ty = ty; play_gain = unwrap_or o (pos 0); record_gain = pos 0; preempt = flag_byte job.preempt == 1 }) gain
    ∙ ap (λ b. record { ac = 1; device = job.device; ty = ty; play_gain = job.gain; record_gain = pos 0; preempt = b }) (flag_again job.preempt))

-- Its blocks

-- bytes that are whole frames, and one at least
pub record IsWhole (width : ℕ) (bytes : List ℕ) : Type 0 where
  pub count : ℕ
  pub some : 0 < count
  pub size : length bytes ≡ count * width

whole_block : (width : ℕ) (block : List ℕ) → nat_lt 0 (frames_in width block) ≡ true → IsWhole width (whole_frames width block)
whole_block width block some = record {
  count = frames_in width block;
  some = grind (arith, nat_tests, some);
  size = length-take-le (frames_in width block * width) block (div-mul-le_self (length block) width);
}

pub all_whole : (width before : ℕ) (blocks : List (List ℕ)) → All (λ (b : Block). IsWhole width b.bytes) (sent_after width before blocks)
all_whole width before [] = All-nil (λ (b : Block). IsWhole width b.bytes)
all_whole width before (block ∷ more) =
    elim (nat_lt 0 (frames_in width block)) as (λ t. nat_lt 0 (frames_in width block) ≡ t → All (λ (b : Block). IsWhole width b.bytes) (cond t ((record { before = before; bytes = whole_frames width block }) ∷ sent_after width (before + frames_in width block) more) [])) [
      | true ↦ λ some. All-cons (λ (b : Block). IsWhole width b.bytes) (record { before = before; bytes = whole_frames width block }) (sent_after width (before + frames_in width block) more) (whole_block width block some) (all_whole width (before + frames_in width block) more)
      | false ↦ λ none. All-nil (λ (b : Block). IsWhole width b.bytes)
    ] refl

-- a whole block is a play
pub is_play : (channels : ℕ → Option ℕ) (c : Context) (n : ℕ) (time : ℕ) (bytes : List ℕ) → channels c.device ≡ Some n → 0 < frame_bytes c.ty n → IsWhole (frame_bytes c.ty n) bytes → play_by channels (Some c) time bytes ≡ record { context = c; time = time; bytes = bytes } ∷ []
is_play channels c n time bytes there small whole =
    let sent : SentPlay = record { context = c; time = time; bytes = bytes } in
    ap (λ o. play_on o c time bytes) there
    ∙ ap (λ b. cond (b && not (length (sent_sound c bytes) == 0)) (sent ∷ []) []) frames ∙ ap (λ b. cond (not b) (sent ∷ []) []) some
  where
    width : ℕ
    width = frame_bytes c.ty n

    frames : are_frames n c (length bytes) ≡ true
    frames =
        let rem : length bytes % frame_bytes c.ty n ≡ 0 = ap (λ m. m % frame_bytes c.ty n) whole.size ∙ mul-mod_left whole.count (frame_bytes c.ty n) in
        ap (λ m. m == 0) rem

    counted : frame_count n (sent_sound c bytes) ≡ whole.count
    counted = sent_frames n c bytes ∙ ap (λ m. m / frame_bytes c.ty n) whole.size ∙ mul-div_cancel whole.count small

    some : (length (sent_sound c bytes) == 0) ≡ false
    some = tested (length (sent_sound c bytes)) whole.count counted whole.some
      where
        tested : (m count : ℕ) → m / n ≡ count → 0 < count → (m == 0) ≡ false
        tested zero count e some = absurd (none (zero-div n ∙ refl) e some)
          where
            none : zero / n ≡ zero → zero / n ≡ count → 0 < count → ⊥
            none a b c = omega (arith, a, b, c)
        tested (suc m) count e some = grind (arith, nat_tests)

abbrev pub sent_block : Context → Pace → Block → SentPlay
sent_block c pace block = record { context = c; time = (pace.start.0 + block.before) % 2 ^ 32; bytes = block.bytes }

-- waiting leaves the contexts, and is no play
waiting_none : (channels : ℕ → Option ℕ) (contexts : List Context) (frame : ℕ) (at : Option ℕ) (more : List Asked) → plays_by channels contexts (waiting_requests frame at ++ more) ≡ plays_by channels contexts more
waiting_none channels contexts frame None more = refl
waiting_none channels contexts frame (Some at) more = refl

block_leaves : (channels : ℕ → Option ℕ) (contexts : List Context) (pace : Pace) (timed : TimedBlock) → contexts_by channels contexts (block_requests pace timed) ≡ contexts
block_leaves channels contexts pace timed = by (awaited pace (course_before timed))
  where
    by : (at : Option ℕ) → contexts_by channels contexts (waiting_requests pace.frame at ++ block_play pace timed.block ∷ []) ≡ contexts
    by None = refl
    by (Some at) = refl

module _ (channels : ℕ → Option ℕ) (job : PlayJob) (ty : SampleType) (n : ℕ) (pace : Pace) (there : channels job.device ≡ Some n) (small : 0 < frame_bytes ty n) where
  abbrev c : Context
  c = aplay_context job ty

  abbrev own : List Context
  own = c ∷ []

  one_block_plays : (timed : TimedBlock) → IsWhole (frame_bytes ty n) timed.block.bytes → plays_by channels own (block_requests pace timed) ≡ sent_block c pace timed.block ∷ []
  one_block_plays timed whole =
      waiting_none channels own pace.frame (awaited pace (course_before timed)) (block_play pace timed.block ∷ [])
      ∙ ap (λ l. l ++ []) (is_play channels c n ((pace.start.0 + timed.block.before) % 2 ^ 32) timed.block.bytes there small whole)

  blocks_play : (timed : List TimedBlock) (more : List Asked) → All (λ (b : Block). IsWhole (frame_bytes ty n) b.bytes) (map (λ t. t.block) timed) →
      plays_by channels own (flat_map (block_requests pace) timed ++ more) ≡ map (sent_block c pace) (map (λ t. t.block) timed) ++ plays_by channels own more
  blocks_play timed more whole =
      plays_each channels own (block_requests pace) (λ t. sent_block c pace t.block) (λ t. IsWhole (frame_bytes ty n) t.block.bytes) (λ t. block_leaves channels own pace t) (λ t w. one_block_plays t w) timed more (all_of_map (λ (b : Block). IsWhole (frame_bytes ty n) b.bytes) (λ t. t.block) timed whole)
      ∙ ap (λ l. l ++ plays_by channels own more) (sym (map-map (sent_block c pace) (λ (t : TimedBlock). t.block) timed))

  pub aplay_plays : (timed : List TimedBlock) (frames : ℕ) → gain_of job.gain ≡ Some job.gain → All (λ (b : Block). IsWhole (frame_bytes ty n) b.bytes) (map (λ t. t.block) timed) →
      plays_by channels [] (aplay_requests job ty n pace timed frames) ≡ map (sent_block c pace) (map (λ t. t.block) timed)
  aplay_plays timed frames gain whole =
      let last = drained job.drain pace.start.0 frames in
      let leaving = waiting_requests pace.frame last ++ free_ac 1 ∷ [] in
      let tail = flat_map (block_requests pace) timed ++ leaving in
      ap (λ x. plays_by channels x (get_time job.device ∷ tail)) (context_made channels job ty n there gain)
      ∙ blocks_play timed leaving whole ∙ ap (λ l. map (sent_block c pace) (map (λ t. t.block) timed) ++ l) (waiting_none channels own pace.frame last (free_ac 1 ∷ [])) ∙ append-nil (map (sent_block c pace) (map (λ t. t.block) timed))
