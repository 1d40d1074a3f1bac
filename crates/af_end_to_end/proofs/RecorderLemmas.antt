-- A client that only records: what the answers to its Records have.
use Rattle.std.proofs.Common.{◌≡◌, ◌≤◌, inl, inr, ℕ, ◌+◌, ◌*◌, ◌/◌, ◌%◌, ◌^◌, ◌==◌, Bool, true, false, cond, ℤ, pos, List, [], ◌∷◌, ◌++◌, length, map, option_map, slice_get, refl, sym, ap, ◌∙◌, subst, arith, Ok}
use Rattle.std.proofs.Math.Nat.{mul-div_cancel}
use Rattle.std.proofs.lemmas.List.Elements.{All-head, All-tail}
use Rattle.std.specs.declared.option.Option.{Option}
use Rattle.std.specs.declared.option.Option.TheVariants.{None, Some}
use Rattle.af_limits.specs.Limits.{longest_record}
use Rattle.af_time.specs.DeviceTime.{unwrap}
use Rattle.af_time.specs.declared.DevTime.{DevTime}
use Rattle.af_time.proofs.WholeTimeLemmas.{unwrap_meant}
use Rattle.af_sample.specs.Channels.{IsChannelCount}
use Rattle.af_sample.specs.Gains.{IsGain, gained}
use Rattle.af_sample.specs.SampleTypes.{code_of, frame_bytes}
use Rattle.af_sample.specs.Samples.{bytes_of}
use Rattle.af_sample.specs.Window.{window}
use Rattle.af_context.specs.declared.Context.{Context}
use Rattle.af_wire.specs.declared.order.Order.{Order}
use Rattle.af_wire.specs.Begins.{BeginsWith}
use Rattle.af_request.specs.Asked.{Asked, free_ac, get_time}
use Rattle.af_request.specs.Answer.{Answer, plain, recorded, time as time_answer}
use Rattle.af_request.specs.Opcodes as opcodes
use Rattle.af_request.specs.Replies.{IsReplyTo, reply_bytes}
use Rattle.af_request.specs.declared.reply.DeviceInfo.{DeviceInfo}
use Rattle.af_lib.specs.Calls.{Recorded, as_recorded, as_time, next_sequence, opcode_of}
use Rattle.af_cli.specs.declared.job.RecordJob.{RecordJob}
use Rattle.af_toolkit.specs.Trace.{ClientState, after_reply, answer_on}
use Rattle.af_tools.specs.declared.record.RecordedSound.{RecordedSound}
use Rattle.af_tools.specs.Record.{record_context, recorded_frame, recorded_sound}
use Rattle.af_model.specs.State.{Deferral, DeviceState, State}
use Rattle.af_model.specs.ContextRequests.{creation_refusal}
use Rattle.af_model.specs.Reply.{horizon_of, reply_message}
use Rattle.af_model.specs.Play.{frames_of}
use Rattle.af_model.specs.Record.{recorded_bytes}
use Rattle.af_model.specs.Perform.{channels_at}
use Rattle.af_model.proofs.BoolTestLemmas.{none_some, some_is}
use Rattle.af_model.proofs.ReplySizeLemmas.{recorded_size}
use Rattle.af_end_to_end.specs.Performing.{contexts_after, own_waiting}
use Rattle.af_end_to_end.specs.Told.{AreTold, IsAnswered, IsRecordAnswer, IsTold, WasSo}
use Rattle.af_end_to_end.specs.Arecord.{IsBlockRecorded, Stretch, arecord_requests, block_record, stretches}
use Rattle.af_end_to_end.proofs.AplayFitLemmas.{gain_is}
use Rattle.af_end_to_end.proofs.ReplyTakenLemmas.{none_after, none_answered, reply_answered, reply_passed}
use Rattle.af_end_to_end.proofs.ArecordTraceLemmas.{AreAnswered, TakenOne}
use Rattle.af_end_to_end.proofs.ArecordLemmas.{AreSmall, arecord_context, context_made, creation_fits, frame_some, next_word, record_fits, window_held, window_size}

-- What a client is told next

module _ (channels : ℕ → Option ℕ) (order : Order) (ds : List DeviceState) (ws : List Deferral) (extra : List ℕ) where
  -- a client that awaits the answers to these requests, of which some were performed, and what its link was told of these
  record Awaits (number : ℕ) (contexts : List Context) (requests : List Asked) (w : ClientState) : Type 0 where
    ordered : w.order ≡ order
    numbered : w.sequence ≡ number
    done : List Asked
    more : List Asked
    in_order : requests ≡ done ++ more
    replies : List ℕ
    told : AreTold channels order number ds ws contexts done replies
    input : w.input ++ extra ≡ replies

  -- it was told of the first of them
  record IsNext (number : ℕ) (contexts : List Context) (asked : Asked) (requests : List Asked) (w : ClientState) : Type 0 where
    done : List Asked
    more : List Asked
    in_order : requests ≡ done ++ more
    message : List ℕ
    after : List ℕ
    input : w.input ++ extra ≡ message ++ after
    is : IsTold channels order ((number + 1) % 2 ^ 16) ds contexts asked message
    told : AreTold channels order ((number + 1) % 2 ^ 16) ds ws (contexts_after channels contexts asked) done after

  is_next : (number : ℕ) (contexts : List Context) (asked : Asked) (requests : List Asked) (w : ClientState) → (w.input ≡ [] → ⊥) → Awaits number contexts (asked ∷ requests) w → IsNext number contexts asked requests w
  is_next number contexts asked requests w some a = by a.done a.in_order a.told
    where
      none : {A : Type 0} → a.replies ≡ [] → A
      none e = absurd (some (empty w.input (a.input ∙ e)))
        where
          empty : (l : List ℕ) → l ++ extra ≡ [] → l ≡ []
          empty [] e = refl
          empty (y ∷ l) e = absurd cc

      by : (done : List Asked) → asked ∷ requests ≡ done ++ a.more → AreTold channels order number ds ws contexts done a.replies → IsNext number contexts asked requests w
      by [] e t = none t.0
      by (b ∷ done) e (inr h) = none h.1
      by (b ∷ done) e (inl t) =
          let same : asked ≡ b = cc in
          let rest : requests ≡ done ++ a.more = cc in
          record {
            done = done;
            more = a.more;
            in_order = rest;
            message = t.0;
            after = t.1;
            input = a.input ∙ t.2;
            is = subst (λ y. IsTold channels order ((number + 1) % 2 ^ 16) ds contexts y t.0) (sym same) t.3;
            told = subst (λ y. AreTold channels order ((number + 1) % 2 ^ 16) ds ws (contexts_after channels contexts y) done t.1) (sym same) t.4;
          }

  -- and took the reply
  is_on : (number : ℕ) (contexts : List Context) (asked : Asked) (requests : List Asked) (w : ClientState) → Awaits number contexts (asked ∷ requests) w → (n : IsNext number contexts asked requests w) → (after_reply w).input ++ extra ≡ n.after →
      Awaits ((number + 1) % 2 ^ 16) (contexts_after channels contexts asked) requests (after_reply w)
  is_on number contexts asked requests w s n rest = record { ordered = s.ordered; numbered = ap next_sequence s.numbered; done = n.done; more = n.more; in_order = n.in_order; replies = n.after; told = n.told; input = rest }

  -- the reply is in its byte order, and has its number
  its_reply : (number : ℕ) (contexts : List Context) (requests : List Asked) (w : ClientState) (opcode : ℕ) (a : Answer) (message : List ℕ) → Awaits number contexts requests w → message ≡ reply_message order opcode a ((number + 1) % 2 ^ 16) → message ≡ reply_bytes w.order opcode a (next_sequence w.sequence)
  unfolding reply_message
  its_reply number contexts requests w opcode a message s is = is ∙ ap (λ m. reply_bytes order opcode a m) (sym (ap next_sequence s.numbered)) ∙ ap (λ o. reply_bytes o opcode a (next_sequence w.sequence)) (sym s.ordered)

  goes_on : {X : Type 0} (number : ℕ) (contexts : List Context) (asked : Asked) (requests : List Asked) (w : ClientState) (value_of : Answer → Option X) (x : X) (a : Answer) → answer_on asked value_of w ≡ Ok x → (s : Awaits number contexts (asked ∷ requests) w) → (n : IsNext number contexts asked requests w) →
      n.message ≡ reply_message order (opcode_of asked) a ((number + 1) % 2 ^ 16) → IsReplyTo (opcode_of asked) a → (value_of a ≡ Some x) × Awaits ((number + 1) % 2 ^ 16) (contexts_after channels contexts asked) requests (after_reply w)
  goes_on number contexts asked requests w value_of x a answer s n is reply =
      let t = reply_answered w asked value_of x answer extra n.message n.after a (its_reply number contexts (asked ∷ requests) w (opcode_of asked) a n.message s is) reply (omega arith) n.input in
      (t.value, is_on number contexts asked requests w s n t.rest)

-- the bytes that answered these Records are those of what the device held
abbrev pub AreHeld : List DeviceState → RecordJob → DeviceInfo → (start before : ℕ) → List TakenOne → Type 0
AreHeld devices job device start before [] = Unit {0}
AreHeld devices job device start before (b ∷ more) =
    IsBlockRecorded devices job device start (record { before = before; frames = b.frames }) b.taken.samples × AreHeld devices job device start (before + b.frames) more

module _ (job : RecordJob) (device : DeviceInfo) (channels : ℕ → Option ℕ) (order : Order) (ds : List DeviceState) (ws : List Deferral) (extra : List ℕ) (start : ℕ) (there : channels job.device ≡ Some device.channels) (shape : (d : ℕ) (x : DeviceState) → slice_get ds d ≡ Some x → channels d ≡ Some x.channels)
    (count : IsChannelCount device.channels) (gain : IsGain job.gain) where
  abbrev c : Context
  c = arecord_context job device

  abbrev sound : RecordedSound
  sound = recorded_sound job device

  abbrev frame : ℕ
  frame = recorded_frame sound

  -- the device that answered has the channels that the client was told
  past_channels : (past : DeviceState) → WasSo ds c.device past → past.channels ≡ device.channels
  past_channels past w = sym w.earlier.channels ∙ some_is (sym (shape job.device w.device w.is_there) ∙ there)

  -- a block that was recorded
  block_of : (block : Stretch) (number : ℕ) (message : List ℕ) (r : Recorded) (a : IsRecordAnswer order number ds c ((start + block.before) % 2 ^ 32) (block.frames * frame) message) →
      r.samples ≡ recorded_bytes c a.device (unwrap a.performed ((start + block.before) % 2 ^ 32)) (frames_of a.device.channels c (block.frames * frame)) → IsBlockRecorded ds job device start block r.samples
  unfolding recorded_bytes
  block_of block number message r a is =
      let word = (start + block.before) % 2 ^ 32 in
      let at = unwrap a.performed word in
      let same = past_channels a.device a.was_so in
      let some = frame_some sound.ty device.channels count in
      let whole : frames_of a.device.channels c (block.frames * frame) ≡ block.frames = ap (λ n. block.frames * frame / frame_bytes sound.ty n) same ∙ mul-div_cancel block.frames some in
      let heard : ℕ → ℕ → List ℤ = λ n frames. map (λ x. gained x job.gain) (window n a.device.captured a.device.begin a.device.now (horizon_of a.device) at frames) in
      record {
        performed = a.performed;
        time = at;
        meant = unwrap_meant a.performed word a.since_begin (omega arith);
        past = a.device;
        was_so = a.was_so;
        later = a.later;
        sound = heard device.channels block.frames;
        size = window_size a.device job.gain device.channels at block.frames;
        is = is ∙ ap (λ n. bytes_of sound.ty (heard n (frames_of a.device.channels c (block.frames * frame)))) same ∙ ap (λ n. bytes_of sound.ty (heard device.channels n)) whole;
        held = window_held a.device job.gain device.channels at block.frames;
      }

  -- the value of a Record is what was recorded
  taken_is : (size now : ℕ) (bytes : List ℕ) (r : Recorded) → as_recorded true size (recorded now bytes) ≡ Some r → r.samples ≡ bytes
  taken_is size now bytes r e = by (length bytes == size) e
    where
      by : (t : Bool) → cond t (Some (record { time = record { 0 = now }; samples = bytes })) None ≡ Some r → r.samples ≡ bytes
      by true e = sym (ap (λ (x : Recorded). x.samples) (some_is e))
      by false e = absurd (none_some e)

  blocks_held : (last : List Asked) (blocks : List TakenOne) (before at number : ℕ) (w end : ClientState) → at % 2 ^ 32 ≡ (start + before) % 2 ^ 32 → AreSmall frame (map (λ (b : TakenOne). b.frames) blocks) → AreAnswered sound at blocks w end →
      Awaits channels order ds ws extra number (c ∷ []) (map (block_record sound start) (stretches before (map (λ (b : TakenOne). b.frames) blocks)) ++ last) w → AreHeld ds job device start before blocks
  blocks_held last [] before at number w end word small h s = tt
  blocks_held last (b ∷ blocks) before at number w end word small h s =
      let stretch : Stretch = record { before = before; frames = b.frames } in
      let size = b.frames * frame in
      let asked = block_record sound start stretch in
      let rest = map (block_record sound start) (stretches (before + b.frames) (map (λ (b : TakenOne). b.frames) blocks)) ++ last in
      let answer : answer_on asked (as_recorded true size) w ≡ Ok b.taken = h.0 in
      let n = is_next channels order ds ws extra number (c ∷ []) asked rest w (λ e. none_answered w asked (as_recorded true size) b.taken answer e) s in
      let few : size ≤ longest_record = All-head (λ n. n * frame ≤ longest_record) b.frames (map (λ (b : TakenOne). b.frames) blocks) small in
      let a : IsRecordAnswer order ((number + 1) % 2 ^ 16) ds c ((start + before) % 2 ^ 32) size n.message = n.is c device.channels refl there (record_fits device.channels c b.frames few) in
      let frames = frames_of a.device.channels c size in
      let bytes = recorded_bytes c a.device (unwrap a.performed ((start + before) % 2 ^ 32)) frames in
      let long : length bytes ≤ longest_record = fits a.device (unwrap a.performed ((start + before) % 2 ^ 32)) b.frames (past_channels a.device a.was_so) few in
      let g = goes_on channels order ds ws extra number (c ∷ []) asked rest w (as_recorded true size) b.taken (recorded (a.device.now % 2 ^ 32) bytes) answer s n a.is (refl, omega arith, long) in
      let own : b.taken.samples ≡ bytes = taken_is size (a.device.now % 2 ^ 32) bytes b.taken g.0 in (
        block_of stretch ((number + 1) % 2 ^ 16) n.message b.taken a own,
        blocks_held last blocks (before + b.frames) ((at + b.frames) % 2 ^ 32) ((number + 1) % 2 ^ 16) (after_reply w) end (next_word start before b.frames at word) (All-tail (λ n. n * frame ≤ longest_record) b.frames (map (λ (b : TakenOne). b.frames) blocks) small) h.1 g.1,
      )
    where
      fits : (past : DeviceState) (at frames : ℕ) → past.channels ≡ device.channels → frames * frame ≤ longest_record → length (recorded_bytes c past at (frames_of past.channels c (frames * frame))) ≤ longest_record
      fits past at frames same few =
          let some = frame_some sound.ty device.channels count in
          let whole : frames_of past.channels c (frames * frame) ≡ frames = ap (λ n. frames * frame / frame_bytes sound.ty n) same ∙ mul-div_cancel frames some in
          let size : length (recorded_bytes c past at (frames_of past.channels c (frames * frame))) ≡ frames * frame =
          recorded_size c past at (frames_of past.channels c (frames * frame)) ∙ ap (λ n. n * frame_bytes sound.ty past.channels) whole ∙ ap (λ n. frames * frame_bytes sound.ty n) same in
          subst (λ n. n ≤ longest_record) (sym size) few

  -- the context is made, and the time is told
  begun : (tail : List Asked) (w : ClientState) (now : DevTime) → answer_on (get_time job.device) as_time (after_reply w) ≡ Ok now → Awaits channels order ds ws extra 0 [] (record_context job device ∷ get_time job.device ∷ tail) w →
      Awaits channels order ds ws extra 2 (c ∷ []) tail (after_reply (after_reply w))
  begun tail w now told zero =
      let made = record_context job device in
      let get = get_time job.device in
      let some : (after_reply w).input ≡ [] → ⊥ = λ e. none_answered (after_reply w) get as_time now told e in
      let n = is_next channels order ds ws extra 0 [] made (get ∷ tail) w (λ e. some (none_after w e)) zero in
      let fits : creation_refusal (channels job.device) job.device (code_of sound.ty) device.channels 0 (pos 0) job.gain ≡ None =
      ap (λ o. creation_refusal o job.device (code_of sound.ty) device.channels 0 (pos 0) job.gain) there ∙ creation_fits job.device device.channels sound.ty job.gain (gain_is job.gain gain) in
      let is = its_reply channels order ds ws extra 0 [] (made ∷ get ∷ tail) w opcodes.create_ac plain n.message zero (n.is fits refl) in
      let one = is_on channels order ds ws extra 0 [] made (get ∷ tail) w zero n (reply_passed w opcodes.create_ac extra n.message n.after plain some is refl (omega arith) n.input) in
      let second : Awaits channels order ds ws extra 1 (c ∷ []) (get ∷ tail) (after_reply w) = subst (λ x. Awaits channels order ds ws extra 1 x (get ∷ tail) (after_reply w)) (context_made channels job device there gain) one in
      let m = is_next channels order ds ws extra 1 (c ∷ []) get tail (after_reply w) some second in
      let t = m.is device.channels there in
      (goes_on channels order ds ws extra 1 (c ∷ []) get tail (after_reply w) as_time now (time_answer (t.0.now % 2 ^ 32)) told second m t.2 (refl, omega arith)).1

-- A client that records and goes by the first of what its link is told after its setup: its Records were answered with what the
-- device held.
module _ (job : RecordJob) (device : DeviceInfo) (k : ℕ) (s end : State) (w : ClientState) (start : ℕ) (blocks : List TakenOne) (lengths : List ℕ) (theirs : map (λ (b : TakenOne). b.frames) blocks ≡ lengths)
    (answers : IsAnswered k s end w.order (arecord_requests job device start (stretches 0 lengths))) (there : channels_at s.devices job.device ≡ Some device.channels) (count : IsChannelCount device.channels) (gain : IsGain job.gain) where
  shape : (i : ℕ) (x : DeviceState) → slice_get end.devices i ≡ Some x → channels_at s.devices i ≡ Some x.channels
  shape i x is = sym (answers.channels i) ∙ ap (option_map (λ (y : DeviceState). y.channels)) is

  pub all_held : BeginsWith w.input answers.replies → w.sequence ≡ 0 → (now : DevTime) → answer_on (get_time job.device) as_time (after_reply w) ≡ Ok now → AreSmall (recorded_frame (recorded_sound job device)) lengths → (last : ClientState) →
      AreAnswered (recorded_sound job device) start blocks (after_reply (after_reply w)) last → AreHeld end.devices job device start 0 blocks
  all_held first_of first now told small last answered =
      let channels = channels_at s.devices in
      let ds = end.devices in
      let ws = own_waiting k end.waiting in
      let extra = first_of.rest in
      let requests = arecord_requests job device start (stretches 0 (map (λ (b : TakenOne). b.frames) blocks)) in
      let tail = map (block_record (recorded_sound job device) start) (stretches 0 (map (λ (b : TakenOne). b.frames) blocks)) ++ free_ac 1 ∷ [] in
      let zero : Awaits channels w.order ds ws extra 0 [] requests w = record { ordered = refl; numbered = first; done = answers.done; more = answers.more; in_order = ap (λ l. arecord_requests job device start (stretches 0 l)) theirs ∙ answers.in_order; replies = answers.replies; told = answers.told; input = sym first_of.is } in
      let second = begun job device channels w.order ds ws extra start there shape count gain tail w now told zero in
      let word : start % 2 ^ 32 ≡ (start + 0) % 2 ^ 32 = omega arith in
      blocks_held job device channels w.order ds ws extra start there shape count gain (free_ac 1 ∷ []) blocks 0 start 2 (after_reply (after_reply w)) last word (subst (AreSmall (recorded_frame (recorded_sound job device))) (sym theirs) small) answered second
