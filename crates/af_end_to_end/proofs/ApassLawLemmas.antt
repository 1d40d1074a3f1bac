-- From a device of one server to a device of another.
use Rattle.std.proofs.Common.{◌≡◌, ◌≤◌, ◌<◌, ℕ, zero, suc, ◌+◌, ◌-◌, ◌*◌, ◌/◌, true, false, ℤ, pos, List, [], ◌∷◌, ◌++◌, length, map, flat_map, drop, option_map, slice_get, refl, sym, ap, ◌∙◌, subst, append-nil, arith, length-append, FitsSigned}
use Rattle.std.proofs.Math.Nat.{div-mul-le_self, mul-div_cancel}
use Rattle.std.proofs.lemmas.Option.{slice_get-map}
use Rattle.std.proofs.lemmas.Nat.{mul-le}
use Rattle.std.proofs.lemmas.List.{length-drop, length-map, length-take-le}
use Rattle.std.proofs.lemmas.List.Elements.{All-append, All-cons, All-head, All-nil, All-tail}
use Rattle.std.proofs.lemmas.List.Sums.{fold-append}
use Rattle.std.specs.Int.{w16}
use Rattle.std.specs.List.{All}
use Rattle.std.specs.declared.option.Option.{Option}
use Rattle.std.specs.declared.option.Option.TheVariants.{None, Some}
use Rattle.af_limits.specs.Limits.{longest_play}
use Rattle.af_sample.specs.declared.sample_type.SampleType.{SampleType}
use Rattle.af_sample.specs.Channels.{IsChannelCount, frame_count}
use Rattle.af_sample.specs.Gains.{IsGain}
use Rattle.af_sample.specs.Heard.{AcceptedPlay}
use Rattle.af_sample.specs.Rates.{IsListedRate}
use Rattle.af_sample.specs.Samples.{bytes_of}
use Rattle.af_context.specs.declared.Context.{Context}
use Rattle.af_wire.specs.Begins.{BeginsWith}
use Rattle.af_wire.specs.Front.{setup_bytes}
use Rattle.af_request.specs.Asked.{Asked, free_ac, get_time, play_run}
use Rattle.af_request.specs.Requests.{IsWritable, request_bytes}
use Rattle.af_request.specs.declared.reply.DeviceInfo.{DeviceInfo}
use Rattle.af_world.specs.declared.happening.Happening.TheVariants.{Emitted}
use Rattle.af_world.specs.declared.script.DeviceSpec.{DeviceSpec}
use Rattle.af_world.specs.Log.{Log}
use Rattle.af_lib.specs.Calls.{Recorded}
use Rattle.af_cli.specs.declared.job.PassJob.{PassJob}
use Rattle.af_cli.specs.declared.job.PlayJob.{PlayJob}
use Rattle.af_cli.specs.Sizes.{greatest_block}
use Rattle.af_cli.proofs.FrameSizeLemmas.{by_size, frame_size}
use Rattle.af_toolkit.specs.Trace.{ClientState, after_reply}
use Rattle.af_tools.specs.Record.{record_context, recorded_frame, recorded_sound}
use Rattle.af_relay.specs.declared.pass.RelayPace.{RelayPace}
use Rattle.af_relay.specs.declared.pass.LastFrame.{LastFrame}
use Rattle.af_relay.specs.declared.pass.LastFrame.TheVariants.{Once, Twice, LeftOut}
use Rattle.af_relay.specs.Pass.{RelayDeeds, block_count, frames_played, pace_from, played_samples, to_context, type_from}
use Rattle.af_relay.specs.Relayed.{PassedBlock, Relayed}
use Rattle.af_model.specs.State.{DeviceState, State}
use Rattle.af_model.specs.Controls.{through_control}
use Rattle.af_model.specs.Perform.{channels_at}
use Rattle.af_model.specs.Play.{sent_sound}
use Rattle.af_model.proofs.BoolTestLemmas.{none_some, some_is}
use Rattle.af_model.proofs.DueLemmas.{sent_frames}
use Rattle.af_model.proofs.SafeLemmas.{all_at}
use Rattle.af_end_to_end.specs.Sent.{client_bytes, spelled}
use Rattle.af_end_to_end.specs.Performing.{SentPlay, ends_prompt, is_prompt, own_waiting, plays_by}
use Rattle.af_end_to_end.specs.Playing.{PlayedAt, given_in, plays_in, requests_of}
use Rattle.af_end_to_end.specs.Sounding.{HasSamplesOf, IsAlone, IsHeard, IsInTime, IsSounded, log_of, sample_at}
use Rattle.af_end_to_end.specs.Told.{IsAnswered}
use Rattle.af_end_to_end.specs.Arecord.{IsBlockRecorded, arecord_requests, stretches}
use Rattle.af_end_to_end.specs.Apass.{ApassIsHeard, ArePlaces, ArePlayedInTime, HasBlock, IsBlockPassed, IsRelayHeard, IsSoundPlayed, LinkRun, RunsLink, block_lengths, block_requests, from_requests, last_state, passed_sample, recorder, to_requests}
use Rattle.af_end_to_end.proofs.AnsweringLemmas.{is_answered}
use Rattle.af_end_to_end.proofs.SoundingLemmas.{is_heard}
use Rattle.af_end_to_end.proofs.AplayLemmas.{aplay_context, context_made, is_play}
use Rattle.af_end_to_end.proofs.PlayerLemmas.{all_of_map, fits_each, its_play, mapped, plays_each}
use Rattle.af_end_to_end.proofs.ArecordTraceLemmas.{TakenOne}
use Rattle.af_end_to_end.proofs.ArecordLemmas.{AreSmall, arecord_fits, arecord_records, block_some, frame_some, spelled_arecord}
use Rattle.af_end_to_end.proofs.RecorderLemmas.{AreHeld, all_held}
use Rattle.af_end_to_end.proofs.ApassLemmas.{AreReplied, IsSent, all_sent, all_small, are_replied, gaps_are, spelled_relay, taken_one, their_frames}
use Rattle.af_end_to_end.proofs.ApassSoundLemmas.{played_coded}

-- Its blocks as plays

all_both : {X : Type 0} (P Q : X → Type 0) (xs : List X) → All P xs → All Q xs → All (λ x. P x × Q x) xs
all_both P Q [] h k = All-nil (λ x. P x × Q x)
all_both P Q (x ∷ xs) h k = All-cons (λ x. P x × Q x) x xs (All-head P x xs h, All-head Q x xs k) (all_both P Q xs (All-tail P x xs h) (All-tail Q x xs k))

-- what is played of a block is whole frames
played_size : (last : LastFrame) (frames frame : ℕ) (samples : List ℕ) → length samples ≡ frames * frame → 0 < frames → length (played_samples last frame samples) ≡ frames_played last frames * frame
played_size last frames frame samples size some = by last
  where
    less : (n m : ℕ) → 0 < n → n * m ≡ (n - 1) * m + m
    less zero m some = absurd (omega (arith, some))
    less (suc n) m some = grind arith

    again : (n m : ℕ) → (n + 1) * m ≡ n * m + m
    again n m = grind arith

    by : (last : LastFrame) → length (played_samples last frame samples) ≡ frames_played last frames * frame
    by Once = size
    by Twice =
        let whole = length-append samples (drop (length samples - frame) samples) in
        let end = length-drop (length samples - frame) samples in
        let one = less frames frame some in
        let two = again frames frame in
        omega (arith, whole, end, one, two, size)
    by LeftOut = let one = less frames frame some in length-take-le (length samples - frame) samples (omega arith) ∙ omega (arith, one, size)

-- a relay plays as an aplay does at gain 0
abbrev player : PassJob → PlayJob
player job = record { device = job.to_device; form = None; ty = None; gain = pos 0; block = job.block; lead = 0; time = None; ahead = None; preempt = false; drain = false; strict = false }

module _ (job : PassJob) (device : DeviceInfo) (count : IsChannelCount device.channels) (some : 0 < job.block) where
  abbrev pace : RelayPace
  pace = pace_from job device

  abbrev ty : SampleType
  ty = type_from job device

  abbrev c : Context
  c = aplay_context (player job) ty

  abbrev sent : PassedBlock → SentPlay
  sent b = record { context = c; time = b.time.0; bytes = played_samples b.last pace.frame b.samples }

  abbrev IsBlock : PassedBlock → Type 0
  IsBlock b = IsSent pace b × (length b.samples ≡ pace.size)

  frame_positive : 0 < pace.frame
  frame_positive = frame_some ty device.channels count

  frames_positive : 0 < pace.frames
  frames_positive = block_some ty device.channels job.block count some

  size_of : (b : PassedBlock) → IsBlock b → length (played_samples b.last pace.frame b.samples) ≡ frames_played b.last pace.frames * pace.frame
  size_of b h = played_size b.last pace.frames pace.frame b.samples h.1 frames_positive

  few_of : (b : PassedBlock) → IsBlock b → length (played_samples b.last pace.frame b.samples) ≤ longest_play
  few_of b h =
      let width : pace.frame ≤ 8 = by_size (λ w. w ≤ 8) (omega arith) (omega arith) (omega arith) (omega arith) pace.frame (frame_size ty device.channels count) in
      let most : greatest_block / pace.frame * pace.frame ≤ greatest_block = div-mul-le_self greatest_block pace.frame in
      let block : pace.frames * pace.frame ≤ greatest_block / pace.frame * pace.frame = mul-le pace.frames pace.frame (greatest_block / pace.frame) pace.frame (omega arith) (omega arith) in
      let more : frames_played b.last pace.frames * pace.frame ≤ pace.frames * pace.frame + pace.frame = by b.last in
      omega (arith, size_of b h, more, block, most, width)
    where
      next : (n m : ℕ) → (n + 1) * m ≡ n * m + m
      next n m = grind arith

      by : (last : LastFrame) → frames_played last pace.frames * pace.frame ≤ pace.frames * pace.frame + pace.frame
      by Once = omega arith
      by Twice = let e = next pace.frames pace.frame in omega (arith, e)
      by LeftOut = let few = mul-le (pace.frames - 1) pace.frame pace.frames pace.frame (omega arith) (omega arith) in omega (arith, few)

  relay_fits : (blocks : List PassedBlock) → All IsBlock blocks → All IsWritable (to_requests job device blocks)
  relay_fits blocks all =
      All-cons IsWritable (to_context job ty device.channels) (flat_map (block_requests job pace.frame) blocks ++ free_ac 1 ∷ []) (omega arith, gain_fits, gain_fits)
      (All-append IsWritable (flat_map (block_requests job pace.frame) blocks) (free_ac 1 ∷ []) (fits_each (block_requests job pace.frame) IsBlock one blocks all) (All-cons IsWritable (free_ac 1) [] (omega arith) (All-nil IsWritable)))
    where
      gain_fits : FitsSigned w16 (pos 0)
      gain_fits = grind arith

      one : (b : PassedBlock) → IsBlock b → All IsWritable (block_requests job pace.frame b)
      one b h = All-cons IsWritable (get_time job.to_device) (play_run false 1 b.time.0 (played_samples b.last pace.frame b.samples) ∷ []) tt (All-cons IsWritable (play_run false 1 b.time.0 (played_samples b.last pace.frame b.samples)) [] (omega arith, h.0.word, few_of b h) (All-nil IsWritable))

  -- each is a play
  relay_plays : (channels : ℕ → Option ℕ) → channels job.to_device ≡ Some device.channels → (blocks : List PassedBlock) → All IsBlock blocks → plays_by channels [] (to_requests job device blocks) ≡ map sent blocks
  relay_plays channels there blocks all =
      let own = c ∷ [] in
      let middle = flat_map (block_requests job pace.frame) blocks in
      ap (λ x. plays_by channels x (middle ++ free_ac 1 ∷ [])) (context_made channels (player job) ty device.channels there refl)
      ∙ plays_each channels own (block_requests job pace.frame) sent IsBlock (λ b. refl) one blocks (free_ac 1 ∷ []) all ∙ append-nil (map sent blocks)
    where
      one : (b : PassedBlock) → IsBlock b → plays_by channels (c ∷ []) (block_requests job pace.frame b) ≡ sent b ∷ []
      one b h = ap (λ l. l ++ []) (is_play channels c device.channels b.time.0 (played_samples b.last pace.frame b.samples) there frame_positive (record { count = frames_played b.last pace.frames; some = h.0.some; size = size_of b h }))

  -- the last request is never deferred
  relay_ends : (blocks : List PassedBlock) → ends_prompt false (to_requests job device blocks) ≡ true
  relay_ends blocks = fold-append (λ b a. is_prompt a) true (flat_map (block_requests job pace.frame) blocks) (free_ac 1 ∷ [])

-- A block in what a device emits

block_has : (d : DeviceState) (count : ℕ) (emitted : List ℤ) (accepted : List AcceptedPlay) (at : ℕ) (entry : AcceptedPlay) (channels n place : ℕ) (sample : ℕ → ℕ → ℤ) → entry.start ≡ place → frame_count channels entry.samples ≡ n →
    ((f c : ℕ) → f < n → c < channels → sample_at channels entry.samples f c ≡ sample f c) → HasSamplesOf d count emitted accepted at entry → HasBlock d count emitted channels n place at accepted sample
block_has d count emitted accepted at entry channels n place sample start size samples has f c low few shape early late alone =
    let through : ℤ → ℤ = through_control d.controls.output_on d.controls.output_gain in
    let low' : f < frame_count d.channels entry.samples = subst (λ m. f < frame_count m entry.samples) (sym shape) (subst (λ m. f < m) (sym size) low) in
    let alone' : IsAlone d.channels accepted at (entry.start + f) = subst (λ s. IsAlone d.channels accepted at (s + f)) (sym start) (subst (λ m. IsAlone m accepted at (place + f)) (sym shape) alone) in
    let here = has f c low' (subst (λ m. c < m) (sym shape) few) (subst (λ s. d.now ≤ s + f) (sym start) early) (subst (λ s. s + f < d.now + count) (sym start) late) alone' in
    subst (λ m. sample_at m emitted (place + f - d.now) c ≡ through (sample_at m entry.samples f c)) shape (subst (λ s. sample_at d.channels emitted (s + f - d.now) c ≡ through (sample_at d.channels entry.samples f c)) start here)
    ∙ ap through (samples f c low few)

-- A Record of a relay at its place

held_at : (devices : List DeviceState) (job : PassJob) (device : DeviceInfo) (start : ℕ) (answers : List Recorded) (before i : ℕ) (r : Recorded) → slice_get answers i ≡ Some r → AreHeld devices (recorder job) device start before (map (taken_one (pace_from job device).frames) answers) →
    IsBlockRecorded devices (recorder job) device start (record { before = before + i * (pace_from job device).frames; frames = (pace_from job device).frames }) r.samples
held_at devices job device start [] before i r e held = absurd (none_some e)
held_at devices job device start (x ∷ answers) before zero r e held =
    let none : before ≡ before + 0 * (pace_from job device).frames = omega arith in
    subst (λ (y : Recorded). IsBlockRecorded devices (recorder job) device start (record { before = before + 0 * (pace_from job device).frames; frames = (pace_from job device).frames }) y.samples) (some_is e)
    (subst (λ n. IsBlockRecorded devices (recorder job) device start (record { before = n; frames = (pace_from job device).frames }) x.samples) none held.0)
held_at devices job device start (x ∷ answers) before (suc i) r e held =
    let frames = (pace_from job device).frames in
    subst (λ n. IsBlockRecorded devices (recorder job) device start (record { before = n; frames = frames }) r.samples) (next before i frames) (held_at devices job device start answers (before + frames) i r e held.1)
  where
    next : (before i n : ℕ) → before + n + i * n ≡ before + suc i * n
    next before i n = grind arith

-- A relay in two runs

module _ (from_config to_config : List DeviceSpec) (from to : LinkRun) (listed : All (λ c. IsListedRate c.rate) to_config) (job : PassJob) (device : DeviceInfo) (v w : ClientState) (did : RelayDeeds) (r : Relayed job device v w did)
    (a : RunsLink from_config from (setup_bytes v.order ++ did.from)) (b : RunsLink to_config to (setup_bytes w.order ++ did.to)) (there_from : channels_at from.opened.devices job.from_device ≡ Some device.channels) (there_to : channels_at to.opened.devices job.to_device ≡ Some device.channels)
    (count : IsChannelCount device.channels) (gain : IsGain job.gain) (some : 0 < job.block) (first : v.sequence ≡ 0) where
  abbrev number : ℕ
  number = block_count job.blocks

  abbrev recorded_pace : RelayPace
  recorded_pace = pace_from job device

  abbrev second : ClientState
  second = after_reply (after_reply v)

  replied : AreReplied job device number r.start second
  replied = are_replied job device number r.start second (ap length (sym r.bytes) ∙ length-map r.blocks (λ (b : PassedBlock). b.samples) ∙ r.number)

  abbrev taken : List TakenOne
  taken = map (taken_one recorded_pace.frames) replied.answers

  theirs : map (λ (b : TakenOne). b.frames) taken ≡ block_lengths job device
  theirs = their_frames job device number replied.answers replied.size

  abbrev recorded_requests : List Asked
  recorded_requests = from_requests job device r.start.0

  small : AreSmall (recorded_frame (recorded_sound (recorder job) device)) (block_lengths job device)
  small = all_small job device number

  its_records : BeginsWith (given_in from.number from.turns) (client_bytes v.order recorded_requests)
  its_records =
      let free = request_bytes v.order (free_ac 1) in
      let spells : spelled v.order recorded_requests ≡ did.from =
      ap (λ l. spelled v.order (arecord_requests (recorder job) device r.start.0 (stretches 0 l))) (sym theirs) ∙ spelled_arecord v.order (recorder job) device r.start.0 taken
      ∙ ap (λ l. request_bytes v.order (record_context (recorder job) device) ++ (request_bytes v.order (get_time job.from_device) ++ (l ++ free))) (sym (replied.asked v.order)) ∙ sym r.recorded in
      record { rest = a.gives.rest; is = ap (λ b. setup_bytes v.order ++ b) spells ∙ a.gives.is }

  answers : IsAnswered from.number from.opened (last_state from) v.order recorded_requests
  answers =
      is_answered from_config from.log from.opened a.leads from.number a.link from.turns a.is_open a.fresh a.are_turns a.stays v.order recorded_requests
      (arecord_fits (recorder job) device r.start.0 (block_lengths job device) gain small) (arecord_records (recorder job) device r.start.0 (block_lengths job device)) its_records

  are_blocks : All (IsBlock job device count some) r.blocks
  are_blocks =
      all_both (IsSent recorded_pace) (λ b. length b.samples ≡ recorded_pace.size) r.blocks (all_sent recorded_pace None r.blocks (frames_positive job device count some) tt r.stepped)
      (all_of_map (λ (l : List ℕ). length l ≡ recorded_pace.size) (λ (b : PassedBlock). b.samples) r.blocks (subst (All (λ (l : List ℕ). length l ≡ recorded_pace.size)) (sym r.bytes) replied.whole))

  abbrev played_requests : List Asked
  played_requests = to_requests job device r.blocks

  its_plays : BeginsWith (given_in to.number to.turns) (client_bytes w.order played_requests)
  its_plays = record { rest = b.gives.rest; is = ap (λ l. setup_bytes w.order ++ l) (spelled_relay w.order job device r.blocks ∙ sym r.played) ∙ b.gives.is }

  heard : IsHeard to.log to.number to.opened b.link to.turns played_requests
  heard = is_heard to_config to.log to.opened listed b.leads to.number b.link to.turns b.is_open b.fresh.new b.are_turns b.stays w.order played_requests (relay_fits job device count some r.blocks are_blocks) its_plays

  abbrev all : Log
  all = to.log ++ log_of to.turns

  abbrev end : State
  end = last_state to

  abbrev plays : List PlayedAt
  plays = plays_in (channels_at to.opened.devices) [] heard.plays_on.done

  -- a block that was recorded
  its_record : BeginsWith v.input answers.replies → (i : ℕ) (block : PassedBlock) → slice_get r.blocks i ≡ Some block →
      IsBlockRecorded (last_state from).devices (recorder job) device r.start.0 (record { before = i * recorded_pace.frames; frames = recorded_pace.frames }) block.samples
  its_record of_told i block at = by (slice_get replied.answers i) refl
    where
      held : AreHeld (last_state from).devices (recorder job) device r.start.0 0 taken
      held = all_held (recorder job) device from.number from.opened (last_state from) v r.start.0 taken (block_lengths job device) theirs answers there_from count gain of_told first r.start r.started small replied.end replied.answered

      bytes : option_map (λ (x : Recorded). x.samples) (slice_get replied.answers i) ≡ Some block.samples
      bytes = sym (slice_get-map (λ (x : Recorded). x.samples) replied.answers i) ∙ ap (λ l. slice_get l i) (replied.bytes ∙ sym r.bytes) ∙ mapped (λ (b : PassedBlock). b.samples) r.blocks i block at

      none_before : 0 + i * recorded_pace.frames ≡ i * recorded_pace.frames
      none_before = omega arith

      by : (o : Option Recorded) → slice_get replied.answers i ≡ o → IsBlockRecorded (last_state from).devices (recorder job) device r.start.0 (record { before = i * recorded_pace.frames; frames = recorded_pace.frames }) block.samples
      by None e = absurd (none_some (ap (option_map (λ (x : Recorded). x.samples)) (sym e) ∙ bytes))
      by (Some x) e =
          let same : x.samples ≡ block.samples = some_is (ap (option_map (λ (x : Recorded). x.samples)) (sym e) ∙ bytes) in
          subst (λ l. IsBlockRecorded (last_state from).devices (recorder job) device r.start.0 (record { before = i * recorded_pace.frames; frames = recorded_pace.frames }) l) same
          (subst (λ n. IsBlockRecorded (last_state from).devices (recorder job) device r.start.0 (record { before = n; frames = recorded_pace.frames }) x.samples) none_before (held_at (last_state from).devices job device r.start.0 replied.answers 0 i x e held))

  -- a block that was played
  module _ (block : PassedBlock) (is_block : IsBlock job device count some block) (place : ℕ) (x : PlayedAt) (same : x.sent ≡ sent job device count some block) (h : IsSounded all end x place) (sound : List ℤ) (size : length sound ≡ device.channels * recorded_pace.frames) (bytes : block.samples ≡ bytes_of (ty job device count some) sound) where
    abbrev n : ℕ
    n = frames_played block.last recorded_pace.frames

    abbrev sample : ℕ → ℕ → ℤ
    sample = passed_sample (ty job device count some) device.channels recorded_pace.frames sound

    its : h.entry.samples ≡ sent_sound (c job device count some) (played_samples block.last recorded_pace.frame block.samples)
    its = h.is_its.samples ∙ ap (λ (y : SentPlay). sent_sound y.context y.bytes) same

    its_count : frame_count device.channels h.entry.samples ≡ n
    its_count =
        ap (frame_count device.channels) its ∙ sent_frames device.channels (c job device count some) (played_samples block.last recorded_pace.frame block.samples)
        ∙ ap (λ m. m / recorded_pace.frame) (size_of job device count some block is_block) ∙ mul-div_cancel n (frame_positive job device count some)

    its_samples : (f channel : ℕ) → f < n → channel < device.channels → sample_at device.channels h.entry.samples f channel ≡ sample f channel
    its_samples f channel low few =
        ap (λ l. sample_at device.channels l f channel) (its ∙ ap (λ l. sent_sound (c job device count some) (played_samples block.last recorded_pace.frame l)) bytes)
        ∙ played_coded (ty job device count some) device.channels recorded_pace.frames sound size block.last f channel (frames_positive job device count some) low few

    is_played : IsSoundPlayed all end job device block.last sound place
    is_played = record {
      target = h.device;
      is_there = ap (λ (y : SentPlay). slice_get end.devices y.context.device) (sym same) ∙ h.is_there;
      at = h.place;
      entry = h.entry;
      is_accepted = h.is_accepted;
      start = h.is_its.start;
      in_time = h.is_its.in_time;
      mixed = h.is_its.preempt ∙ ap (λ (y : SentPlay). y.context.preempt) same;
      frames = its_count;
      samples = its_samples;
      emits = λ front rest out done cut.
          let m = h.emits front rest out done (cut ∙ ap (λ (y : SentPlay). front ++ Emitted y.context.device out done ∷ rest) (sym same)) in
          record { device = m.device; count = m.frames; samples = m.samples; bytes = m.bytes; has = block_has m.device m.frames m.samples h.device.accepted h.place h.entry device.channels n place sample h.is_its.start its_count its_samples m.has };
    }

  is_passed : BeginsWith v.input answers.replies → requests_of heard.plays_on.done ≡ played_requests → (places : List ℕ) → ArePlaces recorded_pace.frames None r.blocks places → ArePlayedInTime r.blocks places plays →
      (i : ℕ) (block : PassedBlock) (place : ℕ) → slice_get r.blocks i ≡ Some block → slice_get places i ≡ Some place → IsBlockPassed (last_state from).devices all end job device r.start.0 (i * recorded_pace.frames) block place
  is_passed of_told performed places are in_time i block place at to_place =
      let x = in_time i block place at to_place in
      let recorded = its_record of_told i block at in
      let same = its_play (sent job device count some) r.blocks to.log to.number to.opened b.link to.turns played_requests heard (relay_plays job device count some (channels_at to.opened.devices) there_to r.blocks are_blocks) i block x.0 at x.1 in
      let h = all_at (λ x. (whole : ℕ) → IsInTime x whole → IsSounded all end x whole) plays i x.0 (heard.sounded none) x.1 place x.2 in
      record { recorded = recorded; played = is_played block (all_at (IsBlock job device count some) r.blocks i block are_blocks at) place x.0 same h recorded.sound recorded.size recorded.is }
    where
      clash : false ≡ true → ⊥
      clash e = cc

      none : own_waiting to.number end.waiting ≡ []
      none = heard.plays_on.idle false (λ e. absurd (clash e)) (ap (ends_prompt false) performed ∙ relay_ends job device count some r.blocks)

  is_relay_heard : IsRelayHeard from to b.link job device v w r
  is_relay_heard = record { answers = answers; heard = heard; reported = λ places are. gaps_are recorded_pace.frames None None r.blocks places tt are ∙ sym r.moved; passed = is_passed }

pub apass_is_heard : ApassIsHeard
apass_is_heard from_config to_config from to listed job device v w did r a b there_from there_to count gain some first = is_relay_heard from_config to_config from to listed job device v w did r a b there_from there_to count gain some first
