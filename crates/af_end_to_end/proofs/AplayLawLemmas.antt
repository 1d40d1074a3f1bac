-- From aplay to what leaves the device.
use Rattle.std.proofs.Common.{◌≡◌, ◌≤◌, ◌<◌, ℕ, ◌+◌, ◌-◌, ◌*◌, ◌/◌, ◌%◌, ◌^◌, Bool, true, false, List, [], ◌∷◌, ◌++◌, length, map, slice_get, refl, sym, ap, ◌∙◌, subst, arith, IfSome}
use Rattle.std.specs.List.{All}
use Rattle.std.specs.declared.option.Option.{Option}
use Rattle.std.specs.declared.option.Option.TheVariants.{None, Some}
use Rattle.af_sample.specs.Channels.{IsChannelCount}
use Rattle.af_sample.specs.Gains.{IsGain}
use Rattle.af_sample.specs.Heard.{AcceptedPlay, heard_from, heard_sample}
use Rattle.af_sample.specs.Rates.{IsListedRate}
use Rattle.af_sample.specs.SampleTypes.{frame_bytes}
use Rattle.af_sample.specs.Samples.{bytes_of}
use Rattle.af_wire.specs.Begins.{BeginsWith}
use Rattle.af_wire.specs.Front.{setup_bytes}
use Rattle.af_request.specs.Requests.{IsWritable}
use Rattle.af_request.specs.declared.reply.DeviceInfo.{DeviceInfo}
use Rattle.af_world.specs.declared.happening.Happening.TheVariants.{Emitted}
use Rattle.af_world.specs.declared.script.DeviceSpec.{DeviceSpec}
use Rattle.af_world.specs.Log.{Log}
use Rattle.af_cli.specs.declared.job.PlayJob.{PlayJob}
use Rattle.af_cli.proofs.FrameSizeLemmas.{by_size, frame_size}
use Rattle.af_toolkit.specs.Trace.{ClientState}
use Rattle.af_toolkit.specs.declared.end.ToolEnd.{ToolEnd}
use Rattle.af_tools.specs.Pacing.{ahead_frames, paced_block}
use Rattle.af_tools.specs.Play.{Block, IsEntryOf, IsPlayed, blocks, gained_samples, played_frames, sample_in}
use Rattle.af_model.specs.State.{DeviceState, LinkState, State, slot_at}
use Rattle.af_model.specs.Controls.{through_control, through_output_control}
use Rattle.af_model.specs.Fold.{IsMixOfAll}
use Rattle.af_model.specs.Play.{sent_sound}
use Rattle.af_model.specs.Perform.{channels_at}
use Rattle.af_model.specs.Run.{end_state}
use Rattle.af_model.proofs.BoolTestLemmas.{none_some, some_is}
use Rattle.af_model.proofs.FoldLawLemmas.{mixes_all}
use Rattle.af_model.proofs.SafeLemmas.{all_at}
use Rattle.af_end_to_end.specs.Sent.{client_bytes}
use Rattle.af_end_to_end.specs.Performing.{SentPlay, ends_prompt, own_waiting, plays_by}
use Rattle.af_end_to_end.specs.Playing.{AreTurns, PlayedAt, StaysOpen, Turn, end_of, given_in, plays_in, requests_of}
use Rattle.af_end_to_end.specs.Sounding.{IsHeard, IsInTime, IsNew, IsSounded, log_of, sample_at}
use Rattle.af_end_to_end.specs.Aplay.{AplayIsHeard, ArePlayedInTime, EmitsSound, HasNoOther, DoneJob, IsJobHeard, SoundsAt, blocks_of, done_job, frames_of, pace_of, requests_of_job, sent_by}
use Rattle.af_end_to_end.proofs.SoundingLemmas.{emitted_at, is_heard, run_with}
use Rattle.af_end_to_end.proofs.AplayFitLemmas.{IsSmall, aplay_fits, blocks_small, gain_is}
use Rattle.af_end_to_end.proofs.AplayLemmas.{IsWhole, all_whole, aplay_context, aplay_ends, aplay_plays, sent_block, spelled_aplay}
use Rattle.af_end_to_end.proofs.PlayerLemmas.{its_play as play_there}

module _ (config : List DeviceSpec) (log : Log) (k : ℕ) (s : State) (l : LinkState) (turns : List Turn) {job : PlayJob} {devices : List DeviceInfo} {bytes : List ℕ} {w : ClientState} {how : ToolEnd} {sent sent' held held' : Option (List ℕ)}
    (p : IsPlayed job devices bytes w how sent sent' held held') (listed : All (λ c. IsListedRate c.rate) config) (r : end_state config log ≡ Some s) (is : (slot_at k s).link ≡ Some l) (new : IsNew l) (are : AreTurns s turns) (stays : All (StaysOpen k) turns)
    (there : channels_at s.devices job.device ≡ Some p.device.channels) (count : IsChannelCount p.device.channels) (gain : IsGain job.gain) (begins : BeginsWith (given_in k turns) (sent_by (done_job p))) where
  abbrev j : DoneJob
  j = done_job p

  abbrev channels : ℕ → Option ℕ
  channels = channels_at s.devices

  abbrev end : State
  end = end_of s turns

  abbrev all : Log
  all = log ++ log_of turns

  its : BeginsWith (given_in k turns) (client_bytes w.order (requests_of_job j))
  its = record { rest = begins.rest; is = ap (λ b. setup_bytes w.order ++ b) (spelled_aplay w.order job p.ty p.device.channels (pace_of j) p.blocks (frames_of j)) ∙ begins.is }

  frame_few : frame_bytes p.ty p.device.channels < 2 ^ 32
  frame_few = by_size (λ w. w < 2 ^ 32) (omega arith) (omega arith) (omega arith) (omega arith) (frame_bytes p.ty p.device.channels) (frame_size p.ty p.device.channels count)

  fit : All IsWritable (requests_of_job j)
  fit =
      let small = subst (All IsSmall) (sym p.are_sent) (blocks_small p.ty p.device.channels (paced_block (ahead_frames p.device.rate job) job.block) p.samples) in
      aplay_fits job p.ty p.device.channels (pace_of j) p.blocks (frames_of j) gain frame_few small

  heard : IsHeard log k s l turns (requests_of_job j)
  heard = is_heard config log s listed r k l turns is new are stays w.order (requests_of_job j) fit its

  abbrev plays : List PlayedAt
  plays = plays_in channels [] heard.plays_on.done

  small : 0 < frame_bytes p.ty p.device.channels
  small = by_size (λ w. 0 < w) (omega arith) (omega arith) (omega arith) (omega arith) (frame_bytes p.ty p.device.channels) (frame_size p.ty p.device.channels count)

  whole_blocks : All (λ (b : Block). IsWhole (frame_bytes p.ty p.device.channels) b.bytes) (map (λ t. t.block) p.blocks)
  whole_blocks = subst (All (λ (b : Block). IsWhole (frame_bytes p.ty p.device.channels) b.bytes)) (sym p.are_sent) (all_whole (frame_bytes p.ty p.device.channels) 0 (blocks (played_frames job p.device.rate p.ty p.device.channels * frame_bytes p.ty p.device.channels) p.samples))

  -- the plays among its requests are its blocks
  all_plays : plays_by channels [] (requests_of_job j) ≡ map (sent_block (aplay_context job p.ty) (pace_of j)) (blocks_of j)
  all_plays = aplay_plays channels job p.ty p.device.channels (pace_of j) there small p.blocks (frames_of j) (gain_is job.gain gain) whole_blocks ∙ ap (map (sent_block (aplay_context job p.ty) (pace_of j))) p.are_sent

  -- so the play at a place is that of the block there
  its_play : (i : ℕ) (block : Block) (x : PlayedAt) → slice_get (blocks_of j) i ≡ Some block → slice_get plays i ≡ Some x → x.sent ≡ sent_block (aplay_context job p.ty) (pace_of j) block
  its_play i block x at played = play_there (sent_block (aplay_context job p.ty) (pace_of j)) (blocks_of j) log k s l turns (requests_of_job j) heard all_plays i block x at played

  module _ (whole : ℕ) (device : DeviceState) (word : whole % 2 ^ 32 ≡ p.start) (stands : slice_get end.devices job.device ≡ Some device) (performed : requests_of heard.plays_on.done ≡ requests_of_job j) (in_time : ArePlayedInTime (blocks_of j) whole plays) where
    -- nothing of the link is deferred once its context is freed
    none : own_waiting k end.waiting ≡ []
    none = heard.plays_on.idle false (λ e. absurd (clash e)) (ap (ends_prompt false) performed ∙ ends_free)
      where
        clash : false ≡ true → ⊥
        clash e = cc

        ends_free : ends_prompt false (requests_of_job j) ≡ true
        ends_free = aplay_ends job p.ty p.device.channels (pace_of j) p.blocks (frames_of j)

    -- a block is sounded
    sounds : (i : ℕ) (block : Block) → slice_get (blocks_of j) i ≡ Some block → (x : PlayedAt) × (x.sent ≡ sent_block (aplay_context job p.ty) (pace_of j) block) × IsSounded all end x (whole + block.before)
    sounds i block at =
        let x = in_time i block at in (
          x.0,
          its_play i block x.0 at x.1,
          all_at (λ x. (whole : ℕ) → IsInTime x whole → IsSounded all end x whole) plays i x.0 (heard.sounded none) x.1 (whole + block.before) x.2,
        )

    place_of : (i : ℕ) (o : Option Block) → slice_get (blocks_of j) i ≡ o → ℕ
    place_of i None at = 0
    place_of i (Some block) at = (sounds i block at).2.place

    abbrev place : ℕ → ℕ
    place i = place_of i (slice_get (blocks_of j) i) refl

    abbrev Entry : ℕ → Block → Type 0
    Entry at block = (entry : AcceptedPlay) × (slice_get device.accepted at ≡ Some entry) × IsEntryOf p.ty job.gain whole block entry

    -- its entry
    entry_of : (block : Block) (x : PlayedAt) → x.sent ≡ sent_block (aplay_context job p.ty) (pace_of j) block → (h : IsSounded all end x (whole + block.before)) → Entry h.place block
    entry_of block x same h =
        let on : h.device ≡ device = some_is (sym h.is_there ∙ ap (λ (y : SentPlay). slice_get end.devices y.context.device) same ∙ stands) in (
          h.entry,
          ap (λ (d : DeviceState). slice_get d.accepted h.place) (sym on) ∙ h.is_accepted,
          record {
            at_its_time = h.is_its.start;
            its_samples = h.is_its.samples ∙ ap (λ (y : SentPlay). sent_sound y.context y.bytes) same;
            in_time = subst (λ m. h.entry.at ≤ m) (sym h.is_its.start) h.is_its.in_time;
          },
        )

    each_of : (i : ℕ) (o : Option Block) (at : slice_get (blocks_of j) i ≡ o) (block : Block) → o ≡ Some block → Entry (place_of i o at) block
    unfolding place_of sounds
    each_of i None at block e = absurd (none_some e)
    each_of i (Some b) at block e =
        let s = sounds i b at in
        subst (Entry s.2.place) (some_is e) (entry_of b s.0 s.1 s.2)

    abbrev frames : ℕ
    frames = length p.samples / frame_bytes p.ty p.device.channels

    -- what is heard at its times
    sound_heard : HasNoOther p.device.channels whole frames (length (blocks_of j)) place device.accepted → (i channel : ℕ) → i < frames → channel < p.device.channels →
        heard_sample p.device.channels device.accepted (whole + i) channel ≡ sample_in p.device.channels (gained_samples p.ty job.gain p.samples) i channel
    sound_heard alone i channel low few =
        p.hears whole device.accepted word (record { place = place; each = λ i block at. each_of i (slice_get (blocks_of j) i) refl block at; no_other = alone }) i channel low few

    sound_emitted : HasNoOther p.device.channels whole frames (length (blocks_of j)) place device.accepted → (front rest : Log) (out : List ℕ) (done : Bool) → all ≡ front ++ Emitted job.device out done ∷ rest →
        EmitsSound p.device.channels whole frames (gained_samples p.ty job.gain p.samples) out
    sound_emitted alone front rest out done cut =
        let mixes : (front rest : Log) (d : ℕ) (sent : List ℕ) (done : Bool) → all ≡ front ++ Emitted d sent done ∷ rest → IsMixOfAll config front d sent end =
        subst (λ o. IfSome o (λ end. (front rest : Log) (d : ℕ) (sent : List ℕ) (done : Bool) → all ≡ front ++ Emitted d sent done ∷ rest → IsMixOfAll config front d sent end)) (run_with config log s turns r are) (mixes_all config all) in
        let m = mixes front rest job.device out done cut in
        let same : m.last ≡ device = some_is (sym m.stands ∙ stands) in
        record {
          device = m.device;
          count = m.frames;
          samples = through_output_control m.device.controls (heard_from m.device.channels device.accepted m.device.now m.frames);
          bytes = m.mixes ∙ ap (λ (x : DeviceState). bytes_of m.device.ty (through_output_control m.device.controls (heard_from m.device.channels x.accepted m.device.now m.frames))) same;
          has = λ i channel low few shape from to.
              let at = emitted_at m.device device.accepted m.frames (whole + i) channel (subst (λ n. channel < n) (sym shape) few) from to in
              subst (λ n. sample_at n (through_output_control m.device.controls (heard_from m.device.channels device.accepted m.device.now m.frames)) (whole + i - m.device.now) channel ≡ through_control m.device.controls.output_on m.device.controls.output_gain (heard_sample n device.accepted (whole + i) channel)) shape at
              ∙ ap (through_control m.device.controls.output_on m.device.controls.output_gain) (sound_heard alone i channel low few);
        }

    job_sounds : SoundsAt all device j whole
    job_sounds = record { place = place; each = λ i block at. each_of i (slice_get (blocks_of j) i) refl block at; emits = sound_emitted }

  is_job_heard : IsJobHeard log k s l turns j
  is_job_heard = record { heard = heard; sounds = job_sounds }

pub aplay_is_heard : (config : List DeviceSpec) (log : Log) → AplayIsHeard config log
aplay_is_heard config log listed =
    elim (end_state config log) as (λ o. end_state config log ≡ o → IfSome o (λ s. (k : ℕ) (l : LinkState) (turns : List Turn) → (slot_at k s).link ≡ Some l → IsNew l → AreTurns s turns → All (StaysOpen k) turns →
    (job : PlayJob) (devices : List DeviceInfo) (bytes : List ℕ) (w : ClientState) (how : ToolEnd) (sent sent' held held' : Option (List ℕ)) (p : IsPlayed job devices bytes w how sent sent' held held') → channels_at s.devices job.device ≡ Some p.device.channels →
    IsChannelCount p.device.channels → IsGain job.gain → BeginsWith (given_in k turns) (sent_by (done_job p)) → IsJobHeard log k s l turns (done_job p))) [
      | None ↦ λ r. tt
      | Some s ↦ λ r k l turns is new are stays job devices bytes w how sent sent' held held' p there count gain begins. is_job_heard config log k s l turns p listed r is new are stays there count gain begins
    ] refl
