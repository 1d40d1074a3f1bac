-- From a device to what arecord writes.
use Rattle.std.proofs.Common.{◌≡◌, ◌<◌, ℕ, ◌+◌, true, List, [], ◌∷◌, ◌++◌, map, unwrap_or, slice_get, refl, sym, ap, ◌∙◌, IfSome}
use Rattle.std.specs.List.{All}
use Rattle.std.specs.declared.option.Option.{Option}
use Rattle.std.specs.declared.option.Option.TheVariants.{None, Some}
use Rattle.af_sample.specs.Channels.{IsChannelCount}
use Rattle.af_sample.specs.Gains.{IsGain}
use Rattle.af_wire.specs.Begins.{BeginsWith}
use Rattle.af_wire.specs.Front.{setup_bytes}
use Rattle.af_request.specs.Asked.{Asked}
use Rattle.af_request.specs.declared.reply.DeviceInfo.{DeviceInfo}
use Rattle.af_world.specs.declared.script.DeviceSpec.{DeviceSpec}
use Rattle.af_world.specs.Log.{Log}
use Rattle.af_cli.specs.declared.job.RecordJob.{RecordJob}
use Rattle.af_cli.specs.Lengths.{at_rate}
use Rattle.af_toolkit.specs.Trace.{ClientState, tool_end}
use Rattle.af_toolkit.specs.Ends.{has_done_all}
use Rattle.af_tools.specs.Record.{arecord_trace, recorded_frame, recorded_sound}
use Rattle.af_model.specs.State.{DeviceState, LinkState, State, slot_at}
use Rattle.af_model.specs.Perform.{channels_at}
use Rattle.af_model.specs.Run.{end_state}
use Rattle.af_end_to_end.specs.Sent.{client_bytes}
use Rattle.af_end_to_end.specs.Playing.{AreTurns, StaysOpen, Turn, end_of, given_in}
use Rattle.af_end_to_end.specs.Told.{IsAnswered, IsFresh}
use Rattle.af_end_to_end.specs.Arecord.{ArecordIsHeld, AreRecorded, IsJobRecorded, IsSoundWritten, arecord_requests, stretches}
use Rattle.af_end_to_end.proofs.AnsweringLemmas.{is_answered}
use Rattle.af_end_to_end.proofs.RecorderLemmas.{AreHeld, all_held}
use Rattle.af_end_to_end.proofs.ArecordTraceLemmas.{IsDone, TakenOne, job_done, written_of}
use Rattle.af_end_to_end.proofs.ArecordLemmas.{AreSmall, arecord_fits, arecord_records, job_small, spelled_arecord}

-- the bytes of its blocks are those that it wrote
held_written : (devices : List DeviceState) (job : RecordJob) (device : DeviceInfo) (start before : ℕ) (blocks : List TakenOne) → AreHeld devices job device start before blocks →
    AreRecorded devices job device start (stretches before (map (λ (b : TakenOne). b.frames) blocks)) (written_of (recorded_sound job device) blocks)
held_written devices job device start before [] held = refl
held_written devices job device start before (b ∷ more) held = (b.taken.samples, written_of (recorded_sound job device) more, refl, held.0, held_written devices job device start (before + b.frames) more held.1)

-- A run

module _ (config : List DeviceSpec) (log : Log) (s : State) (r : end_state config log ≡ Some s) (k : ℕ) (l : LinkState) (turns : List Turn) (is : (slot_at k s).link ≡ Some l) (fresh : IsFresh s k l) (are : AreTurns s turns) (stays : All (StaysOpen k) turns)
    (base : RecordJob) (devices : List DeviceInfo) (device : DeviceInfo) (w : ClientState) (listed : slice_get devices base.device ≡ Some device) (there : channels_at s.devices base.device ≡ Some device.channels) (count : IsChannelCount device.channels) (gain : IsGain base.gain) (some : 0 < base.block)
    (first : w.sequence ≡ 0) (all : has_done_all (tool_end (arecord_trace base devices w).finish) ≡ true) (begins : BeginsWith (given_in k turns) (setup_bytes w.order ++ (arecord_trace base devices w).sends)) where
  abbrev job : RecordJob
  job = at_rate device.rate base

  d : IsDone job device w (arecord_trace base devices w)
  d = job_done base device devices w listed all

  abbrev lengths : List ℕ
  lengths = map (λ (b : TakenOne). b.frames) d.blocks

  small : AreSmall (recorded_frame (recorded_sound job device)) lengths
  small = job_small job device lengths d.others count some d.are

  abbrev start : ℕ
  start = unwrap_or job.time d.now.0

  abbrev requests : List Asked
  requests = arecord_requests job device start (stretches 0 lengths)

  its : BeginsWith (given_in k turns) (client_bytes w.order requests)
  its = record { rest = begins.rest; is = ap (λ b. setup_bytes w.order ++ b) (spelled_arecord w.order job device start d.blocks ∙ sym d.sends) ∙ begins.is }

  abbrev end : State
  end = end_of s turns

  answers : IsAnswered k s end w.order requests
  answers = is_answered config log s r k l turns is fresh are stays w.order requests (arecord_fits job device start lengths gain small) (arecord_records job device start lengths) its

  -- what was written, if the client went by the first of what its link was told
  written : BeginsWith w.input answers.replies → IsSoundWritten end.devices job device start (stretches 0 lengths) (arecord_trace base devices w).output
  written first_of =
      let held = all_held job device k s end w start d.blocks lengths refl answers there count gain first_of first d.now d.told small d.end d.answered in
      record { sound = written_of (recorded_sound job device) d.blocks; pad = d.pad; whole = d.output; recorded = held_written end.devices job device start 0 d.blocks held }

  is_job_recorded : IsJobRecorded k s end job device w (arecord_trace base devices w).output
  is_job_recorded = record { start = start; stated = stated job.time; lengths = lengths; others = d.others; blocks = d.are; answers = answers; recorded = written }
    where
      stated : (o : Option ℕ) → IfSome o (λ time. unwrap_or o d.now.0 ≡ time)
      stated None = tt
      stated (Some time) = refl

pub arecord_is_held : (config : List DeviceSpec) (log : Log) → ArecordIsHeld config log
arecord_is_held config log =
    elim (end_state config log) as (λ o. end_state config log ≡ o → IfSome o (λ s. (k : ℕ) (l : LinkState) (turns : List Turn) → (slot_at k s).link ≡ Some l → IsFresh s k l → AreTurns s turns →
    All (StaysOpen k) turns → (job : RecordJob) (devices : List DeviceInfo) (device : DeviceInfo) (w : ClientState) → slice_get devices job.device ≡ Some device → channels_at s.devices job.device ≡ Some device.channels →
    IsChannelCount device.channels → IsGain job.gain → 0 < job.block → w.sequence ≡ 0 → has_done_all (tool_end (arecord_trace job devices w).finish) ≡ true →
    BeginsWith (given_in k turns) (setup_bytes w.order ++ (arecord_trace job devices w).sends) → IsJobRecorded k s (end_of s turns) (at_rate device.rate job) device w (arecord_trace job devices w).output)) [
      | None ↦ λ r. tt
      | Some s ↦ λ r k l turns is fresh are stays job devices device w listed there count gain some first all begins. is_job_recorded config log s r k l turns is fresh are stays job devices device w listed there count gain some first all begins
    ] refl
