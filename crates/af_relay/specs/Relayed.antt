-- What a relay has passed when it is done: which bytes it recorded and played, and when.
use Rattle.std.specs.Prelude.{◌≡◌, ◌⊎◌, ◌+◌, ◌%◌, ◌^◌, ◌==◌, if◌then◌else◌, ⊤, ℕ, zero, suc, nat_lt, true, false}
use Rattle.std.specs.Prelude.{List, [], ◌∷◌, ◌++◌, length, map, slice_get, Ok, Err, IsOk, Option, None, Some}
use Rattle.std.specs.List.{flat_map}
use Rattle.af_time.specs.declared.DevTime.{DevTime}
use Rattle.af_io.specs.Observed.{Appended}
use Rattle.af_wire.specs.declared.order.Order.{Order}
use Rattle.af_request.specs.declared.reply.DeviceInfo.{DeviceInfo}
use Rattle.af_request.specs.Asked.{free_ac, get_time, play_run, record_run}
use Rattle.af_request.specs.Requests.{request_bytes}
use Rattle.af_lib.specs.Calls.{ConnState, as_recorded, as_time}
use Rattle.af_cli.specs.declared.job.PassJob.{PassJob}
use Rattle.af_toolkit.specs.declared.end.ToolEnd.{ToolEnd}
use Rattle.af_toolkit.specs.declared.end.ToolEnd.TheVariants as end
use Rattle.af_toolkit.specs.Trace.{ClientState, answer_on, after_reply}
use Rattle.af_toolkit.specs.Ends.{is_outer, client_of, EndsByReply, IsAnswered}
use Rattle.af_relay.specs.declared.pass.RelayPace.{RelayPace}
use Rattle.af_relay.specs.declared.pass.LastFrame.{LastFrame}
use Rattle.af_relay.specs.declared.pass.LastFrame.TheVariants.{Once, Twice, LeftOut}
use Rattle.af_relay.specs.Pair.{pair_of}
use Rattle.af_relay.specs.Pass.{Both, RelayDeeds, apass_trace, as_word, block_count, both, frames_played, from_context, gap_of}
use Rattle.af_relay.specs.Pass.{has_drifted, is_early, is_late, on_from, pace_from, passed_text, played_samples, time_after}
use Rattle.af_relay.specs.Pass.{to_context, type_from}
use Rattle.af_relay.specs.RelayParts.{RelayDid, SendsBoth}

-- a block that was passed: the other server's time before it, when it was played, its bytes as they were recorded, and how often
-- its last frame was played
pub record PassedBlock : Type 0 where
  pub told : DevTime
  pub time : DevTime
  pub samples : List ℕ
  pub last : LastFrame

-- what is sent for these blocks on the link that is played on, by the bytes of a frame
abbrev pub play_requests : Order → PassJob → (frame : ℕ) → List PassedBlock → List ℕ
play_requests order job frame blocks =
    flat_map (λ b. request_bytes order (get_time job.to_device)
    ++ request_bytes order (play_run false 1 b.time.0 (played_samples b.last frame b.samples))) blocks

-- n record requests, each of a block: the first records from a time on, and each other from a block later
unfoldable pub record_requests : Order → ℕ → RelayPace → DevTime → List ℕ
record_requests order zero pace at = []
record_requests order (suc n) pace at =
    request_bytes order (record_run true 1 at.0 pace.size) ++ record_requests order n pace (time_after at pace.frames)

-- the bytes in the replies to these record requests, up to the first that was answered with a fault
unfoldable pub record_replies : ℕ → RelayPace → DevTime → ClientState → List (List ℕ)
record_replies zero pace at v = []
record_replies (suc n) pace at v =
    elim (answer_on (record_run true 1 at.0 pace.size) (as_recorded true pace.size) v) [
      | Ok r ↦ r.samples ∷ record_replies n pace (time_after at pace.frames) (after_reply v)
      | Err fault ↦ []
    ]

-- 1 for a block that was due at another time, in the 32 bits that a request states, and else 0: the first is never due
abbrev pub is_moved : Option DevTime → DevTime → ℕ
is_moved None time = 0
is_moved (Some due) time = if (time.0 % 2 ^ 32) == (due.0 % 2 ^ 32) then 0 else 1

-- how many of these blocks are not played right after the one before
unfoldable pub moves : (frames : ℕ) → Option DevTime → List PassedBlock → ℕ
moves frames due [] = 0
moves frames due (b ∷ blocks) =
    is_moved due b.time + moves frames (Some (time_after b.time (frames_played b.last frames))) blocks

-- A block is played as its clocks ask for, by when it is due, where the one before it ends. Past the slack it is played as it was
-- recorded, the delay ahead of the other server's time. Else it is played where it is due. A relay that follows the clock plays
-- its last frame twice if it is due more than a frame before its place. It leaves its last frame out if it is due more than a
-- frame after that, unless it has only that one. Any other block is played as it was recorded.
pub record KeepsStep (pace : RelayPace) (due : DevTime) (b : PassedBlock) : Type 0 where
  pub afresh : has_drifted due b.told pace.delay pace.slack ≡ true →
      (b.time ≡ time_after b.told pace.delay) × (b.last ≡ Once)
  pub touches : has_drifted due b.told pace.delay pace.slack ≡ false → b.time ≡ due
  pub plain : pace.follow ≡ false → b.last ≡ Once
  pub twice : has_drifted due b.told pace.delay pace.slack ≡ false → pace.follow ≡ true →
      is_early (gap_of due b.told pace.delay) ≡ true → b.last ≡ Twice
  pub left_out : has_drifted due b.told pace.delay pace.slack ≡ false → pace.follow ≡ true →
      is_late (gap_of due b.told pace.delay) ≡ true → nat_lt 1 pace.frames ≡ true → b.last ≡ LeftOut
  pub single : has_drifted due b.told pace.delay pace.slack ≡ false →
      is_late (gap_of due b.told pace.delay) ≡ true → nat_lt 1 pace.frames ≡ false → b.last ≡ Once
  pub in_place : is_early (gap_of due b.told pace.delay) ≡ false → is_late (gap_of due b.told pace.delay) ≡ false → b.last ≡ Once

-- each of these blocks does, the first of them due then, or where none was played before it exactly the delay ahead
unfoldable pub KeepStep : RelayPace → Option DevTime → List PassedBlock → Type 0
KeepStep pace due [] = ⊤
KeepStep pace None (b ∷ blocks) = (b.time ≡ time_after b.told pace.delay) × (b.last ≡ Once)
    × KeepStep pace (Some (time_after b.time (frames_played b.last pace.frames))) blocks
KeepStep pace (Some due) (b ∷ blocks) = KeepsStep pace due b
    × KeepStep pace (Some (time_after b.time (frames_played b.last pace.frames))) blocks

-- these are the times of the other server, each from the last reply before its play
unfoldable pub AreTold : PassJob → ClientState → List PassedBlock → Type 0
AreTold job w [] = ⊤
AreTold job w (b ∷ blocks) =
    (answer_on (get_time job.to_device) as_word w ≡ Ok b.told) × AreTold job (after_reply (after_reply w)) blocks

-- What a relay has sent and written that passed all blocks of its job from a device, by what its links gave. The bytes of each
-- play are those of the record reply with its number, but for its last frame. By a relay that follows the clock this is there
-- once, once more, or not at all, by the two clocks alone. Each play begins where the one before it ends, except at exactly as
-- many plays as it writes.
pub record Relayed (job : PassJob) (device : DeviceInfo) (v w : ClientState) (did : RelayDeeds) : Type 0 where
  pub start : DevTime
  pub started : answer_on (get_time job.from_device) as_time (after_reply v) ≡ Ok start
  pub blocks : List PassedBlock
  pub number : length blocks ≡ block_count job.blocks
  pub bytes : map (λ b. b.samples) blocks
      ≡ record_replies (block_count job.blocks) (pace_from job device) start (after_reply (after_reply v))
  pub told : AreTold job (after_reply w) blocks
  pub stepped : KeepStep (pace_from job device) None blocks
  pub recorded : did.from ≡ request_bytes v.order (from_context job (type_from job device) device.channels)
      ++ request_bytes v.order (get_time job.from_device)
      ++ record_requests v.order (block_count job.blocks) (pace_from job device) start ++ request_bytes v.order (free_ac 1)
  pub played : did.to ≡ request_bytes w.order (to_context job (type_from job device) device.channels)
      ++ play_requests w.order job (pace_from job device).frame blocks ++ request_bytes w.order (free_ac 1)
  pub resynced : ℕ
  pub wrote : did.output ≡ passed_text (block_count job.blocks) resynced
  pub moved : resynced ≡ moves (pace_from job device).frames None blocks

-- the same by what the links were sent and the sink holds, before and after, and by the devices of the recorded server
pub record IsRelayed (job : PassJob) (from : List DeviceInfo) (v w : ClientState) (before after : Both (Option (List ℕ)))
    (held held' : Option (List ℕ)) : Type 0 where
  pub device : DeviceInfo
  pub is_there : slice_get from job.from_device ≡ Some device
  pub did : RelayDeeds
  pub relayed : Relayed job device v w did
  pub sent : SendsBoth did before after
  pub sink : Appended held did.output held'

-- A relay ran, by what its links give. What each link was sent, and what the sink gained, are those of the trace, or prefixes of
-- them if something from outside ended it. If it is done, the bytes of each play are those of the record reply with its number,
-- but for a last frame by which it follows the clock. Each play begins where the one before it ends, except at exactly as many
-- plays as it writes. An end for a reply is that of the trace. If both devices exist, with one rate and as many channels, and
-- each request gets its reply, it is done, unless something from outside ended it.
pub record ApassRan (job : PassJob) (from to : List DeviceInfo) (v w : ClientState) (how : ToolEnd)
    (sent sent' : Both (Option (List ℕ))) (held held' : Option (List ℕ)) : Type 0 where
  pub followed : RelayDid (apass_trace job from to v w) how held held' (λ did. SendsBoth did sent sent')
  pub relayed : how ≡ end.Done → IsRelayed job from v w sent sent' held held'
  pub reply : EndsByReply (on_from (apass_trace job from to v w)) how
  pub complete : IsOk (pair_of from job.from_device to job.to_device) → IsAnswered (on_from (apass_trace job from to v w)) →
      (how ≡ end.Done) ⊎ (is_outer how ≡ true)

-- the same over two connections whose links are observable, before and after
abbrev pub RunsBetween : {L M K : Type 0} → (left_from sent_from : L → Option (List ℕ)) →
    (left_to sent_to : M → Option (List ℕ)) → (held : K → Option (List ℕ)) →
    PassJob → ToolEnd → (from from' : ConnState L) → (to to' : ConnState M) → (sink sink' : K) → Type 0
RunsBetween left_from sent_from left_to sent_to held job how from from' to to' sink sink' =
    (v w : List ℕ) → left_from from.link ≡ Some v → left_to to.link ≡ Some w →
    ApassRan job from.devices to.devices (client_of from v) (client_of to w) how
    (both (sent_from from.link) (sent_to to.link)) (both (sent_from from'.link) (sent_to to'.link)) (held sink) (held sink')
