-- In what order arecord asks and writes: it writes a block, once it has the reply, before it asks for the next one.
use Rattle.std.specs.Prelude.{◌≡◌, ◌≤◌, ◌⊎◌, ℕ, List, [], ◌++◌, length, unwrap_or, slice_get, Option, Some}
use Rattle.af_io.specs.Flow.{AppendedPrefix}
use Rattle.af_wire.specs.declared.order.Order.{Order}
use Rattle.af_toolkit.specs.Parts.{goes_on}
use Rattle.af_request.specs.declared.reply.DeviceInfo.{DeviceInfo}
use Rattle.af_request.specs.Asked.{Asked, get_time}
use Rattle.af_request.specs.Requests.{request_bytes}
use Rattle.af_lib.specs.Calls.{ConnState}
use Rattle.af_cli.specs.declared.job.RecordJob.{RecordJob}
use Rattle.af_cli.specs.Lengths.{at_rate}
use Rattle.af_cli.specs.Sizes.{block_frames}
use Rattle.af_toolkit.specs.declared.end.ToolEnd.{ToolEnd}
use Rattle.af_toolkit.specs.declared.end.ToolEnd.TheVariants as end
use Rattle.af_toolkit.specs.Trace.{ClientState}
use Rattle.af_toolkit.specs.Ends.{client_of}
use Rattle.af_toolkit.specs.Steps.{WroteThrough}
use Rattle.af_toolkit.specs.ToolParts.{ToolPart, begins, doing, writes}
use Rattle.af_tools.specs.Record.{block_lengths, front_of_recording, nothing_recorded, record_context, recorded_frame}
use Rattle.af_tools.specs.Record.{recorded_sound, records}
use Rattle.af_tools.specs.declared.record.Recording.{Recording}

-- these bytes are one request, or the first of one
abbrev pub FrontOfRequest : List ℕ → Type 0
FrontOfRequest bytes = (order : Order) × (asked : Asked) × (rest : List ℕ) × (request_bytes order asked ≡ bytes ++ rest)

-- Of blocks of these lengths, some were recorded and written, and at most one request was sent since. Nothing more was written
-- but by a sink that failed, except for one byte.
pub record WritesInStep {X : Type 0} (lengths : List ℕ) (before : List ℕ → ToolPart X) (w : ClientState) (failed : Type 0)
    (sent sent' held held' : Option (List ℕ)) : Type 0 where
  pub taken : List ℕ
  pub others : List ℕ
  pub blocks : lengths ≡ taken ++ others
  pub asked : List ℕ
  pub written : List ℕ
  pub past : WroteThrough (before taken) w asked written sent sent' held held'
  pub one_request : FrontOfRequest asked
  pub kept : failed ⊎ (length written ≤ 1)

-- how many frames each block of a job has
abbrev pub job_lengths : RecordJob → DeviceInfo → List ℕ
job_lengths job device = block_lengths (block_frames job.block (recorded_frame (recorded_sound job device))) job.frames

-- the header of a file is written, and blocks of these lengths are recorded from a start on, each written before the next
abbrev pub writes_blocks : RecordJob → DeviceInfo → (start : ℕ) → List ℕ → ToolPart Recording
writes_blocks job device start taken =
    goes_on doing (writes (front_of_recording job device)) (λ _.
    records job (recorded_sound job device) start nothing_recorded [] taken)

-- all that is sent and written before the block after these is asked for
abbrev pub records_before : RecordJob → DeviceInfo → List ℕ → ToolPart Recording
records_before job device taken =
    goes_on doing (begins (record_context job device) job.device) (λ now.
    writes_blocks job device (unwrap_or job.time now.0) taken)

-- at most the context and the time were asked for
abbrev pub SentBegin : RecordJob → DeviceInfo → ClientState → (sent sent' : Option (List ℕ)) → Type 0
SentBegin job device w sent sent' =
    AppendedPrefix sent (request_bytes w.order (record_context job device) ++ request_bytes w.order (get_time job.device)) sent'

-- A job was recorded so far: no block was asked for, or the blocks were written in step with what was asked for.
abbrev pub RecordsInStep : RecordJob → DeviceInfo → ClientState → (failed : Type 0) →
    (sent sent' held held' : Option (List ℕ)) → Type 0
RecordsInStep job device w failed sent sent' held held' =
    SentBegin job device w sent sent'
    ⊎ WritesInStep (job_lengths job device) (records_before job device) w failed sent sent' held held'

-- arecord writes in step with what it asks for, over a connection whose link is observable
abbrev pub RunsWriting : {L K : Type 0} → (left sent : L → Option (List ℕ)) → (held : K → Option (List ℕ)) → RecordJob →
    ToolEnd → (conn conn' : ConnState L) → (sink sink' : K) → Type 0
RunsWriting left sent held job how conn conn' sink sink' = (input : List ℕ) → left conn.link ≡ Some input →
    (device : DeviceInfo) → slice_get conn.devices job.device ≡ Some device →
    RecordsInStep (at_rate device.rate job) device (client_of conn input) (how ≡ end.SinkFault) (sent conn.link) (sent conn'.link)
    (held sink) (held sink')
