-- A small run, computed: a client records two frames while another one switches the output off. Its Record waits for them, and it
-- writes what the device captured.
use Rattle.std.proofs.Common.{◌≡◌, ℕ, true, false, List, [], ◌∷◌, ◌++◌, take, drop, refl, pos, subst}
use Rattle.std.specs.declared.option.Option.{Option}
use Rattle.std.specs.declared.option.Option.TheVariants.{None, Some}
use Rattle.af_time.specs.DeviceTime.{unwrap}
use Rattle.af_sample.specs.declared.sample_type.SampleType.TheVariants.{Lin16}
use Rattle.af_sample.specs.Gains.{scaled}
use Rattle.af_sample.specs.Heard.{heard_sample}
use Rattle.af_sample.specs.Samples.{bytes_of, samples}
use Rattle.af_sample.specs.Window.{recorded_sample}
use Rattle.af_wire.specs.declared.order.Order.TheVariants.{Big}
use Rattle.af_wire.specs.Front.{setup_bytes}
use Rattle.af_wire.specs.Message.{head}
use Rattle.af_request.specs.Asked.{Asked, create_ac, free_ac, get_time, record_run, set_controls}
use Rattle.af_request.specs.declared.reply.DeviceInfo.{DeviceInfo}
use Rattle.af_world.specs.declared.happening.Happening.TheVariants.{Captured, Emitted, Read, Woke, Wrote}
use Rattle.af_world.specs.declared.happening.ReadGot.TheVariants.{Given, NotYet}
use Rattle.af_world.specs.declared.happening.Wake.TheVariants.{Opened, Readable, Ticked}
use Rattle.af_world.specs.Log.{Log}
use Rattle.af_lib.specs.Incoming.{after_message, awaited_message, first_message, incoming}
use Rattle.af_cli.specs.declared.job.RecordJob.{RecordJob}
use Rattle.af_toolkit.specs.Parts.{goes_on}
use Rattle.af_toolkit.specs.Trace.{ClientState}
use Rattle.af_toolkit.specs.ToolParts.{asks}
use Rattle.af_tools.specs.Record.{arecord_trace, block_lengths, peak, records}
use Rattle.af_model.specs.State.{State, slot_at}
use Rattle.af_model.specs.Reply.{reply_message}
use Rattle.af_model.specs.ContextRequests.{creation_refusal}
use Rattle.af_model.specs.DeviceRequests.{controls_refusal}
use Rattle.af_model.specs.Record.{record_refusal, recorded_bytes}
use Rattle.af_model.specs.Advance.{advance}
use Rattle.af_model.specs.Tick.{complete_due}
use Rattle.af_model.specs.Turn.{close_phase, hook_from, read_phase, serve_from, serve_link, turn, wake_phase}
use Rattle.af_model.specs.Run.{end_state}
use Rattle.af_end_to_end.specs.Sent.{client_bytes}
use Rattle.af_end_to_end.proofs.Example.{config, created, setup_reply, unity}

-- the one client records two frames from time 0 on, as arecord does
abbrev pub recorder : List Asked
recorder = create_ac 0 1 2 1 0 (pos 0) (pos 0) ∷ get_time 0 ∷ record_run true 1 0 4 ∷ free_ac 1 ∷ []

abbrev other : List Asked
other = set_controls 0 8 0 0 (pos 0) (pos 0) ∷ []

abbrev first_replies : List ℕ
first_replies = created ++ 1 ∷ 2 ∷ 0 ∷ 2 ∷ 0 ∷ 0 ∷ 0 ∷ 1 ∷ 0 ∷ 0 ∷ 0 ∷ 0 ∷ []

-- its bytes come in two pieces, and its link takes a part of what it is told; then two frames are captured
abbrev pub log : Log
log =
    Woke (Opened 0) ∷ Woke (Opened 1)
    ∷ Woke (Readable 0) ∷ Read 0 (Given (take 13 (client_bytes Big recorder))) ∷ Wrote 0 28 (Some setup_reply)
    ∷ Woke (Readable 1) ∷ Read 0 (Given (drop 13 (client_bytes Big recorder))) ∷ Wrote 0 20 (Some created)
    ∷ Read 1 (Given (client_bytes Big other)) ∷ Wrote 1 36 (Some (setup_reply ++ 1 ∷ 9 ∷ 0 ∷ 1 ∷ 0 ∷ 0 ∷ 0 ∷ 0 ∷ []))
    ∷ Woke (Ticked 0 2) ∷ Captured 0 2 (Some (0 ∷ 3 ∷ 0 ∷ 5 ∷ [])) ∷ Emitted 0 (0 ∷ 0 ∷ 0 ∷ 0 ∷ []) true ∷ Read 0 NotYet ∷ Read 1 NotYet ∷ []

abbrev pub said_in : Option State → List ℕ
said_in None = []
said_in (Some s) = (slot_at 0 s).said

-- what it is told after its setup, by the bytes of the two frames
abbrev pub replies : List ℕ → List ℕ
replies frames = first_replies ++ 1 ∷ 7 ∷ 0 ∷ 3 ∷ 0 ∷ 0 ∷ 0 ∷ 3 ∷ 0 ∷ 0 ∷ 0 ∷ 2 ∷ 0 ∷ 0 ∷ 0 ∷ 4 ∷ (frames ++ 1 ∷ 5 ∷ 0 ∷ 4 ∷ 0 ∷ 0 ∷ 0 ∷ 0 ∷ [])

is_told : said_in (end_state config log) ≡ setup_reply ++ replies (0 ∷ 3 ∷ 0 ∷ 5 ∷ [])
unfolding end_state turn wake_phase serve_from serve_link read_phase close_phase hook_from advance complete_due reply_message head creation_refusal controls_refusal samples unwrap heard_sample record_refusal recorded_bytes recorded_sample
is_told = subst (λ m. said_in (end_state config log) ≡ setup_reply ++ replies (bytes_of Lin16 (scaled m (scaled m (pos 3)) ∷ scaled m (scaled m (pos 5)) ∷ []))) unity refl

-- arecord, by these replies
abbrev job : RecordJob
job = record { device = 0; form = None; ty = None; gain = pos 0; block = 2; time = None; frames = 2; seconds = None; stop_peak = 0; stop_blocks = 1; true_header = false; strict = false }

abbrev pub devices : List DeviceInfo
devices = record { ty = Lin16; channels = 1; line = false; rate = 8000; horizon = 32000 } ∷ []

abbrev pub client : ClientState
client = record { order = Big; sequence = 0; ring = record { events = []; lost = 0 }; input = replies (0 ∷ 3 ∷ 0 ∷ 5 ∷ []) }

-- it sends what the link gave, and writes the two frames
sends_so : setup_bytes Big ++ (arecord_trace job devices client).sends ≡ client_bytes Big recorder
unfolding arecord_trace records block_lengths goes_on asks awaited_message incoming first_message after_message peak samples
sends_so = refl

writes_so : (arecord_trace job devices client).output ≡ 0 ∷ 3 ∷ 0 ∷ 5 ∷ []
unfolding arecord_trace records block_lengths goes_on asks awaited_message incoming first_message after_message peak samples
writes_so = refl
