-- A small relay, computed: it records two frames on one server, as the client of the example before does, and plays them on
-- another one, a millisecond ahead of that one's time. What the one device captured leaves the other.
use Rattle.std.proofs.Common.{◌≡◌, ℕ, false, List, [], ◌∷◌, ◌++◌, ◌^◌, ◌+◌, map, refl, pos, sym, subst}
use Rattle.std.specs.declared.option.Option.TheVariants.{None, Some}
use Rattle.af_time.specs.DeviceTime.{unwrap}
use Rattle.af_sample.specs.declared.sample_type.SampleType.TheVariants.{Lin16}
use Rattle.af_sample.specs.Gains.{scaled}
use Rattle.af_sample.specs.Heard.{heard_from, heard_sample}
use Rattle.af_sample.specs.Samples.{bytes_of, samples}
use Rattle.af_wire.specs.declared.order.Order.TheVariants.{Big}
use Rattle.af_wire.specs.Front.{setup_bytes}
use Rattle.af_wire.specs.Message.{head}
use Rattle.af_request.specs.Asked.{Asked, create_ac, free_ac, get_time, play_run}
use Rattle.af_world.specs.declared.happening.Happening.TheVariants.{Read, Woke, Wrote}
use Rattle.af_world.specs.declared.happening.ReadGot.TheVariants.{Given}
use Rattle.af_world.specs.declared.happening.Wake.TheVariants.{Opened, Readable}
use Rattle.af_world.specs.Log.{Log}
use Rattle.af_lib.specs.Incoming.{after_message, awaited_message, first_message, incoming}
use Rattle.af_cli.specs.declared.job.PassJob.{PassJob}
use Rattle.af_toolkit.specs.Parts.{goes_on}
use Rattle.af_toolkit.specs.Trace.{ClientState}
use Rattle.af_relay.specs.Pass.{RelayTrace, apass_trace, as_word, asks_from, asks_to, passed_text, relays}
use Rattle.af_model.specs.State.{DeviceState, opening_device}
use Rattle.af_model.specs.Reply.{reply_message}
use Rattle.af_model.specs.ContextRequests.{creation_refusal}
use Rattle.af_model.specs.Advance.{advance}
use Rattle.af_model.specs.Tick.{complete_due, sound}
use Rattle.af_model.specs.Turn.{close_phase, hook_from, read_phase, serve_from, serve_link, turn, wake_phase}
use Rattle.af_model.specs.Run.{end_state}
use Rattle.af_end_to_end.specs.Sent.{client_bytes}
use Rattle.af_end_to_end.proofs.Example.{config, device_in, first_replies, setup_reply, unity}
use Rattle.af_end_to_end.proofs.RecordExample.{client, devices, recorder}

-- a relay of one block of two frames
abbrev job : PassJob
job = record { from_device = 0; to_device = 0; ty = None; gain = pos 0; blocks = Some 1; block = 2; delay = 1; slack = 1; follow = false }

-- what it plays: the two frames that it recorded, eight frames after the time that it was told
abbrev player : List Asked
player = create_ac 0 1 2 1 0 (pos 0) (pos 0) ∷ get_time 0 ∷ play_run false 1 8 (0 ∷ 3 ∷ 0 ∷ 5 ∷ []) ∷ free_ac 1 ∷ []

-- the other server, which is sent all of this at once
abbrev log : Log
log = Woke (Opened 0) ∷ Woke (Readable 0) ∷ Read 0 (Given (client_bytes Big player)) ∷ Wrote 0 68 (Some (setup_reply ++ first_replies)) ∷ []

-- the relay, by what it was told on its two links
abbrev to_client : ClientState
to_client = record { order = Big; sequence = 0; ring = record { events = []; lost = 0 }; input = first_replies }

abbrev trace : RelayTrace
trace = apass_trace job devices devices client to_client

-- it sends what the links gave
records_so : setup_bytes Big ++ trace.did.from ≡ client_bytes Big recorder
unfolding relays goes_on asks_from asks_to as_word awaited_message incoming first_message after_message
records_so = refl

plays_so : setup_bytes Big ++ trace.did.to ≡ client_bytes Big player
unfolding relays goes_on asks_from asks_to as_word awaited_message incoming first_message after_message
plays_so = refl

reports_so : trace.did.output ≡ passed_text 1 0
unfolding relays goes_on asks_from asks_to as_word awaited_message incoming first_message after_message
reports_so = refl

-- the other device after that, by what a gain of 0 makes of the samples
abbrev device : ℕ → DeviceState
device unity = record (opening_device (record { ty = Lin16; rate = 8000; start = 0; channels = 1; line = false })) {
  accepted = record { start = 2 ^ 32 + 8; samples = scaled unity (pos 3) ∷ scaled unity (pos 5) ∷ []; preempt = false; at = 2 ^ 32 } ∷ [];
  actors = 0 ∷ [];
}

accepted_so : device_in (end_state config log) ≡ Some (device 1024)
unfolding end_state turn wake_phase serve_from serve_link read_phase close_phase hook_from advance complete_due reply_message head creation_refusal samples unwrap
accepted_so = subst (λ m. device_in (end_state config log) ≡ Some (device m)) unity refl

-- after eight frames of silence, the two that the first device captured leave this one
heard_so : sound (device 1024) 10 ≡ 0 ∷ 0 ∷ 0 ∷ 0 ∷ 0 ∷ 0 ∷ 0 ∷ 0 ∷ 0 ∷ 0 ∷ 0 ∷ 0 ∷ 0 ∷ 0 ∷ 0 ∷ 0 ∷ 0 ∷ 3 ∷ 0 ∷ 5 ∷ []
unfolding heard_sample
heard_so =
    subst (λ m. bytes_of Lin16 (map (scaled m) (heard_from 1 (device 1024).accepted (2 ^ 32) 10)) ≡ 0 ∷ 0 ∷ 0 ∷ 0 ∷ 0 ∷ 0 ∷ 0 ∷ 0 ∷ 0 ∷ 0 ∷ 0 ∷ 0 ∷ 0 ∷ 0 ∷ 0 ∷ 0 ∷ 0 ∷ 3 ∷ 0 ∷ 5 ∷ []) (sym unity) refl
