-- Small runs, computed: two channels, the other byte order, a deferred record, and an event that finds no room.
use Rattle.std.proofs.Common.{◌≡◌, ℕ, true, false, List, [], ◌∷◌, ◌++◌, is_some, cond, map, refl, replicate, ◌^◌, ◌+◌, ℤ, pos, negsuc, slice_get, sym, subst}
use Rattle.std.specs.declared.option.Option.{Option}
use Rattle.std.specs.declared.option.Option.TheVariants.{None, Some}
use Rattle.af_time.specs.DeviceTime.{unwrap}
use Rattle.af_sample.specs.declared.sample_type.SampleType.TheVariants.{Lin16}
use Rattle.af_sample.proofs.MultiplierLemmas.{multiplier_is}
use Rattle.af_sample.specs.Gains.{multiplier, scaled}
use Rattle.af_sample.specs.Heard.{heard_sample, heard_from}
use Rattle.af_sample.specs.Samples.{bytes_of, samples}
use Rattle.af_sample.specs.Window.{recorded_sample}
use Rattle.af_wire.specs.declared.order.Order.TheVariants.{Little}
use Rattle.af_wire.specs.Event.{event_bytes}
use Rattle.af_wire.specs.Message.{error, head}
use Rattle.af_phone.specs.declared.line.LineChange.TheVariants.{Digit}
use Rattle.af_world.specs.declared.happening.Happening.TheVariants.{Woke, Read, Wrote, Closed, Captured, Emitted}
use Rattle.af_world.specs.declared.happening.ReadGot.TheVariants.{Given, NotYet}
use Rattle.af_world.specs.declared.happening.Wake.TheVariants.{Opened, Readable, Ticked, Line}
use Rattle.af_world.specs.declared.happening.Why.TheVariants as why
use Rattle.af_world.specs.declared.script.DeviceSpec.{DeviceSpec}
use Rattle.af_world.specs.Log.{Log}
use Rattle.af_model.specs.State.{State, DeviceState, closed_slot, new_link_state, opening_state, opening_device, slot_at}
use Rattle.af_model.specs.Reply.{reply_message}
use Rattle.af_model.specs.ContextRequests.{creation_refusal}
use Rattle.af_model.specs.Record.{record_refusal, recorded_bytes}
use Rattle.af_model.specs.Advance.{advance}
use Rattle.af_model.specs.Tick.{complete_due, sound, tick}
use Rattle.af_model.specs.DeviceRequests.{controls_refusal}
use Rattle.af_model.specs.Events.{tell}
use Rattle.af_model.specs.Turn.{close_phase, hook_from, accept, read_phase, serve_from, serve_link, and_then, tick_phase, turn, wake_phase}
use Rattle.af_world.specs.Outside.{same_bytes}
use Rattle.af_model.specs.Run.{end_state, IsRun}
use Rattle.af_model.specs.LinkHistory.{history}
use Rattle.af_model.specs.Causes.{IsCause}

-- a device of LIN16 with so many channels
abbrev device_spec : ℕ → DeviceSpec
device_spec channels = record { ty = Lin16; rate = 8000; start = 0; channels = channels; line = false }

abbrev config : ℕ → List DeviceSpec
config channels = device_spec channels ∷ []

abbrev setup : List ℕ
setup = 0x41 ∷ 0x46 ∷ 0x42 ∷ 0 ∷ 0 ∷ 1 ∷ 0 ∷ 0 ∷ []

abbrev setup_reply : ℕ → List ℕ
setup_reply channels = 1 ∷ 0 ∷ 0 ∷ 0 ∷ 0 ∷ 0 ∷ 0 ∷ 5 ∷ 0 ∷ 1 ∷ 0 ∷ 0 ∷ 0 ∷ 0 ∷ 0 ∷ 1 ∷ 2 ∷ channels ∷ 0 ∷ 0 ∷ 0 ∷ 0 ∷ 0x1F ∷ 0x40 ∷ 0 ∷ 0 ∷ 0x7D ∷ 0 ∷ []

-- CreateAC 1
abbrev creates : ℕ → List ℕ
creates channels = 3 ∷ 0 ∷ 0 ∷ 4 ∷ 0 ∷ 0 ∷ 0 ∷ 1 ∷ 2 ∷ channels ∷ 0 ∷ 0 ∷ 0 ∷ 0 ∷ 0 ∷ 0 ∷ []

abbrev created : List ℕ
created = 1 ∷ 3 ∷ 0 ∷ 1 ∷ 0 ∷ 0 ∷ 0 ∷ 0 ∷ []

-- Two channels: two frames, 7 and 9 and then 1 and -1, are played from time 0 on, and one frame, 10 and 20, at time 1.
abbrev stereo_plays : List ℕ
stereo_plays = 6 ∷ 0 ∷ 0 ∷ 6 ∷ 0 ∷ 0 ∷ 0 ∷ 1 ∷ 0 ∷ 0 ∷ 0 ∷ 0 ∷ 0 ∷ 0 ∷ 0 ∷ 8 ∷ 0 ∷ 7 ∷ 0 ∷ 9 ∷ 0 ∷ 1 ∷ 255 ∷ 255
    ∷ 6 ∷ 0 ∷ 0 ∷ 5 ∷ 0 ∷ 0 ∷ 0 ∷ 1 ∷ 0 ∷ 0 ∷ 0 ∷ 1 ∷ 0 ∷ 0 ∷ 0 ∷ 4 ∷ 0 ∷ 10 ∷ 0 ∷ 20 ∷ []

abbrev stereo_played : List ℕ
stereo_played = 1 ∷ 6 ∷ 0 ∷ 2 ∷ 0 ∷ 0 ∷ 0 ∷ 1 ∷ 0 ∷ 0 ∷ 0 ∷ 0 ∷ 1 ∷ 6 ∷ 0 ∷ 3 ∷ 0 ∷ 0 ∷ 0 ∷ 1 ∷ 0 ∷ 0 ∷ 0 ∷ 0 ∷ []

abbrev stereo : Log
stereo = Woke (Opened 0) ∷ Woke (Readable 0) ∷ Read 0 (Given (setup ++ creates 2 ++ stereo_plays)) ∷ Wrote 0 60 (Some (setup_reply 2 ++ created ++ stereo_played)) ∷ []

-- the device after that, by what a gain of 0 makes of the samples
abbrev stereo_device : ℕ → DeviceState
stereo_device unity = record (opening_device (device_spec 2)) {
  accepted = record { start = 2 ^ 32; samples = scaled unity (pos 7) ∷ scaled unity (pos 9) ∷ scaled unity (pos 1) ∷ scaled unity (negsuc 0) ∷ []; preempt = false; at = 2 ^ 32 }
      ∷ record { start = 2 ^ 32 + 1; samples = scaled unity (pos 10) ∷ scaled unity (pos 20) ∷ []; preempt = false; at = 2 ^ 32 } ∷ [];
  actors = 0 ∷ 0 ∷ [];
}

-- a gain of 0 leaves a sample as it is
unity : multiplier (pos 0) ≡ 1024
unity = multiplier_is (pos 0) 1024 refl refl

abbrev device_in : Option State → Option DeviceState
device_in None = None
device_in (Some s) = slice_get s.devices 0

stereo_accepted : device_in (end_state (config 2) stereo) ≡ Some (stereo_device 1024)
unfolding end_state turn wake_phase serve_from serve_link read_phase close_phase hook_from advance complete_due reply_message head creation_refusal samples unwrap
stereo_accepted = subst (λ m. device_in (end_state (config 2) stereo) ≡ Some (stereo_device m)) unity refl

-- each channel is mixed only with itself
stereo_sound : sound (stereo_device 1024) 2 ≡ 0 ∷ 7 ∷ 0 ∷ 9 ∷ 0 ∷ 11 ∷ 0 ∷ 19 ∷ []
unfolding heard_sample
stereo_sound = subst (λ m. bytes_of Lin16 (map (scaled m) (heard_from 2 (stereo_device 1024).accepted (2 ^ 32) 2)) ≡ 0 ∷ 7 ∷ 0 ∷ 9 ∷ 0 ∷ 11 ∷ 0 ∷ 19 ∷ []) (sym unity) refl

-- a tick of two frames captures four samples and hands out eight bytes
stereo_tick : (s : State) (more : Log) →
    tick_phase 0 2 (Some (stereo_device 1024)) s (Captured 0 2 (Some (0 ∷ 3 ∷ 0 ∷ 4 ∷ 0 ∷ 5 ∷ 0 ∷ 6 ∷ [])) ∷ Emitted 0 (0 ∷ 7 ∷ 0 ∷ 9 ∷ 0 ∷ 11 ∷ 0 ∷ 19 ∷ []) true ∷ more)
    ≡ accept (tick 0 2 (pos 3 ∷ pos 4 ∷ pos 5 ∷ pos 6 ∷ []) false s) more
unfolding samples
stereo_tick s more =
    let captured : List ℤ = pos 3 ∷ pos 4 ∷ pos 5 ∷ pos 6 ∷ [] in
    subst (λ out. and_then (cond (same_bytes (0 ∷ 7 ∷ 0 ∷ 9 ∷ 0 ∷ 11 ∷ 0 ∷ 19 ∷ []) out) (Some (tick 0 2 captured false s)) None) (λ t. accept t more) ≡ accept (tick 0 2 captured false s) more)
    (sym stereo_sound) refl

-- the second frame of the right channel is the last of them
stereo_recorded : recorded_sample 2 (pos 3 ∷ pos 4 ∷ pos 5 ∷ pos 6 ∷ []) (2 ^ 32) (2 ^ 32 + 2) 32000 (2 ^ 32 + 1) 1 ≡ pos 6
unfolding recorded_sample
stereo_recorded = refl

-- A link whose setup is in the other byte order, with a version 2: the error has that order, and says which version
abbrev little : List ℕ → Log
little told = Woke (Opened 0) ∷ Woke (Readable 0) ∷ Read 0 (Given (0x41 ∷ 0x46 ∷ 0x6C ∷ 0 ∷ 2 ∷ 0 ∷ 0 ∷ 0 ∷ [])) ∷ Wrote 0 16 (Some told) ∷ Closed 0 why.BadSetup ∷ []

little_run : IsRun (config 1) (little (0 ∷ 1 ∷ 0 ∷ 0 ∷ 2 ∷ 0 ∷ 0 ∷ 0 ∷ 2 ∷ 0 ∷ 0 ∷ 0 ∷ 0 ∷ 0 ∷ 0 ∷ 0 ∷ []))
unfolding end_state turn wake_phase serve_from serve_link read_phase close_phase hook_from advance complete_due error head
little_run = refl

little_other : is_some (end_state (config 1) (little (0 ∷ 1 ∷ 0 ∷ 0 ∷ 0 ∷ 0 ∷ 0 ∷ 2 ∷ 0 ∷ 0 ∷ 0 ∷ 2 ∷ 0 ∷ 0 ∷ 0 ∷ 0 ∷ []))) ≡ false
unfolding end_state turn wake_phase serve_from serve_link read_phase close_phase hook_from advance complete_due error head
little_other = refl

little_cause : (told : List ℕ) → IsCause why.BadSetup (history 0 (little told)) 0
little_cause told = (record { failed = refl; ended = refl; all_taken = refl }, Little, 2, refl)

-- After a CreateAC and a SetControls that switches the output off, a record of two frames from time 0 on is deferred, and a
-- GetTime follows it. The link took 28 bytes and is blocked.
abbrev records : List ℕ
records = setup ++ creates 1 ++ 9 ∷ 0 ∷ 0 ∷ 3 ∷ 8 ∷ 0 ∷ 0 ∷ 0 ∷ 0 ∷ 0 ∷ 0 ∷ 0 ∷ 7 ∷ 1 ∷ 0 ∷ 4 ∷ 0 ∷ 0 ∷ 0 ∷ 1 ∷ 0 ∷ 0 ∷ 0 ∷ 0 ∷ 0 ∷ 0 ∷ 0 ∷ 4 ∷ 2 ∷ 0 ∷ 0 ∷ 1 ∷ []

abbrev waits : Log
waits = Woke (Opened 0) ∷ Woke (Readable 0) ∷ Read 0 (Given records) ∷ Wrote 0 44 (Some (setup_reply 1)) ∷ Woke (Ticked 0 1) ∷ Captured 0 1 (Some (0 ∷ 10 ∷ [])) ∷ Emitted 0 (0 ∷ 0 ∷ []) true ∷ []

-- the second tick completes it, and then its link is read again
abbrev completes : Log
completes = waits ++ Woke (Ticked 0 1) ∷ Captured 0 1 (Some (0 ∷ 11 ∷ [])) ∷ Emitted 0 (0 ∷ 0 ∷ []) true ∷ Read 0 NotYet ∷ []

abbrev said_in : Option State → List ℕ
said_in None = []
said_in (Some s) = (slot_at 0 s).said

-- what is queued for it while it waits
abbrev said_before : List ℕ
said_before = setup_reply 1 ++ created ++ 1 ∷ 9 ∷ 0 ∷ 2 ∷ 0 ∷ 0 ∷ 0 ∷ 0 ∷ []

still_waits : said_in (end_state (config 1) waits) ≡ said_before
unfolding end_state turn wake_phase serve_from serve_link read_phase close_phase hook_from advance complete_due reply_message head creation_refusal controls_refusal samples unwrap record_refusal recorded_bytes recorded_sample
still_waits = refl

-- then both frames, and the time after them
completed : said_in (end_state (config 1) completes) ≡ said_before ++ 1 ∷ 7 ∷ 0 ∷ 3 ∷ 0 ∷ 0 ∷ 0 ∷ 3 ∷ 0 ∷ 0 ∷ 0 ∷ 2 ∷ 0 ∷ 0 ∷ 0 ∷ 4 ∷ 0 ∷ 10 ∷ 0 ∷ 11 ∷ 1 ∷ 2 ∷ 0 ∷ 4 ∷ 0 ∷ 0 ∷ 0 ∷ 1 ∷ 0 ∷ 0 ∷ 0 ∷ 2 ∷ []
unfolding end_state turn wake_phase serve_from serve_link read_phase close_phase hook_from advance complete_due reply_message head creation_refusal controls_refusal samples unwrap record_refusal recorded_bytes recorded_sample
completed =
    subst (λ m. said_in (end_state (config 1) completes) ≡ said_before ++ 1 ∷ 7 ∷ 0 ∷ 3 ∷ 0 ∷ 0 ∷ 0 ∷ 3 ∷ 0 ∷ 0 ∷ 0 ∷ 2 ∷ 0 ∷ 0 ∷ 0 ∷ 4 ∷ (bytes_of Lin16 (scaled m (scaled m (pos 10)) ∷ scaled m (scaled m (pos 11)) ∷ []) ++ 1 ∷ 2 ∷ 0 ∷ 4 ∷ 0 ∷ 0 ∷ 0 ∷ 1 ∷ 0 ∷ 0 ∷ 0 ∷ 2 ∷ [])) unity refl

-- A link that selects digits, with so many bytes to be sent. An event has 20: beside 49132 it finds room, and beside one more it
-- does not.
abbrev owed : ℕ → State
owed n = record (opening_state (record (device_spec 1) { line = true } ∷ [])) {
  slots = record { link = Some (record new_link_state { is_set_up = true; pending = replicate n 0; is_stuck = true; selections = 8 ∷ replicate 7 0 }); said = [] } ∷ replicate 31 closed_slot;
}

told : is_some (turn (owed 49132) (Woke (Line 0 (Digit 0x35)) ∷ [])) ≡ true
unfolding turn wake_phase serve_from serve_link read_phase close_phase hook_from tell event_bytes head
told = refl

overrun : is_some (turn (owed 49133) (Woke (Line 0 (Digit 0x35)) ∷ Closed 0 why.Overrun ∷ [])) ≡ true
unfolding turn wake_phase serve_from serve_link read_phase close_phase hook_from tell event_bytes head
overrun = refl
