-- A small run, computed: two clients, of which one sends its bytes in two pieces. What it sends is read, and its play is
-- accepted at its time. Its samples leave the device there: alone where nobody else plays, and mixed where the other does.
use Rattle.std.proofs.Common.{◌≡◌, ℕ, false, List, [], ◌∷◌, ◌++◌, ◌^◌, ◌+◌, map, take, drop, refl, pos, slice_get, sym, subst}
use Rattle.std.specs.declared.option.Option.{Option}
use Rattle.std.specs.declared.option.Option.TheVariants.{None, Some}
use Rattle.af_time.specs.DeviceTime.{unwrap}
use Rattle.af_sample.specs.declared.sample_type.SampleType.TheVariants.{Lin16}
use Rattle.af_sample.proofs.MultiplierLemmas.{multiplier_is}
use Rattle.af_sample.specs.Gains.{multiplier, scaled}
use Rattle.af_sample.specs.Heard.{heard_from, heard_sample}
use Rattle.af_sample.specs.Samples.{bytes_of, samples}
use Rattle.af_wire.specs.declared.order.Order.TheVariants.{Big}
use Rattle.af_wire.specs.Message.{head}
use Rattle.af_request.specs.Asked.{Asked, create_ac, free_ac, get_time, play_run}
use Rattle.af_world.specs.declared.happening.Happening.TheVariants.{Read, Woke, Wrote}
use Rattle.af_world.specs.declared.happening.ReadGot.TheVariants.{Given}
use Rattle.af_world.specs.declared.happening.Wake.TheVariants.{Opened, Readable}
use Rattle.af_world.specs.declared.script.DeviceSpec.{DeviceSpec}
use Rattle.af_world.specs.Log.{Log}
use Rattle.af_model.specs.State.{DeviceState, State, opening_device}
use Rattle.af_model.specs.Reply.{reply_message}
use Rattle.af_model.specs.ContextRequests.{creation_refusal}
use Rattle.af_model.specs.Advance.{advance}
use Rattle.af_model.specs.Tick.{complete_due, sound}
use Rattle.af_model.specs.Turn.{close_phase, hook_from, read_phase, serve_from, serve_link, turn, wake_phase}
use Rattle.af_model.specs.Run.{end_state}
use Rattle.af_model.specs.LinkHistory.{history}
use Rattle.af_end_to_end.specs.Sent.{client_bytes}

abbrev pub config : List DeviceSpec
config = record { ty = Lin16; rate = 8000; start = 0; channels = 1; line = false } ∷ []

-- one client plays 7 and 9 from time 2 on, as aplay does; the other one plays 10 at time 3
abbrev first : List Asked
first = create_ac 0 1 2 1 0 (pos 0) (pos 0) ∷ get_time 0 ∷ play_run false 1 2 (0 ∷ 7 ∷ 0 ∷ 9 ∷ []) ∷ free_ac 1 ∷ []

abbrev second : List Asked
second = create_ac 0 1 2 1 0 (pos 0) (pos 0) ∷ play_run false 1 3 (0 ∷ 10 ∷ []) ∷ []

abbrev pub setup_reply : List ℕ
setup_reply = 1 ∷ 0 ∷ 0 ∷ 0 ∷ 0 ∷ 0 ∷ 0 ∷ 5 ∷ 0 ∷ 1 ∷ 0 ∷ 0 ∷ 0 ∷ 0 ∷ 0 ∷ 1 ∷ 2 ∷ 1 ∷ 0 ∷ 0 ∷ 0 ∷ 0 ∷ 0x1F ∷ 0x40 ∷ 0 ∷ 0 ∷ 0x7D ∷ 0 ∷ []

abbrev pub created : List ℕ
created = 1 ∷ 3 ∷ 0 ∷ 1 ∷ 0 ∷ 0 ∷ 0 ∷ 0 ∷ []

-- a time is told, and a play and a context that is freed are answered
abbrev pub first_replies : List ℕ
first_replies = created ++ 1 ∷ 2 ∷ 0 ∷ 2 ∷ 0 ∷ 0 ∷ 0 ∷ 1 ∷ 0 ∷ 0 ∷ 0 ∷ 0 ∷ 1 ∷ 6 ∷ 0 ∷ 3 ∷ 0 ∷ 0 ∷ 0 ∷ 1 ∷ 0 ∷ 0 ∷ 0 ∷ 0 ∷ 1 ∷ 5 ∷ 0 ∷ 4 ∷ 0 ∷ 0 ∷ 0 ∷ 0 ∷ []

abbrev second_replies : List ℕ
second_replies = setup_reply ++ created ++ 1 ∷ 6 ∷ 0 ∷ 2 ∷ 0 ∷ 0 ∷ 0 ∷ 1 ∷ 0 ∷ 0 ∷ 0 ∷ 0 ∷ []

-- the first 13 bytes of the one client come alone, and the rest with those of the other
abbrev log : Log
log =
    Woke (Opened 0) ∷ Woke (Opened 1)
    ∷ Woke (Readable 0) ∷ Read 0 (Given (take 13 (client_bytes Big first))) ∷ Wrote 0 28 (Some setup_reply)
    ∷ Woke (Readable 1) ∷ Read 0 (Given (drop 13 (client_bytes Big first))) ∷ Wrote 0 40 (Some first_replies)
    ∷ Read 1 (Given (client_bytes Big second)) ∷ Wrote 1 48 (Some second_replies) ∷ []

-- the link gave what its client sent
gives_all : (history 0 log).gave ≡ client_bytes Big first
gives_all = refl

-- the device after that, by what a gain of 0 makes of the samples
abbrev device : ℕ → DeviceState
device unity = record (opening_device (record { ty = Lin16; rate = 8000; start = 0; channels = 1; line = false })) {
  accepted = record { start = 2 ^ 32 + 2; samples = scaled unity (pos 7) ∷ scaled unity (pos 9) ∷ []; preempt = false; at = 2 ^ 32 }
      ∷ record { start = 2 ^ 32 + 3; samples = scaled unity (pos 10) ∷ []; preempt = false; at = 2 ^ 32 } ∷ [];
  actors = 0 ∷ 1 ∷ [];
}

pub unity : multiplier (pos 0) ≡ 1024
unity = multiplier_is (pos 0) 1024 refl refl

abbrev pub device_in : Option State → Option DeviceState
device_in None = None
device_in (Some s) = slice_get s.devices 0

both_accepted : device_in (end_state config log) ≡ Some (device 1024)
unfolding end_state turn wake_phase serve_from serve_link read_phase close_phase hook_from advance complete_due reply_message head creation_refusal samples unwrap
both_accepted = subst (λ m. device_in (end_state config log) ≡ Some (device m)) unity refl

-- four frames leave the device: silence, silence, 7 alone, and 9 mixed with 10
both_heard : sound (device 1024) 4 ≡ 0 ∷ 0 ∷ 0 ∷ 0 ∷ 0 ∷ 7 ∷ 0 ∷ 19 ∷ []
unfolding heard_sample
both_heard = subst (λ m. bytes_of Lin16 (map (scaled m) (heard_from 1 (device 1024).accepted (2 ^ 32) 4)) ≡ 0 ∷ 0 ∷ 0 ∷ 0 ∷ 0 ∷ 7 ∷ 0 ∷ 19 ∷ []) (sym unity) refl
