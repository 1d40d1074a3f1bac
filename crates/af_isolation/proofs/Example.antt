-- Small runs, computed: link 0 plays and lifts the hook, and link 1 sends what is no request; a guest's request waits between
-- those of two others.
use Rattle.std.proofs.Common.{◌≡◌, ℕ, Bool, true, false, List, [], ◌∷◌, ◌++◌, is_some, map, refl, take}
use Rattle.std.specs.List.{flat_map}
use Rattle.std.specs.declared.option.Option.{Option}
use Rattle.std.specs.declared.option.Option.TheVariants.{None, Some}
use Rattle.af_sample.specs.declared.sample_type.SampleType.TheVariants.{Lin16}
use Rattle.af_time.specs.DeviceTime.{unwrap}
use Rattle.af_sample.specs.Samples.{samples}
use Rattle.af_wire.specs.Message.{head}
use Rattle.af_world.specs.declared.happening.Happening.TheVariants.{Woke, Read, Wrote, Closed, Captured, Hooked}
use Rattle.af_world.specs.declared.happening.ReadGot.TheVariants.{Given, NotYet}
use Rattle.af_world.specs.declared.happening.Wake.TheVariants.{Opened, Readable, Ticked, Idle}
use Rattle.af_world.specs.declared.happening.Why.TheVariants as why
use Rattle.af_world.specs.declared.script.DeviceSpec.{DeviceSpec}
use Rattle.af_world.specs.Log.{Log}
use Rattle.af_model.specs.State.{Completion, State, slot_at}
use Rattle.af_model.specs.Reply.{reply_message}
use Rattle.af_model.specs.ContextRequests.{creation_refusal}
use Rattle.af_model.specs.Record.{record_refusal, recorded_bytes}
use Rattle.af_model.specs.Advance.{advance}
use Rattle.af_model.specs.Tick.{complete_due}
use Rattle.af_model.specs.Events.{tell}
use Rattle.af_model.specs.Turn.{close_phase, hook_from, read_phase, serve_from, serve_link, turn, wake_phase}
use Rattle.af_model.specs.Run.{end_state, IsRun}
use Rattle.af_isolation.specs.Without.{acted_on, without}

abbrev config : List DeviceSpec
config = record { ty = Lin16; rate = 8000; start = 0; channels = 1; line = true } ∷ []

abbrev setup : List ℕ
setup = 0x41 ∷ 0x46 ∷ 0x42 ∷ 0 ∷ 0 ∷ 1 ∷ 0 ∷ 0 ∷ []

abbrev setup_reply : List ℕ
setup_reply = 1 ∷ 0 ∷ 0 ∷ 0 ∷ 0 ∷ 0 ∷ 0 ∷ 5 ∷ 0 ∷ 1 ∷ 0 ∷ 0 ∷ 0 ∷ 0 ∷ 0 ∷ 1 ∷ 2 ∷ 1 ∷ 1 ∷ 0 ∷ 0 ∷ 0 ∷ 0x1F ∷ 0x40 ∷ 0 ∷ 0 ∷ 0x7D ∷ 0 ∷ []

-- CreateAC, and a Play of one frame at time 0
abbrev plays : List ℕ
plays = setup
    ++ 3 ∷ 0 ∷ 0 ∷ 4 ∷ 0 ∷ 0 ∷ 0 ∷ 1 ∷ 2 ∷ 1 ∷ 0 ∷ 0 ∷ 0 ∷ 0 ∷ 0 ∷ 0
    ∷ 6 ∷ 0 ∷ 0 ∷ 5 ∷ 0 ∷ 0 ∷ 0 ∷ 1 ∷ 0 ∷ 0 ∷ 0 ∷ 0 ∷ 0 ∷ 0 ∷ 0 ∷ 2 ∷ 0 ∷ 7 ∷ 0 ∷ 0 ∷ []

abbrev play_replies : List ℕ
play_replies = setup_reply ++ 1 ∷ 3 ∷ 0 ∷ 1 ∷ 0 ∷ 0 ∷ 0 ∷ 0 ∷ 1 ∷ 6 ∷ 0 ∷ 2 ∷ 0 ∷ 0 ∷ 0 ∷ 1 ∷ 0 ∷ 0 ∷ 0 ∷ 0 ∷ []

-- and a HookSwitch
abbrev lifts : List ℕ
lifts = 11 ∷ 0 ∷ 0 ∷ 2 ∷ 0 ∷ 0 ∷ 0 ∷ 1 ∷ []

abbrev hook_reply : List ℕ
hook_reply = 1 ∷ 11 ∷ 0 ∷ 3 ∷ 0 ∷ 0 ∷ 0 ∷ 0 ∷ []

-- link 1 sends a length of 0, and is closed for it, after a play and a hook of link 0
abbrev log_of_both : Log
log_of_both = Woke (Opened 0) ∷ Woke (Opened 1) ∷ Woke (Readable 0) ∷ Read 0 (Given (plays ++ lifts)) ∷ Wrote 0 56 (Some (play_replies ++ hook_reply)) ∷ Hooked 0 true true
    ∷ Woke (Readable 1) ∷ Read 0 NotYet ∷ Read 1 (Given (setup ++ 9 ∷ 0 ∷ 0 ∷ 0 ∷ [])) ∷ Wrote 1 28 (Some setup_reply) ∷ Closed 1 why.Malformed ∷ []

-- the same without link 1
abbrev log_of_first : Log
log_of_first = Woke (Opened 0) ∷ Woke Idle ∷ Woke (Readable 0) ∷ Read 0 (Given (plays ++ lifts)) ∷ Wrote 0 56 (Some (play_replies ++ hook_reply)) ∷ Hooked 0 true true ∷ Woke Idle ∷ Read 0 NotYet ∷ []

-- and without link 0
abbrev log_of_second : Log
log_of_second = Woke Idle ∷ Woke (Opened 1) ∷ Woke Idle ∷ Hooked 0 true true ∷ Woke (Readable 1) ∷ Read 1 (Given (setup ++ 9 ∷ 0 ∷ 0 ∷ 0 ∷ [])) ∷ Wrote 1 28 (Some setup_reply) ∷ Closed 1 why.Malformed ∷ []

without_one : without 1 log_of_both ≡ log_of_first
without_one = refl

without_zero : without 0 log_of_both ≡ log_of_second
without_zero = refl

both_run : IsRun config log_of_both
unfolding end_state turn wake_phase serve_from serve_link read_phase close_phase hook_from advance complete_due reply_message head creation_refusal samples unwrap tell
both_run = refl

-- without link 1, which never acted, the log is a run
alone_run : IsRun config log_of_first
unfolding end_state turn wake_phase serve_from serve_link read_phase close_phase hook_from advance complete_due reply_message head creation_refusal samples unwrap tell
alone_run = refl

-- without link 0, which acted, it is none: nobody wanted the hook off
unasked_run : is_some (end_state config log_of_second) ≡ false
unfolding end_state turn wake_phase serve_from serve_link read_phase close_phase hook_from advance complete_due reply_message head creation_refusal samples unwrap tell
unasked_run = refl

abbrev has_acted_in : ℕ → Option State → Bool
has_acted_in k None = false
has_acted_in k (Some s) = acted_on k s.devices

who_acted : (has_acted_in 0 (end_state config log_of_both) ≡ true) × (has_acted_in 1 (end_state config log_of_both) ≡ false)
unfolding end_state turn wake_phase serve_from serve_link read_phase close_phase hook_from advance complete_due reply_message head creation_refusal samples unwrap tell
who_acted = (refl, refl)

-- a play alone is an act too
abbrev played_alone : Log
played_alone = Woke (Opened 0) ∷ Woke (Readable 0) ∷ Read 0 (Given plays) ∷ Wrote 0 48 (Some play_replies) ∷ []

play_acts : has_acted_in 0 (end_state config played_alone) ≡ true
unfolding end_state turn wake_phase serve_from serve_link read_phase close_phase hook_from advance complete_due reply_message head creation_refusal samples unwrap
play_acts = refl

-- Three links set up and record the frame from time 0 on, which is not there yet: link 0, link 1 (a guest) and link 2. So their
-- requests are deferred in that order.
abbrev records : List ℕ
records = setup
    ++ 3 ∷ 0 ∷ 0 ∷ 4 ∷ 0 ∷ 0 ∷ 0 ∷ 1 ∷ 2 ∷ 1 ∷ 0 ∷ 0 ∷ 0 ∷ 0 ∷ 0 ∷ 0
    ∷ 7 ∷ 1 ∷ 0 ∷ 4 ∷ 0 ∷ 0 ∷ 0 ∷ 1 ∷ 0 ∷ 0 ∷ 0 ∷ 0 ∷ 0 ∷ 0 ∷ 0 ∷ 2 ∷ []

abbrev creation_reply : List ℕ
creation_reply = setup_reply ++ 1 ∷ 3 ∷ 0 ∷ 1 ∷ 0 ∷ 0 ∷ 0 ∷ 0 ∷ []

-- a link that is opened, asks for its record, and takes all but the last byte that is queued for it
abbrev asks : ℕ → Log
asks k = Woke (Opened k) ∷ Woke (Readable k) ∷ Read k (Given records) ∷ Wrote k 36 (Some (take 35 creation_reply)) ∷ []

-- Then the frame comes, and all three requests fall due. The capture fails, so that silence is recorded.
abbrev comes : Log
comes = Woke (Ticked 0 1) ∷ Captured 0 1 None ∷ []

abbrev three : Log
three = asks 0 ++ asks 1 ++ asks 2 ++ comes ++ Read 0 NotYet ∷ Read 1 NotYet ∷ Read 2 NotYet ∷ []

-- the same without the guest
abbrev two : Log
two = asks 0 ++ (Woke Idle ∷ Woke Idle ∷ []) ++ asks 2 ++ comes ++ Read 0 NotYet ∷ Read 2 NotYet ∷ []

without_guest : without 1 three ≡ two
without_guest = refl

-- the numbers of the links whose deferred requests a device completed, in that order
abbrev completed_in : Option State → List ℕ
completed_in None = []
completed_in (Some s) = flat_map (λ device. map (λ (c : Completion). c.link) device.completed) s.devices

three_complete : completed_in (end_state config three) ≡ 0 ∷ 1 ∷ 2 ∷ []
unfolding end_state turn wake_phase serve_from serve_link read_phase close_phase hook_from advance complete_due reply_message head creation_refusal record_refusal recorded_bytes unwrap
three_complete = refl

two_complete : completed_in (end_state config two) ≡ 0 ∷ 2 ∷ []
unfolding end_state turn wake_phase serve_from serve_link read_phase close_phase hook_from advance complete_due reply_message head creation_refusal record_refusal recorded_bytes unwrap
two_complete = refl

-- the same bytes are queued for the two others
abbrev said_to : ℕ → Option State → List ℕ
said_to k None = []
said_to k (Some s) = (slot_at k s).said

said_alike : (said_to 0 (end_state config two) ≡ said_to 0 (end_state config three)) × (said_to 2 (end_state config two) ≡ said_to 2 (end_state config three))
unfolding end_state turn wake_phase serve_from serve_link read_phase close_phase hook_from advance complete_due reply_message head creation_refusal record_refusal recorded_bytes unwrap
said_alike = (refl, refl)
