-- Small runs, computed: link 0 sets up and switches the output off, and then a tick hands silence out, or the link is slow and
-- fails.
use Rattle.std.proofs.Common.{◌≡◌, ℕ, true, false, List, [], ◌∷◌, ◌++◌, is_some, refl, pos}
use Rattle.std.specs.List.{list_any}
use Rattle.std.specs.declared.option.Option.{Option}
use Rattle.std.specs.declared.option.Option.TheVariants.{None, Some}
use Rattle.af_sample.specs.declared.sample_type.SampleType.TheVariants.{Lin16}
use Rattle.af_sample.specs.Heard.{AcceptedPlay, heard_sample}
use Rattle.af_wire.specs.Message.{head}
use Rattle.af_world.specs.declared.happening.Happening.TheVariants.{Woke, Read, Wrote, Closed, Captured, Emitted}
use Rattle.af_world.specs.declared.happening.ReadGot.TheVariants.{Given, NotYet}
use Rattle.af_world.specs.declared.happening.Wake.TheVariants.{Opened, Readable, Writable, Ticked, Idle}
use Rattle.af_world.specs.declared.happening.Why.{Why}
use Rattle.af_world.specs.declared.happening.Why.TheVariants as why
use Rattle.af_world.specs.declared.script.DeviceSpec.{DeviceSpec}
use Rattle.af_world.specs.Log.{Log}
use Rattle.af_model.specs.State.{OpenLink, State, new_link_state, open_link, slot_at}
use Rattle.af_wire.specs.declared.order.Order.TheVariants.{Big}
use Rattle.af_model.specs.Reply.{reply_message}
use Rattle.af_model.specs.DeviceRequests.{controls_refusal}
use Rattle.af_model.specs.Advance.{absorb, advance}
use Rattle.af_model.specs.Tick.{complete_due}
use Rattle.af_model.specs.Turn.{close_phase, hook_from, read_phase, serve_from, serve_link, turn, wake_phase}
use Rattle.af_model.specs.Run.{end_state, IsRun}
use Rattle.af_model.specs.LinkHistory.{history}
use Rattle.af_model.specs.Prefix.{taken}
use Rattle.af_model.specs.Causes.{IsCause}
use Rattle.af_model.specs.Dead.{fails_device}

abbrev config : List DeviceSpec
config = record { ty = Lin16; rate = 8000; start = 0; channels = 1; line = false } ∷ []

-- a setup, and SetControls of device 0 with its output off
abbrev sent : List ℕ
sent = 0x41 ∷ 0x46 ∷ 0x42 ∷ 0 ∷ 0 ∷ 1 ∷ 0 ∷ 0 ∷ 9 ∷ 0 ∷ 0 ∷ 3 ∷ 8 ∷ 0 ∷ 0 ∷ 0 ∷ 0 ∷ 0 ∷ 0 ∷ 0 ∷ []

-- the replies to both
abbrev setup_reply : List ℕ
setup_reply = 1 ∷ 0 ∷ 0 ∷ 0 ∷ 0 ∷ 0 ∷ 0 ∷ 5 ∷ 0 ∷ 1 ∷ 0 ∷ 0 ∷ 0 ∷ 0 ∷ 0 ∷ 1 ∷ 2 ∷ 1 ∷ 0 ∷ 0 ∷ 0 ∷ 0 ∷ 0x1F ∷ 0x40 ∷ 0 ∷ 0 ∷ 0x7D ∷ 0 ∷ []

abbrev reply : List ℕ
reply = 1 ∷ 9 ∷ 0 ∷ 1 ∷ 0 ∷ 0 ∷ 0 ∷ 0 ∷ []

-- after the setup and the request, the link takes all that is offered
abbrev asked : Log
asked = Woke (Opened 0) ∷ Woke (Readable 0) ∷ Read 0 (Given sent) ∷ []

abbrev begin : Log
begin = asked ++ Wrote 0 36 (Some (setup_reply ++ reply)) ∷ []

-- the log, with the sound that is handed out in the end
abbrev small : List ℕ → Log
small out = begin ++ Woke (Ticked 0 2) ∷ Captured 0 2 (Some (0 ∷ 9 ∷ 0 ∷ 9 ∷ [])) ∷ Emitted 0 out true ∷ Read 0 NotYet ∷ []

is_run : IsRun config (small (0 ∷ 0 ∷ 0 ∷ 0 ∷ []))
unfolding end_state turn wake_phase serve_from serve_link read_phase close_phase hook_from advance complete_due reply_message head controls_refusal
is_run = refl

-- with another sound it is none
no_run : is_some (end_state config (small (0 ∷ 0 ∷ 0 ∷ 1 ∷ []))) ≡ false
unfolding end_state turn wake_phase serve_from serve_link read_phase close_phase hook_from advance complete_due reply_message head controls_refusal
no_run = refl

-- what was taken is all that was queued
took : taken 0 begin ≡ setup_reply ++ reply
took = refl

abbrev said_in : Option State → List ℕ
said_in None = []
said_in (Some s) = (slot_at 0 s).said

was_said : said_in (end_state config begin) ≡ setup_reply ++ reply
unfolding end_state turn wake_phase serve_from serve_link read_phase close_phase hook_from advance complete_due reply_message head controls_refusal
was_said = refl

-- a link that is opened again begins again
begun_anew : taken 0 (begin ++ Woke (Opened 0) ∷ []) ≡ []
begun_anew = refl

-- A slow link takes the first bytes, and is offered the rest once it may take some again. Then a write fails, and it is closed:
-- what was queued stays on record, and what it took is a prefix of it.
abbrev slow : List ℕ → List ℕ → Log
slow first left = asked ++ Wrote 0 36 (Some first) ∷ Woke Idle ∷ Read 0 NotYet ∷ Woke (Writable 0) ∷ Wrote 0 8 (Some left) ∷ Woke (Writable 0) ∷ Wrote 0 6 None ∷ Closed 0 why.LinkFault ∷ []

slow_run : IsRun config (slow setup_reply (1 ∷ 9 ∷ []))
unfolding end_state turn wake_phase serve_from serve_link read_phase close_phase hook_from advance complete_due reply_message head controls_refusal
slow_run = refl

slow_took : taken 0 (slow setup_reply (1 ∷ 9 ∷ [])) ≡ setup_reply ++ 1 ∷ 9 ∷ []
slow_took = refl

slow_said : said_in (end_state config (slow setup_reply (1 ∷ 9 ∷ []))) ≡ setup_reply ++ reply
unfolding end_state turn wake_phase serve_from serve_link read_phase close_phase hook_from advance complete_due reply_message head controls_refusal
slow_said = refl

-- it takes no others
slow_other : is_some (end_state config (slow setup_reply (9 ∷ 1 ∷ []))) ≡ false
unfolding end_state turn wake_phase serve_from serve_link read_phase close_phase hook_from advance complete_due reply_message head controls_refusal
slow_other = refl

-- its history shows why it was closed
slow_cause : ((history 0 (slow setup_reply (1 ∷ 9 ∷ []))).closed ≡ Some why.LinkFault) × IsCause why.LinkFault (history 0 (slow setup_reply (1 ∷ 9 ∷ []))) 6
slow_cause = (refl, refl)

-- after its setup and its request a link sends a length of 0
abbrev malformed : Why → Log
malformed cause = Woke (Opened 0) ∷ Woke (Readable 0) ∷ Read 0 (Given (sent ++ 9 ∷ 0 ∷ 0 ∷ 0 ∷ [])) ∷ Wrote 0 36 (Some (setup_reply ++ reply)) ∷ Closed 0 cause ∷ []

malformed_run : IsRun config (malformed why.Malformed)
unfolding end_state turn wake_phase serve_from serve_link read_phase close_phase hook_from advance complete_due reply_message head controls_refusal
malformed_run = refl

-- it is closed for no other cause
malformed_other : is_some (end_state config (malformed why.Ended)) ≡ false
unfolding end_state turn wake_phase serve_from serve_link read_phase close_phase hook_from advance complete_due reply_message head controls_refusal
malformed_other = refl

malformed_cause : IsCause why.Malformed (history 0 (malformed why.Malformed)) 0
malformed_cause = (record { failed = refl; ended = refl; all_taken = refl }, Big, 9 ∷ 0 ∷ 0 ∷ 0 ∷ [], record { setup = refl; sizes = 12 ∷ []; requests = (refl, refl, refl) }, refl)

-- a device is dead after an emit that failed, and makes no call in the next tick
abbrev failing : Log
failing = begin ++ Woke (Ticked 0 2) ∷ Captured 0 2 (Some (0 ∷ 9 ∷ 0 ∷ 9 ∷ [])) ∷ Emitted 0 (0 ∷ 0 ∷ 0 ∷ 0 ∷ []) false ∷ Read 0 NotYet ∷ Woke (Ticked 0 1) ∷ []

failing_run : IsRun config failing
unfolding end_state turn wake_phase serve_from serve_link read_phase close_phase hook_from advance complete_due reply_message head controls_refusal
failing_run = refl

failing_dead : list_any (fails_device 0) failing ≡ true
failing_dead = refl

-- If the case of a closing link were missing, cutting would change what is unread: a malformed front closes, and a byte comes
-- after it.
abbrev comes : List ℕ → OpenLink → OpenLink
comes bytes p = advance 0 (open_link p.environment (record p.link { rest = p.link.rest ++ bytes }))

abbrev set_up : OpenLink
set_up = open_link (record { devices = []; waiting = []; said = [] }) (record new_link_state { is_set_up = true })

cut_leaves : (comes (5 ∷ []) (comes (9 ∷ 0 ∷ 0 ∷ 0 ∷ []) set_up)).link.rest ≡ 5 ∷ []
unfolding advance
cut_leaves = refl

whole_leaves : (comes (9 ∷ 0 ∷ 0 ∷ 0 ∷ 5 ∷ []) set_up).link.rest ≡ []
unfolding advance
whole_leaves = refl

cut_absorbs : (absorb 0 (5 ∷ []) (absorb 0 (9 ∷ 0 ∷ 0 ∷ 0 ∷ []) set_up)).link.rest ≡ []
unfolding advance
cut_absorbs = refl

-- a play that is accepted after a time changes nothing of it, and one that is accepted by then is mixed in
abbrev plays : ℕ → AcceptedPlay
plays at = record { start = 0; samples = pos 7 ∷ pos 7 ∷ []; preempt = false; at = at }

later_unheard : heard_sample 1 (plays 0 ∷ plays 2 ∷ []) 1 0 ≡ pos 7
unfolding heard_sample
later_unheard = refl

earlier_heard : heard_sample 1 (plays 0 ∷ plays 1 ∷ []) 1 0 ≡ pos 14
unfolding heard_sample
earlier_heard = refl
