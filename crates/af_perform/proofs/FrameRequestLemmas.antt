-- A request in a frame of at most 16384 bytes has at most 16368 bytes of samples.
use Rattle.std.proofs.Common.{◌≡◌, ℕ, ℤ, ◌+◌, ◌*◌, ◌-◌, ◌≤◌, ◌==◌, Bool, true, false, cond, List, length, drop, take, option_and_then, IfSome, refl, sym, subst, arith, length-drop}
use Rattle.std.proofs.lemmas.List.{length-take}
use Rattle.std.specs.declared.option.Option.{Option}
use Rattle.std.specs.declared.option.Option.TheVariants.{None, Some}
use Rattle.af_limits.specs.Limits.{longest_frame, longest_play}
use Rattle.af_time.specs.declared.DevTime.{DevTime}
use Rattle.af_wire.specs.declared.order.Order.{Order}
use Rattle.af_request.specs.declared.request.Request.{Request}
use Rattle.af_request.specs.declared.request.Request.TheVariants as code
use Rattle.af_request.specs.Asked.{Asked, request_meaning}
use Rattle.af_request.specs.Fields.{u8_at, u32_at}
use Rattle.af_request.specs.Requests.{Row, row_of, asked_by, asked_in, FitsFrame, no_op_row, get_time_row, create_ac_row, change_ac_row, free_ac_row, play_run_row, record_run_row, select_events_row, set_controls_row, query_controls_row, hook_switch_row, query_phone_row}
use Rattle.af_request.specs.Opcodes as opcodes
use Rattle.af_perform.specs.Asked.{is_done_at_once}
use denote.Bor.{Bor}

-- a request that is no play and no record
pub at_once : (r : Request) → ((quiet : Bool) (ac : ℕ) (time : DevTime) (samples : Bor (List ℕ)) → r ≡ code.PlayRun quiet ac time samples → ⊥) →
    ((blocking : Bool) (ac : ℕ) (time : DevTime) (nbytes : ℕ) → r ≡ code.RecordRun blocking ac time nbytes → ⊥) →
    ((device mask input_on output_on : ℕ) (input_gain output_gain : ℤ) → r ≡ code.SetControls device mask input_on output_on input_gain output_gain → ⊥) →
    ((device off : ℕ) → r ≡ code.HookSwitch device off → ⊥) → is_done_at_once (request_meaning r) ≡ true
at_once code.NoOp p q c h = refl
at_once (code.GetTime device) p q c h = refl
at_once (code.CreateAc device ac ty channels preempt play_gain record_gain) p q c h = refl
at_once (code.ChangeAc mask ac preempt play_gain record_gain) p q c h = refl
at_once (code.FreeAc ac) p q c h = refl
at_once (code.PlayRun quiet ac time samples) p q c h = absurd (p quiet ac time samples refl)
at_once (code.RecordRun blocking ac time nbytes) p q c h = absurd (q blocking ac time nbytes refl)
at_once (code.SelectEvents device mask) p q c h = refl
at_once (code.SetControls device mask input_on output_on input_gain output_gain) p q c h = absurd (c device mask input_on output_on input_gain output_gain refl)
at_once (code.QueryControls device) p q c h = refl
at_once (code.HookSwitch device off) p q c h = absurd (h device off refl)
at_once (code.QueryPhone device) p q c h = refl

-- what a frame asks for by a row, if it is one, has room
abbrev Fits : List ℕ → Option Row → Type 0
Fits frame o = IfSome (option_and_then (asked_by frame) o) FitsFrame

either : (frame : List ℕ) (b : Bool) (x y : Option Row) → Fits frame x → Fits frame y → Fits frame (cond b x y)
either frame true x y p q = p
either frame false x y p q = q

a_row : (frame : List ℕ) (r : Row) → FitsFrame r.asked → Fits frame (Some r)
a_row frame r room = elim (length frame == 4 * r.words) as (λ b. IfSome (cond b (Some r.asked) None) FitsFrame) [ true ↦ room | false ↦ tt ]

play_room : (frame : List ℕ) (count : ℕ) → length frame ≤ longest_frame → length (take (16 + count - 16) (drop 16 frame)) ≤ longest_play
play_room frame count few =
    let left = length-drop 16 frame in
    let all = length-take (16 + count - 16) (drop 16 frame) in
    omega (arith, left, all, few)

row_room : (order : Order) (opcode : ℕ) (frame : List ℕ) → length frame ≤ longest_frame → Fits frame (row_of order opcode frame)
row_room order opcode frame few =
    either frame (opcode == opcodes.no_op) _ _ (a_row frame (no_op_row frame) tt)
    (either frame (opcode == opcodes.get_time) _ _ (a_row frame (get_time_row frame) tt)
    (either frame (opcode == opcodes.create_ac) _ _ (a_row frame (create_ac_row order frame) tt)
    (either frame (opcode == opcodes.change_ac) _ _ (a_row frame (change_ac_row order frame) tt)
    (either frame (opcode == opcodes.free_ac) _ _ (a_row frame (free_ac_row order frame) tt)
    (either frame (opcode == opcodes.play) _ _ (a_row frame (play_run_row order frame) (play_room frame (u32_at order 12 frame) few))
    (either frame (opcode == opcodes.record) _ _ (a_row frame (record_run_row order frame) tt)
    (either frame (opcode == opcodes.select_events) _ _ (a_row frame (select_events_row order frame) tt)
    (either frame (opcode == opcodes.set_controls) _ _ (a_row frame (set_controls_row order frame) tt)
    (either frame (opcode == opcodes.query_controls) _ _ (a_row frame (query_controls_row frame) tt)
    (either frame (opcode == opcodes.hook_switch) _ _ (a_row frame (hook_switch_row order frame) tt)
    (either frame (opcode == opcodes.query_phone) _ _ (a_row frame (query_phone_row frame) tt) tt)))))))))))

pub asked_room : (order : Order) (frame : List ℕ) (a : Asked) → length frame ≤ longest_frame → Some a ≡ asked_in order frame → FitsFrame a
asked_room order frame a few e = subst (λ o. IfSome o FitsFrame) (sym e) (row_room order (u8_at 0 frame) frame few)
