-- The grammar of requests: which bytes ask for what, and how a request is spelled.
use Rattle.std.specs.Prelude.{◌≡◌, ◌≢◌, ◌≤◌, ◌<◌, ◌^◌, ℕ, ◌+◌, ◌*◌, ◌==◌, if◌then◌else◌, Bool, List, [], ◌∷◌, ◌++◌, Option, Some, None, length, slice_range, bit_and, option_and_then, MatchOption, FitsSigned, ⊤}
use Rattle.std.specs.Int.{w16}
use Rattle.af_limits.specs.Limits.{longest_play}
use Rattle.af_wire.specs.declared.order.Order.{Order}
use Rattle.af_wire.specs.declared.front.Front.TheVariants.{Frame}
use Rattle.af_wire.specs.Front.{frame_front}
use Rattle.af_wire.specs.Order.{i16_bytes, u16_bytes, u32_bytes}
use Rattle.af_request.specs.Asked.{Asked, no_op, get_time, create_ac, change_ac, free_ac, play_run, record_run, select_events, set_controls, query_controls, hook_switch, query_phone}
use Rattle.af_request.specs.Fields.{u8_at, u32_at, i16_at, flag_byte, words_for, padded_bytes}
use Rattle.af_request.specs.Opcodes as opcodes

-- a row of the grammar, for the bytes of a frame: how many words such a request has, and what it asks for
pub record Row : Type 0 where
  pub words : ℕ
  pub asked : Asked

-- a row of so many words
abbrev pub row : ℕ → Asked → Row
row words asked = record { words = words; asked = asked }

-- Every request has its opcode at 0, a detail at 1 and its length at 2.
-- NoOp
abbrev pub no_op_row : List ℕ → Row
no_op_row frame = row 1 no_op

-- GetTime; the detail is the device
abbrev pub get_time_row : List ℕ → Row
get_time_row frame = row 1 (get_time (u8_at 1 frame))

-- CreateAC; the detail is the device
abbrev pub create_ac_row : Order → List ℕ → Row
create_ac_row order frame =
    row 4
    (create_ac (u8_at 1 frame) (u32_at order 4 frame) (u8_at 8 frame) (u8_at 9 frame) (u8_at 10 frame) (i16_at order 12 frame)
    (i16_at order 14 frame))

-- ChangeAC; the detail is the mask of what changes
abbrev pub change_ac_row : Order → List ℕ → Row
change_ac_row order frame =
    row 4 (change_ac (u8_at 1 frame) (u32_at order 4 frame) (u8_at 8 frame) (i16_at order 12 frame) (i16_at order 14 frame))

-- FreeAC
abbrev pub free_ac_row : Order → List ℕ → Row
free_ac_row order frame = row 2 (free_ac (u32_at order 4 frame))

-- whether bit 0 of the detail is set
abbrev pub low_bit : List ℕ → Bool
low_bit frame = bit_and (u8_at 1 frame) 1 == 1

-- Play; bit 0 of the detail asks for no reply, and the data are padded to a word
abbrev pub play_run_row : Order → List ℕ → Row
play_run_row order frame = let count = u32_at order 12 frame in
    row (4 + words_for count)
    (play_run (low_bit frame) (u32_at order 4 frame) (u32_at order 8 frame) (slice_range frame 16 (16 + count)))

-- Record; bit 0 of the detail asks to wait for all samples
abbrev pub record_run_row : Order → List ℕ → Row
record_run_row order frame =
    row 4 (record_run (low_bit frame) (u32_at order 4 frame) (u32_at order 8 frame) (u32_at order 12 frame))

-- SelectEvents; the detail is the device
abbrev pub select_events_row : Order → List ℕ → Row
select_events_row order frame = row 2 (select_events (u8_at 1 frame) (u32_at order 4 frame))

-- SetControls; the detail is the device
abbrev pub set_controls_row : Order → List ℕ → Row
set_controls_row order frame =
    row 3
    (set_controls (u8_at 1 frame) (u8_at 4 frame) (u8_at 5 frame) (u8_at 6 frame) (i16_at order 8 frame) (i16_at order 10 frame))

-- QueryControls; the detail is the device
abbrev pub query_controls_row : List ℕ → Row
query_controls_row frame = row 1 (query_controls (u8_at 1 frame))

-- HookSwitch; the detail is the device
abbrev pub hook_switch_row : Order → List ℕ → Row
hook_switch_row order frame = row 2 (hook_switch (u8_at 1 frame) (u32_at order 4 frame))

-- QueryPhone; the detail is the device
abbrev pub query_phone_row : List ℕ → Row
query_phone_row frame = row 1 (query_phone (u8_at 1 frame))

-- the row of an opcode, if there is one
abbrev pub row_of : Order → ℕ → List ℕ → Option Row
row_of order opcode frame =
    if opcode == opcodes.no_op then Some (no_op_row frame)
    else if opcode == opcodes.get_time then Some (get_time_row frame)
    else if opcode == opcodes.create_ac then Some (create_ac_row order frame)
    else if opcode == opcodes.change_ac then Some (change_ac_row order frame)
    else if opcode == opcodes.free_ac then Some (free_ac_row order frame)
    else if opcode == opcodes.play then Some (play_run_row order frame)
    else if opcode == opcodes.record then Some (record_run_row order frame)
    else if opcode == opcodes.select_events then Some (select_events_row order frame)
    else if opcode == opcodes.set_controls then Some (set_controls_row order frame)
    else if opcode == opcodes.query_controls then Some (query_controls_row frame)
    else if opcode == opcodes.hook_switch then Some (hook_switch_row order frame)
    else if opcode == opcodes.query_phone then Some (query_phone_row frame)
    else None

-- what a frame asks for by a row, if it has the row's length
abbrev pub asked_by : List ℕ → Row → Option Asked
asked_by frame r = if length frame == 4 * r.words then Some r.asked else None

-- what a frame asks for, if it is a request
abbrev pub asked_in : Order → List ℕ → Option Asked
asked_in order frame = option_and_then (asked_by frame) (row_of order (u8_at 0 frame) frame)

-- a frame whose opcode is unknown, or whose length is not the opcode's
abbrev pub IsNoRequest : Order → List ℕ → Type 0
IsNoRequest order frame = MatchOption (row_of order (u8_at 0 frame) frame) ⊤ (λ r. length frame ≢ 4 * r.words)

-- the first word of a request: its opcode, its detail, and its length in words
abbrev pub front : Order → ℕ → ℕ → ℕ → List ℕ
front order opcode detail words = opcode ∷ detail ∷ u16_bytes order words

-- how a request is spelled: bytes that no field needs are zero
abbrev pub request_bytes : Order → Asked → List ℕ
request_bytes order no_op = front order opcodes.no_op 0 1
request_bytes order (get_time device) = front order opcodes.get_time device 1
request_bytes order (create_ac device ac ty channels preempt play_gain record_gain) =
    front order opcodes.create_ac device 4 ++ u32_bytes order ac ++ (ty ∷ channels ∷ preempt ∷ 0 ∷ [])
    ++ i16_bytes order play_gain ++ i16_bytes order record_gain
request_bytes order (change_ac mask ac preempt play_gain record_gain) =
    front order opcodes.change_ac mask 4 ++ u32_bytes order ac ++ (preempt ∷ 0 ∷ 0 ∷ 0 ∷ [])
    ++ i16_bytes order play_gain ++ i16_bytes order record_gain
request_bytes order (free_ac ac) = front order opcodes.free_ac 0 2 ++ u32_bytes order ac
request_bytes order (play_run quiet ac time samples) =
    front order opcodes.play (flag_byte quiet) (4 + words_for (length samples))
    ++ u32_bytes order ac ++ u32_bytes order time ++ u32_bytes order (length samples) ++ padded_bytes samples
request_bytes order (record_run blocking ac time nbytes) =
    front order opcodes.record (flag_byte blocking) 4 ++ u32_bytes order ac ++ u32_bytes order time ++ u32_bytes order nbytes
request_bytes order (select_events device mask) = front order opcodes.select_events device 2 ++ u32_bytes order mask
request_bytes order (set_controls device mask input_on output_on input_gain output_gain) =
    front order opcodes.set_controls device 3 ++ (mask ∷ input_on ∷ output_on ∷ 0 ∷ [])
    ++ i16_bytes order input_gain ++ i16_bytes order output_gain
request_bytes order (query_controls device) = front order opcodes.query_controls device 1
request_bytes order (hook_switch device off) = front order opcodes.hook_switch device 2 ++ u32_bytes order off
request_bytes order (query_phone device) = front order opcodes.query_phone device 1

-- a request in which a play has at most the samples that the longest frame has room for
abbrev pub FitsFrame : Asked → Type 0
FitsFrame (play_run quiet ac time samples) = length samples ≤ longest_play
FitsFrame _ = ⊤

-- a request whose numbers fit their fields, with room for its samples
abbrev pub IsWritable : Asked → Type 0
IsWritable (create_ac device ac ty channels preempt play_gain record_gain) =
    (ac < 2 ^ 32) × FitsSigned w16 play_gain × FitsSigned w16 record_gain
IsWritable (change_ac mask ac preempt play_gain record_gain) =
    (ac < 2 ^ 32) × FitsSigned w16 play_gain × FitsSigned w16 record_gain
IsWritable (free_ac ac) = ac < 2 ^ 32
IsWritable (play_run quiet ac time samples) = (ac < 2 ^ 32) × (time < 2 ^ 32) × (length samples ≤ longest_play)
IsWritable (record_run blocking ac time nbytes) = (ac < 2 ^ 32) × (time < 2 ^ 32) × (nbytes < 2 ^ 32)
IsWritable (select_events device mask) = mask < 2 ^ 32
IsWritable (set_controls device mask input_on output_on input_gain output_gain) =
    FitsSigned w16 input_gain × FitsSigned w16 output_gain
IsWritable (hook_switch device off) = off < 2 ^ 32
IsWritable _ = ⊤

-- bytes that are one frame, whatever follows them, and a frame that asks for this
pub record IsOneRequest (order : Order) (a : Asked) (bytes : List ℕ) : Type 0 where
  pub one : (rest : List ℕ) → frame_front order (bytes ++ rest) ≡ Frame (length bytes)
  pub asks : asked_in order bytes ≡ Some a
