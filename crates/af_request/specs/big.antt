-- Requests and replies as they were before a client chose its byte order: all numbers in Big. The laws say that in Big they still
-- mean the same. Definitions without a number of more than one byte are those of the other files.
use Rattle.std.specs.Prelude.{ℕ, zero, suc, ◌+◌, ◌*◌, ◌==◌, ◌&&◌, nat_le, if◌then◌else◌, ℤ, List, [], ◌∷◌, ◌++◌, Option, Some, None, length, take, drop, slice_range, option_and_then, option_map}
use Rattle.std.specs.Int.{w16, w32, cast_signed, cast_unsigned, from_be_bytes, to_be_bytes}
use Rattle.std.specs.List.{flat_map}
use Rattle.af_limits.specs.Limits.{most_devices}
use Rattle.af_wire.specs.big.{head}
use Rattle.af_sample.specs.SampleTypes.{code_of, type_of_code}
use Rattle.af_sample.specs.Gains.{gain_of}
use Rattle.af_request.specs.declared.reply.DeviceInfo.{DeviceInfo}
use Rattle.af_request.specs.Answer.{Answer, setup, plain, time, played, recorded, controls, phone}
use Rattle.af_request.specs.Asked.{Asked, no_op, get_time, create_ac, change_ac, free_ac, play_run, record_run, select_events, set_controls, query_controls, hook_switch, query_phone}
use Rattle.af_request.specs.Fields.{u8_at, flag_byte, words_for, padded_bytes}
use Rattle.af_request.specs.Opcodes as opcodes
use Rattle.af_request.specs.Requests.{Row, row, asked_by, low_bit, no_op_row, get_time_row, query_controls_row, query_phone_row}
use Rattle.af_request.specs.Replies.{body_words, controls_of, device_info_of, device_then, flag_of, is_plain, is_zero, phone_bytes, phone_in, plain_in}

-- the number of 2 bytes at an offset
abbrev pub u16_at : ℕ → List ℕ → ℕ
u16_at at bytes = from_be_bytes w16 (slice_range bytes at (at + 2))

-- the number of 4 bytes at an offset
abbrev pub u32_at : ℕ → List ℕ → ℕ
u32_at at bytes = from_be_bytes w32 (slice_range bytes at (at + 4))

-- the two's complement number of 2 bytes at an offset
abbrev pub i16_at : ℕ → List ℕ → ℤ
i16_at at bytes = cast_signed w16 (u16_at at bytes)

-- the 4 bytes of a number
abbrev pub u32_bytes : ℕ → List ℕ
u32_bytes n = to_be_bytes w32 n

-- the 2 bytes of a two's complement number
abbrev pub i16_bytes : ℤ → List ℕ
i16_bytes x = to_be_bytes w16 (cast_unsigned w16 x)

-- CreateAC; the detail is the device
abbrev pub create_ac_row : List ℕ → Row
create_ac_row frame =
    row 4
    (create_ac (u8_at 1 frame) (u32_at 4 frame) (u8_at 8 frame) (u8_at 9 frame) (u8_at 10 frame) (i16_at 12 frame)
    (i16_at 14 frame))

-- ChangeAC; the detail is the mask of what changes
abbrev pub change_ac_row : List ℕ → Row
change_ac_row frame = row 4 (change_ac (u8_at 1 frame) (u32_at 4 frame) (u8_at 8 frame) (i16_at 12 frame) (i16_at 14 frame))

-- FreeAC
abbrev pub free_ac_row : List ℕ → Row
free_ac_row frame = row 2 (free_ac (u32_at 4 frame))

-- Play; bit 0 of the detail asks for no reply, and the data are padded to a word
abbrev pub play_run_row : List ℕ → Row
play_run_row frame = let count = u32_at 12 frame in
    row (4 + words_for count) (play_run (low_bit frame) (u32_at 4 frame) (u32_at 8 frame) (slice_range frame 16 (16 + count)))

-- Record; bit 0 of the detail asks to wait for all samples
abbrev pub record_run_row : List ℕ → Row
record_run_row frame = row 4 (record_run (low_bit frame) (u32_at 4 frame) (u32_at 8 frame) (u32_at 12 frame))

-- SelectEvents; the detail is the device
abbrev pub select_events_row : List ℕ → Row
select_events_row frame = row 2 (select_events (u8_at 1 frame) (u32_at 4 frame))

-- SetControls; the detail is the device
abbrev pub set_controls_row : List ℕ → Row
set_controls_row frame =
    row 3 (set_controls (u8_at 1 frame) (u8_at 4 frame) (u8_at 5 frame) (u8_at 6 frame) (i16_at 8 frame) (i16_at 10 frame))

-- HookSwitch; the detail is the device
abbrev pub hook_switch_row : List ℕ → Row
hook_switch_row frame = row 2 (hook_switch (u8_at 1 frame) (u32_at 4 frame))

-- the row of an opcode, if there is one
abbrev pub row_of : ℕ → List ℕ → Option Row
row_of opcode frame =
    if opcode == opcodes.no_op then Some (no_op_row frame)
    else if opcode == opcodes.get_time then Some (get_time_row frame)
    else if opcode == opcodes.create_ac then Some (create_ac_row frame)
    else if opcode == opcodes.change_ac then Some (change_ac_row frame)
    else if opcode == opcodes.free_ac then Some (free_ac_row frame)
    else if opcode == opcodes.play then Some (play_run_row frame)
    else if opcode == opcodes.record then Some (record_run_row frame)
    else if opcode == opcodes.select_events then Some (select_events_row frame)
    else if opcode == opcodes.set_controls then Some (set_controls_row frame)
    else if opcode == opcodes.query_controls then Some (query_controls_row frame)
    else if opcode == opcodes.hook_switch then Some (hook_switch_row frame)
    else if opcode == opcodes.query_phone then Some (query_phone_row frame)
    else None

-- what a frame asks for, if it is a request
abbrev pub asked_in : List ℕ → Option Asked
asked_in frame = option_and_then (asked_by frame) (row_of (u8_at 0 frame) frame)

-- the first word of a request: its opcode, its detail, and its length in words
abbrev pub front : ℕ → ℕ → ℕ → List ℕ
front opcode detail words = opcode ∷ detail ∷ to_be_bytes w16 words

-- how a request is spelled: bytes that no field needs are zero
abbrev pub request_bytes : Asked → List ℕ
request_bytes no_op = front opcodes.no_op 0 1
request_bytes (get_time device) = front opcodes.get_time device 1
request_bytes (create_ac device ac ty channels preempt play_gain record_gain) =
    front opcodes.create_ac device 4 ++ u32_bytes ac ++ (ty ∷ channels ∷ preempt ∷ 0 ∷ [])
    ++ i16_bytes play_gain ++ i16_bytes record_gain
request_bytes (change_ac mask ac preempt play_gain record_gain) =
    front opcodes.change_ac mask 4 ++ u32_bytes ac ++ (preempt ∷ 0 ∷ 0 ∷ 0 ∷ []) ++ i16_bytes play_gain ++ i16_bytes record_gain
request_bytes (free_ac ac) = front opcodes.free_ac 0 2 ++ u32_bytes ac
request_bytes (play_run quiet ac start samples) =
    front opcodes.play (flag_byte quiet) (4 + words_for (length samples))
    ++ u32_bytes ac ++ u32_bytes start ++ u32_bytes (length samples) ++ padded_bytes samples
request_bytes (record_run blocking ac start nbytes) =
    front opcodes.record (flag_byte blocking) 4 ++ u32_bytes ac ++ u32_bytes start ++ u32_bytes nbytes
request_bytes (select_events device mask) = front opcodes.select_events device 2 ++ u32_bytes mask
request_bytes (set_controls device mask input_on output_on input_gain output_gain) =
    front opcodes.set_controls device 3 ++ (mask ∷ input_on ∷ output_on ∷ 0 ∷ []) ++ i16_bytes input_gain ++ i16_bytes output_gain
request_bytes (query_controls device) = front opcodes.query_controls device 1
request_bytes (hook_switch device off) = front opcodes.hook_switch device 2 ++ u32_bytes off
request_bytes (query_phone device) = front opcodes.query_phone device 1

-- what 12 bytes of the reply to a setup say of a device
abbrev pub device_in : List ℕ → Option DeviceInfo
device_in bytes =
    if u8_at 3 bytes == 0
    then device_info_of (type_of_code (u8_at 0 bytes)) (u8_at 1 bytes) (flag_of (u8_at 2 bytes)) (u32_at 4 bytes) (u32_at 8 bytes)
    else None

-- n devices
abbrev pub devices_in : ℕ → List ℕ → Option (List DeviceInfo)
devices_in zero bytes = Some []
devices_in (suc count) bytes = device_then (device_in (take 12 bytes)) (devices_in count (drop 12 bytes))

-- the reply to a setup: version 1.0, and 1 to 8 devices
abbrev pub setup_in : List ℕ → Option Answer
setup_in body = let count = u32_at 4 body in
    if u16_at 0 body == 1 && u16_at 2 body == 0 && nat_le 1 count && nat_le count most_devices && length body == 8 + 12 * count
    then option_map setup (devices_in count (drop 8 body))
    else None

-- the reply to GetTime
abbrev pub time_in : List ℕ → Option Answer
time_in body = if length body == 4 then Some (time (u32_at 0 body)) else None

-- the reply to a Play
abbrev pub played_in : List ℕ → Option Answer
played_in body = if length body == 4 then Some (played (u32_at 0 body)) else None

-- the reply to a Record: its samples are padded with zeros to a word
abbrev pub recorded_body : List ℕ → Option Answer
recorded_body body = let count = u32_at 4 body in
    if length body == 8 + 4 * words_for count && is_zero (drop (8 + count) body)
    then Some (recorded (u32_at 0 body) (slice_range body 8 (8 + count)))
    else None

-- the reply to QueryControls
abbrev pub controls_in : List ℕ → Option Answer
controls_in body =
    if length body == 8 && is_zero (slice_range body 2 4)
    then controls_of (flag_of (u8_at 0 body)) (flag_of (u8_at 1 body)) (gain_of (i16_at 4 body)) (gain_of (i16_at 6 body))
    else None

-- the answer of a body to a request of an opcode, or to a setup, if it is such a body
abbrev pub answer_in : ℕ → List ℕ → Option Answer
answer_in opcode body =
    if is_plain opcode then plain_in body
    else if opcode == opcodes.setup then setup_in body
    else if opcode == opcodes.get_time then time_in body
    else if opcode == opcodes.play then played_in body
    else if opcode == opcodes.record then recorded_body body
    else if opcode == opcodes.query_controls then controls_in body
    else if opcode == opcodes.query_phone then phone_in body
    else None

-- what the reply to a setup says of a device
abbrev pub device_bytes : DeviceInfo → List ℕ
device_bytes d = (code_of d.ty ∷ d.channels ∷ flag_byte d.line ∷ 0 ∷ []) ++ u32_bytes d.rate ++ u32_bytes d.horizon

-- how the body of a reply is spelled
abbrev pub body_bytes : Answer → List ℕ
body_bytes (setup devices) = (0 ∷ 1 ∷ 0 ∷ 0 ∷ []) ++ u32_bytes (length devices) ++ flat_map device_bytes devices
body_bytes plain = []
body_bytes (time now) = u32_bytes now
body_bytes (played now) = u32_bytes now
body_bytes (recorded now samples) = u32_bytes now ++ u32_bytes (length samples) ++ padded_bytes samples
body_bytes (controls c) =
    (flag_byte c.input_on ∷ flag_byte c.output_on ∷ 0 ∷ 0 ∷ []) ++ i16_bytes c.input_gain ++ i16_bytes c.output_gain
body_bytes (phone p) = phone_bytes p

-- how a reply to a request of an opcode is spelled, with the number of that request
abbrev pub reply_bytes : ℕ → Answer → ℕ → List ℕ
reply_bytes opcode answer sequence = head 1 opcode sequence (body_words answer) ++ body_bytes answer
